-- The exit statuses of the program, and where some of them come from.
use Rattle.std.specs.Prelude.{ℕ}
use Rattle.mount_one.specs.declared.status.Status.{Status}
use Rattle.mount_one.specs.declared.status.Status.TheVariants.{Done, BadScript, TooLong, Usage, SourceFault, SinkFault, NoMemory}

abbrev pub code_of : Status → ℕ
code_of Done = 0
code_of (BadScript line cause) = 1
code_of (TooLong what) = 1
code_of Usage = 2
code_of SourceFault = 3
code_of SinkFault = 4
code_of NoMemory = 5

-- the statuses of a command line that could not be read
abbrev pub IsUnread : Status → Type 0
IsUnread Done = ⊥
IsUnread (BadScript line cause) = ⊥
IsUnread (TooLong what) = ⊥
IsUnread Usage = Unit {0}
IsUnread SourceFault = ⊥
IsUnread SinkFault = ⊥
IsUnread NoMemory = Unit {0}
