-- How many items the record still gets for the lines that have been begun: its room is never less.
use Rattle.std.specs.Prelude.{ℕ, List}
use Rattle.mount_model.specs.declared.standing.Phase.{Phase}
use Rattle.mount_model.specs.declared.standing.Phase.TheVariants.{Waiting, Begun, Replied}
use Rattle.mount_model.specs.declared.standing.Standing.{Standing}
use Rattle.run_laws.specs.Counts.{total}

-- a line's begin and its reply
abbrev pub owes_phase : Phase → ℕ
owes_phase Waiting = 2
owes_phase (Begun heard) = 1
owes_phase Replied = 0

abbrev pub owes_lines : List Standing → ℕ
owes_lines lines = total (λ s. owes_phase s.phase) lines
