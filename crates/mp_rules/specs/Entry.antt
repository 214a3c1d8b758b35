-- What hides what: a remote directory, then what is local, then a remote file.
use Rattle.std.specs.Prelude.{ℕ, Bool, true, false, Option, None, Some}
use Rattle.mp_rules.specs.declared.entry.Local.{Local}
use Rattle.mp_rules.specs.declared.entry.Local.TheVariants.{None as NoLocal, Dir, File}
use Rattle.mp_rules.specs.declared.entry.Kind.{Kind}
use Rattle.mp_rules.specs.declared.entry.Kind.TheVariants.{RemoteDir, LocalDir, LocalFile, RemoteFile, Nothing}

-- by whether some key lies below the name, what is local, and the size of the object
abbrev pub kind_of : Bool → Local → Option ℕ → Kind
kind_of true local head = RemoteDir
kind_of false Dir head = LocalDir
kind_of false (File written) head = LocalFile
kind_of false NoLocal (Some size) = RemoteFile
kind_of false NoLocal None = Nothing
