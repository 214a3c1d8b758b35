-- What hides what, by what the bucket answered.
use Rattle.std.specs.Prelude.{ℕ, Bool, true, false, Option, Some, None}
use Rattle.mp_rules.specs.declared.entry.Entry.{Entry}
use Rattle.mp_rules.specs.declared.entry.Entry.TheVariants.{RemoteDir, LocalDir, LocalFile, File, Nothing}
use Rattle.mp_rules.specs.declared.entry.Kind.{Kind}
use Rattle.mp_rules.specs.declared.entry.Kind.TheVariants as kind
use Rattle.mp_rules.specs.declared.facts.Fact.{Fact}
use Rattle.mp_rules.specs.declared.facts.Fact.TheVariants.{Found, Yes}

-- of which kind an entry is
abbrev pub kind_in : Entry → Kind
kind_in RemoteDir = kind.RemoteDir
kind_in LocalDir = kind.LocalDir
kind_in (LocalFile size) = kind.LocalFile
kind_in (File etag size) = kind.RemoteFile
kind_in Nothing = kind.Nothing

-- the bucket said that some key lies below
abbrev pub is_yes : Option Fact → Bool
is_yes (Some Yes) = true
is_yes fact = false

-- the size of the object that the bucket told
abbrev pub size_in : Option Fact → Option ℕ
size_in (Some (Found etag size)) = Some size
size_in fact = None
