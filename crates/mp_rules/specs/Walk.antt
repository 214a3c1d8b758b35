-- What stands at a path, by what the bucket answered.
use Rattle.std.specs.Prelude.{◌≡◌, ℕ, List, [], ◌∷◌, ◌++◌, Bool, false, nat_eq, if◌then◌else◌, Option, Some, None, is_some, option_map}
use Rattle.std.specs.List.{find}
use Rattle.std.specs.Cmp.Lexicographic.{pointwise}
use Rattle.mp_types.specs.declared.errno.Errno.{Errno}
use Rattle.mp_types.specs.declared.errno.Errno.TheVariants.{Enoent, Enotdir}
use Rattle.mp_types.specs.Path.{slash}
use Rattle.mp_rules.specs.declared.entry.Entry.{Entry}
use Rattle.mp_rules.specs.declared.entry.Entry.TheVariants.{RemoteDir, LocalDir, LocalFile, File, Nothing}
use Rattle.mp_rules.specs.declared.entry.Local.{Local}
use Rattle.mp_rules.specs.declared.entry.Local.TheVariants as local
use Rattle.mp_rules.specs.declared.facts.Question.{Question}
use Rattle.mp_rules.specs.declared.facts.Question.TheVariants.{Head, Probe}
use Rattle.mp_rules.specs.declared.facts.Fact.{Fact}
use Rattle.mp_rules.specs.declared.facts.Fact.TheVariants.{Found, Yes}
use Rattle.mp_rules.specs.declared.facts.Known.{Known}

-- the same question
abbrev pub is_question : Question → Question → Bool
is_question (Head key) (Head other) = pointwise nat_eq key other
is_question (Probe key) (Probe other) = pointwise nat_eq key other
is_question (Head key) (Probe other) = false
is_question (Probe key) (Head other) = false

-- the answer to a question, where it is among these
abbrev pub fact_in : List Known → Question → Option Fact
fact_in known question = option_map (λ k. k.fact) (find (λ k. is_question question k.question) known)

-- one more fact; a question that was answered before keeps its answer
abbrev pub with_known : Known → List Known → List Known
with_known known facts = if is_some (fact_in facts known.question) then facts else facts ++ known ∷ []

-- with a last fact, which may stand apart
abbrev pub with_last : Option Known → List Known → List Known
with_last None facts = facts
with_last (Some known) facts = with_known known facts

-- each question has one answer
abbrev pub AreDistinct : List Known → Type 0
AreDistinct [] = Unit {0}
AreDistinct (known ∷ facts) = (fact_in facts known.question ≡ None) × AreDistinct facts

-- a question is open, or this stands at the path, or the path can't be walked
pub data Decision : Type 0 where
  Need : Question → Decision
  Is : Entry → Decision
  Refused : Errno → Decision

-- nothing else is there: a file of the bucket, or nothing
abbrev pub by_head : List ℕ → Option Fact → Decision
by_head key None = Need (Head key)
by_head key (Some (Found etag size)) = Is (File etag size)
by_head key (Some fact) = Is Nothing

-- no key lies below: what is local hides a file of the bucket
abbrev pub by_local : List ℕ → Local → Option Fact → Decision
by_local key local.Dir head = Is LocalDir
by_local key (local.File size) head = Is (LocalFile size)
by_local key local.None head = by_head key head

-- first whether keys lie below, since a directory of the bucket hides all else of its name
abbrev pub by_probe : List ℕ → Option Fact → Local → Option Fact → Decision
by_probe key None name head = Need (Probe key)
by_probe key (Some Yes) name head = Is RemoteDir
by_probe key (Some fact) name head = by_local key name head

abbrev pub entry_at : (Question → Option Fact) → (List ℕ → Local) → List ℕ → Decision
entry_at facts names key = by_probe key (facts (Probe key)) (names key) (facts (Head key))

-- a proper prefix has to be a directory
abbrev pub below : Decision → Decision → Decision
below (Need question) rest = Need question
below (Is RemoteDir) rest = rest
below (Is LocalDir) rest = rest
below (Is (LocalFile size)) rest = Refused Enotdir
below (Is (File etag size)) rest = Refused Enotdir
below (Is Nothing) rest = Refused Enoent
below (Refused errno) rest = Refused errno

-- the walk from the left: the path of this key, and then the names below it
abbrev pub walk : (Question → Option Fact) → (List ℕ → Local) → List ℕ → List (List ℕ) → Decision
walk facts names key [] = entry_at facts names key
walk facts names key (name ∷ more) = below (entry_at facts names key) (walk facts names (key ++ slash ∷ name) more)
