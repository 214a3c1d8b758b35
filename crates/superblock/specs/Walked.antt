-- The walk over all names of a path.
use Rattle.std.specs.Prelude.{ℕ, List, [], ◌∷◌, Option}
use Rattle.mp_rules.specs.declared.entry.Entry.TheVariants.{RemoteDir}
use Rattle.mp_rules.specs.declared.entry.Local.{Local}
use Rattle.mp_rules.specs.declared.facts.Fact.{Fact}
use Rattle.mp_rules.specs.declared.facts.Question.{Question}
use Rattle.mp_rules.specs.Walk.{Decision, Is, walk}

-- from the first name on; nobody asks for the root, which is a directory
abbrev pub walk_of : (Question → Option Fact) → (List ℕ → Local) → List (List ℕ) → Decision
walk_of facts local [] = Is RemoteDir
walk_of facts local (name ∷ names) = walk facts local name names
