-- Runs of any machine: each item is fine in the state where it stands, and takes the state on.
use Rattle.std.specs.Prelude.{List, [], ◌∷◌}

abbrev pub Along : {S E : Type 0} → (S → E → Type 0) → (S → E → S) → S → List E → Type 0
Along Fine next state [] = Unit {0}
Along Fine next state (item ∷ items) = Fine state item × Along Fine next (next state item) items
