-- What a sink holds after a text, or a part of one, has been appended to what it held.
use Rattle.std.specs.Prelude.{◌≡◌, ℕ, List, ◌++◌, Option, Some, None}

-- the whole text; a sink tells what it holds always or never
abbrev pub Appends : Option (List ℕ) → List ℕ → Option (List ℕ) → Type 0
Appends None text None = Unit {0}
Appends (Some held) text (Some held_after) = held_after ≡ held ++ text
Appends None text (Some held_after) = ⊥
Appends (Some held) text None = ⊥

-- the text but for a rest of it
pub record AppendsBut (held : Option (List ℕ)) (text : List ℕ) (rest : List ℕ) (held_after : Option (List ℕ)) : Type 0 where
  pub front : List ℕ
  pub appended : Appends held front held_after
  pub whole : front ++ rest ≡ text

-- some front of the text
abbrev pub AppendsFront : Option (List ℕ) → List ℕ → Option (List ℕ) → Type 0
AppendsFront held text held_after = (rest : List ℕ) × AppendsBut held text rest held_after
