-- Reading a source to its end.
use Rattle.std.specs.Prelude.{◌≡◌, ℕ, ◌<◌, List, [], ◌++◌, length, Option, Some, None}

-- what was read and what is left is all that there was; a source tells what it has left always or never
abbrev pub Gathers : Option (List ℕ) → List ℕ → Option (List ℕ) → Type 0
Gathers None bytes None = Unit {0}
Gathers (Some whole) bytes (Some left) = bytes ++ left ≡ whole
Gathers None bytes (Some left) = ⊥
Gathers (Some whole) bytes None = ⊥

-- nothing is left, as far as the source tells
abbrev pub IsSpent : Option (List ℕ) → Type 0
IsSpent None = Unit {0}
IsSpent (Some left) = left ≡ []

abbrev pub IsLonger : ℕ → Option (List ℕ) → Type 0
IsLonger limit None = Unit {0}
IsLonger limit (Some whole) = limit < length whole
