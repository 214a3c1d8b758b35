-- Which keys lie below which.
use Rattle.std.specs.Prelude.{ℕ, Bool, true, List, [], ◌∷◌, ◌++◌, nat_eq}
use Rattle.std.specs.List.{starts_with}
use Rattle.mp_types.specs.Path.{slash}

-- the key begins with the other one and a `/`
abbrev pub is_under : List ℕ → List ℕ → Bool
is_under key above = starts_with nat_eq key (above ++ slash ∷ [])

-- the key lies below another one, or below the root's, which is empty and has all keys below it
abbrev pub is_below : List ℕ → List ℕ → Bool
is_below key [] = true
is_below key (byte ∷ bytes) = is_under key (byte ∷ bytes)
