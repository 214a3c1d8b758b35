-- Which choices there are.
use Rattle.std.proofs.Common.{◌≡◌, ℕ, zero, suc, ◌+◌, ◌-◌, ◌^◌, ◌%◌, ◌<◌, ◌≤◌, min, List, [], ◌∷◌, length, None, refl, inl, inr, arith}
use Rattle.std.specs.List.{slice_get}
use Rattle.std.proofs.lemmas.Bool.{cases_lt}

-- a place without an item is past the end
pub past-none : {X : Type 0} (xs : List X) (i : ℕ) → None ≡ slice_get xs i → length xs ≤ i
past-none [] i none = omega arith
past-none (x ∷ xs) zero none = absurd (cc)
past-none (x ∷ xs) (suc i) none = let more = past-none xs i none in omega arith

pub nothing-is : {X : Type 0} (xs : List X) → length xs ≡ 0 → xs ≡ []
nothing-is [] none = refl
nothing-is (x ∷ xs) none = absurd (omega arith)

-- a choice past all of them is one of none
pub none_left : (number choice held ready startable sum count : ℕ) → sum ≡ min (held + ready) (2 ^ 64 - 1) → count ≡ min (sum + startable) (2 ^ 64 - 1) → (0 < count → choice ≡ number % count) → held ≤ choice → ready ≤ choice - held → startable ≤ choice - held - ready → (held ≡ 0) × (ready ≡ 0) × (startable ≡ 0)
none_left number choice held ready startable sum count first second chosen one two three = elim (cases_lt 0 count) [
  | inl some ↦ let same = chosen some in absurd (omega arith)
  | inr none ↦ (omega arith, omega arith, omega arith)
]

pub none_first : {X : Type 0} (xs : List X) → None ≡ slice_get xs 0 → xs ≡ []
none_first xs none = let past = past-none xs 0 none in nothing-is xs (omega arith)
