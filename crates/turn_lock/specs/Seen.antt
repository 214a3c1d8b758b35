-- Lists that grow, and the places in them that are a seat's own.
use Rattle.std.specs.Prelude.{◌≡◌, ℕ, ◌+◌, ◌<◌, ◌≤◌, List, [], ◌∷◌, ◌++◌, length, take, Contains, Option, Some, slice_get, nat_le, nat_lt, if◌then◌else◌}
use mathlib.Core.Logic.{◌⊎◌}

-- strictly rising numbers, each from low on and below high
abbrev pub RiseWithin : ℕ → ℕ → List ℕ → Type 0
RiseWithin low high [] = Unit {0}
RiseWithin low high (place ∷ places) = (low ≤ place) × (place < high) × RiseWithin (place + 1) high places

-- a place among rising places
abbrev pub with_place : ℕ → List ℕ → List ℕ
with_place place [] = place ∷ []
with_place place (first ∷ places) = if nat_le place first then place ∷ first ∷ places else first ∷ with_place place places

-- the places of both lists, rising
abbrev pub merged : List ℕ → List ℕ → List ℕ
merged [] places = places
merged (first ∷ more) places = with_place first (merged more places)

module _ {E : Type 0} where
  -- the one begins the other
  abbrev pub IsPrefix : List E → List E → Type 0
  IsPrefix front whole = (rest : List E) × (front ++ rest ≡ whole)

  abbrev pub longer : List E → List E → List E
  longer xs ys = if nat_lt (length xs) (length ys) then ys else xs

  abbrev pub shorter : List E → List E → List E
  shorter xs ys = if nat_lt (length xs) (length ys) then xs else ys

  -- own places stand in what was seen, each once and in order
  abbrev pub IsOwn : List ℕ → List E → Type 0
  IsOwn own seen = RiseWithin 0 (length seen) own

  -- a turn adds one entry or none
  abbrev pub AddsAtMostOne : List E → List E → Type 0
  AddsAtMostOne before after = (after ≡ before) ⊎ ((entry : E) × (after ≡ before ++ entry ∷ []))

  -- the place of an added entry is an own place
  abbrev pub own_after : List ℕ → List E → List E → List ℕ
  own_after own before after = if nat_lt (length before) (length after) then own ++ length before ∷ [] else own

  module _ (closes : List E → E → Option ℕ) where
    -- of the entries that were added none closes an own one
    abbrev pub StayOpen : List ℕ → List E → List E → Type 0
    StayOpen own before after = (k : ℕ) (entry : E) (place : ℕ) → length before ≤ k → slice_get after k ≡ Some entry → closes (take k after) entry ≡ Some place → Contains own place → ⊥

    -- an entry that is added closes an own one, if it closes one
    abbrev pub ClosesOwn : List ℕ → List E → List E → Type 0
    ClosesOwn own before after = (entry : E) (place : ℕ) → after ≡ before ++ entry ∷ [] → closes before entry ≡ Some place → Contains own place
