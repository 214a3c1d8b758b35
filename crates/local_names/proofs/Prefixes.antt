-- Keys below a name stand together.
use Rattle.std.proofs.Common.{◌≡◌, ℕ, ◌<◌, ◌⊎◌, inl, inr, true, false, List, [], ◌∷◌, ◌++◌, arith, is_gt, nat_cmp, Ordering, Less, Equal, Greater, refl, eq-eqb}
use Rattle.std.specs.Cmp.Lexicographic.{slice_cmp}
use Rattle.std.specs.List.{starts_with}
use Rattle.std.specs.Ordering.{MatchOrdering, ordering_then}
use Rattle.std.specs.Prelude.{nat_eq}
use Rattle.std.proofs.lemmas.Bool.{and_from}
use Rattle.std.proofs.lemmas.Cmp.{ranked}
use Rattle.mp_types.proofs.Prefixes.{upto_cons}

-- what comes between a name's first key below it, which has a `/` behind the name, and the name with the next byte, a `0`, is below the name

less_cons : (x y : ℕ) (xs ys : List ℕ) → slice_cmp nat_cmp (x ∷ xs) (y ∷ ys) ≡ Less → (x < y) ⊎ ((x ≡ y) × (slice_cmp nat_cmp xs ys ≡ Less))
less_cons x y xs ys less = by_first (nat_cmp x y) (ranked x y _ refl) less
  where
    by_first : (first : Ordering) → MatchOrdering first (x < y) (x ≡ y) (y < x) → ordering_then first (slice_cmp nat_cmp xs ys) ≡ Less → (x < y) ⊎ ((x ≡ y) × (slice_cmp nat_cmp xs ys ≡ Less))
    by_first Less ranks is = inl ranks
    by_first Equal ranks is = inr (ranks, is)
    by_first Greater ranks is = absurd (cc)

less_nil : (xs : List ℕ) → slice_cmp nat_cmp xs [] ≡ Less → ⊥
less_nil [] less = cc
less_nil (x ∷ xs) less = cc

pub below_name : (name key : List ℕ) → is_gt (slice_cmp nat_cmp (name ++ 47 ∷ []) key) ≡ false → slice_cmp nat_cmp key (name ++ 48 ∷ []) ≡ Less → starts_with nat_eq key (name ++ 47 ∷ []) ≡ true
below_name [] [] low high = absurd (cc)
below_name [] (y ∷ ys) low high =
    elim (upto_cons 47 y [] ys low) [
      | inl more ↦ elim (less_cons y 48 ys [] high) [ inl less ↦ absurd (omega (arith, more, less)) | inr same ↦ absurd (less_nil ys same.1) ]
      | inr same ↦ and_from (nat_eq 47 y) true (eq-eqb 47 y same.0) refl
    ]
below_name (x ∷ xs) [] low high = absurd (cc)
below_name (x ∷ xs) (y ∷ ys) low high =
    elim (upto_cons x y (xs ++ 47 ∷ []) ys low) [
      | inl more ↦ elim (less_cons y x ys (xs ++ 48 ∷ []) high) [ inl less ↦ absurd (omega (arith, more, less)) | inr same ↦ absurd (omega (arith, more, same.0)) ]
      | inr same ↦ elim (less_cons y x ys (xs ++ 48 ∷ []) high) [
        | inl less ↦ absurd (omega (arith, less, same.0))
        | inr also ↦ and_from (nat_eq x y) (starts_with nat_eq ys (xs ++ 47 ∷ [])) (eq-eqb x y same.0) (below_name xs ys same.1 also.1)
      ]
    ]
