-- Positions of a history, and items of a longer list.
use Rattle.std.proofs.Common.{◌≡◌, ℕ, zero, suc, ◌-◌, ◌<◌, ◌≤◌, Bool, true, false, ◌||◌, List, [], ◌∷◌, ◌++◌, length, Some, refl, inl, inr, ◌⊎◌, arith, eqb}
use Rattle.std.specs.List.{slice_get, AllByRecursion}
use Rattle.std.proofs.lemmas.Bool.{eq-eqb}
use Rattle.mount_model.specs.Run.{is_among}

-- what is among the items is so with more of them
pub is_among-more : (n : ℕ) (xs ys : List ℕ) → is_among n xs ≡ true → is_among n (xs ++ ys) ≡ true
is_among-more n [] ys h = absurd (cc)
is_among-more n (x ∷ xs) ys h = or_more (eqb x n) (is_among n xs) (is_among n (xs ++ ys)) (is_among-more n xs ys) h
  where
    or_more : (b c d : Bool) → (c ≡ true → d ≡ true) → (b || c) ≡ true → (b || d) ≡ true
    or_more true c d more h = refl
    or_more false c d more h = more h

-- an item stays at its place when more come behind
pub slice_get-more : {X : Type 0} (xs ys : List X) (i : ℕ) (x : X) → slice_get xs i ≡ Some x → slice_get (xs ++ ys) i ≡ Some x
slice_get-more [] ys i x h = absurd (cc)
slice_get-more (z ∷ xs) ys zero x h = h
slice_get-more (z ∷ xs) ys (suc i) x h = slice_get-more xs ys i x h

-- an item of a longer list stands in its front or behind it
pub slice_get-where : {X : Type 0} (xs ys : List X) (i : ℕ) (x : X) → slice_get (xs ++ ys) i ≡ Some x → (slice_get xs i ≡ Some x) ⊎ ((length xs ≤ i) × (slice_get ys (i - length xs) ≡ Some x))
slice_get-where [] ys i x h = let e : i - 0 ≡ i = omega arith in inr (omega arith, rw e h)
slice_get-where (z ∷ xs) ys zero x h = inl h
slice_get-where (z ∷ xs) ys (suc i) x h = further (slice_get-where xs ys i x h)
  where
    further : (slice_get xs i ≡ Some x) ⊎ ((length xs ≤ i) × (slice_get ys (i - length xs) ≡ Some x)) → (slice_get xs i ≡ Some x) ⊎ ((suc (length xs) ≤ suc i) × (slice_get ys (suc i - suc (length xs)) ≡ Some x))
    further (inl here) = inl here
    further (inr behind) = let e : suc i - suc (length xs) ≡ i - length xs = omega arith in inr (omega arith, rw e behind.1)

-- positions below a bound are not at it or above
pub not_among-below : (n bound : ℕ) (xs : List ℕ) → bound ≤ n → AllByRecursion (λ x. x < bound) xs → is_among n xs ≡ false
not_among-below n bound [] h below = refl
not_among-below n bound (x ∷ xs) h below = grind (arith, not_among-below n bound xs h below.1)

pub below-more : (bound more : ℕ) (xs : List ℕ) → bound ≤ more → AllByRecursion (λ x. x < bound) xs → AllByRecursion (λ x. x < more) xs
below-more bound more [] h below = tt
below-more bound more (x ∷ xs) h below = (omega (arith, below.0), below-more bound more xs h below.1)
