-- Texts that begin with another one: they stand together, from that one on.
use Rattle.std.proofs.Common.{◌≡◌, ◌≢◌, ℕ, ◌<◌, ◌⊎◌, inl, inr, Bool, true, false, List, [], ◌∷◌, ◌++◌, length, drop, Option, Some, None, MatchOption, Bor, refl, sym, ap, ◌∙◌, subst, arith, is_gt, nat_cmp, Ordering, Less, Equal, Greater, eqb-true, eq-eqb}
use Rattle.std.specs.Cmp.{nat_cmp_total}
use Rattle.std.specs.Cmp.Lexicographic.{slice_cmp}
use Rattle.std.specs.List.{starts_with}
use Rattle.std.specs.Ordering.{MatchOrdering, ordering_then}
use Rattle.std.specs.Prelude.{nat_eq}
use Rattle.std.specs.Str.Pattern.{FindsTextPrefix, StripsPrefix}
use Rattle.std.proofs.lemmas.Bool.{and_from, and_parts}
use Rattle.std.proofs.lemmas.Cmp.{ranked, tied_itself}

-- the first bytes decide, or they are the same
first_or_rest : (x y : ℕ) (first rest : Ordering) → MatchOrdering first (x < y) (x ≡ y) (y < x) → is_gt (ordering_then first rest) ≡ false → (x < y) ⊎ ((x ≡ y) × (is_gt rest ≡ false))
first_or_rest x y Less rest ranks upto = inl ranks
first_or_rest x y Equal rest ranks upto = inr (ranks, upto)
first_or_rest x y Greater rest ranks upto = absurd (cc)

pub upto_cons : (x y : ℕ) (xs ys : List ℕ) → is_gt (slice_cmp nat_cmp (x ∷ xs) (y ∷ ys)) ≡ false → (x < y) ⊎ ((x ≡ y) × (is_gt (slice_cmp nat_cmp xs ys) ≡ false))
upto_cons x y xs ys upto = first_or_rest x y (nat_cmp x y) (slice_cmp nat_cmp xs ys) (ranked x y _ refl) upto

begins_cons : (x y : ℕ) (xs ys : List ℕ) → starts_with nat_eq (y ∷ ys) (x ∷ xs) ≡ true → (x ≡ y) × (starts_with nat_eq ys xs ≡ true)
begins_cons x y xs ys h =
    let parts = and_parts (nat_eq x y) (starts_with nat_eq ys xs) h in
    (eqb-true x y parts.0, parts.1)

same_first : (o q : Ordering) → o ≡ Equal → is_gt q ≡ false → is_gt (ordering_then o q) ≡ false
same_first Equal q e h = h
same_first Less q e h = refl
same_first Greater q e h = absurd (cc)

-- what begins with the text comes at it or after it
pub from_start : (start key : List ℕ) → starts_with nat_eq key start ≡ true → is_gt (slice_cmp nat_cmp start key) ≡ false
from_start [] [] begins = refl
from_start [] (y ∷ ys) begins = refl
from_start (x ∷ xs) [] begins = absurd (cc)
from_start (x ∷ xs) (y ∷ ys) begins =
    let parts = begins_cons x y xs ys begins in
    let P : ℕ → Type 0 = λ z. nat_cmp x z ≡ Equal in
    same_first (nat_cmp x y) (slice_cmp nat_cmp xs ys) (subst P parts.0 (tied_itself nat_cmp_total x)) (from_start xs ys parts.1)

-- between the text and what begins with it, all begin with it
pub between : (start key last : List ℕ) → starts_with nat_eq last start ≡ true → is_gt (slice_cmp nat_cmp start key) ≡ false → is_gt (slice_cmp nat_cmp key last) ≡ false → starts_with nat_eq key start ≡ true
between [] key last begins low high = refl
between (x ∷ xs) [] last begins low high = absurd (cc)
between (x ∷ xs) (y ∷ ys) [] begins low high = absurd (cc)
between (x ∷ xs) (y ∷ ys) (z ∷ zs) begins low high =
    let parts = begins_cons x z xs zs begins in
    elim (upto_cons x y xs ys low) [
      | inl less ↦ elim (upto_cons y z ys zs high) [ inl more ↦ absurd (omega (arith, parts.0)) | inr same ↦ absurd (omega (arith, parts.0, same.0)) ]
      | inr same ↦ elim (upto_cons y z ys zs high) [
        | inl more ↦ absurd (omega (arith, parts.0, same.0))
        | inr also ↦ and_from (nat_eq x y) (starts_with nat_eq ys xs) (eq-eqb x y same.0) (between xs ys zs parts.1 same.1 also.1)
      ]
    ]

-- what begins with the text is the text and what stands behind it
pub split_at : (start key : List ℕ) → starts_with nat_eq key start ≡ true → key ≡ start ++ drop (length start) key
split_at [] key begins = refl
split_at (x ∷ xs) [] begins = absurd (cc)
split_at (x ∷ xs) (y ∷ ys) begins =
    let parts = begins_cons x y xs ys begins in
    λ i. sym parts.0 i ∷ split_at xs ys parts.1 i

pub begins_joined : (start rest : List ℕ) → starts_with nat_eq (start ++ rest) start ≡ true
begins_joined [] rest = refl
begins_joined (x ∷ xs) rest = and_from (nat_eq x x) (starts_with nat_eq (xs ++ rest) xs) (eq-eqb x x refl) (begins_joined xs rest)

pub drop_joined : (start rest : List ℕ) → drop (length start) (start ++ rest) ≡ rest
drop_joined [] rest = refl
drop_joined (x ∷ xs) rest = drop_joined xs rest

pub begins_itself : (text : List ℕ) → starts_with nat_eq text text ≡ true
begins_itself [] = refl
begins_itself (x ∷ xs) = and_from (nat_eq x x) (starts_with nat_eq xs xs) (eq-eqb x x refl) (begins_itself xs)

no_start : (start key : List ℕ) → ((rest : List ℕ) → key ≢ start ++ rest) → starts_with nat_eq key start ≡ false
no_start start key none = by_test (starts_with nat_eq key start) refl
  where
    by_test : (b : Bool) → starts_with nat_eq key start ≡ b → b ≡ false
    by_test true is = absurd (none (drop (length start) key) (split_at start key is))
    by_test false is = refl

-- `strip_prefix` at a text
pub stripped : (start key : List ℕ) (r : Option (Bor (List ℕ))) → MatchOption r (FindsTextPrefix start key None) (λ x. StripsPrefix (FindsTextPrefix start) key x.now)
    → MatchOption r (starts_with nat_eq key start ≡ false) (λ x. key ≡ start ++ x.now)
stripped start key None none = no_start start key none
stripped start key (Some x) found = found.1.1 ∙ ap (λ (text : List ℕ). start ++ text) (sym found.2)
