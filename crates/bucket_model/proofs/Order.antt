-- Texts in the order of their bytes.
use Rattle.std.proofs.Common.{◌≡◌, ℕ, Bool, true, false, true≢false, List, refl, sym, ap, ◌∙◌, is_lt, is_gt, Ordering, Less, Equal, Greater, nat_cmp}
use Rattle.std.specs.Cmp.Lexicographic.{slice_cmp, nat_list_cmp_total}
use Rattle.std.specs.FinMap.{nat_cmp-IsAntisymmetric, slice_cmp-IsAntisymmetric}
use Rattle.std.specs.Ordering.{ordering_reverse}
use Rattle.std.proofs.lemmas.Cmp.{tied_itself, upto}

abbrev pub is_before : List ℕ → List ℕ → Bool
is_before a b = is_lt (slice_cmp nat_cmp a b)

pub true_unless : (b : Bool) → (b ≡ false → ⊥) → b ≡ true
true_unless true wrong = refl
true_unless false wrong = absurd (wrong refl)

pub false_unless : (b : Bool) → (b ≡ true → ⊥) → b ≡ false
false_unless true wrong = absurd (wrong refl)
false_unless false wrong = refl

pub both_answers : (b : Bool) → b ≡ true → b ≡ false → ⊥
both_answers b yes_is no_is = true≢false (sym yes_is ∙ no_is)

is_less : (o : Ordering) → is_lt o ≡ true → o ≡ Less
is_less Less h = refl
is_less Equal h = absurd (cc)
is_less Greater h = absurd (cc)

is_tied : (o : Ordering) → is_lt o ≡ false → is_gt o ≡ false → o ≡ Equal
is_tied Less h g = absurd (cc)
is_tied Equal h g = refl
is_tied Greater h g = absurd (cc)

turned : (o : Ordering) → is_gt o ≡ is_lt (ordering_reverse o)
turned Less = refl
turned Equal = refl
turned Greater = refl

-- one text stands behind another where that stands before it
pub behind_is : (a b : List ℕ) → is_gt (slice_cmp nat_cmp a b) ≡ is_before b a
behind_is a b = turned (slice_cmp nat_cmp a b) ∙ ap is_lt (sym (nat_list_cmp_total.antisymm b a))

pub before_less : (a b : List ℕ) → is_before a b ≡ true → slice_cmp nat_cmp a b ≡ Less
before_less a b h = is_less (slice_cmp nat_cmp a b) h

pub not_before_itself : (a : List ℕ) → is_before a a ≡ false
not_before_itself a = ap is_lt (tied_itself nat_list_cmp_total a)

pub not_both : (a b : List ℕ) → is_before a b ≡ true → is_before b a ≡ false
not_both a b h = sym (behind_is a b) ∙ ap is_gt (before_less a b h)

pub same_place : (a b : List ℕ) → is_before a b ≡ false → is_before b a ≡ false → a ≡ b
same_place a b h g = slice_cmp-IsAntisymmetric nat_cmp-IsAntisymmetric a b (is_tied (slice_cmp nat_cmp a b) h (behind_is a b ∙ g))

-- a is at most b, and b at most c
pub upto_upto : (a b c : List ℕ) → is_before b a ≡ false → is_before c b ≡ false → is_before c a ≡ false
upto_upto a b c h g = sym (behind_is a c) ∙ upto nat_list_cmp_total a b c (behind_is a b ∙ h) (behind_is b c ∙ g)

pub before_upto : (a b c : List ℕ) → is_before a b ≡ true → is_before c b ≡ false → is_before a c ≡ true
before_upto a b c h g = true_unless (is_before a c) (λ wrong. both_answers (is_before a b) h (upto_upto b c a g wrong))

pub upto_before : (a b c : List ℕ) → is_before b a ≡ false → is_before b c ≡ true → is_before a c ≡ true
upto_before a b c h g = true_unless (is_before a c) (λ wrong. both_answers (is_before b c) g (upto_upto c a b wrong h))

pub before_before : (a b c : List ℕ) → is_before a b ≡ true → is_before b c ≡ true → is_before a c ≡ true
before_before a b c h g = before_upto a b c h (not_both b c g)
