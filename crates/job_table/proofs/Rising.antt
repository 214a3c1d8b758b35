-- Changes of jobs whose numbers rise.
use Rattle.std.proofs.Common.{◌≡◌, ℕ, ◌<◌, ◌≤◌, ◌⊎◌, inl, inr, Bool, true, false, cond, List, [], ◌∷◌, ◌++◌, refl, ap, sym, arith, nat_cmp, Ordering, Less, Equal, Greater}
use Rattle.std.proofs.lemmas.Bool.{ne_eqb}
use Rattle.std.proofs.lemmas.Cmp.{ranked}
use Rattle.std.specs.BTreeMap.{is_at}
use Rattle.std.specs.List.{AllByRecursion}
use Rattle.std.specs.Ordering.{MatchOrdering, is_eq}
use Rattle.std.specs.Prelude.{◌==◌, if◌then◌else◌, not}
use Rattle.job_table.specs.LiveJobs.{Held, taken, with_taken, without}
use Rattle.job_table.specs.Kept.{IsBetween}

-- the two tests of a number agree
pub record IsSame (k x : ℕ) : Type 0 where
  pub same : x ≡ k
  pub test : (x == k) ≡ true
  pub by_order : is_at (nat_cmp k) x ≡ true

pub record IsOther (k x : ℕ) : Type 0 where
  pub other : x ≡ k → ⊥
  pub test : (x == k) ≡ false
  pub by_order : is_at (nat_cmp k) x ≡ false

eqb_same : (k x : ℕ) → x ≡ k → (x == k) ≡ true
eqb_same k x same = grind arith

by_rank : (k x : ℕ) (o : Ordering) → o ≡ nat_cmp k x → MatchOrdering o (k < x) (k ≡ x) (x < k) → IsSame k x ⊎ IsOther k x
by_rank k x Less is ranks =
    let other : x ≡ k → ⊥ = λ e. omega (arith, ranks, e) in
    inr (record { other = other; test = ne_eqb x k other; by_order = ap is_eq (sym is) })
by_rank k x Equal is ranks =
    inl (record { same = sym ranks; test = eqb_same k x (sym ranks); by_order = ap is_eq (sym is) })
by_rank k x Greater is ranks =
    let other : x ≡ k → ⊥ = λ e. omega (arith, ranks, e) in
    inr (record { other = other; test = ne_eqb x k other; by_order = ap is_eq (sym is) })

pub same_or_other : (k x : ℕ) → IsSame k x ⊎ IsOther k x
same_or_other k x = by_rank k x (nat_cmp k x) refl (ranked k x (nat_cmp k x) refl)

pub is_other : (k x : ℕ) → (x ≡ k → ⊥) → IsOther k x
is_other k x apart = elim (same_or_other k x) [ inl w ↦ absurd (apart w.same) | inr w ↦ w ]

-- bounds

pub upto : (first last : ℕ) (held : List Held) → IsBetween first held last → first ≤ last
upto first last [] rises = rises
upto first last (h ∷ held) rises = omega (arith, rises.0, upto h.number last held rises.1)

pub from_below : (low first last : ℕ) (held : List Held) → low ≤ first → IsBetween first held last → IsBetween low held last
from_below low first last [] less rises = omega (arith, less, rises)
from_below low first last (h ∷ held) less rises = (omega (arith, less, rises.0), rises.1)

-- a number that isn't above the first stands nowhere

pub taken_none : (k first last : ℕ) (held : List Held) → k ≤ first → IsBetween first held last → with_taken k held ≡ held
taken_none k first last [] less rises = refl
taken_none k first last (h ∷ held) less rises =
    let here : IsOther k h.number = is_other k h.number (λ e. omega (arith, less, rises.0, e)) in
    rw here.test (ap (λ t. h ∷ t) (taken_none k h.number last held (omega (arith, less, rises.0)) rises.1))

pub without_none : (k first last : ℕ) (held : List Held) → k ≤ first → IsBetween first held last → without k held ≡ held
without_none k first last [] less rises = refl
without_none k first last (h ∷ held) less rises =
    let here : IsOther k h.number = is_other k h.number (λ e. omega (arith, less, rises.0, e)) in
    rw here.test (ap (λ t. h ∷ t) (without_none k h.number last held (omega (arith, less, rises.0)) rises.1))

-- the order stays

number_stays : (k : ℕ) (h : Held) (b : Bool) → (if b then taken h else h).number ≡ h.number
number_stays k h true = refl
number_stays k h false = refl

pub between_taken : (k first last : ℕ) (held : List Held) → IsBetween first held last → IsBetween first (with_taken k held) last
between_taken k first last [] rises = rises
between_taken k first last (h ∷ held) rises =
    rw (number_stays k h (h.number == k)) (rises.0, between_taken k h.number last held rises.1)

pub between_without : (k first last : ℕ) (held : List Held) → IsBetween first held last → IsBetween first (without k held) last
between_without k first last [] rises = rises
between_without k first last (h ∷ held) rises = by_test (h.number == k) (between_without k h.number last held rises.1)
  where
    by_test : (b : Bool) → IsBetween h.number (without k held) last → IsBetween first (cond (not b) (h ∷ without k held) (without k held)) last
    by_test true rest = from_below first h.number last (without k held) (omega (arith, rises.0)) rest
    by_test false rest = (rises.0, rest)

pub between_push : (first last : ℕ) (held : List Held) (h : Held) → IsBetween first held last → last < h.number → IsBetween first (held ++ h ∷ []) h.number
between_push first last [] h rises less = (omega (arith, rises, less), omega arith)
between_push first last (g ∷ held) h rises less = (rises.0, between_push g.number last held h rises.1 less)

-- all of them

pub all_above : (first last : ℕ) (held : List Held) → IsBetween first held last → AllByRecursion (λ (h : Held). first < h.number) held
all_above first last [] rises = tt
all_above first last (h ∷ held) rises = (rises.0, all_above first last held (from_below first h.number last held (omega (arith, rises.0)) rises.1))

pub all_below : (k first last : ℕ) (held : List Held) → IsBetween first held last → last < k → AllByRecursion (λ (h : Held). h.number < k) held
all_below k first last [] rises less = tt
all_below k first last (h ∷ held) rises less = (omega (arith, upto h.number last held rises.1, less), all_below k h.number last held rises.1 less)
