-- The sets in which the numbers of the ready jobs stand.
use Rattle.std.proofs.Common.{◌≡◌, ℕ, ◌<◌, ◌≤◌, ◌⊎◌, inl, inr, Bool, true, false, cond, not, ◌&&◌, ◌||◌, List, [], ◌∷◌, ◌++◌, refl, sym, ap, ◌∙◌, subst, arith, nat_cmp, Ordering}
use Rattle.std.proofs.lemmas.Bool.Decides.{nat_tests}
use Rattle.std.specs.BTreeMap.{is_at}
use Rattle.std.specs.BTreeSet.{insert_key}
use Rattle.std.specs.List.{AllByRecursion, list_any}
use Rattle.std.specs.Ordering.{ordering_then, is_gt}
use Rattle.std.specs.Prelude.{◌==◌}
use Rattle.std.specs.Set.{remove_key}
use Rattle.mount_model.specs.declared.event.Owner.{Owner}
use Rattle.mount_model.specs.declared.event.Owner.TheVariants as owner
use Rattle.job_table.specs.LiveJobs.{is_of_writer}
use Rattle.job_table.specs.ReadyNumbers.{ReadyNumbers, stands_behind, IsLeastBehind, without_number}
use Rattle.job_table.proofs.Entries.{above}
use Rattle.job_table.proofs.Rising.{IsOther, same_or_other, is_other}

abbrev view_of : List ℕ → List (ℕ × ℕ) → ReadyNumbers
view_of ns pairs = record { numbers = ns; of_writers = pairs }

-- all ready numbers

-- a new number goes to the end
pub insert_key-last : (k : ℕ) (ns : List ℕ) → AllByRecursion (λ n. n < k) ns → insert_key nat_cmp ns k ≡ ns ++ k ∷ []
insert_key-last k [] below = refl
insert_key-last k (x ∷ ns) below = rw (above k x below.0) (ap (λ t. x ∷ t) (insert_key-last k ns below.1))

remove_key-last : (k : ℕ) (ns : List ℕ) → AllByRecursion (λ n. n < k) ns → remove_key (is_at (nat_cmp k)) (ns ++ k ∷ []) ≡ ns
remove_key-last k [] below = elim (same_or_other k k) [ inl w ↦ rw w.by_order refl | inr w ↦ absurd (w.other refl) ]
remove_key-last k (x ∷ ns) below =
    let here : IsOther k x = is_other k x (λ e. omega (arith, below.0, e)) in
    rw here.by_order (ap (λ t. x ∷ t) (remove_key-last k ns below.1))

-- and goes again as it came
pub insert_key-undone : (k : ℕ) (ns : List ℕ) → AllByRecursion (λ n. n < k) ns → remove_key (is_at (nat_cmp k)) (insert_key nat_cmp ns k) ≡ ns
insert_key-undone k ns below = ap (remove_key (is_at (nat_cmp k))) (insert_key-last k ns below) ∙ remove_key-last k ns below

none_at : (k : ℕ) (ns : List ℕ) → list_any (is_at (nat_cmp k)) ns ≡ false → ns ≡ without_number k ns
none_at k [] none = refl
none_at k (x ∷ ns) none =
    elim (same_or_other k x) [
      | inl w ↦
          let here : true ≡ false = rw w.by_order at none in
          absurd (cc)
      | inr w ↦
          let later : list_any (is_at (nat_cmp k)) ns ≡ false = rw w.by_order at none in
          rw w.test (ap (λ t. x ∷ t) (none_at k ns later))
    ]

remove_key-all : (k : ℕ) (ns : List ℕ) → list_any (is_at (nat_cmp k)) (remove_key (is_at (nat_cmp k)) ns) ≡ false → remove_key (is_at (nat_cmp k)) ns ≡ without_number k ns
remove_key-all k [] none = refl
remove_key-all k (x ∷ ns) none =
    elim (same_or_other k x) [
      | inl w ↦
          let later : list_any (is_at (nat_cmp k)) ns ≡ false = rw w.by_order at none in
          rw (w.by_order, w.test) (none_at k ns later)
      | inr w ↦
          let later : list_any (is_at (nat_cmp k)) (remove_key (is_at (nat_cmp k)) ns) ≡ false = rw (w.by_order, w.by_order) at none in
          rw (w.by_order, w.test) (ap (λ t. x ∷ t) (remove_key-all k ns later))
    ]

-- a set has a number once
pub removed : (k : ℕ) (ns left : List ℕ) → left ≡ remove_key (is_at (nat_cmp k)) ns → list_any (is_at (nat_cmp k)) left ≡ false → left ≡ without_number k ns
removed k ns left is none = is ∙ remove_key-all k ns (rw is at none)

pub same_view : (ns ms : List ℕ) (pairs others : List (ℕ × ℕ)) → ns ≡ ms → pairs ≡ others → view_of ns pairs ≡ view_of ms others
same_view ns ms pairs others same alike = rw (same, alike) refl

-- those behind lines

-- a line's job and a stream's are no writer's
pub no_writer : (line : ℕ) (by : Owner) → ((opened : ℕ) × (by ≡ owner.Line opened)) ⊎ ((opened : ℕ) × (by ≡ owner.Stream opened)) → is_of_writer line by ≡ false
no_writer line by (inl is) = rw is.1 refl
no_writer line by (inr is) = rw is.1 refl

abbrev pub pair_cmp : ℕ × ℕ → ℕ × ℕ → Ordering
pair_cmp x y = ordering_then (nat_cmp x.0 y.0) (nat_cmp x.1 y.1)

pair_at : (line n opened m : ℕ) → is_at (pair_cmp (line, n)) (opened, m) ≡ ((opened == line) && (m == n))
pair_at line n opened m = grind (arith, nat_tests)

at_pair : (line n opened m : ℕ) → is_at (pair_cmp (line, n)) (opened, m) ≡ ((line == opened) && (n == m))
at_pair line n opened m = grind (arith, nat_tests)

-- the set tells what stands behind a line
pub contains-behind : (line n : ℕ) (pairs : List (ℕ × ℕ)) → list_any (is_at (pair_cmp (line, n))) pairs ≡ stands_behind line n pairs
contains-behind line n [] = refl
contains-behind line n (p ∷ pairs) = rw (pair_at line n p.0 p.1, contains-behind line n pairs) refl

pub behind-more : (line k : ℕ) (old new : List (ℕ × ℕ)) → ((q : ℕ × ℕ) → list_any (is_at (pair_cmp q)) new ≡ cond (is_at (pair_cmp (line, k)) q) true (list_any (is_at (pair_cmp q)) old)) → (opened n : ℕ) → stands_behind opened n new ≡ (stands_behind opened n old || ((line == opened) && (k == n)))
behind-more line k old new updates opened n =
    sym (contains-behind opened n new) ∙ updates (opened, n) ∙ (rw (at_pair line k opened n, contains-behind opened n old) (or_is ((line == opened) && (k == n)) (stands_behind opened n old)))
  where
    or_is : (t b : Bool) → cond t true b ≡ (b || t)
    or_is true true = refl
    or_is true false = refl
    or_is false true = refl
    or_is false false = refl

pub behind-less : (line k : ℕ) (old new : List (ℕ × ℕ)) → ((q : ℕ × ℕ) → list_any (is_at (pair_cmp q)) new ≡ cond (is_at (pair_cmp (line, k)) q) false (list_any (is_at (pair_cmp q)) old)) → (opened n : ℕ) → stands_behind opened n new ≡ (stands_behind opened n old && not ((line == opened) && (k == n)))
behind-less line k old new updates opened n =
    sym (contains-behind opened n new) ∙ updates (opened, n) ∙ (rw (at_pair line k opened n, contains-behind opened n old) (and_not ((line == opened) && (k == n)) (stands_behind opened n old)))
  where
    and_not : (t b : Bool) → cond t false b ≡ (b && not t)
    and_not true true = refl
    and_not true false = refl
    and_not false true = refl
    and_not false false = refl

-- what the pairs from a line's beginning on tell of those behind it

from_start : (line n : ℕ) → is_gt (pair_cmp (line, 0) (line, n)) ≡ false
from_start line n = grind (arith, nat_tests)

up_to : (line k n : ℕ) → is_gt (pair_cmp (line, k) (line, n)) ≡ false → k ≤ n
up_to line k n before = grind (arith, nat_tests, before)

same_line : (line opened k n : ℕ) → is_gt (pair_cmp (line, 0) (opened, k)) ≡ false → is_gt (pair_cmp (opened, k) (line, n)) ≡ false → opened ≡ line
same_line line opened k n from before = grind (arith, nat_tests, from, before)

module _ (line : ℕ) (pairs : List (ℕ × ℕ)) where
  pub least_behind : (first : ℕ × ℕ) → first.0 ≡ line → list_any (is_at (pair_cmp first)) pairs ≡ true → ((q : ℕ × ℕ) → is_gt (pair_cmp (line, 0) q) ≡ false → list_any (is_at (pair_cmp q)) pairs ≡ true → is_gt (pair_cmp first q) ≡ false) → IsLeastBehind line pairs first.1
  least_behind first same stands least = record {
    stands = subst (λ m. stands_behind m first.1 pairs ≡ true) same (sym (contains-behind first.0 first.1 pairs) ∙ stands);
    least = λ n there. up_to line first.1 n (subst (λ m. is_gt (pair_cmp (m, first.1) (line, n)) ≡ false) same (least (line, n) (from_start line n) (contains-behind line n pairs ∙ there)));
  }

  pub none_behind : (first : ℕ × ℕ) → (first.0 ≡ line → ⊥) → is_gt (pair_cmp (line, 0) first) ≡ false → ((q : ℕ × ℕ) → is_gt (pair_cmp (line, 0) q) ≡ false → list_any (is_at (pair_cmp q)) pairs ≡ true → is_gt (pair_cmp first q) ≡ false) → (n : ℕ) → stands_behind line n pairs ≡ false
  none_behind first other from least n = by_test (stands_behind line n pairs) refl
    where
      by_test : (b : Bool) → stands_behind line n pairs ≡ b → stands_behind line n pairs ≡ false
      by_test true there = absurd (other (same_line line first.0 first.1 n from (least (line, n) (from_start line n) (contains-behind line n pairs ∙ there))))
      by_test false there = there

  pub none_from : ((q : ℕ × ℕ) → is_gt (pair_cmp (line, 0) q) ≡ false → list_any (is_at (pair_cmp q)) pairs ≡ false) → (n : ℕ) → stands_behind line n pairs ≡ false
  none_from none n = sym (contains-behind line n pairs) ∙ none (line, n) (from_start line n)
