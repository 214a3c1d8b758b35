-- How many members of a finite set pass a test, as members come and go.
use Rattle.std.proofs.Common.{◌≡◌, ℕ, ◌+◌, ◌-◌, ◌<◌, ◌≤◌, zero, suc, Bool, true, false, cond, not, ◌&&◌, ◌||◌, List, [], ◌∷◌, refl, sym, ap, ◌∙◌, arith}
use Rattle.std.proofs.lemmas.Cmp.{tied_itself}
use Rattle.std.proofs.lemmas.Bool.{cond-true, cond-false}
use Rattle.std.proofs.lemmas.Bool.Decides.{Decides-ltb}
use mathlib.Core.Bool.{true≢false}
use Rattle.std.specs.Cmp.{IsTotalOrder, Equal-is}
use Rattle.std.specs.FinSet as set
use Rattle.std.specs.FinSet.{IsAntisymmetric}
use Rattle.std.specs.List.{list_any}
use Rattle.std.specs.Ordering.{eq_by_cmp, is_eq}
use Rattle.std.specs.Prelude.{nat_lt}
use Rattle.std.specs.declared.cmp.Ordering.{Ordering}
use Rattle.local_names.specs.Under.{one}

insert_passes : (e c q : Bool) → (e ≡ true → q ≡ true) → ((e || c) && q) ≡ (e || (c && q))
insert_passes true c q same = same refl
insert_passes false c q same = refl

insert_fails : (e c q : Bool) → (e ≡ true → q ≡ false) → ((e || c) && q) ≡ (c && q)
insert_fails true true q same = refl
insert_fails true false q same = same refl
insert_fails false c q same = refl

remove_either : (e c q : Bool) → ((not e && c) && q) ≡ (not e && (c && q))
remove_either true c q = refl
remove_either false c q = refl

none_left : (e c : Bool) → (e ≡ true → c ≡ false) → (not e && c) ≡ c
none_left true c none = sym (none refl)
none_left false c none = refl

or_true : (b : Bool) → (b || true) ≡ true
or_true true = refl
or_true false = refl

none_passes : (c q : Bool) → (c ≡ true → q ≡ true → ⊥) → (c && q) ≡ false
none_passes true true none = absurd (none refl refl)
none_passes true false none = refl
none_passes false q none = refl

module _ {K : Type 0} {R : K → K → Ordering} (order : IsTotalOrder R) (distinct : IsAntisymmetric R) where
  same_key : (x y : K) → eq_by_cmp R x y ≡ true → x ≡ y
  same_key x y is = distinct x y ((Equal-is (R x y)).0 is)

  pub remove_none : (s : set.FinSet R) (k : K) → set.contains s k ≡ false → set.remove s k ≡ s
  remove_none s k none = set.same_set order distinct _ _ (λ q.
      set.contains-remove order s k q ∙ none_left (eq_by_cmp R q k) (set.contains s q) (λ is. ap (λ (x : K). set.contains s x) (same_key q k is) ∙ none))

  -- a set with a member isn't empty
  not_empty : (s : set.FinSet R) (k : K) → set.contains s k ≡ true → 0 < set.len s
  not_empty s k here = by_len (set.len s) refl
    where
      by_len : (n : ℕ) → set.len s ≡ n → 0 < n
      by_len zero is = absurd (true≢false (sym here ∙ ap (λ (t : set.FinSet R). set.contains t k) (set.empty_of_len s is) ∙ set.contains-empty R k))
      by_len (suc n) is = omega arith

  module _ (p : K → Bool) where
    pub retained : (s : set.FinSet R) (q : K) → set.contains (set.retain s p) q ≡ (set.contains s q && p q)
    retained s q = set.contains-retain s p q (λ x tie. ap p (sym (distinct q x tie)))

    retain_insert : (s : set.FinSet R) (k : K) → set.retain (set.insert s k) p ≡ cond (p k) (set.insert (set.retain s p) k) (set.retain s p)
    retain_insert s k = by_test (p k) refl
      where
        by_test : (b : Bool) → p k ≡ b → set.retain (set.insert s k) p ≡ cond b (set.insert (set.retain s p) k) (set.retain s p)
        by_test true is = set.same_set order distinct _ _ (λ q.
            retained (set.insert s k) q ∙ ap (λ (b : Bool). b && p q) (set.contains-insert order s k q)
            ∙ insert_passes (eq_by_cmp R q k) (set.contains s q) (p q) (λ same. ap p (same_key q k same) ∙ is)
            ∙ sym (set.contains-insert order (set.retain s p) k q ∙ ap (λ (b : Bool). eq_by_cmp R q k || b) (retained s q)))
        by_test false is = set.same_set order distinct _ _ (λ q.
            retained (set.insert s k) q ∙ ap (λ (b : Bool). b && p q) (set.contains-insert order s k q)
            ∙ insert_fails (eq_by_cmp R q k) (set.contains s q) (p q) (λ same. ap p (same_key q k same) ∙ is)
            ∙ sym (retained s q))

    retain_remove : (s : set.FinSet R) (k : K) → set.retain (set.remove s k) p ≡ set.remove (set.retain s p) k
    retain_remove s k = set.same_set order distinct _ _ (λ q.
        retained (set.remove s k) q ∙ ap (λ (b : Bool). b && p q) (set.contains-remove order s k q)
        ∙ remove_either (eq_by_cmp R q k) (set.contains s q) (p q)
        ∙ sym (set.contains-remove order (set.retain s p) k q ∙ ap (λ (b : Bool). not (eq_by_cmp R q k) && b) (retained s q)))

    pub count-empty : set.len (set.retain (set.empty {R = R}) p) ≡ 0
    count-empty =
        ap set.len (set.same_set order distinct (set.retain set.empty p) set.empty (λ q. retained set.empty q ∙ ap (λ (b : Bool). b && p q) (set.contains-empty R q) ∙ sym (set.contains-empty R q)))
        ∙ set.len-empty R

    outside : (s : set.FinSet R) (k : K) → set.contains s k ≡ false → set.contains (set.retain s p) k ≡ false
    outside s k none = retained s k ∙ ap (λ (b : Bool). b && p k) none

    -- one more member
    pub count_more : (s : set.FinSet R) (k : K) → set.contains s k ≡ false → set.len (set.retain (set.insert s k) p) ≡ set.len (set.retain s p) + one (p k)
    count_more s k none = ap set.len (retain_insert s k) ∙ by_test (p k)
      where
        by_test : (b : Bool) → set.len (cond b (set.insert (set.retain s p) k) (set.retain s p)) ≡ set.len (set.retain s p) + one b
        by_test true = set.len-insert order (set.retain s p) k ∙ cond-false (set.contains (set.retain s p) k) _ _ (outside s k none)
        by_test false = omega arith

    -- one member less
    pub count_less : (s : set.FinSet R) (k : K) → set.contains s k ≡ true → set.len (set.retain (set.remove s k) p) + one (p k) ≡ set.len (set.retain s p)
    count_less s k some = ap (λ (n : ℕ). n + one (p k)) (ap set.len (retain_remove s k)) ∙ by_test (p k) refl
      where
        by_test : (b : Bool) → p k ≡ b → set.len (set.remove (set.retain s p) k) + one b ≡ set.len (set.retain s p)
        by_test true is =
            let here : set.contains (set.retain s p) k ≡ true = retained s k ∙ ap (λ (b : Bool). b && p k) some ∙ is in
            let left : set.len (set.remove (set.retain s p) k) ≡ set.len (set.retain s p) - 1 = set.len-remove order (set.retain s p) k ∙ cond-true (set.contains (set.retain s p) k) _ _ here in
            let some_left = not_empty (set.retain s p) k here in
            omega (arith, left, some_left)
        by_test false is =
            let none : set.contains (set.retain s p) k ≡ false = retained s k ∙ ap (λ (b : Bool). b && p k) some ∙ is in
            ap (λ (t : set.FinSet R). set.len t + 0) (remove_none (set.retain s p) k none) ∙ omega arith

    -- at most one more, and never more for one less
    pub count_insert_most : (s : set.FinSet R) (k : K) → set.len (set.retain (set.insert s k) p) ≤ set.len (set.retain s p) + 1
    count_insert_most s k = rw (retain_insert s k) (by_test (p k))
      where
        by_test : (b : Bool) → set.len (cond b (set.insert (set.retain s p) k) (set.retain s p)) ≤ set.len (set.retain s p) + 1
        by_test true = rw (set.len-insert order (set.retain s p) k) (by_member (set.contains (set.retain s p) k))
          where
            by_member : (c : Bool) → cond c (set.len (set.retain s p)) (set.len (set.retain s p) + 1) ≤ set.len (set.retain s p) + 1
            by_member true = omega arith
            by_member false = omega arith
        by_test false = omega arith

    pub count_remove_most : (s : set.FinSet R) (k : K) → set.len (set.retain (set.remove s k) p) ≤ set.len (set.retain s p)
    count_remove_most s k = rw (retain_remove s k, set.len-remove order (set.retain s p) k) (by_member (set.contains (set.retain s p) k))
      where
        by_member : (c : Bool) → cond c (set.len (set.retain s p) - 1) (set.len (set.retain s p)) ≤ set.len (set.retain s p)
        by_member true = omega arith
        by_member false = omega arith

    -- of a list with just these members, some passes exactly if the count isn't 0

    passer : (ks : List K) → list_any p ks ≡ true → (k : K) × (p k ≡ true) × (list_any (eq_by_cmp R k) ks ≡ true)
    passer [] is = absurd (cc)
    passer (x ∷ ks) is = by_test (p x) refl is (passer ks)
      where
        by_test : (b : Bool) → p x ≡ b → (b || list_any p ks) ≡ true → (list_any p ks ≡ true → (k : K) × (p k ≡ true) × (list_any (eq_by_cmp R k) ks ≡ true)) → (k : K) × (p k ≡ true) × (list_any (eq_by_cmp R k) (x ∷ ks) ≡ true)
        by_test true here is rest = (x, here, ap (λ (r : Ordering). is_eq r || list_any (eq_by_cmp R x) ks) (tied_itself order x))
        by_test false here is rest =
            let later = rest is in
            (later.0, later.1, ap (λ (b : Bool). eq_by_cmp R later.0 x || b) later.2 ∙ or_true (eq_by_cmp R later.0 x))

    any_from : (ks : List K) (k : K) → p k ≡ true → list_any (eq_by_cmp R k) ks ≡ true → list_any p ks ≡ true
    any_from [] k passes is = absurd (cc)
    any_from (x ∷ ks) k passes is = by_test (eq_by_cmp R k x) refl is (any_from ks k passes)
      where
        by_test : (b : Bool) → eq_by_cmp R k x ≡ b → (b || list_any (eq_by_cmp R k) ks) ≡ true → (list_any (eq_by_cmp R k) ks ≡ true → list_any p ks ≡ true) → list_any p (x ∷ ks) ≡ true
        by_test true same is rest = ap (λ (b : Bool). b || list_any p ks) (ap p (sym (same_key k x same)) ∙ passes)
        by_test false same is rest = ap (λ (b : Bool). p x || b) (rest is) ∙ or_true (p x)

    pub any_counts : (ks : List K) (s : set.FinSet R) → ((q : K) → set.contains s q ≡ list_any (eq_by_cmp R q) ks) → list_any p ks ≡ nat_lt 0 (set.len (set.retain s p))
    any_counts ks s members = by_any (list_any p ks) refl
      where
        by_any : (b : Bool) → list_any p ks ≡ b → b ≡ nat_lt 0 (set.len (set.retain s p))
        by_any true is =
            let k = passer ks is in
            let here : set.contains (set.retain s p) k.0 ≡ true = retained s k.0 ∙ ap (λ (b : Bool). b && p k.0) (members k.0 ∙ k.2) ∙ k.1 in
            sym ((Decides-ltb 0 (set.len (set.retain s p))).1 (not_empty (set.retain s p) k.0 here))
        by_any false is =
            let none : set.retain s p ≡ set.empty = set.same_set order distinct (set.retain s p) set.empty (λ q.
            retained s q
            ∙ none_passes (set.contains s q) (p q) (λ member passes. true≢false (sym (any_from ks q passes (sym (members q) ∙ member)) ∙ is))
            ∙ sym (set.contains-empty R q)) in
            sym (ap (λ (n : ℕ). nat_lt 0 n) (ap set.len none ∙ set.len-empty R))
