-- Rising places.
use Rattle.std.proofs.Common.{◌≡◌, ℕ, ◌+◌, ◌<◌, ◌≤◌, Bool, true, false, cond, List, [], ◌∷◌, ◌++◌, length, ◌⊎◌, inl, inr, ⊎_elim, refl, sym, ap, ◌∙◌, subst, arith, leb, leb-true, length-append}
use Rattle.std.specs.Prelude.{Contains}
use Rattle.std.proofs.lemmas.Bool.Decides.{nat_tests}
use Rattle.turn_lock.specs.Seen.{RiseWithin, with_place, merged, IsOwn, AddsAtMostOne, own_after}
use Rattle.turn_lock.proofs.Lists.{contains_cons, contains_split, contains_none, contains_push, own_same, own_more}

pub rise_wider : (low high more : ℕ) (places : List ℕ) → high ≤ more → RiseWithin low high places → RiseWithin low more places
rise_wider low high more [] le rise = tt
rise_wider low high more (place ∷ places) le rise = let below = rise.1 in (rise.0, omega arith, rise_wider (place + 1) high more places le rise.2)

rise_from : (low from high : ℕ) (places : List ℕ) → from ≤ low → RiseWithin low high places → RiseWithin from high places
rise_from low from high [] le rise = tt
rise_from low from high (place ∷ places) le rise = let above = rise.0 in (omega arith, rise.1, rise.2)

pub rise_push : (low high : ℕ) (places : List ℕ) → low ≤ high → RiseWithin low high places → RiseWithin low (high + 1) (places ++ high ∷ [])
rise_push low high [] le rise = (le, omega arith, tt)
rise_push low high (place ∷ places) le rise = let below = rise.1 in (rise.0, omega arith, rise_push (place + 1) high places (omega arith) rise.2)

pub rise_bounds : (low high : ℕ) (places : List ℕ) (place : ℕ) → RiseWithin low high places → Contains places place → (low ≤ place) × (place < high)
rise_bounds low high [] place rise among = absurd (contains_none place among)
rise_bounds low high (first ∷ places) place rise among =
    let above = rise.0 in
    let below = rise.1 in
    ⊎_elim (λ (same : first ≡ place). (omega (arith, same), omega (arith, same)))
    (λ (more : Contains places place). let on = rise_bounds (first + 1) high places place rise.2 more in (omega (arith, on.0), on.1)) (contains_split first place places among)

not_upto : (n m : ℕ) → leb n m ≡ false → m + 1 ≤ n
not_upto n m is = grind (arith, nat_tests)

rise_with : (low high place : ℕ) (places : List ℕ) → RiseWithin low high places → low ≤ place → place < high → (Contains places place → ⊥) → RiseWithin low high (with_place place places)
rise_with low high place [] rise above below new = (above, below, tt)
rise_with low high place (first ∷ places) rise above below new =
    by_test (leb place first) refl (λ over. rise_with (first + 1) high place places rise.2 over below (λ among. new (contains_cons first place places among)))
  where
    by_test : (b : Bool) → leb place first ≡ b → (first + 1 ≤ place → RiseWithin (first + 1) high (with_place place places)) → RiseWithin low high (cond b (place ∷ first ∷ places) (first ∷ with_place place places))
    by_test true is behind =
        let le = leb-true place first is in
        let apart : first ≡ place → ⊥ = λ same. new (0, omega arith, same) in
        let lt : place + 1 ≤ first = omega (arith, apart) in (above, below, (lt, rise.1, rise.2))
    by_test false is behind = (rise.0, rise.1, behind (not_upto place first is))

pub among_with : (place : ℕ) (places : List ℕ) (x : ℕ) → Contains (with_place place places) x → (place ≡ x) ⊎ Contains places x
among_with place [] x among = contains_split place x [] among
among_with place (first ∷ places) x among = by_test (leb place first) among (among_with place places x)
  where
    by_test : (b : Bool) → Contains (cond b (place ∷ first ∷ places) (first ∷ with_place place places)) x → (Contains (with_place place places) x → (place ≡ x) ⊎ Contains places x) → (place ≡ x) ⊎ Contains (first ∷ places) x
    by_test true among on = contains_split place x (first ∷ places) among
    by_test false among on =
        ⊎_elim (λ (same : first ≡ x). inr (0, omega arith, same))
        (λ (more : Contains (with_place place places) x). ⊎_elim (λ (same : place ≡ x). inl same) (λ (old : Contains places x). inr (contains_cons first x places old)) (on more)) (contains_split first x (with_place place places) among)

pub among_merged : (xs ys : List ℕ) (x : ℕ) → Contains (merged xs ys) x → Contains xs x ⊎ Contains ys x
among_merged [] ys x among = inr among
among_merged (first ∷ xs) ys x among =
    ⊎_elim (λ (same : first ≡ x). inl (0, omega arith, same))
    (λ (more : Contains (merged xs ys) x). ⊎_elim (λ (one : Contains xs x). inl (contains_cons first x xs one)) (λ (other : Contains ys x). inr other) (among_merged xs ys x more)) (among_with first (merged xs ys) x among)

pub rise_merged : (low high : ℕ) (xs ys : List ℕ) → RiseWithin low high xs → RiseWithin 0 high ys → ((place : ℕ) → Contains xs place → Contains ys place → ⊥) → RiseWithin 0 high (merged xs ys)
rise_merged low high [] ys rise others apart = others
rise_merged low high (first ∷ xs) ys rise others apart =
    rise_with 0 high first (merged xs ys) (rise_merged (first + 1) high xs ys rise.2 others (λ place one other. apart place (contains_cons first place xs one) other)) (omega arith) rise.1
    (λ among. ⊎_elim (λ (one : Contains xs first). absurd (let b = rise_bounds (first + 1) high xs first rise.2 one in omega (arith, b.0))) (λ (other : Contains ys first). apart first (0, omega arith, refl) other) (among_merged xs ys first among))

module _ {E : Type 0} where
  -- after a turn that added one entry or none
  pub own_after_rises : (own : List ℕ) (before after : List E) → IsOwn own before → AddsAtMostOne before after → IsOwn (own_after own before after) after
  own_after_rises own before after is adds =
      ⊎_elim (λ (same : after ≡ before). subst (λ (pair : List ℕ × List E). IsOwn pair.0 pair.1) (λ i. (sym (own_same own before after same) i, sym same i)) is)
      (λ (one : (entry : E) × (after ≡ before ++ entry ∷ [])).
      let n : length after ≡ length before + 1 = ap length one.1 ∙ length-append before (one.0 ∷ []) in
      subst (λ (pair : List ℕ × ℕ). RiseWithin 0 pair.1 pair.0) (λ i. (sym (own_more own before after one.0 one.1) i, sym n i)) (rise_push 0 (length before) own (omega arith) is)) adds

  -- no place of another seat is among them
  pub own_after_apart : (own others : List ℕ) (before after : List E) → AddsAtMostOne before after → RiseWithin 0 (length before) others → ((place : ℕ) → Contains own place → Contains others place → ⊥)
      → (place : ℕ) → Contains (own_after own before after) place → Contains others place → ⊥
  own_after_apart own others before after adds rise apart place =
      ⊎_elim (λ (same : after ≡ before). subst (λ (places : List ℕ). Contains places place → Contains others place → ⊥) (sym (own_same own before after same)) (apart place))
      (λ (one : (entry : E) × (after ≡ before ++ entry ∷ [])).
      subst (λ (places : List ℕ). Contains places place → Contains others place → ⊥) (sym (own_more own before after one.0 one.1))
      (λ mine other. ⊎_elim (λ (old : Contains own place). apart place old other) (λ (new : length before ≡ place). absurd (let b = rise_bounds 0 (length before) others place rise other in omega (arith, b.1, new))) (contains_push own (length before) place mine))) adds
