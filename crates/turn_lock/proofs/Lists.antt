-- Lists that begin one another, and what is closed in them.
use Rattle.std.proofs.Common.{◌≡◌, ℕ, zero, suc, ◌<◌, ◌≤◌, Bool, true, false, cond, List, [], ◌∷◌, ◌++◌, length, get_or, take, Option, Some, ◌⊎◌, inl, inr, ⊎_elim, refl, sym, ap, ◌∙◌, subst, append-nil, append_assoc, arith, length-append, ltb, ltb-true, ltb-false, lt-ltb, take_all}
use Rattle.std.proofs.lemmas.List.{take-append-le}
use Rattle.std.specs.Prelude.{Contains, slice_get}
use Rattle.turn_lock.specs.Seen.{IsPrefix, longer, shorter, AddsAtMostOne, own_after, StayOpen, ClosesOwn}

ltb_not : (n m : ℕ) → m ≤ n → (b : Bool) → ltb n m ≡ b → ltb n m ≡ false
ltb_not n m le true is = absurd (let l = ltb-true n m is in omega arith)
ltb_not n m le false is = is

module _ {A : Type 0} where
  pub contains_cons : (x y : A) (xs : List A) → Contains xs y → Contains (x ∷ xs) y
  contains_cons x y xs among = let below = among.1 in (suc among.0, omega arith, among.2)

  at_split : (x y : A) (xs : List A) (k : ℕ) → k < length (x ∷ xs) → get_or (x ∷ xs) k y ≡ y → (x ≡ y) ⊎ Contains xs y
  at_split x y xs zero below is = inl is
  at_split x y xs (suc k) below is = inr (k, omega arith, is)

  pub contains_split : (x y : A) (xs : List A) → Contains (x ∷ xs) y → (x ≡ y) ⊎ Contains xs y
  contains_split x y xs among = at_split x y xs among.0 among.1 among.2

  pub contains_none : (y : A) → Contains [] y → ⊥
  contains_none y among = absurd (omega (arith, among.1))

  pub contains_push : (xs : List A) (x y : A) → Contains (xs ++ x ∷ []) y → Contains xs y ⊎ (x ≡ y)
  contains_push [] x y among = ⊎_elim (λ (same : x ≡ y). inr same) (λ (more : Contains [] y). absurd (contains_none y more)) (contains_split x y [] among)
  contains_push (z ∷ xs) x y among =
      ⊎_elim (λ (same : z ≡ y). inl (0, omega arith, same)) (λ (more : Contains (xs ++ x ∷ []) y). ⊎_elim (λ (old : Contains xs y). inl (contains_cons z y xs old)) (λ (same : x ≡ y). inr same) (contains_push xs x y more)) (contains_split z y (xs ++ x ∷ []) among)

module _ {E : Type 0} where
  pub prefix_whole : (xs : List E) → IsPrefix xs xs
  prefix_whole xs = ([], append-nil xs)

  pub prefix_nothing : (xs : List E) → IsPrefix [] xs
  prefix_nothing xs = (xs, refl)

  pub prefix_more : (xs ys zs : List E) → IsPrefix xs ys → IsPrefix ys zs → IsPrefix xs zs
  prefix_more xs ys zs p q = (p.0 ++ q.0, sym (append_assoc xs p.0 q.0) ∙ ap (λ (front : List E). front ++ q.0) p.1 ∙ q.1)

  pub prefix_length : (xs ys : List E) → IsPrefix xs ys → length xs ≤ length ys
  prefix_length xs ys p = let e : length (xs ++ p.0) ≡ length ys = ap length p.1 in omega (arith, length-append xs p.0)

  of_one : (xs ys more rest : List E) → xs ++ more ≡ ys ++ rest → length xs ≤ length ys → IsPrefix xs ys
  of_one [] ys more rest is le = (ys, refl)
  of_one (x ∷ xs) [] more rest is le = absurd (omega arith)
  of_one (x ∷ xs) (y ∷ ys) more rest is le =
      let head : x ≡ y = cc in
      let tail : xs ++ more ≡ ys ++ rest = cc in
      let on = of_one xs ys more rest tail (omega arith) in (on.0, ap (λ (first : E). first ∷ (xs ++ on.0)) head ∙ ap (λ (last : List E). y ∷ last) on.1)

  -- of two beginnings of one list the shorter begins the longer
  pub prefix_of_both : (xs ys whole : List E) → IsPrefix xs whole → IsPrefix ys whole → length xs ≤ length ys → IsPrefix xs ys
  prefix_of_both xs ys whole p q le = of_one xs ys p.0 q.0 (p.1 ∙ sym q.1) le

  by_longer : (P : List E → List E → Type 0) (xs ys : List E) (b : Bool) → (b ≡ true → P xs ys) → (b ≡ false → P ys xs) → P (cond b xs ys) (cond b ys xs)
  by_longer P xs ys true less more = less refl
  by_longer P xs ys false less more = more refl

  -- what holds of the shorter and the longer one
  pub both_lengths : (P : List E → List E → Type 0) (xs ys : List E) → (length xs < length ys → P xs ys) → (length ys ≤ length xs → P ys xs) → P (shorter xs ys) (longer xs ys)
  both_lengths P xs ys less more = by_longer P xs ys (ltb (length xs) (length ys)) (λ is. less (ltb-true (length xs) (length ys) is)) (λ is. more (ltb-false (length xs) (length ys) is))

  pub adds_prefix : (before after : List E) → AddsAtMostOne before after → IsPrefix before after
  adds_prefix before after adds = ⊎_elim (λ (same : after ≡ before). ([], append-nil before ∙ sym same)) (λ (one : (entry : E) × (after ≡ before ++ entry ∷ [])). (one.0 ∷ [], sym one.1)) adds

  pub own_same : (own : List ℕ) (before after : List E) → after ≡ before → own_after own before after ≡ own
  own_same own before after same = let e : length after ≡ length before = ap length same in ap (λ (b : Bool). cond b (own ++ length before ∷ []) own) (ltb_not (length before) (length after) (omega arith) (ltb (length before) (length after)) refl)

  pub own_more : (own : List ℕ) (before after : List E) (entry : E) → after ≡ before ++ entry ∷ [] → own_after own before after ≡ own ++ length before ∷ []
  own_more own before after entry is = let e : length after ≡ length (before ++ entry ∷ []) = ap length is in
      ap (λ (b : Bool). cond b (own ++ length before ∷ []) own) (lt-ltb (length before) (length after) (omega (arith, length-append before (entry ∷ []))))

  get_below : (xs : List E) (k : ℕ) (x : E) → slice_get xs k ≡ Some x → k < length xs
  get_below [] k x is = absurd (cc)
  get_below (y ∷ xs) zero x is = omega arith
  get_below (y ∷ xs) (suc k) x is = let l = get_below xs k x is in omega arith

  get_push : (xs : List E) (y : E) (k : ℕ) (x : E) → slice_get (xs ++ y ∷ []) k ≡ Some x → (slice_get xs k ≡ Some x) ⊎ ((k ≡ length xs) × (y ≡ x))
  get_push [] y zero x is = inr (refl, cc)
  get_push [] y (suc k) x is = absurd (cc)
  get_push (z ∷ xs) y zero x is = inl is
  get_push (z ∷ xs) y (suc k) x is = ⊎_elim (λ (old : slice_get xs k ≡ Some x). inl old) (λ (new : (k ≡ length xs) × (y ≡ x)). inr (ap suc new.0, new.1)) (get_push xs y k x is)

  module _ (closes : List E → E → Option ℕ) where
    pub stay_less : (own : List ℕ) (before more after : List E) → length before ≤ length more → StayOpen closes own before after → StayOpen closes own more after
    stay_less own before more after le stay = λ k entry place from is closed among. stay k entry place (omega arith) is closed among

    pub stay_at_end : (own : List ℕ) (seen whole : List E) → seen ≡ whole → StayOpen closes own seen whole
    stay_at_end own seen whole same = λ k entry place from is closed among. absurd (let e : length seen ≡ length whole = ap length same in let l = get_below whole k entry is in omega arith)

    pub stay_push : (own : List ℕ) (before after : List E) (entry : E) → ((place : ℕ) → closes after entry ≡ Some place → Contains own place → ⊥) → StayOpen closes own before after → StayOpen closes own before (after ++ entry ∷ [])
    stay_push own before after entry none stay = λ k x place from is closed among.
        ⊎_elim
        (λ (old : slice_get after k ≡ Some x).
        let l = get_below after k x old in
        stay k x place from old (subst (λ (front : List E). closes front x ≡ Some place) (take-append-le k after (entry ∷ []) (omega arith)) closed) among)
        (λ (new : (k ≡ length after) × (entry ≡ x)).
        let front : take k (after ++ entry ∷ []) ≡ after = take-append-le k after (entry ∷ []) (omega (arith, new.0)) ∙ take_all k after (omega (arith, new.0)) in
        none place (subst (λ (pair : List E × E). closes pair.0 pair.1 ≡ Some place) (λ i. (front i, sym new.1 i)) closed) among)
        (get_push after entry k x is)

    -- another seat's entry closes none of these
    pub stay_added : (own others : List ℕ) (before longest after : List E) → AddsAtMostOne longest after → ClosesOwn closes others longest after → ((place : ℕ) → Contains others place → Contains own place → ⊥)
        → StayOpen closes own before longest → StayOpen closes own before after
    stay_added own others before longest after adds shut apart stay =
        ⊎_elim (λ (same : after ≡ longest). subst (StayOpen closes own before) (sym same) stay)
        (λ (one : (entry : E) × (after ≡ longest ++ entry ∷ [])).
        subst (StayOpen closes own before) (sym one.1) (stay_push own before longest one.0 (λ place is among. apart place (shut one.0 place one.1 is) among) stay)) adds
