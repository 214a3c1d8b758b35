-- Lists whose items are found and changed by their rising keys.
use Rattle.std.proofs.Common.{◌≡◌, ℕ, ◌+◌, ◌<◌, ◌≤◌, List, [], ◌∷◌, ◌++◌, map, find, cond, Bool, true, false, ◌==◌, if◌then◌else◌, Option, Some, refl, sym, ap, ◌∙◌, subst, arith, eqb-true, eq-eqb, ne_eqb}
use Rattle.std.proofs.lemmas.Bool.{eqb-false}
use Rattle.std.specs.List.{AllByRecursion}
use Rattle.run_laws.specs.Counts.{total}
pub use Rattle.run_laws.specs.Order.{Rises}

abbrev pub item_at : {X : Type 0} → (X → ℕ) → ℕ → List X → Option X
item_at key n xs = find (λ x. key x == n) xs

abbrev pub change_at : {X : Type 0} → (X → ℕ) → ℕ → (X → X) → List X → List X
change_at key n g xs = map (λ x. if key x == n then g x else x) xs

-- a lower bound bounds too
pub Rises-below : {X : Type 0} (key : X → ℕ) (below above : ℕ) (xs : List X) → below ≤ above → Rises key above xs → Rises key below xs
Rises-below key below above [] h r = tt
Rises-below key below above (x ∷ xs) h r = (omega arith, r.1)

-- what is found lies above the bound, and has the key
pub item_at-above : {X : Type 0} (key : X → ℕ) (above n : ℕ) (xs : List X) (x : X) → Rises key above xs → item_at key n xs ≡ Some x → above < n
item_at-above key above n [] x r e = absurd (cc)
item_at-above {X} key above n (y ∷ ys) x r e = go (key y == n) refl e (item_at-above key (key y) n ys x r.1)
  where
    go : (b : Bool) → (key y == n) ≡ b → cond b (Some y) (item_at key n ys) ≡ Some x → (item_at key n ys ≡ Some x → key y < n) → above < n
    go true is e ih = let same = eqb-true (key y) n is in let first = r.0 in omega arith
    go false is e ih = let later = ih e in let first = r.0 in omega arith

pub item_at-key : {X : Type 0} (key : X → ℕ) (n : ℕ) (xs : List X) (x : X) → item_at key n xs ≡ Some x → key x ≡ n
item_at-key key n [] x e = absurd (cc)
item_at-key {X} key n (y ∷ ys) x e = go (key y == n) refl e (item_at-key key n ys x)
  where
    go : (b : Bool) → (key y == n) ≡ b → cond b (Some y) (item_at key n ys) ≡ Some x → (item_at key n ys ≡ Some x → key x ≡ n) → key x ≡ n
    go true is e ih = let same : y ≡ x = cc in ap key (sym same) ∙ eqb-true (key y) n is
    go false is e ih = ih e

-- an item further on is found past the first one
pub item_at-later : {X : Type 0} (key : X → ℕ) (above n : ℕ) (y : X) (ys : List X) (x : X) → Rises key above (y ∷ ys) → item_at key n ys ≡ Some x → item_at key n (y ∷ ys) ≡ Some x
item_at-later {X} key above n y ys x r e = let more : key y < n = item_at-above key (key y) n ys x r.1 e in let other : (key y == n) ≡ false = ne_eqb (key y) n (omega arith) in rw other e

pub item_at-first : {X : Type 0} (key : X → ℕ) (y : X) (ys : List X) → item_at key (key y) (y ∷ ys) ≡ Some y
item_at-first {X} key y ys = let same : (key y == key y) ≡ true = eq-eqb (key y) (key y) refl in rw same refl

-- changes of an item that keep its key

pub change_at-none : {X : Type 0} (key : X → ℕ) (g : X → X) (above n : ℕ) (xs : List X) → n ≤ above → Rises key above xs → change_at key n g xs ≡ xs
change_at-none key g above n [] h r = refl
change_at-none {X} key g above n (y ∷ ys) h r =
    let first : above < key y = r.0 in
    let other : (key y == n) ≡ false = ne_eqb (key y) n (omega arith) in
    let later : change_at key n g ys ≡ ys = change_at-none key g (key y) n ys (omega arith) r.1 in
    rw other (ap (λ t. y ∷ t) later)

pub change_at-same : {X : Type 0} (key : X → ℕ) (g : X → X) → ((x : X) → key (g x) ≡ key x) → (n : ℕ) (xs : List X) (x : X) → item_at key n xs ≡ Some x → item_at key n (change_at key n g xs) ≡ Some (g x)
change_at-same key g keeps n [] x e = absurd (cc)
change_at-same {X} key g keeps n (y ∷ ys) x e = go (key y == n) refl e (change_at-same key g keeps n ys x)
  where
    go : (b : Bool) → (key y == n) ≡ b → cond b (Some y) (item_at key n ys) ≡ Some x → (item_at key n ys ≡ Some x → item_at key n (change_at key n g ys) ≡ Some (g x)) → item_at key n ((if b then g y else y) ∷ change_at key n g ys) ≡ Some (g x)
    go true is e ih = let same : y ≡ x = cc in let stays : (key (g y) == n) ≡ true = ap (λ k. k == n) (keeps y) ∙ is in rw stays (ap (λ t. Some (g t)) same)
    go false is e ih = rw is (ih e)

pub change_at-other : {X : Type 0} (key : X → ℕ) (g : X → X) → ((x : X) → key (g x) ≡ key x) → (n m : ℕ) (xs : List X) → (m ≡ n → ⊥) → item_at key m (change_at key n g xs) ≡ item_at key m xs
change_at-other key g keeps n m [] apart = refl
change_at-other {X} key g keeps n m (y ∷ ys) apart = go (key y == n) refl (change_at-other key g keeps n m ys apart)
  where
    go : (b : Bool) → (key y == n) ≡ b → item_at key m (change_at key n g ys) ≡ item_at key m ys → item_at key m ((if b then g y else y) ∷ change_at key n g ys) ≡ item_at key m (y ∷ ys)
    go true is later =
        let same : key y ≡ n = eqb-true (key y) n is in
        let not_old : (key y == m) ≡ false = ne_eqb (key y) m (λ e. apart (sym e ∙ same)) in
        let not_new : (key (g y) == m) ≡ false = ap (λ k. k == m) (keeps y) ∙ not_old in
        rw (not_old, not_new) later
    go false is later = ap (λ t. cond (key y == m) (Some y) t) later

-- a change moves the total by the one weight
pub total-change : {X : Type 0} (key : X → ℕ) (weight : X → ℕ) (g : X → X) (above n : ℕ) (xs : List X) (x : X) → Rises key above xs → item_at key n xs ≡ Some x → total weight (change_at key n g xs) + weight x ≡ total weight xs + weight (g x)
total-change key weight g above n [] x r e = absurd (cc)
total-change {X} key weight g above n (y ∷ ys) x r e = go (key y == n) refl e (total-change key weight g (key y) n ys x r.1)
  where
    go : (b : Bool) → (key y == n) ≡ b → cond b (Some y) (item_at key n ys) ≡ Some x → (item_at key n ys ≡ Some x → total weight (change_at key n g ys) + weight x ≡ total weight ys + weight (g x)) → total weight ((if b then g y else y) ∷ change_at key n g ys) + weight x ≡ total weight (y ∷ ys) + weight (g x)
    go true is e ih =
        let number = eqb-true (key y) n is in
        let same : y ≡ x = cc in
        let old : weight y ≡ weight x = ap weight same in
        let new : weight (g y) ≡ weight (g x) = ap (λ t. weight (g t)) same in
        let later : total weight (change_at key n g ys) ≡ total weight ys = ap (total weight) (change_at-none key g (key y) n ys (omega arith) r.1) in
        omega arith
    go false is e ih = let later = ih e in omega arith

pub total-append : {X : Type 0} (weight : X → ℕ) (xs ys : List X) → total weight (xs ++ ys) ≡ total weight xs + total weight ys
total-append weight [] ys = omega arith
total-append weight (x ∷ xs) ys = let more = total-append weight xs ys in omega arith

pub total-at : {X : Type 0} (key : X → ℕ) (weight : X → ℕ) (n : ℕ) (xs : List X) (x : X) → item_at key n xs ≡ Some x → weight x ≤ total weight xs
total-at key weight n [] x e = absurd (cc)
total-at {X} key weight n (y ∷ ys) x e = go (key y == n) e (total-at key weight n ys x)
  where
    go : (b : Bool) → cond b (Some y) (item_at key n ys) ≡ Some x → (item_at key n ys ≡ Some x → weight x ≤ total weight ys) → weight x ≤ total weight (y ∷ ys)
    go true e ih = let same : y ≡ x = cc in let is : weight y ≡ weight x = ap weight same in omega arith
    go false e ih = let later = ih e in omega arith

-- two items weigh no more than all
pub total-two : {X : Type 0} (key : X → ℕ) (weight : X → ℕ) (n m : ℕ) (xs : List X) (x y : X) → (n ≡ m → ⊥) → item_at key n xs ≡ Some x → item_at key m xs ≡ Some y → weight x + weight y ≤ total weight xs
total-two key weight n m [] x y apart e f = absurd (cc)
total-two {X} key weight n m (z ∷ zs) x y apart e f = go (key z == n) (key z == m) refl refl e f (total-two key weight n m zs x y apart)
  where
    go : (b c : Bool) → (key z == n) ≡ b → (key z == m) ≡ c → cond b (Some z) (item_at key n zs) ≡ Some x → cond c (Some z) (item_at key m zs) ≡ Some y → (item_at key n zs ≡ Some x → item_at key m zs ≡ Some y → weight x + weight y ≤ total weight zs) → weight x + weight y ≤ total weight (z ∷ zs)
    go true true is is' e f ih = absurd (apart (sym (eqb-true (key z) n is) ∙ eqb-true (key z) m is'))
    go true false is is' e f ih = let same : z ≡ x = cc in let w : weight z ≡ weight x = ap weight same in let more = total-at key weight m zs y f in omega arith
    go false true is is' e f ih = let same : z ≡ y = cc in let w : weight z ≡ weight y = ap weight same in let more = total-at key weight n zs x e in omega arith
    go false false is is' e f ih = let more = ih e f in omega arith

-- other weights

pub total-same : {X : Type 0} (f g : X → ℕ) → ((x : X) → f x ≡ g x) → (xs : List X) → total f xs ≡ total g xs
total-same f g same [] = refl
total-same f g same (x ∷ xs) = let first = same x in let more = total-same f g same xs in omega arith

pub total-most : {X : Type 0} (f g : X → ℕ) → ((x : X) → f x ≤ g x) → (xs : List X) → total f xs ≤ total g xs
total-most f g most [] = omega arith
total-most f g most (x ∷ xs) = let first = most x in let more = total-most f g most xs in omega arith

-- weights that differ at no item of another key than this, at items above it
total-above : {X : Type 0} (key : X → ℕ) (f g : X → ℕ) (above n : ℕ) (xs : List X) → n ≤ above → Rises key above xs → ((y : X) → (key y ≡ n → ⊥) → f y ≡ g y) → total f xs ≡ total g xs
total-above key f g above n [] h r same = refl
total-above key f g above n (x ∷ xs) h r same =
    let first : above < key x = r.0 in
    let here = same x (λ e. absurd (omega arith)) in
    let more = total-above key f g (key x) n xs (omega arith) r.1 same in
    omega arith

-- and at one item
pub total-weights : {X : Type 0} (key : X → ℕ) (f g : X → ℕ) (above n : ℕ) (xs : List X) (x : X) → Rises key above xs → item_at key n xs ≡ Some x → ((y : X) → (key y ≡ n → ⊥) → f y ≡ g y) → total f xs + g x ≡ total g xs + f x
total-weights key f g above n [] x r e same = absurd (cc)
total-weights {X} key f g above n (y ∷ ys) x r e same = go (key y == n) refl e (λ later. total-weights key f g (key y) n ys x r.1 later same)
  where
    go : (b : Bool) → (key y == n) ≡ b → cond b (Some y) (item_at key n ys) ≡ Some x → (item_at key n ys ≡ Some x → total f ys + g x ≡ total g ys + f x) → total f (y ∷ ys) + g x ≡ total g (y ∷ ys) + f x
    go true is e ih =
        let number = eqb-true (key y) n is in
        let same_item : y ≡ x = cc in
        let here : f y ≡ f x = ap f same_item in
        let there : g y ≡ g x = ap g same_item in
        let more = total-above key f g (key y) n ys (omega arith) r.1 same in
        omega arith
    go false is e ih =
        let here = same y (λ k. eqb-false (key y) n is k) in
        let later = ih e in
        omega arith

-- what holds of all items

pub all-more : {X : Type 0} (P Q : X → Type 0) → ((x : X) → P x → Q x) → (xs : List X) → AllByRecursion P xs → AllByRecursion Q xs
all-more P Q more [] all = tt
all-more P Q more (x ∷ xs) all = (more x all.0, all-more P Q more xs all.1)

pub all-append : {X : Type 0} (P : X → Type 0) (xs ys : List X) → AllByRecursion P xs → AllByRecursion P ys → AllByRecursion P (xs ++ ys)
all-append P [] ys first all = all
all-append P (x ∷ xs) ys first all = (first.0, all-append P xs ys first.1 all)

pub all-front : {X : Type 0} (P : X → Type 0) (xs ys : List X) → AllByRecursion P (xs ++ ys) → AllByRecursion P xs
all-front P [] ys all = tt
all-front P (x ∷ xs) ys all = (all.0, all-front P xs ys all.1)

pub all-found : {X : Type 0} (key : X → ℕ) (P : X → Type 0) (n : ℕ) (xs : List X) (x : X) → AllByRecursion P xs → item_at key n xs ≡ Some x → P x
all-found key P n [] x all e = absurd (cc)
all-found {X} key P n (y ∷ ys) x all e = go (key y == n) e (all-found key P n ys x all.1)
  where
    go : (b : Bool) → cond b (Some y) (item_at key n ys) ≡ Some x → (item_at key n ys ≡ Some x → P x) → P x
    go true e ih = let same : y ≡ x = cc in subst P same all.0
    go false e ih = ih e
