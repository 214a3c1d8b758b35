-- Maps by number that hold the items of a list, each under its number.
use Rattle.std.proofs.Common.{◌≡◌, ◌≢◌, ℕ, suc, ◌+◌, ◌<◌, ◌≤◌, List, [], ◌∷◌, length, flat_map, cond, Option, Some, None, is_some, inl, inr, slice_get, refl, sym, ap, ◌∙◌, subst, arith, add-one, eq-eqb, ne_eqb}
use Rattle.std.proofs.lemmas.Bool.{cases_eq}
use Rattle.std.specs.Ordering.{nat_cmp}
use Rattle.std.specs.Cmp.{nat_cmp_total, unsigned_tied}
use Rattle.std.specs.FinMap as map
use Rattle.bucket_model.specs.Bucket.{Parts, joined_from}

module _ {X : Type 0} where
  pub get-same : (m : map.FinMap nat_cmp X) (key : ℕ) (value : X) → map.get (map.insert m key value) key ≡ Some value
  get-same m key value = map.get-insert nat_cmp_total m key value key ∙ ap (λ b. cond b (Some value) (map.get m key)) (unsigned_tied key key ∙ eq-eqb key key refl)

  pub get-other : (m : map.FinMap nat_cmp X) (key : ℕ) (value : X) (other : ℕ) → other ≢ key → map.get (map.insert m key value) other ≡ map.get m other
  get-other m key value other apart = map.get-insert nat_cmp_total m key value other ∙ ap (λ b. cond b (Some value) (map.get m other)) (unsigned_tied other key ∙ ne_eqb other key apart)

  pub get-gone : (m : map.FinMap nat_cmp X) (key : ℕ) → map.get (map.remove m key) key ≡ None
  get-gone m key = map.get-remove nat_cmp_total m key key ∙ ap (λ b. cond b None (map.get m key)) (unsigned_tied key key ∙ eq-eqb key key refl)

  pub get-left : (m : map.FinMap nat_cmp X) (key other : ℕ) → other ≢ key → map.get (map.remove m key) other ≡ map.get m other
  get-left m key other apart = map.get-remove nat_cmp_total m key other ∙ ap (λ b. cond b None (map.get m other)) (unsigned_tied other key ∙ ne_eqb other key apart)

  -- the map's keys are the numbers of the items, from the first number on
  pub record Numbers (first : ℕ) (items : List X) (m : map.FinMap nat_cmp X) : Type 0 where
    pub each : (index : ℕ) (item : X) → slice_get items index ≡ Some item → map.get m (first + index) ≡ Some item
    pub only : (number : ℕ) (item : X) → map.get m number ≡ Some item → (first ≤ number) × (number < first + length items)

  none_there : (m : map.FinMap nat_cmp X) (first : ℕ) → Numbers first [] m → m ≡ map.empty
  none_there m first n = map.same_map nat_cmp_total map.nat_cmp-IsAntisymmetric m map.empty (λ number. none number (map.get m number) refl ∙ sym (map.get-empty nat_cmp number))
    where
      none : (number : ℕ) (found : Option X) → map.get m number ≡ found → found ≡ None
      none number None is = refl
      none number (Some item) is = absurd (let within = n.only number item is in omega arith)

  -- without the first number there are those behind it
  behind : (m : map.FinMap nat_cmp X) (first : ℕ) (item : X) (items : List X) → Numbers first (item ∷ items) m → Numbers (suc first) items (map.remove m first)
  behind m first item items n = record {
    each = λ index more listed. get-left m first (suc first + index) (λ same. absurd (omega arith)) ∙ subst (λ (q : ℕ). map.get m q ≡ Some more) (let sum : first + suc index ≡ suc first + index = omega arith in sum) (n.each (suc index) more listed);
    only = λ number more is. elim (cases_eq number first) [
      | inl same ↦ absurd (let gone : map.get (map.remove m first) number ≡ None = rw same (get-gone m first) in cc)
      | inr apart ↦ (let within = n.only number more (sym (get-left m first number apart) ∙ is) in (omega arith, omega arith))
    ];
  }

  first-there : (m : map.FinMap nat_cmp X) (first : ℕ) (item : X) (items : List X) → Numbers first (item ∷ items) m → map.get m first ≡ Some item
  first-there m first item items n = subst (λ (q : ℕ). map.get m q ≡ Some item) (let sum : first + 0 ≡ first = omega arith in sum) (n.each 0 item refl)

  put-back : (m : map.FinMap nat_cmp X) (first : ℕ) (item : X) (items : List X) → Numbers first (item ∷ items) m → m ≡ map.insert (map.remove m first) first item
  put-back m first item items n = map.same_map nat_cmp_total map.nat_cmp-IsAntisymmetric m (map.insert (map.remove m first) first item) (λ number. elim (cases_eq number first) [
    | inl same ↦ rw same (first-there m first item items n ∙ sym (get-same (map.remove m first) first item))
    | inr apart ↦ sym (get-other (map.remove m first) first item number apart ∙ get-left m first number apart)
  ])

  -- so there are as many keys as items
  pub len-numbers : (first : ℕ) (items : List X) (m : map.FinMap nat_cmp X) → Numbers first items m → map.len m ≡ length items
  len-numbers first [] m n = ap map.len (none_there m first n) ∙ map.len-empty nat_cmp X
  len-numbers first (item ∷ items) m n =
      let rest : map.FinMap nat_cmp X = map.remove m first in
      ap map.len (put-back m first item items n)
      ∙ (map.len-insert nat_cmp_total rest first item
      ∙ (ap (λ (o : Option X). cond (is_some o) (map.len rest) (map.len rest + 1)) (get-gone m first)
      ∙ (add-one (map.len rest) ∙ ap suc (len-numbers (suc first) items rest (behind m first item items n)))))

-- the parts from this number on, joined
pub joined-numbers : (first : ℕ) (parts : List (List ℕ)) (m : Parts) → ((index : ℕ) (bytes : List ℕ) → slice_get parts index ≡ Some bytes → map.get m (first + index) ≡ Some bytes) → joined_from m first (length parts) ≡ Some (flat_map (λ bytes. bytes) parts)
joined-numbers first [] m each = refl
joined-numbers first (bytes ∷ parts) m each =
    let here : map.get m first ≡ Some bytes = subst (λ (q : ℕ). map.get m q ≡ Some bytes) (let sum : first + 0 ≡ first = omega arith in sum) (each 0 bytes refl) in
    let more : joined_from m (first + 1) (length parts) ≡ Some (flat_map (λ bytes. bytes) parts) =
    joined-numbers (first + 1) parts m (λ index next listed. subst (λ (q : ℕ). map.get m q ≡ Some next) (let sum : first + suc index ≡ first + 1 + index = omega arith in sum) (each (suc index) next listed)) in
    rw (here, more) refl
