-- What the map of a table is, where its names and its slots belong together.
use Rattle.std.proofs.Common.{◌≡◌, ℕ, suc, Bool, true, false, cond, ◌&&◌, T as IsSo, List, [], ◌∷◌, length, Option, Some, None, IsSome, Less, refl, sym, ap, subst, ◌∙◌, slice_get}
use Rattle.std.specs.List.{AllByRecursion}
use Rattle.std.specs.List.Sorted.{IsStrictlySortedBy}
use Rattle.std.specs.Map.{keys_of, lookup}
use Rattle.std.specs.Ordering.{eq_by_cmp, is_lt}
use Rattle.std.specs.BTreeMap as tree
use Rattle.std.specs.BTreeMap.{is_at}
use Rattle.std.specs.FinMap as map
use Rattle.std.specs.FinMap.Entries.{find, below_all, is_sorted}
use Rattle.std.proofs.lemmas.Map.Entries.{btree_map_get_place}
use Rattle.slab.specs.Slab.{Slab, get}
use Rattle.mp_types.specs.HandleName.{HandleName, name_cmp}
use Rattle.mp_handles.specs.Kept.{IsKept, values_in, map_in, with_entry}
use Rattle.mp_handles.proofs.Names.{name_cmp_total}

both : (a b : Bool) → IsSo a → IsSo b → IsSo (a && b)
both true b p q = q
both false b p q = p

all_by_place : {X : Type 0} (P : X → Type 0) (xs : List X) → ((i : ℕ) (x : X) → slice_get xs i ≡ Some x → P x) → AllByRecursion P xs
all_by_place P [] h = tt
all_by_place P (x ∷ xs) h = (h 0 x refl, all_by_place P xs (λ i y is. h (suc i) y is))

module _ {T : Type 0} where
  -- what a slot has, where there is one
  abbrev pub found_in : Slab T → Option ℕ → Option T
  found_in slots None = None
  found_in slots (Some slot) = get slots slot

  abbrev pub AreFilled : Slab T → List (HandleName × ℕ) → Type 0
  AreFilled slots es = AllByRecursion (λ e. IsSome (get slots e.1)) es

  below_one_more : (x name : HandleName) (o : Option T) (rest : List (HandleName × T)) → name_cmp x name ≡ Less → IsSo (below_all name_cmp x rest) → IsSo (below_all name_cmp x (with_entry name o rest))
  below_one_more x name None rest is below = below
  below_one_more x name (Some v) rest is below = both _ _ (subst (λ r. IsSo (is_lt r)) (sym is) tt) below

  below_values : (slots : Slab T) (x : HandleName) (es : List (HandleName × ℕ)) → AllByRecursion (λ y. name_cmp x y ≡ Less) (keys_of es) → IsSo (below_all name_cmp x (values_in slots es))
  below_values slots x [] h = tt
  below_values slots x (e ∷ es) h = below_one_more x e.0 (get slots e.1) _ h.0 (below_values slots x es h.1)

  rises_from : (name : HandleName) (o : Option T) (rest : List (HandleName × T)) → IsSo (below_all name_cmp name rest) → IsSo (is_sorted name_cmp rest) → IsSo (is_sorted name_cmp (with_entry name o rest))
  rises_from name None rest below rises = rises
  rises_from name (Some v) rest below rises = both _ _ below rises

  rising_values : (slots : Slab T) (es : List (HandleName × ℕ)) → IsStrictlySortedBy name_cmp (keys_of es) → IsSo (is_sorted name_cmp (values_in slots es))
  unfolding IsStrictlySortedBy
  rising_values slots [] h = tt
  rising_values slots (e ∷ es) h = rises_from e.0 (get slots e.1) _ (below_values slots e.0 es h.0) (rising_values slots es h.1)

  find_first : (q name : HandleName) (o : Option T) (rest : List (HandleName × T)) → IsSome o → find name_cmp q (with_entry name o rest) ≡ cond (eq_by_cmp name_cmp q name) o (find name_cmp q rest)
  find_first q name None rest some = absurd (cc)
  find_first q name (Some v) rest some = refl

  found_first : (slots : Slab T) (b : Bool) (slot : ℕ) (rest : Option ℕ) → cond b (get slots slot) (found_in slots rest) ≡ found_in slots (cond b (Some slot) rest)
  found_first slots true slot rest = refl
  found_first slots false slot rest = refl

  find_values : (slots : Slab T) (q : HandleName) (es : List (HandleName × ℕ)) → AreFilled slots es → find name_cmp q (values_in slots es) ≡ found_in slots (lookup (is_at (name_cmp q)) es)
  find_values slots q [] h = refl
  find_values slots q (e ∷ es) h =
      find_first q e.0 (get slots e.1) _ h.0
      ∙ ap (cond (eq_by_cmp name_cmp q e.0) (get slots e.1)) (find_values slots q es h.1)
      ∙ found_first slots (eq_by_cmp name_cmp q e.0) e.1 _

  length_one_more : (name : HandleName) (o : Option T) (rest : List (HandleName × T)) → IsSome o → length (with_entry name o rest) ≡ suc (length rest)
  length_one_more name None rest some = absurd (cc)
  length_one_more name (Some v) rest some = refl

  length-values : (slots : Slab T) (es : List (HandleName × ℕ)) → AreFilled slots es → length (values_in slots es) ≡ length es
  length-values slots [] h = refl
  length-values slots (e ∷ es) h = length_one_more e.0 (get slots e.1) _ h.0 ∙ ap suc (length-values slots es h.1)

  filled_entries : (slots : Slab T) (index : tree.BTreeMap HandleName ℕ) → IsKept slots index → AreFilled slots index.entries
  filled_entries slots index k = all_by_place _ index.entries (λ i e is. k.filled e.0 e.1 (btree_map_get_place name_cmp_total index i e.0 e.1 k.ordered is))

  entries-map_in : (slots : Slab T) (index : tree.BTreeMap HandleName ℕ) → IsKept slots index → map.entries (map_in slots index.entries) ≡ values_in slots index.entries
  entries-map_in slots index k = map.entries-from_sorted name_cmp _ (rising_values slots index.entries k.ordered)

  -- a name has what its slot has
  pub get-map_in : (slots : Slab T) (index : tree.BTreeMap HandleName ℕ) → IsKept slots index → (q : HandleName) → map.get (map_in slots index.entries) q ≡ found_in slots (tree.get name_cmp index q)
  get-map_in slots index k q = map.get-from_sorted name_cmp _ q (rising_values slots index.entries k.ordered) ∙ find_values slots q index.entries (filled_entries slots index k)

  -- and as many names are live as have a slot
  pub len-map_in : (slots : Slab T) (index : tree.BTreeMap HandleName ℕ) → IsKept slots index → map.len (map_in slots index.entries) ≡ length index.entries
  len-map_in slots index k = map.len-entries _ ∙ ap length (entries-map_in slots index k) ∙ length-values slots index.entries (filled_entries slots index k)

  -- the same, of a table whose value and whose slot at the name are known
  pub get_at : (slots : Slab T) (index : tree.BTreeMap HandleName ℕ) (value : map.FinMap name_cmp T) → IsKept slots index → map_in slots index.entries ≡ value → (q : HandleName) (slot : Option ℕ) → slot ≡ tree.get name_cmp index q → found_in slots slot ≡ map.get value q
  get_at slots index value k is q slot at = ap (found_in slots) at ∙ sym (get-map_in slots index k q) ∙ ap (λ m. map.get m q) is
