-- What becomes of a table, and of its map, where one name changes.
use Rattle.std.proofs.Common.{◌≡◌, ◌≢◌, ℕ, ◌≤◌, Bool, true, false, cond, length, Option, Some, None, IsSome, is_some, refl, sym, ap, ◌∙◌}
use Rattle.std.specs.BTreeMap as tree
use Rattle.std.specs.BTreeMap.{is_at}
use Rattle.std.specs.FinMap as map
use Rattle.slab.specs.Slab.{Slab, get, slab_len}
use Rattle.mp_types.specs.HandleName.{HandleName, name_cmp, max_handles}
use Rattle.mp_handles.specs.Kept.{IsKept, map_in}
use Rattle.mp_handles.proofs.Names.{name_cmp_total, exact_names, same_name, name_is_itself, either_way}
use Rattle.mp_handles.proofs.Views.{found_in, get-map_in}

module _ {T : Type 0} where
  -- the name has this slot from now on, with this value, and each other name has the value that it had
  pub record Changes (slots slots' : Slab T) (index index' : tree.BTreeMap HandleName ℕ) (name : HandleName) (slot : Option ℕ) (value : Option T) : Type 0 where
    pub named : (q : HandleName) → tree.get name_cmp index' q ≡ cond (is_at (name_cmp name) q) slot (tree.get name_cmp index q)
    pub there : found_in slots' slot ≡ value
    pub elsewhere : (q : HandleName) (s : ℕ) → is_at (name_cmp name) q ≡ false → tree.get name_cmp index q ≡ Some s → get slots' s ≡ get slots s

  -- no other name has the name's slot
  pub slots_apart : (slots : Slab T) (index : tree.BTreeMap HandleName ℕ) → IsKept slots index → (name : HandleName) (slot : ℕ) → tree.get name_cmp index name ≡ Some slot
      → (q : HandleName) (s : ℕ) → is_at (name_cmp name) q ≡ false → tree.get name_cmp index q ≡ Some s → s ≢ slot
  slots_apart slots index k name slot at q s other is same =
      let one : name ≡ q = k.apart name q slot at (is ∙ ap Some same) in
      let itself : is_at (name_cmp name) q ≡ true = sym (ap (is_at (name_cmp name)) one) ∙ name_is_itself name in
      absurd (cc)

  -- nor a vacant one
  pub vacant_apart : (slots : Slab T) (index : tree.BTreeMap HandleName ℕ) → IsKept slots index → (slot : ℕ) → get slots slot ≡ None → (q : HandleName) (s : ℕ) → tree.get name_cmp index q ≡ Some s → s ≢ slot
  vacant_apart slots index k slot vacant q s is same =
      let some = k.filled q s is in
      let none : get slots s ≡ None = ap (get slots) same ∙ vacant in
      absurd (cc)

  module _ (slots slots' : Slab T) (index index' : tree.BTreeMap HandleName ℕ) (k : IsKept slots index) (name : HandleName) where
    pub kept_after : (slot : Option ℕ) (value : Option T) → Changes slots slots' index index' name slot value
        → ((s : ℕ) → slot ≡ Some s → IsSome value) → ((q : HandleName) (s : ℕ) → is_at (name_cmp name) q ≡ false → tree.get name_cmp index q ≡ Some s → slot ≢ Some s)
        → tree.IsOrdered name_cmp index' → slab_len slots' ≡ length index'.entries → length index'.entries ≤ max_handles → IsKept slots' index'
    kept_after slot value c full fresh ordered counted few = record {
      ordered = ordered;
      filled = λ x s is. filled_by x s (is_at (name_cmp name) x) refl (sym (c.named x) ∙ is);
      apart = λ x y s here there. apart_by x y s (is_at (name_cmp name) x) (is_at (name_cmp name) y) refl refl (sym (c.named x) ∙ here) (sym (c.named y) ∙ there);
      counted = counted;
      few = few;
    }
      where
        filled_by : (x : HandleName) (s : ℕ) (b : Bool) → is_at (name_cmp name) x ≡ b → cond b slot (tree.get name_cmp index x) ≡ Some s → IsSome (get slots' s)
        filled_by x s true at is = ap is_some (sym (ap (found_in slots') is) ∙ c.there) ∙ full s is
        filled_by x s false at is = ap is_some (c.elsewhere x s at is) ∙ k.filled x s is

        apart_by : (x y : HandleName) (s : ℕ) (a b : Bool) → is_at (name_cmp name) x ≡ a → is_at (name_cmp name) y ≡ b → cond a slot (tree.get name_cmp index x) ≡ Some s → cond b slot (tree.get name_cmp index y) ≡ Some s → x ≡ y
        apart_by x y s true true atx aty isx isy = sym (same_name name x atx) ∙ same_name name y aty
        apart_by x y s true false atx aty isx isy = absurd (fresh y s aty isy isx)
        apart_by x y s false true atx aty isx isy = absurd (fresh x s atx isx isy)
        apart_by x y s false false atx aty isx isy = k.apart x y s isx isy

    get_changed : (k' : IsKept slots' index') (slot : Option ℕ) (value : Option T) → Changes slots slots' index index' name slot value
        → (q : HandleName) → map.get (map_in slots' index'.entries) q ≡ cond (is_at (name_cmp q) name) value (map.get (map_in slots index.entries) q)
    get_changed k' slot value c q =
        get-map_in slots' index' k' q
        ∙ ap (found_in slots') (c.named q)
        ∙ by (is_at (name_cmp name) q) refl
        ∙ ap (λ b. cond b value (map.get (map_in slots index.entries) q)) (either_way name q)
      where
        unchanged : (o : Option ℕ) → is_at (name_cmp name) q ≡ false → tree.get name_cmp index q ≡ o → found_in slots' o ≡ found_in slots o
        unchanged None at is = refl
        unchanged (Some s) at is = c.elsewhere q s at is

        by : (b : Bool) → is_at (name_cmp name) q ≡ b → found_in slots' (cond b slot (tree.get name_cmp index q)) ≡ cond b value (map.get (map_in slots index.entries) q)
        by true at = c.there
        by false at = unchanged (tree.get name_cmp index q) at refl ∙ sym (get-map_in slots index k q)

    pub map_with : (k' : IsKept slots' index') (slot : Option ℕ) (value : T) → Changes slots slots' index index' name slot (Some value) → map_in slots' index'.entries ≡ map.insert (map_in slots index.entries) name value
    map_with k' slot value c = map.same_map name_cmp_total exact_names _ _ (λ q. get_changed k' slot (Some value) c q ∙ sym (map.get-insert name_cmp_total (map_in slots index.entries) name value q))

    pub map_without : (k' : IsKept slots' index') (slot : Option ℕ) → Changes slots slots' index index' name slot None → map_in slots' index'.entries ≡ map.remove (map_in slots index.entries) name
    map_without k' slot c = map.same_map name_cmp_total exact_names _ _ (λ q. get_changed k' slot None c q ∙ sym (map.get-remove name_cmp_total (map_in slots index.entries) name q))
