-- How a table keeps its handles: the values in slots, and beside them in which slot each name's value is.
use Rattle.std.specs.Prelude.{◌≡◌, ℕ, ◌≤◌, List, [], ◌∷◌, length, Option, Some, None, IsSome}
use Rattle.std.specs.BTreeMap as tree
use Rattle.std.specs.FinMap as map
use Rattle.slab.specs.Slab.{Slab, get, slab_len}
use Rattle.mp_types.specs.HandleName.{HandleName, name_cmp, max_handles}

module _ {T : Type 0} where
  -- a name with what its slot has, before the rest
  abbrev pub with_entry : HandleName → Option T → List (HandleName × T) → List (HandleName × T)
  with_entry name None rest = rest
  with_entry name (Some value) rest = (name, value) ∷ rest

  -- each name with the value in its slot, in the order of names
  abbrev pub values_in : Slab T → List (HandleName × ℕ) → List (HandleName × T)
  values_in slots [] = []
  values_in slots (e ∷ es) = with_entry e.0 (get slots e.1) (values_in slots es)

  -- the map that a table is seen as
  abbrev pub map_in : Slab T → List (HandleName × ℕ) → map.FinMap name_cmp T
  map_in slots es = map.from_sorted (values_in slots es)

  -- each name has a slot of its own with a value, no other slot has one, and few names are live
  pub record IsKept (slots : Slab T) (index : tree.BTreeMap HandleName ℕ) : Type 0 where
    pub ordered : tree.IsOrdered name_cmp index
    pub filled : (name : HandleName) (slot : ℕ) → tree.get name_cmp index name ≡ Some slot → IsSome (get slots slot)
    pub apart : (x y : HandleName) (slot : ℕ) → tree.get name_cmp index x ≡ Some slot → tree.get name_cmp index y ≡ Some slot → x ≡ y
    pub counted : slab_len slots ≡ length index.entries
    pub few : length index.entries ≤ max_handles
