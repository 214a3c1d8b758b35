-- A table of names as a map of them.
use Rattle.std.proofs.Common.{◌≡◌, ℕ, Bool, not, true, false, cond, ◌&&◌, List, [], ◌∷◌, Option, Some, Ordering, Less, Equal, Greater, T, refl, sym, ap, ◌∙◌, subst}
use Rattle.std.proofs.lemmas.Map.Keys.{sorted_head, sorted_tail}
use Rattle.std.specs.BTreeMap.{BTreeMap, insert_entry}
use Rattle.std.specs.FinMap as map
use Rattle.std.specs.FinMap.Entries.{put, find, is_sorted, below_all}
use Rattle.std.specs.List.{AllByRecursion}
use Rattle.std.specs.List.Sorted.{IsStrictlySortedBy}
use Rattle.std.specs.Map.{keys_of, lookup}
use Rattle.std.specs.Ordering.{eq_by_cmp, is_eq, is_lt, match_ordering}
use Rattle.mp_rules.proofs.Order.{total, distinct}
use Rattle.mp_rules.specs.Names.{name_cmp}
use Rattle.listing_rules.specs.declared.listed.Listed.{Listed}
use Rattle.listing_rules.specs.declared.listed.Listed.TheVariants.{Dir}
use Rattle.listing_rules.specs.Names.{Names, is_dir, with_entry}
use Rattle.mp_types.specs.Path.{is_valid_name}
use Rattle.dir_reader.specs.Gathered.{found_in}

module _ {K X : Type 0} (R : K → K → Ordering) where
  inserted_put : (k : K) (v : X) (es : List (K × X)) → insert_entry R es k v ≡ put R k v es
  inserted_put k v [] = refl
  inserted_put k v (e ∷ es) = by_order (R k e.0) (inserted_put k v es)
    where
      by_order : (o : Ordering) → insert_entry R es k v ≡ put R k v es → match_ordering o ((k, v) ∷ e ∷ es) ((e.0, v) ∷ es) (e ∷ insert_entry R es k v) ≡ map.Entries.by_order o ((k, v) ∷ e ∷ es) ((e.0, v) ∷ es) (e ∷ put R k v es)
      by_order Less rest = refl
      by_order Equal rest = refl
      by_order Greater rest = ap (λ (fs : List (K × X)). e ∷ fs) rest

  looked_up : (q : K) (es : List (K × X)) → lookup (λ k. is_eq (R q k)) es ≡ find R q es
  looked_up q [] = refl
  looked_up q (e ∷ es) = ap (λ (o : Option X). cond (is_eq (R q e.0)) (Some e.1) o) (looked_up q es)

-- one more name, or another listing of it
pub found_insert : (old new : BTreeMap (List ℕ) Listed) (name : List ℕ) (listed : Listed) → new.entries ≡ insert_entry name_cmp old.entries name listed → found_in new ≡ map.insert (found_in old) name listed
found_insert old new name listed is = map.same_map total distinct _ _ (λ q.
    map.get-from_entries total new.entries q
    ∙ ap (find name_cmp q) (is ∙ inserted_put name_cmp name listed old.entries)
    ∙ map.Entries.find-put name_cmp total q name listed old.entries
    ∙ sym (map.get-insert total (found_in old) name listed q ∙ ap (λ (o : Option Listed). cond (eq_by_cmp name_cmp q name) (Some listed) o) (map.get-from_entries total old.entries q)))

pub found_at : (table : BTreeMap (List ℕ) Listed) (name : List ℕ) → lookup (λ k. is_eq (name_cmp name k)) table.entries ≡ map.get (found_in table) name
found_at table name = looked_up name_cmp name table.entries ∙ sym (map.get-from_entries total table.entries name)

pub found_none : (table : BTreeMap (List ℕ) Listed) → table.entries ≡ [] → found_in table ≡ map.empty
found_none table none = ap (map.from_entries {R = name_cmp}) none

-- the entries of a table in order are those of its map

less_first : (o : Ordering) → o ≡ Less → is_lt o ≡ true
less_first o is = ap is_lt is

all_below : (k : List ℕ) (es : List (List ℕ × Listed)) → AllByRecursion (λ x. name_cmp k x ≡ Less) (keys_of es) → below_all name_cmp k es ≡ true
all_below k [] less = refl
all_below k (e ∷ es) less = λ i. less_first _ less.0 i && all_below k es less.1 i

in_order : (es : List (List ℕ × Listed)) → IsStrictlySortedBy name_cmp (keys_of es) → is_sorted name_cmp es ≡ true
in_order [] sorted = refl
in_order (e ∷ es) sorted = λ i. all_below e.0 es (sorted_head name_cmp e.0 (keys_of es) sorted) i && in_order es (sorted_tail name_cmp e.0 (keys_of es) sorted) i

pub found_entries : (table : BTreeMap (List ℕ) Listed) → IsStrictlySortedBy name_cmp (keys_of table.entries) → map.entries (found_in table) ≡ table.entries
found_entries table sorted =
    let rise : T (is_sorted name_cmp table.entries) = subst T (sym (in_order table.entries sorted)) tt in
    ap map.entries (map.same_map total distinct (found_in table) (map.from_sorted table.entries) (λ q. map.get-from_entries total table.entries q ∙ sym (map.get-from_sorted name_cmp table.entries q rise)))
    ∙ map.entries-from_sorted name_cmp table.entries rise

-- what a name shows once it is told

module _ (name : List ℕ) (listed : Listed) (found : Names) where
  pub told_invalid : is_valid_name name ≡ false → found ≡ with_entry name listed found
  told_invalid is = ap (λ (b : Bool). cond (b && not_dir) (map.insert found name listed) found) (sym is)
    where
      not_dir : Bool
      not_dir = not (is_dir (map.get found name))

  pub told_dir : map.get found name ≡ Some Dir → found ≡ with_entry name listed found
  told_dir is = by_valid (is_valid_name name) ∙ ap (λ (o : Option Listed). cond (is_valid_name name && not (is_dir o)) (map.insert found name listed) found) (sym is)
    where
      by_valid : (b : Bool) → found ≡ cond (b && false) (map.insert found name listed) found
      by_valid true = refl
      by_valid false = refl

  pub told : is_valid_name name ≡ true → is_dir (map.get found name) ≡ false → map.insert found name listed ≡ with_entry name listed found
  told valid other = λ i. cond (sym valid i && not (sym other i)) (map.insert found name listed) found

pub dir_found : (table : BTreeMap (List ℕ) Listed) (name : List ℕ) (o : Option Listed) → o ≡ lookup (λ k. is_eq (name_cmp name k)) table.entries → is_dir o ≡ is_dir (map.get (found_in table) name)
dir_found table name o is = ap is_dir (is ∙ found_at table name)
