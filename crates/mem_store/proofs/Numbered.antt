-- A map by numbers, seen as a map of its entries.
use Rattle.std.proofs.Common.{◌≡◌, ℕ, Bool, true, false, cond, T as IsSo, ◌&&◌, List, [], ◌∷◌, length, Option, Some, None, Less, refl, sym, ap, subst, ◌∙◌, BTreeMap}
use Rattle.std.specs.BTreeMap as tree
use Rattle.std.specs.BTreeMap.{is_at}
use Rattle.std.specs.Cmp.{eq_by_cmp_equiv, nat_cmp_total}
use Rattle.std.specs.FinMap as map
use Rattle.std.specs.FinMap.{nat_cmp-IsAntisymmetric}
use Rattle.std.specs.FinMap.Entries.{below_all, find, is_sorted}
use Rattle.std.specs.List.{AllByRecursion}
use Rattle.std.specs.List.Sorted.{IsStrictlySortedBy}
use Rattle.std.specs.Map.{keys_of, lookup, set_value}
use Rattle.std.specs.Ordering.{eq_by_cmp, is_lt, nat_cmp}
use Rattle.std.proofs.lemmas.Map.Steps.{set_value_same}

both : (a b : Bool) → IsSo a → IsSo b → IsSo (a && b)
both true b p q = q
both false b p q = p

module _ {X : Type 0} where
  -- the map of the entries
  abbrev pub map_of : BTreeMap ℕ X → map.FinMap nat_cmp X
  map_of table = map.from_entries table.entries

  find-lookup : (q : ℕ) (es : List (ℕ × X)) → find nat_cmp q es ≡ lookup (is_at (nat_cmp q)) es
  find-lookup q [] = refl
  find-lookup q (e ∷ es) = ap (cond (eq_by_cmp nat_cmp q e.0) (Some e.1)) (find-lookup q es)

  pub get-map_of : (table : BTreeMap ℕ X) (q : ℕ) → map.get (map_of table) q ≡ tree.get nat_cmp table q
  get-map_of table q = map.get-from_entries nat_cmp_total table.entries q ∙ find-lookup q table.entries

  same-map_of : (table other : BTreeMap ℕ X) → other.entries ≡ table.entries → map_of other ≡ map_of table
  same-map_of table other same = ap (λ es. map.from_entries es) same

  updated : (table changed : BTreeMap ℕ X) (k : ℕ) (value : Option X) → tree.Updates nat_cmp table changed k value
      → (q : ℕ) → map.get (map_of changed) q ≡ cond (eq_by_cmp nat_cmp q k) value (map.get (map_of table) q)
  updated table changed k value updates q =
      get-map_of changed q ∙ updates.0 q
      ∙ ap (λ b. cond b value (tree.get nat_cmp table q)) ((eq_by_cmp_equiv nat_cmp_total).symm k q)
      ∙ ap (cond (eq_by_cmp nat_cmp q k) value) (sym (get-map_of table q))

  pub insert-map_of : (table changed : BTreeMap ℕ X) (k : ℕ) (value : X) → tree.Updates nat_cmp table changed k (Some value) → map_of changed ≡ map.insert (map_of table) k value
  insert-map_of table changed k value updates =
      map.same_map nat_cmp_total nat_cmp-IsAntisymmetric _ _ (λ q. updated table changed k (Some value) updates q ∙ sym (map.get-insert nat_cmp_total (map_of table) k value q))

  pub remove-map_of : (table changed : BTreeMap ℕ X) (k : ℕ) → tree.Updates nat_cmp table changed k None → map_of changed ≡ map.remove (map_of table) k
  remove-map_of table changed k updates =
      map.same_map nat_cmp_total nat_cmp-IsAntisymmetric _ _ (λ q. updated table changed k None updates q ∙ sym (map.get-remove nat_cmp_total (map_of table) k q))

  -- what a look-up answers, of a table whose map is known
  pub found-map_of : (table : BTreeMap ℕ X) (value : map.FinMap nat_cmp X) (k : ℕ) (o : Option X) → map_of table ≡ value → o ≡ tree.get nat_cmp table k → map.get value k ≡ o
  found-map_of table value k o is at = ap (λ m. map.get m k) (sym is) ∙ get-map_of table k ∙ sym at

  -- what a look-up found, written back
  pub unwritten-map_of : (table changed : BTreeMap ℕ X) (k : ℕ) (old new : X) → Some old ≡ tree.get nat_cmp table k → new ≡ old → changed.entries ≡ set_value (is_at (nat_cmp k)) table.entries new → map_of changed ≡ map_of table
  unwritten-map_of table changed k old new at same written =
      same-map_of table changed (written ∙ set_value_same (is_at (nat_cmp k)) table.entries new (sym at ∙ ap Some (sym same)))

  -- entries in order are all counted
  rising_below : (x : ℕ) (es : List (ℕ × X)) → AllByRecursion (λ y. nat_cmp x y ≡ Less) (keys_of es) → IsSo (below_all nat_cmp x es)
  rising_below x [] h = tt
  rising_below x (e ∷ es) h = both _ _ (subst (λ r. IsSo (is_lt r)) (sym h.0) tt) (rising_below x es h.1)

  rising : (es : List (ℕ × X)) → IsStrictlySortedBy nat_cmp (keys_of es) → IsSo (is_sorted nat_cmp es)
  unfolding IsStrictlySortedBy
  rising [] h = tt
  rising (e ∷ es) h = both _ _ (rising_below e.0 es h.0) (rising es h.1)

  pub len-map_of : (table : BTreeMap ℕ X) → tree.IsOrdered nat_cmp table → map.len (map_of table) ≡ length table.entries
  len-map_of table ordered =
      let rises = rising table.entries ordered in
      let sorted : map_of table ≡ map.from_sorted table.entries = map.same_map nat_cmp_total nat_cmp-IsAntisymmetric _ _ (λ q. map.get-from_entries nat_cmp_total table.entries q ∙ sym (map.get-from_sorted nat_cmp table.entries q rises)) in
      ap map.len sorted ∙ map.len-entries (map.from_sorted {R = nat_cmp} table.entries) ∙ ap length (map.entries-from_sorted nat_cmp table.entries rises)
