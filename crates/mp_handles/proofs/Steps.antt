-- What the calls that change a table keep, and what they make of its map.
use Rattle.std.proofs.Common.{◌≡◌, ◌==◌, ℕ, ◌+◌, ◌≤◌, Bool, true, false, cond, length, [], Option, Some, None, IsSome, OnSome, is_some, refl, sym, ap, subst, ◌∙◌, arith}
use Rattle.std.specs.BTreeMap as tree
use Rattle.std.specs.BTreeMap.{is_at}
use Rattle.std.specs.FinMap as map
use Rattle.std.proofs.lemmas.Bool.Decides.{nat_tests}
use Rattle.std.proofs.lemmas.List.Sums.{sum_by-set}
use Rattle.slab.specs.Slab.{Slab, get, slab_len, Updates}
use Rattle.slab.specs.Slab as slab
use Rattle.slab.proofs.SlabLemmas.{ContainsKey-within, Updates-with_value}
use Rattle.mp_types.specs.HandleName.{HandleName, name_cmp, max_handles}
use Rattle.mp_handles.specs.Kept.{IsKept, map_in}
use Rattle.mp_handles.proofs.Names.{name_cmp_total, exact_names, same_name}
use Rattle.mp_handles.proofs.Views.{get_at, len-map_in}
use Rattle.mp_handles.proofs.Changes.{Changes, slots_apart, vacant_apart, kept_after, map_with, map_without}

module _ {T : Type 0} where
  pub none_live : (slots : Slab T) → map_in slots [] ≡ map.empty
  none_live slots = map.empty_of_len _ (map.len-entries _ ∙ ap length (map.entries-from_sorted name_cmp [] tt))

  pub remove_absent : (m : map.FinMap name_cmp T) (name : HandleName) → map.get m name ≡ None → map.remove m name ≡ m
  remove_absent m name absent = map.same_map name_cmp_total exact_names _ _ (λ q. map.get-remove name_cmp_total m name q ∙ by q (is_at (name_cmp q) name) refl)
    where
      by : (q : HandleName) (b : Bool) → is_at (name_cmp q) name ≡ b → cond b None (map.get m q) ≡ map.get m q
      by q true at = sym absent ∙ ap (map.get m) (sym (same_name q name at))
      by q false at = refl

  -- a name that isn't live has no slot
  no_slot : (slots : Slab T) (index : tree.BTreeMap HandleName ℕ) (value : map.FinMap name_cmp T) → IsKept slots index → map_in slots index.entries ≡ value → (name : HandleName) → is_some (map.get value name) ≡ false → tree.get name_cmp index name ≡ None
  no_slot slots index value k is name free = by (tree.get name_cmp index name) refl
    where
      by : (o : Option ℕ) → tree.get name_cmp index name ≡ o → o ≡ None
      by None at = refl
      by (Some s) at =
          let found : get slots s ≡ map.get value name = get_at slots index value k is name (Some s) (sym at) in
          let some : is_some (get slots s) ≡ true = k.filled name s at in
          absurd (cc)

  room_left : (slots : Slab T) (index : tree.BTreeMap HandleName ℕ) (value : map.FinMap name_cmp T) → IsKept slots index → map_in slots index.entries ≡ value → (map.len value == max_handles) ≡ false → length index.entries + 1 ≤ max_handles
  room_left slots index value k is not_full =
      let same : map.len value ≡ length index.entries = ap map.len (sym is) ∙ len-map_in slots index k in
      let other : (length index.entries == max_handles) ≡ false = ap (λ n. n == max_handles) (sym same) ∙ not_full in
      grind (arith, nat_tests, k.few)

  -- what a change leaves: a table that is kept, and its map
  pub record Left (slots : Slab T) (index : tree.BTreeMap HandleName ℕ) (value : map.FinMap name_cmp T) : Type 0 where
    pub kept : IsKept slots index
    pub shown : map_in slots index.entries ≡ value

  -- more room changes nothing else
  roomy : (slots more : Slab T) (index : tree.BTreeMap HandleName ℕ) (value : map.FinMap name_cmp T) → IsKept slots index → map_in slots index.entries ≡ value → more ≡ record slots { capacity = more.capacity } → Left more index value
  roomy slots more index value k is grown =
      let wider : Slab T = record slots { capacity = more.capacity } in
      let left : Left wider index value = record { kept = record { ordered = k.ordered; filled = k.filled; apart = k.apart; counted = k.counted; few = k.few }; shown = is } in
      subst (λ s. Left s index value) (sym grown) left

  -- a name is opened at a vacant slot
  opened_at : (slots slots' : Slab T) (index index' : tree.BTreeMap HandleName ℕ) (value : map.FinMap name_cmp T) → Left slots index value
      → (name : HandleName) (slot : ℕ) (new : T) → get slots slot ≡ None → length index.entries + 1 ≤ max_handles
      → tree.Updates name_cmp index index' name (Some slot) → tree.IsOrdered name_cmp index' → length index'.entries ≡ length index.entries + 1
      → Updates slots slots' slot (Some new) → slab_len slots' ≡ slab_len slots + 1
      → Left slots' index' (map.insert value name new)
  opened_at slots slots' index index' value left name slot new vacant room named ordered longer filled counted =
      let k : IsKept slots index = left.kept in
      let c : Changes slots slots' index index' name (Some slot) (Some new) = record {
        named = named.0;
        there = filled.changed;
        elsewhere = λ q s other at. filled.others s (vacant_apart slots index k slot vacant q s at);
      } in
      let kept : IsKept slots' index' = kept_after slots slots' index index' k name (Some slot) (Some new) c (λ s at. refl) (λ q s other at same. vacant_apart slots index k slot vacant q s at (cc)) ordered (omega (arith, k.counted)) (omega arith) in
      record { kept = kept; shown = map_with slots slots' index index' k name kept (Some slot) new c ∙ ap (λ m. map.insert m name new) left.shown }

  -- a name that isn't live is opened, once there is room
  pub opened : (slots more slots' : Slab T) (index index' : tree.BTreeMap HandleName ℕ) (value : map.FinMap name_cmp T) → IsKept slots index → map_in slots index.entries ≡ value
      → more ≡ record slots { capacity = more.capacity } → (name : HandleName) (slot key : ℕ) (new : T)
      → is_some (map.get value name) ≡ false → (map.len value == max_handles) ≡ false → get more slot ≡ None → slot ≡ more.vacant_key → key ≡ more.vacant_key
      → tree.Updates name_cmp index index' name (Some slot) → tree.IsOrdered name_cmp index' → (old : Option ℕ) → old ≡ tree.get name_cmp index name → length index'.entries ≡ length index.entries + cond (is_some old) 0 1
      → Updates more slots' key (Some new) → slab_len slots' ≡ slab_len more + 1
      → Left slots' index' (map.insert value name new)
  opened slots more slots' index index' value k is grown name slot key new free not_full vacant at_slot at_key named ordered old was longer filled counted =
      let none : old ≡ None = was ∙ no_slot slots index value k is name free in
      let one : cond (is_some old) 0 1 ≡ 1 = ap (λ (o : Option ℕ). cond (is_some o) 0 1) none in
      let filled_slot : Updates more slots' slot (Some new) = subst (λ s. Updates more slots' s (Some new)) (at_key ∙ sym at_slot) filled in
      opened_at more slots' index index' value (roomy slots more index value k is grown) name slot new vacant (room_left slots index value k is not_full) named ordered (longer ∙ ap (λ n. length index.entries + n) one) filled_slot counted

  -- a write empties no slot and fills no other
  as_many : (slots : Slab T) (slot : ℕ) (value : T) → IsSome (get slots slot) → slab_len (slab.with_value slots slot value) ≡ slab_len slots
  as_many slots slot value some =
      let weight : Option T → ℕ = λ o. cond (is_some o) 1 0 in
      let was : weight (get slots slot) ≡ 1 = ap (λ b. cond b 1 0) some in
      let counted : slab_len (slab.with_value slots slot value) + weight (get slots slot) ≡ slab_len slots + 1 = sum_by-set weight slots.slots slot (Some value) None (ContainsKey-within slots slot some) in
      omega arith

  -- a name's slot is written
  pub written : (slots : Slab T) (index : tree.BTreeMap HandleName ℕ) (value : map.FinMap name_cmp T) → IsKept slots index → map_in slots index.entries ≡ value
      → (name : HandleName) (slot : ℕ) (new : T) → Some slot ≡ tree.get name_cmp index name → Left (slab.with_value slots slot new) index (map.insert value name new)
  written slots index value k is name slot new found =
      let slots' : Slab T = slab.with_value slots slot new in
      let at : tree.get name_cmp index name ≡ Some slot = sym found in
      let some : IsSome (get slots slot) = k.filled name slot at in
      let filled : Updates slots slots' slot (Some new) = Updates-with_value slots slot new some in
      let c : Changes slots slots' index index name (Some slot) (Some new) = record {
        named = λ q. by q (is_at (name_cmp name) q) refl;
        there = filled.changed;
        elsewhere = λ q s other at_s. filled.others s (slots_apart slots index k name slot at q s other at_s);
      } in
      let kept : IsKept slots' index = kept_after slots slots' index index k name (Some slot) (Some new) c (λ s here. refl) (λ q s other at_s same. slots_apart slots index k name slot at q s other at_s (cc)) k.ordered (as_many slots slot new some ∙ k.counted) k.few in
      record { kept = kept; shown = map_with slots slots' index index k name kept (Some slot) new c ∙ ap (λ m. map.insert m name new) is }
    where
      by : (q : HandleName) (b : Bool) → is_at (name_cmp name) q ≡ b → tree.get name_cmp index q ≡ cond b (Some slot) (tree.get name_cmp index q)
      by q true here = ap (tree.get name_cmp index) (sym (same_name name q here)) ∙ sym found
      by q false here = refl

  stated : (o : Option T) (P : Type 0) → IsSome o → OnSome o P → P
  stated None P some p = absurd (cc)
  stated (Some v) P some p = p

  -- a name is closed
  pub closed : (slots slots' : Slab T) (index index' : tree.BTreeMap HandleName ℕ) (value : map.FinMap name_cmp T) → IsKept slots index → map_in slots index.entries ≡ value
      → (name : HandleName) (slot : ℕ) → Some slot ≡ tree.get name_cmp index name
      → tree.Updates name_cmp index index' name None → tree.IsOrdered name_cmp index' → length index'.entries + 1 ≡ length index.entries
      → (taken : Option T) → taken ≡ get slots slot → Updates slots slots' slot None → OnSome taken (slab_len slots' + 1 ≡ slab_len slots)
      → Left slots' index' (map.remove value name)
  closed slots slots' index index' value k is name slot found named ordered shorter taken took vacated counted =
      let at : tree.get name_cmp index name ≡ Some slot = sym found in
      let fewer : slab_len slots' + 1 ≡ slab_len slots = stated taken _ (ap is_some took ∙ k.filled name slot at) counted in
      let c : Changes slots slots' index index' name None None = record {
        named = named.0;
        there = refl;
        elsewhere = λ q s other at_s. vacated.others s (slots_apart slots index k name slot at q s other at_s);
      } in
      let kept : IsKept slots' index' = kept_after slots slots' index index' k name None None c (λ s no_slot. absurd (cc)) (λ q s other at_s no_slot. absurd (cc)) ordered (omega (arith, k.counted)) (omega (arith, k.few)) in
      record { kept = kept; shown = map_without slots slots' index index' k name kept None c ∙ ap (λ m. map.remove m name) is }
