-- How the items of a page are found, one after the other.
use Rattle.std.proofs.Common.{◌≡◌, ℕ, ◌<◌, ◌≤◌, Bool, true, false, cond, not, List, [], ◌∷◌, ◌++◌, map, length, take, Option, Some, None, option_map, refl, sym, ap, ◌∙◌, subst, filter, append_assoc, append-nil, arith, length-append, take_all, take_at, nat_cmp, nat_lt, is_lt, Less, lt-ltb, le-ltb, BTreeMap, drop, inl, inr}
use Rattle.std.specs.BTreeMap.{is_at}
use Rattle.std.specs.BTreeMap.Range.{entries_between, range_contains}
use Rattle.std.specs.Cmp.Lexicographic.{slice_cmp}
use Rattle.std.specs.FinMap.{find}
use Rattle.std.specs.List.{dedup, dedup_from, starts_with}
use Rattle.std.specs.List.Sorted.{IsStrictlySortedBy}
use Rattle.std.specs.List.{AllByRecursion}
use Rattle.std.specs.Map.{keys_of, lookup}
use Rattle.std.specs.Ordering.{eq_by_cmp}
use Rattle.std.proofs.lemmas.Bool.{and_parts}
use Rattle.std.specs.Prelude.{nat_eq}
use Rattle.std.specs.declared.ops.Bound.{Bound}
use Rattle.std.specs.declared.ops.Bound.TheVariants.{Excluded, Included, Unbounded}
use Rattle.mp_types.specs.Key.{IsKeyText}
use Rattle.mp_types.specs.Path.{slash}
use Rattle.bucket_model.specs.declared.history.Object.{Object}
use Rattle.bucket_model.specs.declared.page.Page.{Page}
use Rattle.bucket_model.specs.declared.page.PageItem.{PageItem}
use Rattle.bucket_model.specs.declared.page.PageItem.TheVariants as item
use Rattle.bucket_model.specs.Listing.{common_prefix, first_page, has_prefix, is_behind, is_same_item, item_of, items_under, page_of, text_of, up_to_slash}
use Rattle.mp_types.proofs.Prefixes.{begins_joined, drop_joined}
use Rattle.bucket_model.proofs.CommonPrefix.{at_or_behind, begins_between, common_is}
use Rattle.bucket_model.proofs.Listing.{Among, among_found, item_common, item_object, items_climb, items_rise, key_of, plain_items, rises_kept}
use Rattle.bucket_model.proofs.Order.{is_before, before_before, both_answers, false_unless, true_unless, not_both, upto_upto}
use Rattle.bucket_model.proofs.Rising.{AllBehind, IsUpward, Rises, behind_first, behind_once, behind_upward, first_passes}
use Rattle.mem_store.specs.Listed.{HaveKeyTexts, StandBehind}
use Rattle.mem_store.proofs.Ahead.{and_true, le_is, past_slash, stand_after, stand_past}
use Rattle.mem_store.proofs.First.{some_from}

-- ---- the objects of a map rise

less_before : (a b : List ℕ) → slice_cmp nat_cmp a b ≡ Less → is_before a b ≡ true
less_before a b less = ap is_lt less

all_less : (key : List ℕ) (objects : List (List ℕ × Object)) → AllByRecursion (λ y. slice_cmp nat_cmp key y ≡ Less) (keys_of objects) → AllBehind key_of key objects
all_less key [] all = tt
all_less key (entry ∷ objects) all = (less_before key entry.0 all.0, all_less key objects all.1)

pub map_rises : (objects : List (List ℕ × Object)) → IsStrictlySortedBy (slice_cmp nat_cmp) (keys_of objects) → Rises key_of objects
unfolding IsStrictlySortedBy
map_rises [] ordered = tt
map_rises (entry ∷ objects) ordered = (all_less entry.0 objects ordered.0, map_rises objects ordered.1)

-- ---- the entries give the items behind the text

swap_by : {X : Type 0} (first second : X → Bool) (x : X) (left kept : List X) (h r b : Bool) → first x ≡ h → second x ≡ b → (h ≡ true → r ≡ b) → filter first left ≡ filter second kept → filter first (cond r (x ∷ left) left) ≡ filter second (cond h (x ∷ kept) kept)
swap_by first second x left kept true true true at_h at_b same more = ap (λ c. cond c (x ∷ filter first left) (filter first left)) at_h ∙ ap (λ l. x ∷ l) more ∙ sym (ap (λ c. cond c (x ∷ filter second kept) (filter second kept)) at_b)
swap_by first second x left kept true true false at_h at_b same more = let wrong = same refl in absurd (cc)
swap_by first second x left kept true false true at_h at_b same more = let wrong = same refl in absurd (cc)
swap_by first second x left kept true false false at_h at_b same more = more ∙ sym (ap (λ c. cond c (x ∷ filter second kept) (filter second kept)) at_b)
swap_by first second x left kept false true b at_h at_b same more = ap (λ c. cond c (x ∷ filter first left) (filter first left)) at_h ∙ more
swap_by first second x left kept false false b at_h at_b same more = more

swap : {X : Type 0} (first test second : X → Bool) → ((x : X) → first x ≡ true → test x ≡ second x) → (xs : List X) → filter first (filter test xs) ≡ filter second (filter first xs)
swap first test second same [] = refl
swap first test second same (x ∷ xs) = swap_by first second x (filter test xs) (filter first xs) (first x) (test x) (second x) refl refl (same x) (swap first test second same xs)

mapped_by : {X Y : Type 0} (f : X → Y) (x : X) (left : List X) (kept : List Y) (b : Bool) → map f left ≡ kept → map f (cond b (x ∷ left) left) ≡ cond b (f x ∷ kept) kept
mapped_by f x left kept true more = ap (λ l. f x ∷ l) more
mapped_by f x left kept false more = more

mapped : {X Y : Type 0} (f : X → Y) (test : Y → Bool) (xs : List X) → map f (filter (λ x. test (f x)) xs) ≡ filter test (map f xs)
mapped f test [] = refl
mapped f test (x ∷ xs) = mapped_by f x (filter (λ y. test (f y)) xs) (filter test (map f xs)) (test (f x)) (mapped f test xs)

pub items_left : {prefix text : List ℕ} {objects : BTreeMap (List ℕ) Object} {entries : List (List ℕ × Object)} → StandBehind prefix text objects entries → items_under prefix entries ≡ filter (is_behind text) (items_under prefix objects.entries)
items_left {prefix} {text} {objects} {entries} stand =
    let have : List ℕ × Object → Bool = λ e. has_prefix prefix e.0 in
    ap (items_under prefix) stand.from
    ∙ ap (λ es. dedup is_same_item (map (item_of prefix) es)) (swap have (λ e. range_contains (slice_cmp nat_cmp) stand.bound Unbounded e.0) (λ e. is_behind text (item_of prefix e)) stand.decides objects.entries)
    ∙ ap (dedup is_same_item) (mapped (item_of prefix) (is_behind text) (filter have objects.entries))
    ∙ sym (behind_once text_of text (plain_items prefix objects.entries) (items_climb prefix objects.entries (map_rises objects.entries stand.ordered)))

-- ---- a page in the making

pub record IsListedTo (prefix after : List ℕ) (max : ℕ) (objects : BTreeMap (List ℕ) Object) (items : List PageItem) (entries : List (List ℕ × Object)) : Type 0 where
  pub text : List ℕ
  pub stand : StandBehind prefix text objects entries
  pub joined : items ++ filter (is_behind text) (items_under prefix objects.entries) ≡ filter (is_behind after) (items_under prefix objects.entries)
  pub few : length items ≤ max

pub listing_begins : (prefix after : List ℕ) (max : ℕ) (objects : BTreeMap (List ℕ) Object) (items : List PageItem) (entries : List (List ℕ × Object)) → items ≡ [] → StandBehind prefix after objects entries → IsListedTo prefix after max objects items entries
listing_begins prefix after max objects items entries none stand = record {
  text = after;
  stand = stand;
  joined = ap (λ l. l ++ filter (is_behind after) (items_under prefix objects.entries)) none;
  few = omega (arith, ap length none);
}

-- ---- its ends

whole : (max : ℕ) (items left : List PageItem) (page : Page) → left ≡ items → length items ≤ max → page ≡ record { items = items; more = false } → page ≡ first_page max left
whole max items left page is few page_is =
    let kept : items ≡ take max items = sym (take_all max items few) in
    let none : false ≡ nat_lt max (length items) = sym (le-ltb max (length items) few) in
    let same : record { items = items; more = false } ≡ first_page max items = λ i. record { items = kept i; more = none i } in
    page_is ∙ same ∙ ap (first_page max) (sym is)

none_left : {prefix after : List ℕ} {max : ℕ} {objects : BTreeMap (List ℕ) Object} {items : List PageItem} {entries : List (List ℕ × Object)} (page : Page) → IsListedTo prefix after max objects items entries → items_under prefix entries ≡ []
    → page ≡ record { items = items; more = false } → page ≡ page_of prefix after max objects.entries
none_left {prefix} {after} {max} {objects} {items} {entries} page listed none page_is =
    let left = filter (is_behind after) (items_under prefix objects.entries) in
    let is : left ≡ items = sym listed.joined ∙ ap (λ l. items ++ l) (sym (items_left listed.stand) ∙ none) ∙ append-nil items in
    whole max items left page is listed.few page_is

pub listing_ends : {prefix after : List ℕ} {max : ℕ} {objects : BTreeMap (List ℕ) Object} {items : List PageItem} {entries : List (List ℕ × Object)} (page : Page) → IsListedTo prefix after max objects items entries → entries ≡ []
    → page ≡ record { items = items; more = false } → page ≡ page_of prefix after max objects.entries
listing_ends {prefix} page listed none page_is = none_left page listed (ap (items_under prefix) none) page_is

-- the first entry, and what is behind it
entries_rise : {prefix text : List ℕ} {objects : BTreeMap (List ℕ) Object} {entries : List (List ℕ × Object)} → StandBehind prefix text objects entries → Rises key_of entries
entries_rise {objects = objects} stand =
    let P : List (List ℕ × Object) → Type 0 = λ es. Rises key_of es in
    subst P (sym stand.from) (rises_kept key_of (λ e. range_contains (slice_cmp nat_cmp) stand.bound Unbounded e.0) objects.entries (map_rises objects.entries stand.ordered))

none_have_by : (prefix : List ℕ) (entry : List ℕ × Object) (rest : List (List ℕ × Object)) (b : Bool) → b ≡ false → rest ≡ [] → cond b (entry ∷ rest) rest ≡ []
none_have_by prefix entry rest true at none = absurd (cc)
none_have_by prefix entry rest false at none = none

none_have : (prefix key : List ℕ) (rest : List (List ℕ × Object)) → has_prefix prefix key ≡ false → is_before key prefix ≡ false → AllBehind key_of key rest → filter (λ e. has_prefix prefix e.0) rest ≡ []
none_have prefix key [] lacks low all = refl
none_have prefix key (entry ∷ rest) lacks low all =
    none_have_by prefix entry (filter (λ e. has_prefix prefix e.0) rest) (has_prefix prefix entry.0)
    (false_unless _ (λ wrong. both_answers (has_prefix prefix key) (begins_between prefix key entry.0 wrong low (not_both key entry.0 all.0)) lacks)) (none_have prefix key rest lacks low all.1)

pub listing_stops : {prefix after : List ℕ} {max : ℕ} {objects : BTreeMap (List ℕ) Object} {items : List PageItem} {entries : List (List ℕ × Object)} (key : List ℕ) (object : Object) (rest : List (List ℕ × Object)) (page : Page)
    → IsListedTo prefix after max objects items entries → entries ≡ (key, object) ∷ rest → has_prefix prefix key ≡ false → page ≡ record { items = items; more = false } → page ≡ page_of prefix after max objects.entries
listing_stops {prefix} {after} {max} {objects} {items} {entries} key object rest page listed is lacks page_is =
    let P : List (List ℕ × Object) → Type 0 = λ es. Rises key_of es in
    let rises = subst P is (entries_rise listed.stand) in
    let passes = first_passes (λ e. range_contains (slice_cmp nat_cmp) listed.stand.bound Unbounded e.0) objects.entries (key, object) rest (sym listed.stand.from ∙ is) in
    let none = none_have_by prefix (key, object) _ (has_prefix prefix key) lacks (none_have prefix key rest lacks (listed.stand.low key passes) rises.0) in
    none_left page listed (ap (items_under prefix) is ∙ ap (λ es. dedup is_same_item (map (item_of prefix) es)) none) page_is

-- the first item
once_by : (k x : PageItem) (items : List PageItem) (b : Bool) → (tail : List PageItem) × (dedup_from is_same_item k items ≡ k ∷ tail) → (tail : List PageItem) × (cond b (dedup_from is_same_item k items) (k ∷ dedup_from is_same_item x items) ≡ k ∷ tail)
once_by k x items true more = more
once_by k x items false more = (dedup_from is_same_item x items, refl)

once_first : (k : PageItem) (items : List PageItem) → (tail : List PageItem) × (dedup_from is_same_item k items ≡ k ∷ tail)
once_first k [] = ([], refl)
once_first k (x ∷ items) = once_by k x items (is_same_item x k) (once_first k items)

taken_by : {X : Type 0} (x : X) (xs : List X) (b : Bool) → b ≡ true → cond b (x ∷ xs) xs ≡ x ∷ xs
taken_by x xs true at = refl
taken_by x xs false at = absurd (cc)

first_item : (prefix : List ℕ) (entry : List ℕ × Object) (rest : List (List ℕ × Object)) → has_prefix prefix entry.0 ≡ true → (tail : List PageItem) × (items_under prefix (entry ∷ rest) ≡ item_of prefix entry ∷ tail)
first_item prefix entry rest has =
    let once = once_first (item_of prefix entry) (plain_items prefix rest) in
    (once.0, ap (λ es. dedup is_same_item (map (item_of prefix) es)) (taken_by entry (filter (λ e. has_prefix prefix e.0) rest) (has_prefix prefix entry.0) has) ∙ once.1)

full : (max : ℕ) (items tail left : List PageItem) (x : PageItem) (page : Page) → left ≡ items ++ x ∷ tail → length items ≡ max → page ≡ record { items = items; more = true } → page ≡ first_page max left
full max items tail left x page is count page_is =
    let kept : items ≡ take max (items ++ x ∷ tail) = sym (take_at items (x ∷ tail) max count) in
    let some : true ≡ nat_lt max (length (items ++ x ∷ tail)) = sym (lt-ltb max _ (omega (arith, count, length-append items (x ∷ tail)))) in
    let same : record { items = items; more = true } ≡ first_page max (items ++ x ∷ tail) = λ i. record { items = kept i; more = some i } in
    page_is ∙ same ∙ ap (first_page max) (sym is)

pub listing_is_full : {prefix after : List ℕ} {max : ℕ} {objects : BTreeMap (List ℕ) Object} {items : List PageItem} {entries : List (List ℕ × Object)} (key : List ℕ) (object : Object) (rest : List (List ℕ × Object)) (page : Page)
    → IsListedTo prefix after max objects items entries → entries ≡ (key, object) ∷ rest → has_prefix prefix key ≡ true → length items ≡ max → page ≡ record { items = items; more = true } → page ≡ page_of prefix after max objects.entries
listing_is_full {prefix} {after} {max} {objects} {items} {entries} key object rest page listed is has count page_is =
    let first = first_item prefix (key, object) rest has in
    let left = filter (is_behind after) (items_under prefix objects.entries) in
    full max items first.0 left (item_of prefix (key, object)) page (sym listed.joined ∙ ap (λ l. items ++ l) (sym (items_left listed.stand) ∙ ap (items_under prefix) is ∙ first.1)) count page_is

-- ---- one more item

joins : (prefix text after : List ℕ) (objects : BTreeMap (List ℕ) Object) (items : List PageItem) (entries rest : List (List ℕ × Object)) (entry : List ℕ × Object) → StandBehind prefix text objects entries
    → items ++ filter (is_behind text) (items_under prefix objects.entries) ≡ filter (is_behind after) (items_under prefix objects.entries) → entries ≡ entry ∷ rest → has_prefix prefix entry.0 ≡ true
    → (items ++ item_of prefix entry ∷ []) ++ filter (is_behind (text_of (item_of prefix entry))) (items_under prefix objects.entries) ≡ filter (is_behind after) (items_under prefix objects.entries)
joins prefix text after objects items entries rest entry stand joined is has =
    let all = items_under prefix objects.entries in
    let first = first_item prefix entry rest has in
    let here : filter (is_behind text) all ≡ item_of prefix entry ∷ first.0 = sym (items_left stand) ∙ ap (items_under prefix) is ∙ first.1 in
    let tail = behind_first text_of (λ t. is_before text t) all (item_of prefix entry) first.0 (behind_upward text_of text) (items_rise prefix objects.entries (map_rises objects.entries stand.ordered)) here in
    append_assoc items (item_of prefix entry ∷ []) _ ∙ ap (λ l. items ++ item_of prefix entry ∷ l) tail ∙ ap (λ l. items ++ l) (sym here) ∙ joined

flip : (b : Bool) → b ≡ false → not b ≡ true
flip true h = absurd (cc)
flip false h = refl

unflip : (b : Bool) → not b ≡ true → b ≡ false
unflip true h = absurd (cc)
unflip false h = refl

upward_by : (bound : Bound (List ℕ)) → IsUpward (λ key. range_contains (slice_cmp nat_cmp) bound Unbounded key)
upward_by (Included start) a b less passes = and_true _ ∙ le_is start b ∙ past_not start a b less (sym (le_is start a) ∙ sym (and_true _) ∙ passes)
  where
    past_not : (start a b : List ℕ) → is_before a b ≡ true → not (is_before a start) ≡ true → not (is_before b start) ≡ true
    past_not start a b less passes = flip (is_before b start) (upto_upto start a b (unflip (is_before a start) passes) (not_both a b less))
upward_by (Excluded start) a b less passes = and_true _ ∙ before_before start a b (sym (and_true _) ∙ passes) less
upward_by Unbounded a b less passes = refl

rest_from : {prefix text : List ℕ} {objects : BTreeMap (List ℕ) Object} {entries : List (List ℕ × Object)} (key : List ℕ) (object : Object) (rest : List (List ℕ × Object)) → StandBehind prefix text objects entries → entries ≡ (key, object) ∷ rest
    → rest ≡ entries_between (slice_cmp nat_cmp) (Excluded key) Unbounded objects.entries
rest_from {objects = objects} key object rest stand is =
    let behind_key = behind_first key_of (λ k. range_contains (slice_cmp nat_cmp) stand.bound Unbounded k) objects.entries (key, object) rest (upward_by stand.bound) (map_rises objects.entries stand.ordered) (sym stand.from ∙ is) in
    sym behind_key ∙ (λ i. filter (λ (e : List ℕ × Object). sym (and_true (is_before key e.0)) i) objects.entries)

-- what a key shares, by what stands behind the prefix
pub has_front : (prefix key rest : List ℕ) → key ≡ prefix ++ rest → has_prefix prefix key ≡ true
has_front prefix key rest is = ap (has_prefix prefix) is ∙ begins_joined prefix rest

pub common_front : (prefix key rest : List ℕ) (o : Option (List ℕ)) → key ≡ prefix ++ rest → up_to_slash rest ≡ o → common_prefix prefix key ≡ option_map (λ front. prefix ++ front) o
common_front prefix key rest o is at = ap (λ k. option_map (λ front. prefix ++ front) (up_to_slash (drop (length prefix) k))) is ∙ ap (λ k. option_map (λ front. prefix ++ front) (up_to_slash k)) (drop_joined prefix rest) ∙ ap (option_map (λ front. prefix ++ front)) at

pub object_listed : {prefix after : List ℕ} {max : ℕ} {objects : BTreeMap (List ℕ) Object} {items : List PageItem} {entries : List (List ℕ × Object)} (key behind : List ℕ) (object : Object) (rest : List (List ℕ × Object)) (more : List PageItem) (x : PageItem)
    → IsListedTo prefix after max objects items entries → entries ≡ (key, object) ∷ rest → key ≡ prefix ++ behind → up_to_slash behind ≡ None → (length items ≡ max → ⊥) → x ≡ item.Object key object.etag (length object.bytes) → more ≡ items ++ x ∷ []
    → IsListedTo prefix after max objects more rest
object_listed {prefix} {after} {max} {objects} {items} {entries} key behind object rest more x listed is key_is none room x_is more_is =
    let has = has_front prefix key behind key_is in
    let plain = common_front prefix key behind None key_is none in
    let here : item_of prefix (key, object) ≡ item.Object key object.etag (length object.bytes) = item_object prefix (key, object) plain in
    let now : more ≡ items ++ item_of prefix (key, object) ∷ [] = more_is ∙ ap (λ y. items ++ y ∷ []) (x_is ∙ sym here) in
    record {
      text = key;
      stand = stand_after prefix key objects rest (at_or_behind prefix key has) (λ _. plain) (rest_from key object rest listed.stand is) listed.stand.ordered;
      joined =
          ap (λ l. l ++ filter (is_behind key) (items_under prefix objects.entries)) now
          ∙ ap (λ y. (items ++ item_of prefix (key, object) ∷ []) ++ filter (is_behind (text_of y)) (items_under prefix objects.entries)) (sym here)
          ∙ joins prefix listed.text after objects items entries rest (key, object) listed.stand listed.joined is has;
      few = omega (arith, listed.few, room, ap length more_is, length-append items (x ∷ []));
    }

pub prefix_listed : {prefix after : List ℕ} {max : ℕ} {objects : BTreeMap (List ℕ) Object} {items : List PageItem} {entries : List (List ℕ × Object)} (key behind name common : List ℕ) (object : Object) (rest past : List (List ℕ × Object)) (more : List PageItem)
    → IsListedTo prefix after max objects items entries → entries ≡ (key, object) ∷ rest → key ≡ prefix ++ behind → up_to_slash behind ≡ Some (name ++ slash ∷ []) → (length items ≡ max → ⊥) → common ≡ prefix ++ (name ++ slash ∷ [])
    → past ≡ entries_between (slice_cmp nat_cmp) (Included (prefix ++ (name ++ 48 ∷ []))) Unbounded objects.entries → more ≡ items ++ item.Prefix common ∷ [] → IsListedTo prefix after max objects more past
prefix_listed {prefix} {after} {max} {objects} {items} {entries} key behind name common object rest past more listed is key_is at room common_is_it past_is more_is =
    let has = has_front prefix key behind key_is in
    let shared : common_prefix prefix key ≡ Some common = common_front prefix key behind (Some (name ++ slash ∷ [])) key_is at ∙ ap Some (sym common_is_it) in
    let facts = common_is prefix key common shared in
    let itself = facts.again common (ap (λ t. starts_with nat_eq t common) (sym (append-nil common)) ∙ begins_joined common []) in
    let here : item_of prefix (key, object) ≡ item.Prefix common = item_common prefix (key, object) common shared in
    let now : more ≡ items ++ item_of prefix (key, object) ∷ [] = more_is ∙ ap (λ y. items ++ y ∷ []) (sym here) in
    record {
      text = common;
      stand = stand_past prefix common common (prefix ++ name) objects past (common_is_it ∙ sym (append_assoc prefix name (slash ∷ []))) itself.0 itself.1
          (past_is ∙ ap (λ t. entries_between (slice_cmp nat_cmp) (Included t) Unbounded objects.entries) (sym (append_assoc prefix name (48 ∷ [])))) listed.stand.ordered;
      joined =
          ap (λ l. l ++ filter (is_behind common) (items_under prefix objects.entries)) now
          ∙ ap (λ y. (items ++ item_of prefix (key, object) ∷ []) ++ filter (is_behind (text_of y)) (items_under prefix objects.entries)) (sym here)
          ∙ joins prefix listed.text after objects items entries rest (key, object) listed.stand listed.joined is has;
      few = omega (arith, listed.few, room, ap length more_is, length-append items (item.Prefix common ∷ []));
    }

-- ---- keys are as long as keys may be

pub found_same : (key : List ℕ) (objects : List (List ℕ × Object)) → lookup (is_at (slice_cmp nat_cmp key)) objects ≡ find (slice_cmp nat_cmp) key objects
found_same key [] = refl
found_same key (entry ∷ objects) = ap (λ o. cond (eq_by_cmp (slice_cmp nat_cmp) key entry.0) (Some entry.1) o) (found_same key objects)

first_among_by : {X : Type 0} (x first : X) (xs left rest : List X) (b : Bool) → cond b (x ∷ left) left ≡ first ∷ rest → (left ≡ first ∷ rest → Among first xs) → Among first (x ∷ xs)
first_among_by x first xs left rest true is more = inl (cc)
first_among_by x first xs left rest false is more = inr (more is)

first_among : {X : Type 0} (test : X → Bool) (xs : List X) (first : X) (rest : List X) → filter test xs ≡ first ∷ rest → Among first xs
first_among test [] first rest is = absurd (cc)
first_among test (x ∷ xs) first rest is = first_among_by x first xs (filter test xs) rest (test x) is (first_among test xs first rest)

pub key_fits : {prefix after : List ℕ} {max : ℕ} {objects : BTreeMap (List ℕ) Object} {items : List PageItem} {entries : List (List ℕ × Object)} (key : List ℕ) (object : Object) (rest : List (List ℕ × Object))
    → IsListedTo prefix after max objects items entries → entries ≡ (key, object) ∷ rest → HaveKeyTexts objects → IsKeyText key
key_fits {objects = objects} key object rest listed is fit =
    let among = first_among (λ e. range_contains (slice_cmp nat_cmp) listed.stand.bound Unbounded e.0) objects.entries (key, object) rest (sym listed.stand.from ∙ is) in
    fit key (some_from _ object (found_same key objects.entries ∙ among_found key object objects.entries (map_rises objects.entries listed.stand.ordered) among))

-- ---- what is passed at once is behind the entry

fewer_by : {X : Type 0} (x : X) (left kept : List X) (b c : Bool) → (b ≡ true → c ≡ true) → length left ≤ length kept → length (cond b (x ∷ left) left) ≤ length (cond c (x ∷ kept) kept)
fewer_by x left kept true true follows more = omega (arith, more)
fewer_by x left kept true false follows more = let wrong = follows refl in absurd (cc)
fewer_by x left kept false true follows more = omega (arith, more)
fewer_by x left kept false false follows more = more

fewer : {X : Type 0} (test other : X → Bool) (xs : List X) → ((x : X) → test x ≡ true → other x ≡ true) → length (filter test xs) ≤ length (filter other xs)
fewer test other [] follows = omega arith
fewer test other (x ∷ xs) follows = fewer_by x (filter test xs) (filter other xs) (test x) (other x) (follows x) (fewer test other xs follows)

pub passes_some : {prefix after : List ℕ} {max : ℕ} {objects : BTreeMap (List ℕ) Object} {items : List PageItem} {entries : List (List ℕ × Object)} (key behind name : List ℕ) (object : Object) (rest past : List (List ℕ × Object))
    → IsListedTo prefix after max objects items entries → entries ≡ (key, object) ∷ rest → key ≡ prefix ++ behind → up_to_slash behind ≡ Some (name ++ slash ∷ [])
    → past ≡ entries_between (slice_cmp nat_cmp) (Included (prefix ++ (name ++ 48 ∷ []))) Unbounded objects.entries → length past < length entries
passes_some {prefix} {objects = objects} {entries = entries} key behind name object rest past listed is key_is at past_is =
    let front = prefix ++ name in
    let common = front ++ slash ∷ [] in
    let shared : common_prefix prefix key ≡ Some common = common_front prefix key behind (Some (name ++ slash ∷ [])) key_is at ∙ ap Some (sym (append_assoc prefix name (slash ∷ []))) in
    let begins = (common_is prefix key common shared).begins (has_front prefix key behind key_is) in
    let follows : (e : List ℕ × Object) → range_contains (slice_cmp nat_cmp) (Included (front ++ 48 ∷ [])) Unbounded e.0 ≡ true → range_contains (slice_cmp nat_cmp) (Excluded key) Unbounded e.0 ≡ true =
    λ e inside.
    let parts = and_parts (is_before common e.0) (not (starts_with nat_eq e.0 common)) (sym (past_slash front e.0) ∙ sym (and_true _) ∙ inside) in
    and_true _ ∙ true_unless _ (λ wrong. both_answers _ (begins_between common e.0 key begins (not_both common e.0 parts.0) wrong) (unflip _ parts.1)) in
    let few = fewer (λ (e : List ℕ × Object). range_contains (slice_cmp nat_cmp) (Included (front ++ 48 ∷ [])) Unbounded e.0) (λ e. range_contains (slice_cmp nat_cmp) (Excluded key) Unbounded e.0) objects.entries follows in
    let left = ap length (rest_from key object rest listed.stand is) in
    let passed = ap length (past_is ∙ ap (λ t. entries_between (slice_cmp nat_cmp) (Included t) Unbounded objects.entries) (sym (append_assoc prefix name (48 ∷ [])))) in
    omega (arith, few, left, passed, ap length is)
