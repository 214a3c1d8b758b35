-- What the items of a bucket's keys show at one name.
use Rattle.std.proofs.Common.{◌≡◌, ℕ, ◌-◌, Bool, true, false, true≢false, cond, ◌&&◌, ◌⊎◌, inl, inr, List, [], ◌∷◌, ◌++◌, length, take, drop, fold, Option, Some, None, is_some, option_map, refl, sym, ap, ◌∙◌, subst, append_assoc}
use Rattle.std.proofs.lemmas.Bool.{and_from, and_parts}
use Rattle.std.proofs.lemmas.Cmp.{tied_itself}
use Rattle.std.specs.FinMap as map
use Rattle.std.specs.FinMap.{get-entries}
use Rattle.std.specs.List.{ends_with, starts_with}
use Rattle.std.specs.Ordering.{is_eq}
use Rattle.std.specs.Prelude.{nat_eq, unwrap_or}
use Rattle.mp_types.specs.Path.{is_valid_name, slash}
use Rattle.bucket_model.specs.declared.history.Object.{Object}
use Rattle.bucket_model.specs.declared.page.PageItem.{PageItem}
use Rattle.bucket_model.specs.declared.page.PageItem.TheVariants as item
use Rattle.bucket_model.specs.Bucket.{BucketState, HasBelow, object_at}
use Rattle.bucket_model.specs.Listing.{common_prefix, has_prefix, item_of, items_under, text_of, up_to_slash}
use Rattle.bucket_model.proofs.CommonPrefix.{common_is}
use Rattle.bucket_model.proofs.Listing.{Among, IsOf, among, among_found, contains, entries_of, item_common, item_is_of_object, item_object, item_stands, objects_rise}
use Rattle.mp_rules.specs.declared.entry.Local.{Local}
use Rattle.mp_rules.specs.declared.entry.Local.TheVariants as local
use Rattle.mp_rules.specs.Local.{LocalNames, local_at}
use Rattle.mp_rules.specs.Names.{name_cmp}
use Rattle.listing_rules.specs.declared.listed.Listed.{Listed}
use Rattle.listing_rules.specs.declared.listed.Listed.TheVariants.{Dir, Remote, Writing}
use Rattle.listing_rules.specs.Names.{Names, names_in, remote_names, rest_of, shown, with_entry, with_item}
use Rattle.mp_types.proofs.Prefixes.{begins_joined, drop_joined, split_at}
use Rattle.listing_rules.proofs.Fronts.{ends_joined, ends_split, front_joined, up_to_name, up_to_none, valid_bytes}
use Rattle.mp_rules.proofs.Order.{total}
use Rattle.listing_rules.proofs.Owns.{get-with_all_own, get-with_no_own}
use Rattle.listing_rules.proofs.Shows.{get-with_entry, is_same, over, over_local, same_name}

abbrev front_of : List ℕ → List ℕ
front_of rest = take (length rest - 1) rest

abbrev ends_so : List ℕ → Bool
ends_so rest = ends_with nat_eq rest (slash ∷ [])

abbrev listed_by : PageItem → Listed
listed_by (item.Object key etag size) = Remote size
listed_by (item.Prefix text) = Dir

either_same : {A : Type 0} (b : Bool) (x : A) → cond b x x ≡ x
either_same true x = refl
either_same false x = refl

over_dir : (o : Option Listed) → over o Dir ≡ Some Dir
over_dir None = refl
over_dir (Some Dir) = refl
over_dir (Some (Remote size)) = refl
over_dir (Some (Writing size)) = refl

-- items told in turn, by whether each shows this name

module _ (hit : PageItem → Bool) where
  abbrev step : Option Listed → PageItem → Option Listed
  step o x = cond (hit x) (over o (listed_by x)) o

  dir_stays : (items : List PageItem) → fold step (Some Dir) items ≡ Some Dir
  dir_stays [] = refl
  dir_stays (x ∷ items) = ap (λ (o : Option Listed). fold step o items) (either_same (hit x) (Some Dir)) ∙ dir_stays items

  -- a directory among them shows
  dir_shows : (x : PageItem) (items : List PageItem) → Among x items → hit x ≡ true → listed_by x ≡ Dir → (o : Option Listed) → fold step o items ≡ Some Dir
  dir_shows x [] among hits is o = absurd among
  dir_shows x (y ∷ items) (inl same) hits is o =
      ap (λ (p : Option Listed). fold step p items) (ap (step o) same ∙ ap (λ (b : Bool). cond b (over o (listed_by x)) o) hits ∙ ap (over o) is ∙ over_dir o) ∙ dir_stays items
  dir_shows x (y ∷ items) (inr later) hits is o = dir_shows x items later hits is (step o y)

  -- or nothing does
  none_shows : (items : List PageItem) → ((x : PageItem) → Among x items → hit x ≡ false) → (o : Option Listed) → fold step o items ≡ o
  none_shows [] none o = refl
  none_shows (x ∷ items) none o = ap (λ (b : Bool). fold step (cond b (over o (listed_by x)) o) items) (none x (inl refl)) ∙ none_shows items (λ y later. none y (inr later)) o

  -- or files of one size
  module _ (size : ℕ) where
    file_stays : (items : List PageItem) → ((x : PageItem) → Among x items → hit x ≡ true → listed_by x ≡ Remote size) → fold step (Some (Remote size)) items ≡ Some (Remote size)
    file_stays [] files = refl
    file_stays (x ∷ items) files = ap (λ (o : Option Listed). fold step o items) (by_hit (hit x) refl) ∙ file_stays items (λ y later. files y (inr later))
      where
        by_hit : (b : Bool) → hit x ≡ b → cond b (over (Some (Remote size)) (listed_by x)) (Some (Remote size)) ≡ Some (Remote size)
        by_hit true hits = ap (over (Some (Remote size))) (files x (inl refl) hits)
        by_hit false hits = refl

    file_shows : (x : PageItem) (items : List PageItem) → Among x items → hit x ≡ true → ((y : PageItem) → Among y items → hit y ≡ true → listed_by y ≡ Remote size) → fold step None items ≡ Some (Remote size)
    file_shows x [] among hits files = absurd among
    file_shows x (y ∷ items) among hits files = by_hit (hit y) refl among (λ later. file_shows x items later hits (λ z after. files z (inr after)))
      where
        by_hit : (b : Bool) → hit y ≡ b → (y ≡ x) ⊎ Among x items → (Among x items → fold step None items ≡ Some (Remote size)) → fold step (cond b (Some (listed_by y)) None) items ≡ Some (Remote size)
        by_hit true here among rest = ap (λ (l : Listed). fold step (Some l) items) (files y (inl refl) here) ∙ file_stays items (λ z later. files z (inr later))
        by_hit false here (inl same) rest = absurd (true≢false (sym hits ∙ ap hit (sym same) ∙ here))
        by_hit false here (inr later) rest = rest later

module _ (prefix q : List ℕ) (valid : is_valid_name q ≡ true) where
  abbrev hit : PageItem → Bool
  hit (item.Object key etag size) = has_prefix prefix key && is_same q (rest_of prefix key)
  hit (item.Prefix text) = has_prefix prefix text && (ends_so (rest_of prefix text) && is_same q (front_of (rest_of prefix text)))

  itself : is_same q q ≡ true
  itself = ap is_eq (tied_itself total q)

  entry_at : (name : List ℕ) (listed : Listed) (names : Names) → map.get (with_entry name listed names) q ≡ cond (is_same q name) (over (map.get names q) listed) (map.get names q)
  entry_at name listed names = get-with_entry name listed names q ∙ by_same (is_same q name) refl (is_valid_name name) refl
    where
      by_same : (e : Bool) → is_same q name ≡ e → (v : Bool) → is_valid_name name ≡ v → cond (v && e) (over (map.get names q) listed) (map.get names q) ≡ cond e (over (map.get names q) listed) (map.get names q)
      by_same e same true is = refl
      by_same false same false is = refl
      by_same true same false is = absurd (true≢false (sym valid ∙ ap is_valid_name (same_name q name same) ∙ is))

  item_at : (names : Names) (x : PageItem) → map.get (with_item prefix names x) q ≡ step hit (map.get names q) x
  item_at names (item.Object key etag size) = by_prefix (has_prefix prefix key)
    where
      by_prefix : (b : Bool) → map.get (cond b (with_entry (rest_of prefix key) (Remote size) names) names) q ≡ cond (b && is_same q (rest_of prefix key)) (over (map.get names q) (Remote size)) (map.get names q)
      by_prefix true = entry_at (rest_of prefix key) (Remote size) names
      by_prefix false = refl
  item_at names (item.Prefix text) = by_prefix (has_prefix prefix text) (ends_so (rest_of prefix text))
    where
      by_prefix : (b e : Bool) → map.get (cond b (cond e (with_entry (front_of (rest_of prefix text)) Dir names) names) names) q ≡ cond (b && (e && is_same q (front_of (rest_of prefix text)))) (over (map.get names q) Dir) (map.get names q)
      by_prefix true true = entry_at (front_of (rest_of prefix text)) Dir names
      by_prefix true false = refl
      by_prefix false e = refl

  items_at : (names : Names) (items : List PageItem) → map.get (fold (with_item prefix) names items) q ≡ fold (step hit) (map.get names q) items
  items_at names [] = refl
  items_at names (x ∷ items) = items_at (with_item prefix names x) items ∙ ap (λ (o : Option Listed). fold (step hit) o items) (item_at names x)

  dir_hits : hit (item.Prefix (prefix ++ (q ++ slash ∷ []))) ≡ true
  dir_hits =
      and_from (has_prefix prefix (prefix ++ (q ++ slash ∷ []))) _ (begins_joined prefix (q ++ slash ∷ []))
      (ap (λ (rest : List ℕ). ends_so rest && is_same q (front_of rest)) (drop_joined prefix (q ++ slash ∷ [])) ∙ and_from (ends_so (q ++ slash ∷ [])) _ (ends_joined q) (ap (is_same q) (front_joined q) ∙ itself))

  object_hits : (etag : List ℕ) (size : ℕ) → hit (item.Object (prefix ++ q) etag size) ≡ true
  object_hits etag size = and_from (has_prefix prefix (prefix ++ q)) _ (begins_joined prefix q) (ap (is_same q) (drop_joined prefix q) ∙ itself)

  -- the items of the keys at the name and below it

  item_below : (more : List ℕ) (object : Object) → item_of prefix (prefix ++ (q ++ slash ∷ more), object) ≡ item.Prefix (prefix ++ (q ++ slash ∷ []))
  item_below more object = item_common prefix (prefix ++ (q ++ slash ∷ more), object) (prefix ++ (q ++ slash ∷ []))
      (ap (option_map (λ front. prefix ++ front)) (ap up_to_slash (drop_joined prefix (q ++ slash ∷ more)) ∙ up_to_name q more (valid_bytes q valid)))

  item_itself : (object : Object) → item_of prefix (prefix ++ q, object) ≡ item.Object (prefix ++ q) object.etag (length object.bytes)
  item_itself object = item_object prefix (prefix ++ q, object) (ap (option_map (λ front. prefix ++ front)) (ap up_to_slash (drop_joined prefix q) ∙ up_to_none q (valid_bytes q valid)))

  module _ (state : BucketState) where
    abbrev items : List PageItem
    items = items_under prefix (entries_of state)

    stands : (key : List ℕ) (object : Object) → object_at state key ≡ Some object → has_prefix prefix key ≡ true → Among (item_of prefix (key, object)) items
    stands key object is has = among _ items (item_stands prefix key object (entries_of state) (objects_rise state) (sym (get-entries state.objects key) ∙ is) has)

    of_object : (x : PageItem) → Among x items → IsOf prefix x (entries_of state)
    of_object x inside = item_is_of_object prefix x (entries_of state) (contains x items inside)

    object_of : (x : PageItem) (of : IsOf prefix x (entries_of state)) → object_at state of.key ≡ Some of.object
    object_of x of = get-entries state.objects of.key ∙ among_found of.key of.object (entries_of state) (objects_rise state) of.stands

    -- a directory shows where a key lies below

    some_object : (o : Option Object) → is_some o ≡ true → (object : Object) × (o ≡ Some object)
    some_object None some = absurd (cc)
    some_object (Some object) some = (object, refl)

    below_shows : HasBelow state (prefix ++ q) → (o : Option Listed) → fold (step hit) o items ≡ Some Dir
    below_shows below =
        let found = some_object (object_at state below.key) below.stands in
        let more : List ℕ = drop (length ((prefix ++ q) ++ slash ∷ [])) below.key in
        let split : below.key ≡ prefix ++ (q ++ slash ∷ more) = split_at ((prefix ++ q) ++ slash ∷ []) below.key below.below ∙ append_assoc (prefix ++ q) (slash ∷ []) more ∙ append_assoc prefix q (slash ∷ more) in
        let has : has_prefix prefix below.key ≡ true = ap (has_prefix prefix) split ∙ begins_joined prefix (q ++ slash ∷ more) in
        let is : item_of prefix (below.key, found.0) ≡ item.Prefix (prefix ++ (q ++ slash ∷ [])) = ap (λ (key : List ℕ). item_of prefix (key, found.0)) split ∙ item_below more found.0 in
        dir_shows hit (item_of prefix (below.key, found.0)) items (stands below.key found.0 found.1 has) (ap hit is ∙ dir_hits) (ap listed_by is)

    abbrev is_prefix : PageItem → Bool
    is_prefix (item.Object key etag size) = false
    is_prefix (item.Prefix text) = true

    dir_below : (text : List ℕ) → Among (item.Prefix text) items → hit (item.Prefix text) ≡ true → HasBelow state (prefix ++ q)
    dir_below text inside hits =
        let of = of_object (item.Prefix text) inside in
        let has = and_parts (has_prefix prefix text) _ hits in
        let ends = and_parts (ends_so (rest_of prefix text)) _ has.1 in
        let same : front_of (rest_of prefix text) ≡ q = sym (same_name q (front_of (rest_of prefix text)) ends.1) in
        let split : text ≡ (prefix ++ q) ++ slash ∷ [] =
        split_at prefix text has.0 ∙ ap (λ (rest : List ℕ). prefix ++ rest) (ends_split (rest_of prefix text) ends.0 ∙ ap (λ (front : List ℕ). front ++ slash ∷ []) same) ∙ sym (append_assoc prefix q (slash ∷ [])) in
        record {
          key = of.key;
          stands = ap is_some (object_of (item.Prefix text) of);
          below = subst (λ (t : List ℕ). starts_with nat_eq of.key t ≡ true) split (by_common of (common_prefix prefix of.key) refl);
        }
      where
        by_common : (of : IsOf prefix (item.Prefix text) (entries_of state)) (o : Option (List ℕ)) → common_prefix prefix of.key ≡ o → starts_with nat_eq of.key text ≡ true
        by_common of None is = absurd (true≢false (ap is_prefix (of.is ∙ item_object prefix (of.key, of.object) is)))
        by_common of (Some common) is =
            subst (λ (t : List ℕ). starts_with nat_eq of.key t ≡ true) (sym (ap text_of (of.is ∙ item_common prefix (of.key, of.object) common is))) ((common_is prefix of.key common is).begins of.has)

    -- a file shows where an object has the key

    abbrev size_by : PageItem → ℕ
    size_by (item.Object key etag size) = size
    size_by (item.Prefix text) = 0

    file_object : (key etag : List ℕ) (size : ℕ) → Among (item.Object key etag size) items → hit (item.Object key etag size) ≡ true → (object : Object) × (object_at state (prefix ++ q) ≡ Some object) × (size ≡ length object.bytes)
    file_object key etag size inside hits =
        let of = of_object (item.Object key etag size) inside in
        let has = and_parts (has_prefix prefix key) _ hits in
        let split : key ≡ prefix ++ q = split_at prefix key has.0 ∙ ap (λ (rest : List ℕ). prefix ++ rest) (sym (same_name q (rest_of prefix key) has.1)) in
        let is = by_common of (common_prefix prefix of.key) refl in
        (of.object, ap (object_at state) (sym split ∙ ap text_of is) ∙ object_of (item.Object key etag size) of, ap size_by is)
      where
        by_common : (of : IsOf prefix (item.Object key etag size) (entries_of state)) (o : Option (List ℕ)) → common_prefix prefix of.key ≡ o → item.Object key etag size ≡ item.Object of.key of.object.etag (length of.object.bytes)
        by_common of None is = of.is ∙ item_object prefix (of.key, of.object) is
        by_common of (Some common) is = absurd (true≢false (sym (ap is_prefix (of.is ∙ item_common prefix (of.key, of.object) common is))))

    abbrev sizes : Option Object → Option ℕ
    sizes o = option_map (λ object. length object.bytes) o

    files_alike : (object : Object) → object_at state (prefix ++ q) ≡ Some object → (HasBelow state (prefix ++ q) → ⊥) → (x : PageItem) → Among x items → hit x ≡ true → listed_by x ≡ Remote (length object.bytes)
    files_alike object is none (item.Object key etag size) inside hits =
        let found = file_object key etag size inside hits in
        ap Remote (found.2 ∙ ap (λ (o : Option Object). unwrap_or (sizes o) 0) (sym found.1 ∙ is))
    files_alike object is none (item.Prefix text) inside hits = absurd (none (dir_below text inside hits))

    no_files : object_at state (prefix ++ q) ≡ None → (HasBelow state (prefix ++ q) → ⊥) → (x : PageItem) → Among x items → hit x ≡ true → ⊥
    no_files is none (item.Object key etag size) inside hits = let found = file_object key etag size inside hits in true≢false (ap is_some (sym found.1 ∙ is))
    no_files is none (item.Prefix text) inside hits = none (dir_below text inside hits)

    unless : (b : Bool) → (b ≡ true → ⊥) → b ≡ false
    unless true wrong = absurd (wrong refl)
    unless false wrong = refl

    not_below : (below : Bool) → below ≡ false → (HasBelow state (prefix ++ q) → below ≡ true) → HasBelow state (prefix ++ q) → ⊥
    not_below below is tells has = true≢false (sym (tells has) ∙ is)

    remote_at : (below : Bool) → (below ≡ true → HasBelow state (prefix ++ q)) → (HasBelow state (prefix ++ q) → below ≡ true) → fold (step hit) None items ≡ shown below local.None (sizes (object_at state (prefix ++ q)))
    remote_at true has tells = below_shows (has refl) None
    remote_at false has tells = by_object (object_at state (prefix ++ q)) refl
      where
        by_object : (o : Option Object) → object_at state (prefix ++ q) ≡ o → fold (step hit) None items ≡ shown false local.None (sizes o)
        by_object None is = none_shows hit items (λ x inside. unless (hit x) (no_files is (not_below false refl tells) x inside)) None
        by_object (Some object) is =
            file_shows hit (length object.bytes) (item_of prefix (prefix ++ q, object)) items (stands (prefix ++ q) object is (begins_joined prefix q)) (ap hit (item_itself object) ∙ object_hits object.etag (length object.bytes))
            (files_alike object is (not_below false refl tells))

    pub entry_shown : (own : LocalNames) (below : Bool) → (below ≡ true → HasBelow state (prefix ++ q)) → (HasBelow state (prefix ++ q) → below ≡ true)
        → map.get (names_in prefix items own) q ≡ shown below (local_at own (prefix ++ q)) (sizes (object_at state (prefix ++ q)))
    entry_shown own below has tells =
        get-with_all_own prefix own q valid (remote_names prefix items)
        ∙ ap (λ (o : Option Listed). over_local o (local_at own (prefix ++ q))) (items_at map.empty items ∙ ap (λ (o : Option Listed). fold (step hit) o items) (map.get-empty name_cmp q) ∙ remote_at below has tells)
        ∙ hides below (local_at own (prefix ++ q)) (sizes (object_at state (prefix ++ q)))
      where
        hides : (below : Bool) (l : Local) (size : Option ℕ) → over_local (shown below local.None size) l ≡ shown below l size
        hides true local.None size = refl
        hides true local.Dir size = refl
        hides true (local.File written) size = refl
        hides false local.None size = refl
        hides false local.Dir None = refl
        hides false local.Dir (Some size) = refl
        hides false (local.File written) None = refl
        hides false (local.File written) (Some size) = refl

-- a name that isn't valid is never shown

module _ (q : List ℕ) (invalid : is_valid_name q ≡ false) where
  no_entry : (name : List ℕ) (listed : Listed) (names : Names) → map.get (with_entry name listed names) q ≡ map.get names q
  no_entry name listed names = get-with_entry name listed names q ∙ by_same (is_valid_name name) refl (is_same q name) refl
    where
      by_same : (v : Bool) → is_valid_name name ≡ v → (e : Bool) → is_same q name ≡ e → cond (v && e) (over (map.get names q) listed) (map.get names q) ≡ map.get names q
      by_same false is e same = refl
      by_same true is false same = refl
      by_same true is true same = absurd (true≢false (sym is ∙ ap is_valid_name (sym (same_name q name same)) ∙ invalid))

  no_item : (prefix : List ℕ) (names : Names) (x : PageItem) → map.get (with_item prefix names x) q ≡ map.get names q
  no_item prefix names (item.Object key etag size) = by_prefix (has_prefix prefix key)
    where
      by_prefix : (b : Bool) → map.get (cond b (with_entry (rest_of prefix key) (Remote size) names) names) q ≡ map.get names q
      by_prefix true = no_entry (rest_of prefix key) (Remote size) names
      by_prefix false = refl
  no_item prefix names (item.Prefix text) = by_prefix (has_prefix prefix text) (ends_so (rest_of prefix text))
    where
      by_prefix : (b e : Bool) → map.get (cond b (cond e (with_entry (front_of (rest_of prefix text)) Dir names) names) names) q ≡ map.get names q
      by_prefix true true = no_entry (front_of (rest_of prefix text)) Dir names
      by_prefix true false = refl
      by_prefix false e = refl

  no_items : (prefix : List ℕ) (all : List PageItem) (names : Names) → map.get (fold (with_item prefix) names all) q ≡ map.get names q
  no_items prefix [] names = refl
  no_items prefix (x ∷ all) names = no_items prefix all (with_item prefix names x) ∙ no_item prefix names x

  pub never_shown : (prefix : List ℕ) (all : List PageItem) (own : LocalNames) → map.get (names_in prefix all own) q ≡ None
  never_shown prefix all own = get-with_no_own prefix own q invalid (remote_names prefix all) ∙ no_items prefix all map.empty ∙ map.get-empty name_cmp q
