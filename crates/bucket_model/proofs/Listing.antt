-- What a listing's items and pages are.
use Rattle.std.proofs.Common.{◌≡◌, ℕ, zero, suc, ◌≤◌, ◌<◌, Bool, true, false, not, ◌||◌, T, List, [], ◌∷◌, ◌++◌, map, length, take, drop, Option, Some, None, unwrap_or, refl, sym, ap, ◌∙◌, subst, filter, append_assoc, arith, take-append-drop, length-take-le, take_all, nat_cmp, nat_le, nat_lt, le-leb, lt-ltb, ltb-false, ltb-true, ◌⊎◌, inl, inr, cond, true≢false}
use Rattle.std.specs.Cmp.{eq_by_cmp_equiv}
use Rattle.std.specs.Cmp.Lexicographic.{slice_cmp, nat_list_cmp_total, on_texts_equal}
use Rattle.std.specs.FinMap as finite
use Rattle.std.specs.FinMap.{is_sorted, find, entries_sorted}
use Rattle.std.specs.FinMap.Entries.{below_all}
use Rattle.std.specs.List.{Contains, dedup, dedup_from, list_all, starts_with}
use Rattle.std.specs.Ordering.{eq_by_cmp}
use Rattle.std.specs.Prelude.{nat_eq, slice_index_or}
use Rattle.std.proofs.lemmas.Bool.{and_from, and_parts}
use Rattle.std.proofs.lemmas.List.Kept.{Any-dedup, Contains-from_dedup}
use Rattle.std.proofs.lemmas.Slice.Eq.{bytes_eq-Decides}
use Rattle.bucket_model.specs.declared.history.Object.{Object}
use Rattle.bucket_model.specs.declared.page.PageItem.{PageItem}
use Rattle.bucket_model.specs.declared.page.PageItem.TheVariants as item
use Rattle.bucket_model.specs.Bucket.{BucketState}
use Rattle.bucket_model.specs.Listing.{common_prefix, has_prefix, is_behind, is_page, is_same_item, item_of, items_under, page_of, rises_from, text_of}
use Rattle.mp_types.proofs.Prefixes.{begins_itself}
use Rattle.mp_types.proofs.Texts.{same_text}
use Rattle.bucket_model.proofs.CommonPrefix.{common_is, text_climbs, text_has, text_under}
use Rattle.bucket_model.proofs.Order.{is_before, not_before_itself}
use Rattle.bucket_model.proofs.Rising.{AllBehind, AllFrom, Climbs, Rises, behind, behind_last, once_rises}

abbrev pub key_of : List ℕ × Object → List ℕ
key_of entry = entry.0

-- ---- the item of an entry

item_by : (prefix : List ℕ) (entry : List ℕ × Object) (o : Option (List ℕ)) → common_prefix prefix entry.0 ≡ o → text_of (item_of prefix entry) ≡ unwrap_or o entry.0
item_by prefix entry None is = rw is refl
item_by prefix entry (Some common) is = rw is refl

pub item_text : (prefix : List ℕ) (entry : List ℕ × Object) → text_of (item_of prefix entry) ≡ text_under prefix entry.0
item_text prefix entry = item_by prefix entry (common_prefix prefix entry.0) refl

pub item_common : (prefix : List ℕ) (entry : List ℕ × Object) (common : List ℕ) → common_prefix prefix entry.0 ≡ Some common → item_of prefix entry ≡ item.Prefix common
item_common prefix entry common is = rw is refl

pub item_object : (prefix : List ℕ) (entry : List ℕ × Object) → common_prefix prefix entry.0 ≡ None → item_of prefix entry ≡ item.Object entry.0 entry.1.etag (length entry.1.bytes)
item_object prefix entry is = rw is refl

-- ---- the items rise

abbrev pub plain_items : List ℕ → List (List ℕ × Object) → List PageItem
plain_items prefix objects = map (item_of prefix) (filter (λ entry. has_prefix prefix entry.0) objects)

from_by : (prefix a : List ℕ) (entry : List ℕ × Object) (objects : List (List ℕ × Object)) (b : Bool) → has_prefix prefix entry.0 ≡ b → has_prefix prefix a ≡ true → is_before a entry.0 ≡ true
    → AllFrom text_of (text_under prefix a) (map (item_of prefix) objects) → AllFrom text_of (text_under prefix a) (map (item_of prefix) (cond b (entry ∷ objects) objects))
from_by prefix a entry objects true at has less all = (ap (λ t. is_before t (text_under prefix a)) (item_text prefix entry) ∙ text_climbs prefix a entry.0 has at less, all)
from_by prefix a entry objects false at has less all = all

items_from : (prefix a : List ℕ) (objects : List (List ℕ × Object)) → has_prefix prefix a ≡ true → AllBehind key_of a objects → AllFrom text_of (text_under prefix a) (plain_items prefix objects)
items_from prefix a [] has all = tt
items_from prefix a (entry ∷ objects) has all =
    from_by prefix a entry (filter (λ e. has_prefix prefix e.0) objects) (has_prefix prefix entry.0) refl has all.0 (items_from prefix a objects has all.1)

climb_by : (prefix : List ℕ) (entry : List ℕ × Object) (objects : List (List ℕ × Object)) (b : Bool) → has_prefix prefix entry.0 ≡ b → (has_prefix prefix entry.0 ≡ true → AllFrom text_of (text_under prefix entry.0) (map (item_of prefix) objects))
    → Climbs text_of (map (item_of prefix) objects) → Climbs text_of (map (item_of prefix) (cond b (entry ∷ objects) objects))
climb_by prefix entry objects true at from climbs =
    let P : List ℕ → Type 0 = λ t. AllFrom text_of t (map (item_of prefix) objects) in
    (subst P (sym (item_text prefix entry)) (from at), climbs)
climb_by prefix entry objects false at from climbs = climbs

pub items_climb : (prefix : List ℕ) (objects : List (List ℕ × Object)) → Rises key_of objects → Climbs text_of (plain_items prefix objects)
items_climb prefix [] rises = tt
items_climb prefix (entry ∷ objects) rises =
    climb_by prefix entry (filter (λ e. has_prefix prefix e.0) objects) (has_prefix prefix entry.0) refl (λ has. items_from prefix entry.0 objects has rises.0) (items_climb prefix objects rises.1)

pub items_rise : (prefix : List ℕ) (objects : List (List ℕ × Object)) → Rises key_of objects → Rises text_of (items_under prefix objects)
items_rise prefix objects rises = once_rises text_of (plain_items prefix objects) (items_climb prefix objects rises)

-- ---- a state's objects rise

told : (b : Bool) → T b → b ≡ true
told true h = refl
told false h = absurd h

below_rises : (key : List ℕ) (objects : List (List ℕ × Object)) → below_all (slice_cmp nat_cmp) key objects ≡ true → AllBehind key_of key objects
below_rises key [] below = tt
below_rises key (entry ∷ objects) below =
    let parts = and_parts (is_before key entry.0) (below_all (slice_cmp nat_cmp) key objects) below in
    (parts.0, below_rises key objects parts.1)

sorted_rises : (objects : List (List ℕ × Object)) → is_sorted (slice_cmp nat_cmp) objects ≡ true → Rises key_of objects
sorted_rises [] sorted = tt
sorted_rises (entry ∷ objects) sorted =
    let parts = and_parts (below_all (slice_cmp nat_cmp) entry.0 objects) (is_sorted (slice_cmp nat_cmp) objects) sorted in
    (below_rises entry.0 objects parts.0, sorted_rises objects parts.1)

abbrev pub entries_of : BucketState → List (List ℕ × Object)
entries_of state = finite.entries state.objects

pub objects_rise : (state : BucketState) → Rises key_of (entries_of state)
objects_rise state = sorted_rises (entries_of state) (told _ (entries_sorted state.objects))

-- ---- pages are pages

passed : {X : Type 0} (text : X → List ℕ) (start : List ℕ) (x : X) (xs : List X) (b : Bool) → is_before start (text x) ≡ b → AllBehind text start xs → AllBehind text start (cond b (x ∷ xs) xs)
passed text start x xs true at all = (at, all)
passed text start x xs false at all = all

pub behind_passed : {X : Type 0} (text : X → List ℕ) (start : List ℕ) (xs : List X) → AllBehind text start (behind text start xs)
behind_passed text start [] = tt
behind_passed text start (x ∷ xs) = passed text start x (behind text start xs) (is_before start (text x)) refl (behind_passed text start xs)

behind_kept_by : {X : Type 0} (text : X → List ℕ) (start : List ℕ) (x : X) (xs : List X) (b : Bool) → is_before start (text x) ≡ true → AllBehind text start xs → AllBehind text start (cond b (x ∷ xs) xs)
behind_kept_by text start x xs true at all = (at, all)
behind_kept_by text start x xs false at all = all

behind_kept : {X : Type 0} (text : X → List ℕ) (test : X → Bool) (start : List ℕ) (xs : List X) → AllBehind text start xs → AllBehind text start (filter test xs)
behind_kept text test start [] all = tt
behind_kept text test start (x ∷ xs) all = behind_kept_by text start x (filter test xs) (test x) all.0 (behind_kept text test start xs all.1)

rises_kept_by : {X : Type 0} (text : X → List ℕ) (x : X) (xs : List X) (b : Bool) → AllBehind text (text x) xs → Rises text xs → Rises text (cond b (x ∷ xs) xs)
rises_kept_by text x xs true all rises = (all, rises)
rises_kept_by text x xs false all rises = rises

pub rises_kept : {X : Type 0} (text : X → List ℕ) (test : X → Bool) (xs : List X) → Rises text xs → Rises text (filter test xs)
rises_kept text test [] rises = tt
rises_kept text test (x ∷ xs) rises = rises_kept_by text x (filter test xs) (test x) (behind_kept text test (text x) xs rises.0) (rises_kept text test xs rises.1)

behind_taken : {X : Type 0} (text : X → List ℕ) (start : List ℕ) (n : ℕ) (xs : List X) → AllBehind text start xs → AllBehind text start (take n xs)
behind_taken text start zero xs all = tt
behind_taken text start (suc n) [] all = tt
behind_taken text start (suc n) (x ∷ xs) all = (all.0, behind_taken text start n xs all.1)

rises_taken : {X : Type 0} (text : X → List ℕ) (n : ℕ) (xs : List X) → Rises text xs → Rises text (take n xs)
rises_taken text zero xs rises = tt
rises_taken text (suc n) [] rises = tt
rises_taken text (suc n) (x ∷ xs) rises = (behind_taken text (text x) n xs rises.0, rises_taken text n xs rises.1)

told_rising : (start : List ℕ) (items : List PageItem) → AllBehind text_of start items → Rises text_of items → rises_from start items ≡ true
told_rising start [] all rises = refl
told_rising start (x ∷ items) all rises = and_from (is_behind start x) (rises_from (text_of x) items) all.0 (told_rising (text_of x) items rises.0 rises.1)

abbrev pub has_text : List ℕ → PageItem → Bool
has_text prefix x = has_prefix prefix (text_of x)

all_kept_by : (p : PageItem → Bool) (x : PageItem) (items : List PageItem) (b : Bool) → p x ≡ true → list_all p items ≡ true → list_all p (cond b (x ∷ items) items) ≡ true
all_kept_by p x items true at all = and_from (p x) (list_all p items) at all
all_kept_by p x items false at all = all

all_kept : (p test : PageItem → Bool) (items : List PageItem) → list_all p items ≡ true → list_all p (filter test items) ≡ true
all_kept p test [] all = refl
all_kept p test (x ∷ items) all =
    let parts = and_parts (p x) (list_all p items) all in
    all_kept_by p x (filter test items) (test x) parts.0 (all_kept p test items parts.1)

all_taken : (p : PageItem → Bool) (n : ℕ) (items : List PageItem) → list_all p items ≡ true → list_all p (take n items) ≡ true
all_taken p zero items all = refl
all_taken p (suc n) [] all = refl
all_taken p (suc n) (x ∷ items) all =
    let parts = and_parts (p x) (list_all p items) all in
    and_from (p x) (list_all p (take n items)) parts.0 (all_taken p n items parts.1)

once_by : (p : PageItem → Bool) (k x : PageItem) (items : List PageItem) (b : Bool) → p k ≡ true → list_all p (dedup_from is_same_item k items) ≡ true → list_all p (dedup_from is_same_item x items) ≡ true
    → list_all p (cond b (dedup_from is_same_item k items) (k ∷ dedup_from is_same_item x items)) ≡ true
once_by p k x items true at same other = same
once_by p k x items false at same other = and_from (p k) (list_all p (dedup_from is_same_item x items)) at other

all_once_from : (p : PageItem → Bool) (k : PageItem) (items : List PageItem) → p k ≡ true → list_all p items ≡ true → list_all p (dedup_from is_same_item k items) ≡ true
all_once_from p k [] at all = and_from (p k) true at refl
all_once_from p k (x ∷ items) at all =
    let parts = and_parts (p x) (list_all p items) all in
    once_by p k x items (is_same_item x k) at (all_once_from p k items at parts.1) (all_once_from p x items parts.0 parts.1)

all_once : (p : PageItem → Bool) (items : List PageItem) → list_all p items ≡ true → list_all p (dedup is_same_item items) ≡ true
all_once p [] all = refl
all_once p (x ∷ items) all =
    let parts = and_parts (p x) (list_all p items) all in
    all_once_from p x items parts.0 parts.1

have_by : (prefix : List ℕ) (entry : List ℕ × Object) (objects : List (List ℕ × Object)) (b : Bool) → has_prefix prefix entry.0 ≡ b → list_all (has_text prefix) (map (item_of prefix) objects) ≡ true
    → list_all (has_text prefix) (map (item_of prefix) (cond b (entry ∷ objects) objects)) ≡ true
have_by prefix entry objects true at all =
    and_from (has_text prefix (item_of prefix entry)) (list_all (has_text prefix) (map (item_of prefix) objects)) (ap (has_prefix prefix) (item_text prefix entry) ∙ text_has prefix entry.0 at) all
have_by prefix entry objects false at all = all

items_have : (prefix : List ℕ) (objects : List (List ℕ × Object)) → list_all (has_text prefix) (plain_items prefix objects) ≡ true
items_have prefix [] = refl
items_have prefix (entry ∷ objects) = have_by prefix entry (filter (λ e. has_prefix prefix e.0) objects) (has_prefix prefix entry.0) refl (items_have prefix objects)

-- at most so many, and not none where there are more
count_upto : (max : ℕ) (items : List PageItem) → nat_le (length (take max items)) max ≡ true
count_upto max items = le-leb _ _ (omega (arith, length_take max items))
  where
    length_take : (n : ℕ) (xs : List PageItem) → length (take n xs) ≤ n
    length_take zero xs = omega arith
    length_take (suc n) [] = omega arith
    length_take (suc n) (x ∷ xs) = omega (arith, length_take n xs)

not_none : (max : ℕ) (items : List PageItem) (more : Bool) → 1 ≤ max → nat_lt max (length items) ≡ more → (not more || nat_lt 0 (length (take max items))) ≡ true
not_none max items true some at =
    let longer = ltb-true max (length items) at in
    lt-ltb _ _ (omega (arith, some, longer, length-take-le max items (omega (arith, longer))))
not_none max items false some at = refl

pub page_is_page : (prefix after : List ℕ) (max : ℕ) (objects : List (List ℕ × Object)) → 1 ≤ max → Rises key_of objects → is_page prefix after max (page_of prefix after max objects) ≡ true
page_is_page prefix after max objects some rises =
    let all = items_under prefix objects in
    let left = filter (is_behind after) all in
    let rising = told_rising after (take max left) (behind_taken text_of after max left (behind_passed text_of after all)) (rises_taken text_of max left (rises_kept text_of (is_behind after) all (items_rise prefix objects rises))) in
    let have = all_taken (has_text prefix) max left (all_kept (has_text prefix) (is_behind after) all (all_once (has_text prefix) (plain_items prefix objects) (items_have prefix objects))) in
    and_from _ (not (nat_lt max (length left)) || nat_lt 0 (length (take max left)))
    (and_from _ (nat_le (length (take max left)) max) (and_from (rises_from after (take max left)) (list_all (has_text prefix) (take max left)) rising have) (count_upto max left)) (not_none max left (nat_lt max (length left)) some refl)

-- ---- the next page

pub behind_page : (prefix after : List ℕ) (max : ℕ) (objects : List (List ℕ × Object)) (front : List PageItem) (last : PageItem) → Rises key_of objects → (page_of prefix after max objects).items ≡ front ++ last ∷ []
    → filter (is_behind after) (items_under prefix objects) ≡ (page_of prefix after max objects).items ++ filter (is_behind (text_of last)) (items_under prefix objects)
behind_page prefix after max objects front last rises is =
    let all = items_under prefix objects in
    let left = filter (is_behind after) all in
    let whole : left ≡ front ++ last ∷ drop max left = sym (take-append-drop max left) ∙ ap (λ l. l ++ drop max left) is ∙ append_assoc front (last ∷ []) (drop max left) in
    sym (take-append-drop max left) ∙ ap (λ l. take max left ++ l) (sym (behind_last text_of after all front last (drop max left) (items_rise prefix objects rises) whole))

pub all_in_page : (prefix after : List ℕ) (max : ℕ) (objects : List (List ℕ × Object)) → (page_of prefix after max objects).more ≡ false
    → filter (is_behind after) (items_under prefix objects) ≡ (page_of prefix after max objects).items
all_in_page prefix after max objects is =
    let left = filter (is_behind after) (items_under prefix objects) in
    sym (take_all max left (ltb-false max (length left) is))

-- ---- the items are of the keys

-- x is the first element, or one of the rest
abbrev pub Among : {X : Type 0} → X → List X → Type 0
Among x [] = ⊥
Among x (y ∷ ys) = (y ≡ x) ⊎ Among x ys

contains_later : {X : Type 0} (x y : X) (ys : List X) → Contains ys x → Contains (y ∷ ys) x
contains_later x y ys later = (suc later.0, omega (arith, later.1), later.2)

pub contains : {X : Type 0} (x : X) (ys : List X) → Among x ys → Contains ys x
contains x [] among = absurd among
contains x (y ∷ ys) (inl same) = (zero, omega arith, same)
contains x (y ∷ ys) (inr later) = contains_later x y ys (contains x ys later)

among_at : {X : Type 0} (x : X) (ys : List X) (k : ℕ) → k < length ys → slice_index_or ys k x ≡ x → Among x ys
among_at x [] k inside is = absurd (omega (arith, inside))
among_at x (y ∷ ys) zero inside is = inl is
among_at x (y ∷ ys) (suc k) inside is = inr (among_at x ys k (omega (arith, inside)) is)

pub among : {X : Type 0} (x : X) (ys : List X) → Contains ys x → Among x ys
among x ys has = among_at x ys has.0 has.1 has.2

tied : (key : List ℕ) → eq_by_cmp (slice_cmp nat_cmp) key key ≡ true
tied key = (eq_by_cmp_equiv nat_list_cmp_total).refl key

not_tied_by : (a b : List ℕ) (b' : Bool) → eq_by_cmp (slice_cmp nat_cmp) b a ≡ b' → is_before a b ≡ true → b' ≡ false
not_tied_by a b true at less = absurd (true≢false (sym less ∙ ap (is_before a) (same_text b a at) ∙ not_before_itself a))
not_tied_by a b false at less = refl

not_tied : (a b : List ℕ) → is_before a b ≡ true → eq_by_cmp (slice_cmp nat_cmp) b a ≡ false
not_tied a b less = not_tied_by a b (eq_by_cmp (slice_cmp nat_cmp) b a) refl less

none_is_some : (text : List ℕ) → None ≡ Some text → ⊥
none_is_some text is = absurd (cc)

-- an entry and its key
found_here : (key : List ℕ) (object : Object) (entry : List ℕ × Object) (objects : List (List ℕ × Object)) (b : Bool) → eq_by_cmp (slice_cmp nat_cmp) key entry.0 ≡ b
    → cond b (Some entry.1) (find (slice_cmp nat_cmp) key objects) ≡ Some object → (find (slice_cmp nat_cmp) key objects ≡ Some object → Among (key, object) objects) → Among (key, object) (entry ∷ objects)
found_here key object entry objects true at is more =
    let keys : entry.0 ≡ key = sym (same_text key entry.0 at) in
    let values : entry.1 ≡ object = ap (λ o. unwrap_or o object) is in
    inl (λ i. (keys i, values i))
found_here key object entry objects false at is more = inr (more is)

pub found_among : (key : List ℕ) (object : Object) (objects : List (List ℕ × Object)) → find (slice_cmp nat_cmp) key objects ≡ Some object → Among (key, object) objects
found_among key object [] is = absurd (cc)
found_among key object (entry ∷ objects) is = found_here key object entry objects (eq_by_cmp (slice_cmp nat_cmp) key entry.0) refl is (found_among key object objects)

behind_among : (start key : List ℕ) (object : Object) (objects : List (List ℕ × Object)) → AllBehind key_of start objects → Among (key, object) objects → is_before start key ≡ true
behind_among start key object [] all among = absurd among
behind_among start key object (entry ∷ objects) all (inl same) = ap (λ (e : List ℕ × Object). is_before start e.0) (sym same) ∙ all.0
behind_among start key object (entry ∷ objects) all (inr later) = behind_among start key object objects all.1 later

pub among_found : (key : List ℕ) (object : Object) (objects : List (List ℕ × Object)) → Rises key_of objects → Among (key, object) objects → find (slice_cmp nat_cmp) key objects ≡ Some object
among_found key object [] rises among = absurd among
among_found key object (entry ∷ objects) rises (inl same) =
    let P : List ℕ × Object → Type 0 = λ e. cond (eq_by_cmp (slice_cmp nat_cmp) key e.0) (Some e.1) (find (slice_cmp nat_cmp) key objects) ≡ Some object in
    subst P (sym same) (ap (λ b. cond b (Some object) (find (slice_cmp nat_cmp) key objects)) (tied key))
among_found key object (entry ∷ objects) rises (inr later) =
    let less = behind_among entry.0 key object objects rises.0 later in
    ap (λ b. cond b (Some entry.1) (find (slice_cmp nat_cmp) key objects)) (not_tied entry.0 key less) ∙ among_found key object objects rises.1 later

-- what a test leaves
kept_by : (prefix key : List ℕ) (object : Object) (entry : List ℕ × Object) (objects : List (List ℕ × Object)) (b : Bool) → has_prefix prefix entry.0 ≡ b → has_prefix prefix key ≡ true
    → (entry ≡ (key, object)) ⊎ Among (item_of prefix (key, object)) (map (item_of prefix) objects) → Among (item_of prefix (key, object)) (map (item_of prefix) (cond b (entry ∷ objects) objects))
kept_by prefix key object entry objects true at has (inl same) = inl (ap (item_of prefix) same)
kept_by prefix key object entry objects true at has (inr later) = inr later
kept_by prefix key object entry objects false at has (inl same) = absurd (true≢false (sym has ∙ ap (λ (e : List ℕ × Object). has_prefix prefix e.0) (sym same) ∙ at))
kept_by prefix key object entry objects false at has (inr later) = later

item_among : (prefix key : List ℕ) (object : Object) (objects : List (List ℕ × Object)) → has_prefix prefix key ≡ true → Among (key, object) objects → Among (item_of prefix (key, object)) (plain_items prefix objects)
item_among prefix key object [] has among = absurd among
item_among prefix key object (entry ∷ objects) has (inl same) = kept_by prefix key object entry (filter (λ e. has_prefix prefix e.0) objects) (has_prefix prefix entry.0) refl has (inl same)
item_among prefix key object (entry ∷ objects) has (inr later) =
    kept_by prefix key object entry (filter (λ e. has_prefix prefix e.0) objects) (has_prefix prefix entry.0) refl has (inr (item_among prefix key object objects has later))

-- the item is of an entry with the prefix
pub record IsOf (prefix : List ℕ) (x : PageItem) (objects : List (List ℕ × Object)) : Type 0 where
  pub key : List ℕ
  pub object : Object
  pub stands : Among (key, object) objects
  pub has : has_prefix prefix key ≡ true
  pub is : x ≡ item_of prefix (key, object)

of_later : (prefix : List ℕ) (x : PageItem) (entry : List ℕ × Object) (objects : List (List ℕ × Object)) → IsOf prefix x objects → IsOf prefix x (entry ∷ objects)
of_later prefix x entry objects of = record { key = of.key; object = of.object; stands = inr of.stands; has = of.has; is = of.is }

of_by : (prefix : List ℕ) (x : PageItem) (entry : List ℕ × Object) (objects : List (List ℕ × Object)) (left : List (List ℕ × Object)) (b : Bool) → has_prefix prefix entry.0 ≡ b → Among x (map (item_of prefix) (cond b (entry ∷ left) left))
    → (Among x (map (item_of prefix) left) → IsOf prefix x objects) → IsOf prefix x (entry ∷ objects)
of_by prefix x entry objects left true at (inl same) more = record { key = entry.0; object = entry.1; stands = inl refl; has = at; is = sym same }
of_by prefix x entry objects left true at (inr later) more = of_later prefix x entry objects (more later)
of_by prefix x entry objects left false at among more = of_later prefix x entry objects (more among)

item_is_of : (prefix : List ℕ) (x : PageItem) (objects : List (List ℕ × Object)) → Among x (plain_items prefix objects) → IsOf prefix x objects
item_is_of prefix x [] among = absurd among
item_is_of prefix x (entry ∷ objects) among = of_by prefix x entry objects (filter (λ e. has_prefix prefix e.0) objects) (has_prefix prefix entry.0) refl among (item_is_of prefix x objects)

-- items of one text are one item
keys_by : (prefix a b : List ℕ) (o p : Option (List ℕ)) → common_prefix prefix a ≡ o → common_prefix prefix b ≡ p → has_prefix prefix a ≡ true → has_prefix prefix b ≡ true → unwrap_or o a ≡ unwrap_or p b
    → ((common : List ℕ) × (o ≡ Some common) × (p ≡ Some common)) ⊎ ((o ≡ None) × (p ≡ None) × (a ≡ b))
keys_by prefix a b None None at_a at_b has_a has_b same = inr (refl, refl, same)
keys_by prefix a b None (Some c) at_a at_b has_a has_b same =
    let here = (common_is prefix b c at_b).again a (ap (λ t. starts_with nat_eq t c) same ∙ begins_itself c) in
    absurd (none_is_some c (sym at_a ∙ here.1))
keys_by prefix a b (Some c) None at_a at_b has_a has_b same =
    let here = (common_is prefix a c at_a).again b (ap (λ t. starts_with nat_eq t c) (sym same) ∙ begins_itself c) in
    absurd (none_is_some c (sym at_b ∙ here.1))
keys_by prefix a b (Some c) (Some d) at_a at_b has_a has_b same = inl (c, refl, ap Some (sym same))

one_item : (prefix : List ℕ) (e f : List ℕ × Object) → (e.0 ≡ f.0 → e.1 ≡ f.1) → has_prefix prefix e.0 ≡ true → has_prefix prefix f.0 ≡ true → text_of (item_of prefix e) ≡ text_of (item_of prefix f) → item_of prefix e ≡ item_of prefix f
one_item prefix e f one has_e has_f same =
    elim (keys_by prefix e.0 f.0 (common_prefix prefix e.0) (common_prefix prefix f.0) refl refl has_e has_f (sym (item_text prefix e) ∙ same ∙ item_text prefix f)) [
      | inl shared ↦ item_common prefix e shared.0 shared.1 ∙ sym (item_common prefix f shared.0 shared.2)
      | inr plain ↦ let values = one plain.2 in
          let both : e ≡ f = λ i. (plain.2 i, values i) in
          ap (item_of prefix) both
    ]

pub item_stands : (prefix key : List ℕ) (object : Object) (objects : List (List ℕ × Object)) → Rises key_of objects → find (slice_cmp nat_cmp) key objects ≡ Some object → has_prefix prefix key ≡ true
    → Contains (items_under prefix objects) (item_of prefix (key, object))
item_stands prefix key object objects rises is has =
    let here = item_of prefix (key, object) in
    let plain = contains here (plain_items prefix objects) (item_among prefix key object objects has (found_among key object objects is)) in
    let kept = Any-dedup (on_texts_equal text_of) (plain_items prefix objects) here plain in
    let inside : Contains (items_under prefix objects) kept.1 = (kept.0, kept.2, kept.3) in
    let of = item_is_of prefix kept.1 objects (among kept.1 (plain_items prefix objects) (Contains-from_dedup is_same_item (plain_items prefix objects) kept.1 inside)) in
    let texts : text_of here ≡ text_of kept.1 = (bytes_eq-Decides (text_of here) (text_of kept.1)).0 kept.4 in
    let one : key ≡ of.key → object ≡ of.object = λ keys. ap (λ o. unwrap_or o object) (sym is ∙ ap (λ k. find (slice_cmp nat_cmp) k objects) keys ∙ among_found of.key of.object objects rises of.stands) in
    let same = one_item prefix (key, object) (of.key, of.object) one has of.has (texts ∙ ap text_of of.is) ∙ sym of.is in
    let P : PageItem → Type 0 = λ x. Contains (items_under prefix objects) x in
    subst P (sym same) inside

pub item_is_of_object : (prefix : List ℕ) (x : PageItem) (objects : List (List ℕ × Object)) → Contains (items_under prefix objects) x → IsOf prefix x objects
item_is_of_object prefix x objects inside = item_is_of prefix x objects (among x (plain_items prefix objects) (Contains-from_dedup is_same_item (plain_items prefix objects) x inside))
