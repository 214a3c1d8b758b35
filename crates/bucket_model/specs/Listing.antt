-- What a listing of a bucket gives, page by page.
use Rattle.std.specs.Prelude.{ℕ, List, [], ◌∷◌, ◌++◌, map, length, take, drop, Bool, true, ◌&&◌, ◌||◌, not, ◌==◌, nat_eq, nat_le, nat_lt, if◌then◌else◌, Option, Some, None, option_map}
use Rattle.std.specs.Cmp.Lexicographic.{slice_cmp, pointwise}
use Rattle.std.specs.List.{dedup, filter, list_all, starts_with}
use Rattle.std.specs.Ordering.{nat_cmp, is_lt}
use Rattle.mp_types.specs.Path.{slash}
use Rattle.bucket_model.specs.declared.history.Object.{Object}
use Rattle.bucket_model.specs.declared.page.Page.{Page}
use Rattle.bucket_model.specs.declared.page.PageItem.{PageItem}
use Rattle.bucket_model.specs.declared.page.PageItem.TheVariants as item

-- the text by which an item is ordered: an object's key, or what keys share
abbrev pub text_of : PageItem → List ℕ
text_of (item.Object key etag size) = key
text_of (item.Prefix text) = text

-- the bytes up to the first `/`, with it, where there is one
abbrev pub up_to_slash : List ℕ → Option (List ℕ)
up_to_slash [] = None
up_to_slash (byte ∷ bytes) = if byte == slash then Some (byte ∷ []) else option_map (λ front. byte ∷ front) (up_to_slash bytes)

-- what keys of the prefix share with this one, up to the first `/` behind the prefix
abbrev pub common_prefix : List ℕ → List ℕ → Option (List ℕ)
common_prefix prefix key = option_map (λ front. prefix ++ front) (up_to_slash (drop (length prefix) key))

-- the item that an object gives: the common prefix, or else the object itself
abbrev pub item_of : List ℕ → List ℕ × Object → PageItem
item_of prefix entry = by_common (common_prefix prefix entry.0)
  where
    by_common : Option (List ℕ) → PageItem
    by_common (Some text) = item.Prefix text
    by_common None = item.Object entry.0 entry.1.etag (length entry.1.bytes)

abbrev pub has_prefix : List ℕ → List ℕ → Bool
has_prefix prefix text = starts_with nat_eq text prefix

abbrev pub is_same_item : PageItem → PageItem → Bool
is_same_item a b = pointwise nat_eq (text_of a) (text_of b)

-- the items of a prefix, each once. Objects stand in the order of their keys, so equal items are neighbours.
abbrev pub items_under : List ℕ → List (List ℕ × Object) → List PageItem
items_under prefix objects = dedup is_same_item (map (item_of prefix) (filter (λ entry. has_prefix prefix entry.0) objects))

-- the item stands behind the text; no item's text is empty, so the empty one stands before all
abbrev pub is_behind : List ℕ → PageItem → Bool
is_behind after item = is_lt (slice_cmp nat_cmp after (text_of item))

-- the first items, and whether there are more
abbrev pub first_page : ℕ → List PageItem → Page
first_page max items = record { items = take max items; more = nat_lt max (length items) }

-- the page of the first items that stand behind a text
abbrev pub page_of : List ℕ → List ℕ → ℕ → List (List ℕ × Object) → Page
page_of prefix after max objects = first_page max (filter (is_behind after) (items_under prefix objects))

-- the texts rise, from behind the first one on
abbrev pub rises_from : List ℕ → List PageItem → Bool
rises_from after [] = true
rises_from after (item ∷ items) = is_behind after item && rises_from (text_of item) items

-- what every page is: its items rise, stand behind `after` and have the prefix; they are at most `max`, and not none where there are more
abbrev pub is_page : List ℕ → List ℕ → ℕ → Page → Bool
is_page prefix after max page =
    rises_from after page.items && list_all (λ item. has_prefix prefix (text_of item)) page.items
    && nat_le (length page.items) max && (not page.more || nat_lt 0 (length page.items))
