-- The pages of one state show what its items do.
use Rattle.std.proofs.Common.{◌≡◌, ℕ, zero, suc, ◌≤◌, ◌<◌, Bool, true, false, cond, List, [], ◌∷◌, ◌++◌, length, take, filter, fold, refl, sym, ap, ◌∙◌, append-nil, arith, nat_cmp, nat_lt, ltb-true}
use Rattle.std.proofs.Common.{◌-◌}
use Rattle.std.specs.Cmp.Lexicographic.{slice_cmp}
use Rattle.std.specs.FinMap as map
use Rattle.std.specs.List.{ends_with}
use Rattle.std.specs.Ordering.{is_lt}
use Rattle.std.specs.Prelude.{nat_eq}
use Rattle.mp_types.specs.Path.{slash}
use Rattle.bucket_model.specs.declared.page.Page.{Page}
use Rattle.bucket_model.specs.declared.page.PageItem.{PageItem}
use Rattle.bucket_model.specs.declared.page.PageItem.TheVariants as item
use Rattle.bucket_model.specs.Bucket.{BucketState}
use Rattle.bucket_model.specs.Listing.{has_prefix, is_behind, items_under, text_of}
use Rattle.bucket_model.proofs.Listing.{all_in_page, behind_page, entries_of, objects_rise}
use Rattle.listing_rules.specs.declared.listed.Listed.TheVariants.{Remote}
use Rattle.listing_rules.specs.Names.{Names, remote_names, rest_of, with_dir, with_entry, with_item}
use Rattle.listing_rules.specs.Pages.{ArePagesOf, IsPageOf, items_of, last_text}

-- items that are some end with a last one
record Ends (items : List PageItem) : Type 0 where
  front : List PageItem
  last : PageItem
  split : items ≡ front ++ last ∷ []
  text : (after : List ℕ) → last_text after items ≡ text_of last

ends : (first : PageItem) (items : List PageItem) → Ends (first ∷ items)
ends first [] = record { front = []; last = first; split = refl; text = λ after. refl }
ends first (next ∷ items) =
    let rest = ends next items in
    record { front = first ∷ rest.front; last = rest.last; split = ap (λ (more : List PageItem). first ∷ more) rest.split; text = λ after. rest.text (text_of first) }

-- a page behind which there is more has items
page_ends : (max : ℕ) (left : List PageItem) → 1 ≤ max → nat_lt max (length left) ≡ true → Ends (take max left)
page_ends zero left low more = absurd (omega (arith, low))
page_ends (suc max) [] low more = let less : suc max < 0 = ltb-true (suc max) 0 more in absurd (omega (arith, less))
page_ends (suc max) (x ∷ left) low more = ends x (take max left)

module _ (prefix : List ℕ) (state : BucketState) where
  abbrev all : List PageItem
  all = items_under prefix (entries_of state)

  abbrev behind : List ℕ → List PageItem
  behind after = filter (is_behind after) all

  last_page : (after : List ℕ) (page : Page) → IsPageOf (entries_of state) prefix after page → page.more ≡ false → behind after ≡ page.items
  last_page after page of end = all_in_page prefix after of.max (entries_of state) (sym (ap (λ (p : Page). p.more) of.is) ∙ end) ∙ sym (ap (λ (p : Page). p.items) of.is)

  next_page : (after : List ℕ) (page : Page) → IsPageOf (entries_of state) prefix after page → page.more ≡ true → behind after ≡ page.items ++ behind (last_text after page.items)
  next_page after page of more =
      let ends = page_ends of.max (behind after) of.low (sym (ap (λ (p : Page). p.more) of.is) ∙ more) in
      let items : page.items ≡ take of.max (behind after) = ap (λ (p : Page). p.items) of.is in
      behind_page prefix after of.max (entries_of state) ends.front ends.last (objects_rise state) ends.split
      ∙ (λ i. sym items i ++ behind (sym (ap (last_text after) items ∙ ends.text after) i))

  pub joined : (after : List ℕ) (pages : List Page) → ArePagesOf (entries_of state) prefix after pages → behind after ≡ items_of pages
  joined after [] are = absurd are
  joined after (page ∷ []) are = last_page after page are.0 are.1 ∙ sym (append-nil page.items)
  joined after (page ∷ next ∷ pages) are =
      next_page after page are.0 are.1 ∙ ap (λ (items : List PageItem). page.items ++ items) (joined (last_text after page.items) (next ∷ pages) are.2)

-- an item of the empty text shows nothing

module _ (prefix : List ℕ) (names : Names) where
  no_end : (rest : List ℕ) → length rest ≡ 0 → ends_with nat_eq rest (slash ∷ []) ≡ false
  no_end [] none = refl
  no_end (byte ∷ rest) none = absurd (omega (arith, none))

  empty_entry : (b : Bool) (size : ℕ) (front : List ℕ) → names ≡ cond b (with_entry (rest_of front []) (Remote size) names) names
  empty_entry false size front = refl
  empty_entry true size [] = refl
  empty_entry true size (byte ∷ front) = refl

  empty_dir : (b : Bool) (front : List ℕ) → names ≡ cond b (with_dir (rest_of front []) names) names
  empty_dir false front = refl
  empty_dir true [] = refl
  empty_dir true (byte ∷ front) = refl

  empty_shows : (x : PageItem) → text_of x ≡ [] → with_item prefix names x ≡ names
  empty_shows (item.Object key etag size) none =
      ap (λ (text : List ℕ). cond (has_prefix prefix text) (with_entry (rest_of prefix text) (Remote size) names) names) none ∙ sym (empty_entry (has_prefix prefix []) size prefix)
  empty_shows (item.Prefix text) none = ap (λ (t : List ℕ). cond (has_prefix prefix t) (with_dir (rest_of prefix t) names) names) none ∙ sym (empty_dir (has_prefix prefix []) prefix)

not_behind : (text : List ℕ) → is_lt (slice_cmp nat_cmp [] text) ≡ false → text ≡ []
not_behind [] is = refl
not_behind (byte ∷ text) is = absurd (cc)

all_behind : (prefix : List ℕ) (items : List PageItem) (names : Names) → fold (with_item prefix) names (filter (is_behind []) items) ≡ fold (with_item prefix) names items
all_behind prefix [] names = refl
all_behind prefix (x ∷ items) names = by_test (is_behind [] x) refl (all_behind prefix items)
  where
    by_test : (b : Bool) → is_behind [] x ≡ b → ((more : Names) → fold (with_item prefix) more (filter (is_behind []) items) ≡ fold (with_item prefix) more items)
        → fold (with_item prefix) names (cond b (x ∷ filter (is_behind []) items) (filter (is_behind []) items)) ≡ fold (with_item prefix) (with_item prefix names x) items
    by_test true is rest = rest (with_item prefix names x)
    by_test false is rest = rest names ∙ ap (λ (n : Names). fold (with_item prefix) n items) (sym (empty_shows prefix names x (not_behind (text_of x) is)))

pub pages_show : (prefix : List ℕ) (state : BucketState) (pages : List Page) → ArePagesOf (entries_of state) prefix [] pages → remote_names prefix (items_of pages) ≡ remote_names prefix (items_under prefix (entries_of state))
pages_show prefix state pages are = ap (remote_names prefix) (sym (joined prefix state [] pages are)) ∙ all_behind prefix (items_under prefix (entries_of state)) map.empty
