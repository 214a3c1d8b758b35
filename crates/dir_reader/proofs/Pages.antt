-- What pages leave in a reader.
use Rattle.std.proofs.Common.{◌≡◌, ℕ, suc, ◌-◌, List, [], ◌∷◌, length, fold, Option, Some, refl, sym, ap, ◌∙◌, slice_get, arith}
use Rattle.std.proofs.lemmas.List.Sums.{fold-append}
use Rattle.std.specs.Option.{option_map_or}
use Rattle.bucket_model.specs.declared.page.Page.{Page}
use Rattle.bucket_model.specs.declared.page.PageItem.{PageItem}
use Rattle.bucket_model.specs.Listing.{text_of}
use Rattle.listing_rules.specs.Names.{with_item}
use Rattle.listing_rules.specs.Pages.{items_of, last_text}
use Rattle.dir_reader.specs.Gathered.{Gathered, with_page}

pub pages_prefix : (gathered : Gathered) (pages : List Page) → (fold with_page gathered pages).prefix ≡ gathered.prefix
pages_prefix gathered [] = refl
pages_prefix gathered (page ∷ pages) = pages_prefix (with_page gathered page) pages

pub pages_found : (gathered : Gathered) (pages : List Page) → (fold with_page gathered pages).found ≡ fold (with_item gathered.prefix) gathered.found (items_of pages)
pages_found gathered [] = refl
pages_found gathered (page ∷ pages) = pages_found (with_page gathered page) pages ∙ sym (fold-append (with_item gathered.prefix) gathered.found page.items (items_of pages))

last_at : (item first : PageItem) (items : List PageItem) → Some item ≡ slice_get (first ∷ items) (length items) → (after : List ℕ) → last_text after (first ∷ items) ≡ text_of item
last_at item first [] is after = ap (λ (o : Option PageItem). option_map_or text_of o (text_of item)) (sym is)
last_at item first (next ∷ items) is after = last_at item next items is (text_of first)

-- the text of a list's last item
pub last_item : (item : PageItem) (items : List PageItem) → Some item ≡ slice_get items (length items - 1) → (after : List ℕ) → last_text after items ≡ text_of item
last_item item [] is after = absurd (cc)
last_item item (first ∷ items) is after = last_at item first items (is ∙ ap (slice_get (first ∷ items)) (one_less (length items))) after
  where
    one_less : (n : ℕ) → suc n - 1 ≡ n
    one_less n = omega arith
