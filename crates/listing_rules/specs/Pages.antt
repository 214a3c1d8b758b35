-- Pages of one listing, one behind the other.
use Rattle.std.specs.Prelude.{◌≡◌, ℕ, ◌≤◌, List, [], ◌∷◌, true, false}
use Rattle.std.specs.List.{flat_map}
use Rattle.bucket_model.specs.declared.history.Object.{Object}
use Rattle.bucket_model.specs.declared.page.Page.{Page}
use Rattle.bucket_model.specs.declared.page.PageItem.{PageItem}
use Rattle.bucket_model.specs.Listing.{page_of, text_of}

-- the text of the last item; without items, this one
abbrev pub last_text : List ℕ → List PageItem → List ℕ
last_text after [] = after
last_text after (item ∷ items) = last_text (text_of item) items

abbrev pub items_of : List Page → List PageItem
items_of pages = flat_map (λ page. page.items) pages

-- one page of the objects, of some size
pub record IsPageOf (objects : List (List ℕ × Object)) (prefix after : List ℕ) (page : Page) : Type 0 where
  pub max : ℕ
  pub low : 1 ≤ max
  pub is : page ≡ page_of prefix after max objects

-- all pages of the objects: each one behind the last item of the one before, up to the one behind which there is nothing more
abbrev pub ArePagesOf : List (List ℕ × Object) → List ℕ → List ℕ → List Page → Type 0
ArePagesOf objects prefix after [] = ⊥
ArePagesOf objects prefix after (page ∷ []) = IsPageOf objects prefix after page × (page.more ≡ false)
ArePagesOf objects prefix after (page ∷ next ∷ pages) = IsPageOf objects prefix after page × (page.more ≡ true) × ArePagesOf objects prefix (last_text after page.items) (next ∷ pages)
