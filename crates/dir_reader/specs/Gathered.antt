-- What a reader of a directory has gathered from the pages so far.
use Rattle.std.specs.Prelude.{◌≡◌, ◌⊎◌, ℕ, List, [], fold, Bool, true, refl}
use mathlib.Core.Logic.{inl, inr}
use base.Stored.{coded_unit}
use Rattle.std.specs.BTreeMap.{BTreeMap}
use Rattle.std.specs.Coded.{Coded, code_by, coded×, coded⊎, coded_bool, coded_list, coded_ℕ}
use Rattle.std.specs.FinMap as map
use Rattle.bucket_model.specs.declared.page.Page.{Page}
use Rattle.listing_rules.specs.declared.listed.Listed.{Listed}
use Rattle.listing_rules.specs.declared.listed.Listed.TheVariants.{Dir, Remote, Writing}
use Rattle.mp_rules.specs.declared.entry.Local.{Local}
use Rattle.listing_rules.specs.Names.{Names, prefix_of, with_item, with_local}
use Rattle.listing_rules.specs.Pages.{last_text}

pub record Gathered : Type 0 where
  pub prefix : List ℕ
  pub found : Names
  pub after : List ℕ
  pub more : Bool

-- before the first page of a directory
abbrev pub started : List (List ℕ) → Gathered
started path = record { prefix = prefix_of path; found = map.empty; after = []; more = true }

-- with what one more page shows
abbrev pub with_page : Gathered → Page → Gathered
with_page gathered page = record {
  prefix = gathered.prefix;
  found = fold (with_item gathered.prefix) gathered.found page.items;
  after = last_text gathered.after page.items;
  more = page.more;
}

-- the names of a table
abbrev pub found_in : BTreeMap (List ℕ) Listed → Names
found_in table = map.from_entries table.entries

-- with what is local at each of these names
abbrev pub with_children : List (List ℕ × Local) → Names → Names
with_children children names = fold (λ found child. with_local child.0 child.1 found) names children

-- how values of these types are stored

abbrev parts_of : Listed → Unit {0} ⊎ (ℕ ⊎ ℕ)
parts_of Dir = inl tt
parts_of (Remote size) = inr (inl size)
parts_of (Writing size) = inr (inr size)

abbrev listed_of : Unit {0} ⊎ (ℕ ⊎ ℕ) → Listed
listed_of (inl none) = Dir
listed_of (inr (inl size)) = Remote size
listed_of (inr (inr size)) = Writing size

pub listed_again : (listed : Listed) → listed_of (parts_of listed) ≡ listed
listed_again Dir = refl
listed_again (Remote size) = refl
listed_again (Writing size) = refl

abbrev pub listed_code : Coded Listed
listed_code = code_by (Unit {0} ⊎ (ℕ ⊎ ℕ)) (coded⊎ coded_unit (coded⊎ coded_ℕ coded_ℕ)) parts_of listed_of listed_again

abbrev pub gathered_code : Coded Gathered
gathered_code =
    code_by ((List ℕ × Names) × (List ℕ × Bool)) (coded× (coded× (coded_list coded_ℕ) (map.code (coded_list coded_ℕ) listed_code)) (coded× (coded_list coded_ℕ) coded_bool))
    (λ g. ((g.prefix, g.found), (g.after, g.more)))
    (λ p. record { prefix = p.0.0; found = p.0.1; after = p.1.0; more = p.1.1 })
    (λ _. refl)
