-- What one name shows as names are told.
use Rattle.std.proofs.Common.{◌≡◌, ℕ, Bool, true, false, cond, not, ◌&&◌, ◌||◌, List, [], ◌∷◌, fold, Option, Some, None, refl, sym, ap, ◌∙◌}
use Rattle.std.specs.FinMap as map
use Rattle.std.specs.List.{AllByRecursion, list_any}
use Rattle.std.specs.Ordering.{eq_by_cmp}
use Rattle.std.specs.Cmp.{Equal-is}
use Rattle.mp_rules.proofs.Order.{total, distinct}
use Rattle.mp_rules.specs.Names.{name_cmp}
use Rattle.mp_rules.specs.declared.entry.Local.{Local}
use Rattle.mp_rules.specs.declared.entry.Local.TheVariants as local
use Rattle.mp_types.specs.Path.{is_valid_name}
use Rattle.listing_rules.specs.declared.listed.Listed.{Listed}
use Rattle.listing_rules.specs.declared.listed.Listed.TheVariants.{Dir, Remote, Writing}
use Rattle.listing_rules.specs.Names.{Names, is_dir, with_entry, with_local}

abbrev pub is_same : List ℕ → List ℕ → Bool
is_same = eq_by_cmp name_cmp

pub same_name : (a b : List ℕ) → is_same a b ≡ true → a ≡ b
same_name a b is = distinct a b ((Equal-is (name_cmp a b)).0 is)

-- what comes hides what stands there, unless that is a directory
abbrev pub over : Option Listed → Listed → Option Listed
over (Some Dir) listed = Some Dir
over other listed = Some listed

abbrev pub over_local : Option Listed → Local → Option Listed
over_local o local.None = o
over_local o local.Dir = over o Dir
over_local o (local.File size) = over o (Writing size)

over_other : (o : Option Listed) (listed : Listed) → is_dir o ≡ false → over o listed ≡ Some listed
over_other None listed other = refl
over_other (Some Dir) listed other = absurd (cc)
over_other (Some (Remote size)) listed other = refl
over_other (Some (Writing size)) listed other = refl

over_dir : (o : Option Listed) (listed : Listed) → is_dir o ≡ true → over o listed ≡ o
over_dir None listed is = absurd (cc)
over_dir (Some Dir) listed is = refl
over_dir (Some (Remote size)) listed is = absurd (cc)
over_dir (Some (Writing size)) listed is = absurd (cc)

over_again : (o : Option Listed) (listed : Listed) → over (over o listed) listed ≡ over o listed
over_again (Some Dir) listed = refl
over_again None Dir = refl
over_again None (Remote size) = refl
over_again None (Writing size) = refl
over_again (Some (Remote other)) Dir = refl
over_again (Some (Remote other)) (Remote size) = refl
over_again (Some (Remote other)) (Writing size) = refl
over_again (Some (Writing other)) Dir = refl
over_again (Some (Writing other)) (Remote size) = refl
over_again (Some (Writing other)) (Writing size) = refl

over_local_again : (o : Option Listed) (l : Local) → over_local (over_local o l) l ≡ over_local o l
over_local_again o local.None = refl
over_local_again o local.Dir = over_again o Dir
over_local_again o (local.File size) = over_again o (Writing size)

either_same : {A : Type 0} (b : Bool) (x : A) → x ≡ cond b x x
either_same true x = refl
either_same false x = refl

pub get-with_entry : (name : List ℕ) (listed : Listed) (names : Names) (q : List ℕ) → map.get (with_entry name listed names) q ≡ cond (is_valid_name name && is_same q name) (over (map.get names q) listed) (map.get names q)
get-with_entry name listed names q = by_tests (is_valid_name name) (is_dir (map.get names name)) (is_same q name) refl refl
  where
    here : is_same q name ≡ true → map.get names q ≡ map.get names name
    here same = ap (map.get names) (same_name q name same)

    by_tests : (v d e : Bool) → is_dir (map.get names name) ≡ d → is_same q name ≡ e → map.get (cond (v && not d) (map.insert names name listed) names) q ≡ cond (v && e) (over (map.get names q) listed) (map.get names q)
    by_tests false d e dir same = refl
    by_tests true true true dir same = sym (over_dir (map.get names q) listed (ap is_dir (here same) ∙ dir))
    by_tests true true false dir same = refl
    by_tests true false true dir same = map.get-insert total names name listed q ∙ ap (λ (b : Bool). cond b (Some listed) (map.get names q)) same ∙ sym (over_other (map.get names q) listed (ap is_dir (here same) ∙ dir))
    by_tests true false false dir same = map.get-insert total names name listed q ∙ ap (λ (b : Bool). cond b (Some listed) (map.get names q)) same

pub get-with_local : (name : List ℕ) (l : Local) (names : Names) (q : List ℕ) → map.get (with_local name l names) q ≡ cond (is_valid_name name && is_same q name) (over_local (map.get names q) l) (map.get names q)
get-with_local name local.None names q = either_same (is_valid_name name && is_same q name) (map.get names q)
get-with_local name local.Dir names q = get-with_entry name Dir names q
get-with_local name (local.File size) names q = get-with_entry name (Writing size) names q

-- names told in turn, each of which shows the same at this one or nothing
module _ {A : Type 0} (step : Names → A → Names) (hits : A → Bool) (q : List ℕ) (l : Local) where
  abbrev pub Steps : A → Type 0
  Steps a = (names : Names) → map.get (step names a) q ≡ cond (hits a) (over_local (map.get names q) l) (map.get names q)

  pub folded : (xs : List A) → AllByRecursion Steps xs → (names : Names) → map.get (fold step names xs) q ≡ cond (list_any hits xs) (over_local (map.get names q) l) (map.get names q)
  folded [] steps names = refl
  folded (x ∷ xs) steps names =
      folded xs steps.1 (step names x)
      ∙ ap (λ (o : Option Listed). cond (list_any hits xs) (over_local o l) o) (steps.0 names)
      ∙ by_tests (hits x) (list_any hits xs) (map.get names q)
    where
      by_tests : (a b : Bool) (o : Option Listed) → cond b (over_local (cond a (over_local o l) o) l) (cond a (over_local o l) o) ≡ cond (a || b) (over_local o l) o
      by_tests true true o = over_local_again o l
      by_tests true false o = refl
      by_tests false b o = refl
