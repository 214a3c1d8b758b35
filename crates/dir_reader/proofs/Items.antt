-- What items show by what stands behind the prefix.
use Rattle.std.proofs.Common.{◌≡◌, ◌≢◌, ℕ, ◌-◌, Bool, true, false, cond, List, [], ◌∷◌, ◌++◌, length, take, refl, sym, ap, ◌∙◌}
use Rattle.std.specs.List.{ends_with, starts_with}
use Rattle.std.specs.Prelude.{nat_eq}
use Rattle.mp_types.specs.Path.{slash}
use Rattle.bucket_model.specs.declared.page.PageItem.TheVariants as item
use Rattle.listing_rules.specs.declared.listed.Listed.TheVariants.{Dir, Remote}
use Rattle.listing_rules.specs.Names.{Names, rest_of, with_dir, with_entry, with_item}
use Rattle.listing_rules.proofs.Fronts.{ends_split}
use Rattle.mp_types.proofs.Prefixes.{begins_joined, drop_joined}

-- a text that doesn't end in `/` gives no directory
pub no_dir : (rest : List ℕ) (found : Names) → ((front : List ℕ) → rest ≢ front ++ slash ∷ []) → found ≡ with_dir rest found
no_dir rest found none = by_end (ends_with nat_eq rest (slash ∷ [])) refl
  where
    by_end : (b : Bool) → ends_with nat_eq rest (slash ∷ []) ≡ b → found ≡ cond b (with_entry (take (length rest - 1) rest) Dir found) found
    by_end true is = absurd (none (take (length rest - 1) rest) (ends_split rest is))
    by_end false is = refl

module _ (prefix text : List ℕ) (found : Names) where
  module _ (rest : List ℕ) (is : text ≡ prefix ++ rest) where
    has : starts_with nat_eq text prefix ≡ true
    has = ap (λ (t : List ℕ). starts_with nat_eq t prefix) is ∙ begins_joined prefix rest

    rest_is : rest_of prefix text ≡ rest
    rest_is = ap (rest_of prefix) is ∙ drop_joined prefix rest

    pub shown_object : (etag : List ℕ) (size : ℕ) → with_entry rest (Remote size) found ≡ with_item prefix found (item.Object text etag size)
    shown_object etag size = λ i. cond (sym has i) (with_entry (sym rest_is i) (Remote size) found) found

    pub shown_prefix : with_dir rest found ≡ with_item prefix found (item.Prefix text)
    shown_prefix = λ i. cond (sym has i) (with_dir (sym rest_is i) found) found

  module _ (other : starts_with nat_eq text prefix ≡ false) where
    pub hidden_object : (etag : List ℕ) (size : ℕ) → found ≡ with_item prefix found (item.Object text etag size)
    hidden_object etag size = ap (λ (b : Bool). cond b (with_entry (rest_of prefix text) (Remote size) found) found) (sym other)

    pub hidden_prefix : found ≡ with_item prefix found (item.Prefix text)
    hidden_prefix = ap (λ (b : Bool). cond b (with_dir (rest_of prefix text) found) found) (sym other)
