-- How a bucket in memory finds the items of a page.
use Rattle.std.specs.Prelude.{◌≡◌, ℕ, true, false, List, IsSome}
use Rattle.std.specs.BTreeMap as tree
use Rattle.std.specs.BTreeMap.{BTreeMap}
use Rattle.std.specs.BTreeMap.Range.{entries_between, range_contains}
use Rattle.std.specs.Cmp.Lexicographic.{slice_cmp}
use Rattle.std.specs.Ordering.{is_lt, nat_cmp}
use Rattle.std.specs.declared.ops.Bound.{Bound}
use Rattle.std.specs.declared.ops.Bound.TheVariants.{Unbounded}
use Rattle.mp_types.specs.Key.{IsKeyText}
use Rattle.bucket_model.specs.declared.history.Object.{Object}
use Rattle.bucket_model.specs.Listing.{has_prefix, is_behind, item_of}

abbrev pub HaveKeyTexts : BTreeMap (List ℕ) Object → Type 0
HaveKeyTexts objects = (key : List ℕ) → IsSome (tree.get (slice_cmp nat_cmp) objects key) → IsKeyText key

-- the entries are those from a bound on. Of the keys with the prefix, just those whose item stands behind the text are from
-- the bound on, and no key before the prefix is
pub record StandBehind (prefix text : List ℕ) (objects : BTreeMap (List ℕ) Object) (entries : List (List ℕ × Object)) : Type 0 where
  pub bound : Bound (List ℕ)
  pub from : entries ≡ entries_between (slice_cmp nat_cmp) bound Unbounded objects.entries
  pub decides : (entry : List ℕ × Object) → has_prefix prefix entry.0 ≡ true → range_contains (slice_cmp nat_cmp) bound Unbounded entry.0 ≡ is_behind text (item_of prefix entry)
  pub low : (key : List ℕ) → range_contains (slice_cmp nat_cmp) bound Unbounded key ≡ true → is_lt (slice_cmp nat_cmp key prefix) ≡ false
  pub ordered : tree.IsOrdered (slice_cmp nat_cmp) objects
