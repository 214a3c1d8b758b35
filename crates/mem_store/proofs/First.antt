-- The first key from a text on decides whether some key begins with the text.
use Rattle.std.proofs.Common.{◌≡◌, ℕ, Bool, true, false, List, [], ◌∷◌, Option, Some, None, refl, sym, subst, nat_cmp, BTreeMap}
use Rattle.std.specs.BTreeMap as tree
use Rattle.std.specs.BTreeMap.Range.{IsEntryInRange, IsLeBy, IsRangeOf}
use Rattle.std.specs.Cmp.Lexicographic.{slice_cmp}
use Rattle.std.specs.List.{starts_with}
use Rattle.std.specs.Option.{IsSome}
use Rattle.std.specs.Prelude.{nat_eq}
use Rattle.std.specs.declared.ops.Bound.TheVariants.{Included, Unbounded}
use Rattle.bucket_model.specs.declared.history.Object.{Object}
use Rattle.mem_store.specs.Served.{Finds}
use Rattle.mp_types.proofs.Prefixes.{between, from_start}

pub some_from : (o : Option Object) (object : Object) → o ≡ Some object → IsSome o
some_from o object is = let P : Option Object → Type 0 = λ x. IsSome x in subst P (sym is) refl

decides : (objects : BTreeMap (List ℕ) Object) (start key : List ℕ) (object : Object)
    → IsEntryInRange (slice_cmp nat_cmp) (Included start) Unbounded objects (key, object)
    → ((q : List ℕ) → IsLeBy (slice_cmp nat_cmp) start q → IsSome (tree.get (slice_cmp nat_cmp) objects q) → IsLeBy (slice_cmp nat_cmp) key q)
    → (found : Bool) → found ≡ starts_with nat_eq key start → Finds objects start found
decides objects start key object entry least true found = (key, some_from _ object entry.1, sym found)
decides objects start key object entry least false found = λ q some begins.
    let same = between start key q begins entry.0.0 (least q (from_start start q begins) some) in
    absurd (cc)

pub first_decides : (objects : BTreeMap (List ℕ) Object) (start key : List ℕ) (object : Object) (keys rest : List (List ℕ × Object)) (found : Bool)
    → IsRangeOf (slice_cmp nat_cmp) (Included start) Unbounded objects keys → keys ≡ (key, object) ∷ rest → found ≡ starts_with nat_eq key start → Finds objects start found
first_decides objects start key object keys rest found range is begins =
    let Range : List (List ℕ × Object) → Type 0 = λ ks. IsRangeOf (slice_cmp nat_cmp) (Included start) Unbounded objects ks in
    let here = subst Range is range in
    decides objects start key object here.1 (λ q low some. here.2 q (low, tt) some) found begins

none_is_some : (o : Option Object) → o ≡ None → IsSome o → ⊥
none_is_some o none some = absurd (cc)

pub none_begins : (objects : BTreeMap (List ℕ) Object) (start : List ℕ) (keys : List (List ℕ × Object))
    → IsRangeOf (slice_cmp nat_cmp) (Included start) Unbounded objects keys → keys ≡ [] → Finds objects start false
none_begins objects start keys range none = λ q some begins. none_is_some _ (range.5 none q (from_start start q begins, tt)) some
