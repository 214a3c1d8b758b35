-- The mount's own names, by the children of the directory.
use Rattle.std.proofs.Common.{◌≡◌, ℕ, Bool, true, false, true≢false, cond, ◌&&◌, List, [], ◌∷◌, ◌++◌, length, Option, refl, sym, ap, ◌∙◌, not}
use Rattle.std.proofs.lemmas.Bool.{and_from, and_parts}
use Rattle.std.proofs.lemmas.Cmp.{tied_itself}
use Rattle.std.proofs.lemmas.List.Elements.{All-head, All-tail}
use Rattle.std.proofs.lemmas.Slice.Eq.{bytes_eq-Decides}
use Rattle.std.specs.FinMap as map
use Rattle.std.specs.List.{All, AllByRecursion, list_any}
use Rattle.std.specs.Ordering.{is_eq}
use Rattle.std.specs.Prelude.{nat_eq}
use Rattle.std.specs.Str.{bytes_eq}
use Rattle.mp_types.specs.Path.{is_valid_name}
use Rattle.mp_rules.specs.declared.entry.Local.{Local}
use Rattle.mp_rules.specs.declared.entry.Local.TheVariants as local
use Rattle.mp_rules.specs.Local.{LocalNames, local_at}
use Rattle.local_names.specs.Children.{AreChildren, IsChild, is_plain}
use Rattle.local_names.specs.Nodes.{is_none}
use Rattle.listing_rules.specs.declared.listed.Listed.{Listed}
use Rattle.listing_rules.specs.Names.{Names, with_all_own, with_local}
use Rattle.listing_rules.proofs.Fronts.{has_no_slash, valid_bytes, valid_some}
use Rattle.mp_rules.proofs.Order.{distinct, total}
use Rattle.listing_rules.proofs.Owns.{get-with_all_own, get-with_no_own, none_passes, some_passes}
use Rattle.listing_rules.proofs.Shows.{folded, get-with_local, is_same, over_local, same_name}
use Rattle.dir_reader.specs.Gathered.{with_children}

module _ (own : LocalNames) (prefix : List ℕ) (q : List ℕ) where
  abbrev at_q : Local
  at_q = local_at own (prefix ++ q)

  abbrev hits : List ℕ × Local → Bool
  hits child = is_valid_name child.0 && is_same q child.0

  one_step : (child : List ℕ × Local) → IsChild own prefix child → (names : Names) → map.get (with_local child.0 child.1 names) q ≡ cond (hits child) (over_local (map.get names q) at_q) (map.get names q)
  one_step child is names = get-with_local child.0 child.1 names q ∙ same_local (is_same q child.0) refl (is_valid_name child.0)
    where
      same_local : (b : Bool) → is_same q child.0 ≡ b → (v : Bool) → cond (v && b) (over_local (map.get names q) child.1) (map.get names q) ≡ cond (v && b) (over_local (map.get names q) at_q) (map.get names q)
      same_local b same false = refl
      same_local false same true = refl
      same_local true same true = ap (over_local (map.get names q)) (is.is ∙ ap (λ (name : List ℕ). local_at own (prefix ++ name)) (sym (same_name q child.0 same)))

  all_steps : (children : List (List ℕ × Local)) → All (IsChild own prefix) children → AllByRecursion (λ child. (names : Names) → map.get (with_local child.0 child.1 names) q ≡ cond (hits child) (over_local (map.get names q) at_q) (map.get names q)) children
  all_steps [] each = tt
  all_steps (child ∷ children) each = (one_step child (All-head (IsChild own prefix) child children each), all_steps children (All-tail (IsChild own prefix) child children each))

  module _ (children : List (List ℕ × Local)) (are : AreChildren own prefix children) (names : Names) where
    by_hits : map.get (with_children children names) q ≡ cond (list_any hits children) (over_local (map.get names q) at_q) (map.get names q)
    by_hits = folded (λ found child. with_local child.0 child.1 found) hits q at_q children (all_steps children are.each) names

    some_hit : is_valid_name q ≡ true → is_none at_q ≡ false → list_any hits children ≡ true
    some_hit valid some = some_passes (λ (child : List ℕ × Local). bytes_eq child.0 q) hits hit children (are.all q plain some)
      where
        plain : is_plain q ≡ true
        plain = and_from (not (nat_eq (length q) 0)) (has_no_slash q) (valid_some q valid) (valid_bytes q valid)

        hit : (child : List ℕ × Local) → bytes_eq child.0 q ≡ true → hits child ≡ true
        hit child is =
            let same : child.0 ≡ q = (bytes_eq-Decides child.0 q).0 is in
            and_from (is_valid_name child.0) (is_same q child.0) (ap is_valid_name same ∙ valid) (ap (is_same q) same ∙ ap is_eq (tied_itself total q))

    hit_or_none : (l : Local) (b : Bool) (o : Option Listed) → (is_none l ≡ false → b ≡ true) → cond b (over_local o l) o ≡ over_local o l
    hit_or_none l true o hit = refl
    hit_or_none local.None false o hit = refl
    hit_or_none local.Dir false o hit = absurd (true≢false (sym (hit refl)))
    hit_or_none (local.File size) false o hit = absurd (true≢false (sym (hit refl)))

    no_hit : is_valid_name q ≡ false → (child : List ℕ × Local) → hits child ≡ true → ⊥
    no_hit invalid child is =
        let parts = and_parts (is_valid_name child.0) (is_same q child.0) is in
        true≢false (sym parts.0 ∙ ap is_valid_name (sym (same_name q child.0 parts.1)) ∙ invalid)

    own_at : map.get (with_children children names) q ≡ map.get (with_all_own prefix own names) q
    own_at = by_hits ∙ by_valid (is_valid_name q) refl
      where
        by_valid : (b : Bool) → is_valid_name q ≡ b → cond (list_any hits children) (over_local (map.get names q) at_q) (map.get names q) ≡ map.get (with_all_own prefix own names) q
        by_valid true valid = hit_or_none at_q (list_any hits children) (map.get names q) (some_hit valid) ∙ sym (get-with_all_own prefix own q valid names)
        by_valid false invalid =
            ap (λ (b : Bool). cond b (over_local (map.get names q) at_q) (map.get names q)) (none_passes hits (no_hit invalid) children) ∙ sym (get-with_no_own prefix own q invalid names)

-- each name at which something is local is a child, and its children are all that it has in the directory
pub own_shown : (own : LocalNames) (prefix : List ℕ) (children : List (List ℕ × Local)) → AreChildren own prefix children → (names : Names) → with_children children names ≡ with_all_own prefix own names
own_shown own prefix children are names = map.same_map total distinct _ _ (λ q. own_at own prefix q children are names)
