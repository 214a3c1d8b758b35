-- What the mount's own names show: at a valid name of the directory, what is local there.
use Rattle.std.proofs.Common.{◌≡◌, ℕ, Bool, true, false, true≢false, cond, not, ◌&&◌, ◌||◌, List, [], ◌∷◌, ◌++◌, length, drop, Option, Some, None, is_some, refl, sym, ap, ◌∙◌, subst, append_assoc, arith}
use Rattle.std.proofs.lemmas.Bool.{and_from, and_parts}
use Rattle.std.proofs.lemmas.List.Folds.{list_any-append}
use Rattle.std.proofs.lemmas.Cmp.{tied_itself}
use Rattle.std.proofs.lemmas.Map.Text.{is_eq-slice_cmp}
use Rattle.std.specs.Cmp.Lexicographic.{bytes_decides, slice_cmp}
use Rattle.std.specs.FinMap as map
use Rattle.std.specs.FinSet as set
use Rattle.std.specs.List.{AllByRecursion, before_first, list_any, starts_with}
use Rattle.std.specs.Ordering.{eq_by_cmp, is_eq, nat_cmp}
use Rattle.std.specs.Prelude.{nat_eq}
use Rattle.mp_types.specs.Path.{is_slash, is_valid_name, slash}
use Rattle.mp_rules.proofs.Order.{total}
use Rattle.mp_rules.specs.Keys.{is_below}
use Rattle.mp_rules.specs.Local.{LocalNames, file_of, has_name_below, local_at}
use Rattle.mp_rules.specs.declared.entry.Local.TheVariants as local
use Rattle.bucket_model.specs.Listing.{has_prefix}
use Rattle.listing_rules.specs.Names.{Names, child_of, with_own, with_all_own, with_local}
use Rattle.mp_types.proofs.Prefixes.{begins_joined, drop_joined, split_at}
use Rattle.listing_rules.proofs.Fronts.{name_before, valid_bytes, valid_some, whole_name}
use Rattle.listing_rules.proofs.Shows.{folded, get-with_local, is_same, over_local, same_name}

pub some_passes : {A : Type 0} (p t : A → Bool) → ((x : A) → p x ≡ true → t x ≡ true) → (xs : List A) → list_any p xs ≡ true → list_any t xs ≡ true
some_passes p t passes [] some = absurd (cc)
some_passes p t passes (x ∷ xs) some = by_test (p x) refl some (some_passes p t passes xs)
  where
    or_true : (b : Bool) → (b || true) ≡ true
    or_true true = refl
    or_true false = refl

    by_test : (b : Bool) → p x ≡ b → (b || list_any p xs) ≡ true → (list_any p xs ≡ true → list_any t xs ≡ true) → (t x || list_any t xs) ≡ true
    by_test true here some rest = ap (λ (b : Bool). b || list_any t xs) (passes x here)
    by_test false here some rest = ap (λ (b : Bool). t x || b) (rest some) ∙ or_true (t x)

pub none_passes : {A : Type 0} (p : A → Bool) → ((x : A) → p x ≡ true → ⊥) → (xs : List A) → list_any p xs ≡ false
none_passes p none [] = refl
none_passes p none (x ∷ xs) = ap (λ (b : Bool). b || list_any p xs) (false_unless (p x) (none x)) ∙ none_passes p none xs
  where
    false_unless : (b : Bool) → (b ≡ true → ⊥) → b ≡ false
    false_unless true wrong = absurd (wrong refl)
    false_unless false wrong = refl

left_or : (a b : Bool) → a ≡ true → (a || b) ≡ true
left_or a b is = ap (λ (c : Bool). c || b) is

right_or : (a b : Bool) → b ≡ true → (a || b) ≡ true
right_or true b is = refl
right_or false b is = is

module _ (prefix : List ℕ) (own : LocalNames) (q : List ℕ) where
  -- a key shows the name that it is, or below which it lies
  abbrev hits : List ℕ → Bool
  hits key = has_prefix prefix key && (is_valid_name (child_of prefix key) && is_same q (child_of prefix key))

  one_step : (key : List ℕ) (names : Names) → map.get (with_own prefix own names key) q ≡ cond (hits key) (over_local (map.get names q) (local_at own (prefix ++ q))) (map.get names q)
  one_step key names = by_prefix (has_prefix prefix key)
    where
      same_local : (b : Bool) → is_same q (child_of prefix key) ≡ b → (v : Bool) → cond (v && b) (over_local (map.get names q) (local_at own (prefix ++ child_of prefix key))) (map.get names q) ≡ cond (v && b) (over_local (map.get names q) (local_at own (prefix ++ q))) (map.get names q)
      same_local b is false = refl
      same_local false is true = refl
      same_local true is true = ap (λ (name : List ℕ). over_local (map.get names q) (local_at own (prefix ++ name))) (sym (same_name q (child_of prefix key) is))

      by_prefix : (b : Bool) → map.get (cond b (with_local (child_of prefix key) (local_at own (prefix ++ child_of prefix key)) names) names) q ≡ cond (b && (is_valid_name (child_of prefix key) && is_same q (child_of prefix key))) (over_local (map.get names q) (local_at own (prefix ++ q))) (map.get names q)
      by_prefix true = get-with_local (child_of prefix key) (local_at own (prefix ++ child_of prefix key)) names q ∙ same_local (is_same q (child_of prefix key)) refl (is_valid_name (child_of prefix key))
      by_prefix false = refl

  all_steps : (keys : List (List ℕ)) → AllByRecursion (λ key. (names : Names) → map.get (with_own prefix own names key) q ≡ cond (hits key) (over_local (map.get names q) (local_at own (prefix ++ q))) (map.get names q)) keys
  all_steps [] = tt
  all_steps (key ∷ keys) = (one_step key, all_steps keys)

  abbrev all_keys : List (List ℕ)
  all_keys = set.items own.dirs ++ map.keys own.files

  pub by_hits : (names : Names) → map.get (with_all_own prefix own names) q ≡ cond (list_any hits all_keys) (over_local (map.get names q) (local_at own (prefix ++ q))) (map.get names q)
  by_hits = folded (with_own prefix own) hits q (local_at own (prefix ++ q)) all_keys (all_steps all_keys)

  -- no name that isn't valid is shown
  module _ (invalid : is_valid_name q ≡ false) where
    no_hit : (key : List ℕ) → hits key ≡ true → ⊥
    no_hit key is =
        let child = (and_parts (has_prefix prefix key) _ is).1 in
        let parts = and_parts (is_valid_name (child_of prefix key)) (is_same q (child_of prefix key)) child in
        true≢false (sym parts.0 ∙ ap is_valid_name (sym (same_name q (child_of prefix key) parts.1)) ∙ invalid)

    pub get-with_no_own : (names : Names) → map.get (with_all_own prefix own names) q ≡ map.get names q
    get-with_no_own names = by_hits names ∙ ap (λ (b : Bool). cond b (over_local (map.get names q) (local_at own (prefix ++ q))) (map.get names q)) (none_passes hits no_hit all_keys)

  module _ (valid : is_valid_name q ≡ true) where
    hit : (key : List ℕ) → has_prefix prefix key ≡ true → child_of prefix key ≡ q → hits key ≡ true
    hit key begins child = and_from (has_prefix prefix key) _ begins (and_from (is_valid_name (child_of prefix key)) _ (ap is_valid_name child ∙ valid) (ap (is_same q) child ∙ ap is_eq (tied_itself total q)))

    hit_itself : (key : List ℕ) → eq_by_cmp (slice_cmp nat_cmp) (prefix ++ q) key ≡ true → hits key ≡ true
    hit_itself key is =
        let same : prefix ++ q ≡ key = (bytes_decides (prefix ++ q) key).0 (sym (is_eq-slice_cmp (prefix ++ q) key) ∙ is) in
        subst (λ (k : List ℕ). hits k ≡ true) same (hit (prefix ++ q) (begins_joined prefix q) (ap (before_first is_slash) (drop_joined prefix q) ∙ whole_name q (valid_bytes q valid)))

    below_begins : (above key : List ℕ) → not (nat_eq (length above) 0) ≡ true → is_below key above ≡ true → starts_with nat_eq key (above ++ slash ∷ []) ≡ true
    below_begins [] key some is = absurd (cc)
    below_begins (byte ∷ above) key some is = is

    some_joined : (front : List ℕ) → not (nat_eq (length (front ++ q)) 0) ≡ true
    some_joined [] = valid_some q valid
    some_joined (byte ∷ front) = grind arith

    hit_below : (key : List ℕ) → is_below key (prefix ++ q) ≡ true → hits key ≡ true
    hit_below key is =
        let begins = below_begins (prefix ++ q) key (some_joined prefix) is in
        let more : List ℕ = drop (length ((prefix ++ q) ++ slash ∷ [])) key in
        let split : key ≡ prefix ++ (q ++ slash ∷ more) = split_at ((prefix ++ q) ++ slash ∷ []) key begins ∙ append_assoc (prefix ++ q) (slash ∷ []) more ∙ append_assoc prefix q (slash ∷ more) in
        subst (λ (k : List ℕ). hits k ≡ true) (sym split) (hit (prefix ++ (q ++ slash ∷ more)) (begins_joined prefix (q ++ slash ∷ more)) (ap (before_first is_slash) (drop_joined prefix (q ++ slash ∷ more)) ∙ name_before q more (valid_bytes q valid)))

    -- something is local where some key hits
    some_hit : (dir below : Bool) (size : Option ℕ) → set.contains own.dirs (prefix ++ q) ≡ dir → has_name_below own (prefix ++ q) ≡ below → map.get own.files (prefix ++ q) ≡ size → (list_any hits all_keys ≡ true → ⊥) → cond (dir || below) local.Dir (file_of size) ≡ local.None
    some_hit true below size dir_is below_is size_is none = absurd (none (list_any-append hits (set.items own.dirs) (map.keys own.files) ∙ left_or _ _ (some_passes _ hits hit_itself (set.items own.dirs) (sym (set.contains-items own.dirs (prefix ++ q)) ∙ dir_is))))
    some_hit false true size dir_is below_is size_is none = absurd (none (some_passes _ hits hit_below all_keys below_is))
    some_hit false false (Some size) dir_is below_is size_is none = absurd (none (list_any-append hits (set.items own.dirs) (map.keys own.files) ∙ right_or _ _ (some_passes _ hits hit_itself (map.keys own.files) (sym (map.contains_key-keys own.files (prefix ++ q)) ∙ ap is_some size_is))))
    some_hit false false None dir_is below_is size_is none = refl

    -- what is local hides an object's name, and a directory hides what is local
    pub get-with_all_own : (names : Names) → map.get (with_all_own prefix own names) q ≡ over_local (map.get names q) (local_at own (prefix ++ q))
    get-with_all_own names = by_hits names ∙ by_any (list_any hits all_keys) refl
      where
        by_any : (b : Bool) → list_any hits all_keys ≡ b → cond b (over_local (map.get names q) (local_at own (prefix ++ q))) (map.get names q) ≡ over_local (map.get names q) (local_at own (prefix ++ q))
        by_any true is = refl
        by_any false is = ap (over_local (map.get names q)) (sym (some_hit (set.contains own.dirs (prefix ++ q)) (has_name_below own (prefix ++ q)) (map.get own.files (prefix ++ q)) refl refl refl (λ some. absurd (cc))))
