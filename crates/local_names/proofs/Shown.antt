-- What the entries of a table of nodes show in a directory is what is local there.
use Rattle.std.proofs.Common.{◌≡◌, ℕ, ◌<◌, zero, suc, Bool, true, false, cond, not, ◌&&◌, ◌||◌, List, [], ◌∷◌, ◌++◌, length, drop, map, Option, Some, None, String, string_bytes, Less, nat_cmp, refl, sym, ap, ◌∙◌, subst, arith, unwrap_or, append_assoc}
use Rattle.std.proofs.lemmas.Bool.{and_parts}
use Rattle.std.proofs.lemmas.Bool.Decides.{nat_tests}
use Rattle.std.proofs.lemmas.Map.Text.{is_eq-slice_cmp}
use Rattle.std.specs.Cmp.Lexicographic.{nat_list_eq_equiv}
use Rattle.std.proofs.lemmas.Map.Entries.{btree_map_get_place}
use Rattle.std.specs.BTreeMap.{BTreeMap, get_by_text}
use Rattle.std.specs.Cmp.Lexicographic.{slice_cmp, bytes_decides}
use Rattle.std.specs.List.{All, AllByRecursion, cons_option, list_any, slice_get, starts_with}
use Rattle.std.specs.List.Sorted.{IsStrictlySortedBy}
use Rattle.std.specs.Map.{keys_of, lookup}
use Rattle.std.specs.Ordering.{is_eq}
use Rattle.std.specs.Prelude.{nat_eq, nat_lt}
use Rattle.std.specs.Str.{bytes_eq}
use Rattle.std.specs.String.{string_cmp, string_cmp_total}
use Rattle.mp_rules.specs.declared.entry.Local.{Local}
use Rattle.mp_rules.specs.declared.entry.Local.TheVariants as local
use Rattle.mp_rules.specs.Local.{local_at}
use Rattle.local_names.specs.declared.nodes.Node.{Node}
use Rattle.local_names.specs.Nodes.{bare, is_none, is_bare, shown, node_in}
use Rattle.local_names.specs.Children.{AreChildren, IsChild, is_plain, is_child_key, child_of, children_in}
use Rattle.local_names.specs.Kept.{names_in, IsKept}
use Rattle.local_names.proofs.Directory.{child_found, cmp_behind}
use Rattle.local_names.proofs.Names.{kept_local}
use Rattle.mp_types.proofs.Prefixes.{split_at}
use Rattle.mp_types.proofs.Lists.{slice_get-seam}

shown_bare : (node : Node) → is_bare node ≡ false → is_none (shown node) ≡ false
shown_bare node kept = by_count (nat_eq node.below 0) kept
  where
    by_count : (b : Bool) → (is_none node.kind && b) ≡ false → is_none (cond b node.kind local.Dir) ≡ false
    by_count true kept = by_kind (is_none node.kind) kept
      where
        by_kind : (b : Bool) → (b && true) ≡ false → b ≡ false
        by_kind true is = is
        by_kind false is = refl
    by_count false kept = refl

none_shown : (node : Node) → is_none (shown node) ≡ false → is_bare node ≡ false
none_shown node some = by_count (nat_eq node.below 0) some
  where
    by_kind : (b : Bool) → b ≡ false → (b && true) ≡ false
    by_kind true is = is
    by_kind false is = refl

    none_and : (b : Bool) → (b && false) ≡ false
    none_and true = refl
    none_and false = refl

    by_count : (b : Bool) → is_none (cond b node.kind local.Dir) ≡ false → (is_none node.kind && b) ≡ false
    by_count true some = by_kind (is_none node.kind) some
    by_count false some = none_and (is_none node.kind)

no_count : (n : ℕ) → nat_eq n 0 ≡ not (nat_lt 0 n)
no_count n = grind (arith, nat_tests)

above_none : (n : ℕ) (kind : Local) → cond (nat_lt 0 n) local.Dir kind ≡ cond (nat_eq n 0) kind local.Dir
above_none n kind = turned (nat_lt 0 n) ∙ ap (λ (b : Bool). cond b kind local.Dir) (sym (no_count n))
  where
    turned : (b : Bool) → cond b local.Dir kind ≡ cond (not b) kind local.Dir
    turned true = refl
    turned false = refl

some_text : (name : List ℕ) → is_plain name ≡ true → 0 < length name
some_text [] plain = absurd (cc)
some_text (byte ∷ name) plain = omega arith

some_behind : (prefix name : List ℕ) → 0 < length name → 0 < length (prefix ++ name)
some_behind [] name some = some
some_behind (byte ∷ prefix) name some = omega arith

all_from : {X : Type 0} (P : X → Type 0) (xs : List X) → AllByRecursion P xs → All P xs
all_from P [] all k d less = absurd (omega (arith, less))
all_from P (x ∷ xs) all zero d less = all.0
all_from P (x ∷ xs) all (suc k) d less = all_from P xs all.1 k d (omega (arith, less))

-- what is read of an entry that gives a child
record GivesChild {Y : Type 0} (prefix : List ℕ) (e : String Y × Node) (child : List ℕ × Local) : Type 0 where
  plain : is_plain (drop (length prefix) (string_bytes e.0)) ≡ true
  key : string_bytes e.0 ≡ prefix ++ drop (length prefix) (string_bytes e.0)
  kept : is_bare e.1 ≡ false
  same : (drop (length prefix) (string_bytes e.0), shown e.1) ≡ child

same_child : (x y : List ℕ × Local) → Some x ≡ Some y → x ≡ y
same_child x y same = ap (λ (o : Option (List ℕ × Local)). unwrap_or o x) same

module _ {Y : Type 0} (prefix : List ℕ) where
  gives_child : (e : String Y × Node) (child : List ℕ × Local) → child_of prefix e ≡ Some child → GivesChild prefix e child
  gives_child e child is = by_tests (is_child_key prefix (string_bytes e.0)) (is_bare e.1) refl refl is
    where
      by_tests : (a b : Bool) → is_child_key prefix (string_bytes e.0) ≡ a → is_bare e.1 ≡ b → cond {A = Option (List ℕ × Local)} (a && not b) (Some (drop (length prefix) (string_bytes e.0), shown e.1)) None ≡ Some child → GivesChild prefix e child
      by_tests true true key_is bare_is is = absurd (cc)
      by_tests false b key_is bare_is is = absurd (cc)
      by_tests true false key_is bare_is is =
          let parts = and_parts (starts_with nat_eq (string_bytes e.0) prefix) (is_plain (drop (length prefix) (string_bytes e.0))) key_is in
          record { plain = parts.1; key = split_at prefix (string_bytes e.0) parts.0; kept = bare_is; same = same_child _ child is }

  key_of_child : (e : String Y × Node) (child : List ℕ × Local) → child_of prefix e ≡ Some child → string_bytes e.0 ≡ prefix ++ child.0
  key_of_child e child is = let gives = gives_child e child is in gives.key ∙ ap (λ (c : List ℕ × Local). prefix ++ c.0) gives.same

  -- the name of a kept node is among them
  among : (name : List ℕ) → is_plain name ≡ true → (node : Node) → is_bare node ≡ false → (es : List (String Y × Node)) → lookup (λ k. is_eq (slice_cmp nat_cmp (prefix ++ name) (string_bytes k))) es ≡ Some node
      → list_any (λ child. bytes_eq child.0 name) (children_in prefix es) ≡ true
  among name plain node kept [] is = absurd (cc)
  among name plain node kept (e ∷ es) is = by_test (is_eq (slice_cmp nat_cmp (prefix ++ name) (string_bytes e.0))) refl is (among name plain node kept es)
    where
      or_true : (b : Bool) → (b || true) ≡ true
      or_true true = refl
      or_true false = refl

      later : (o : Option (List ℕ × Local)) → list_any (λ child. bytes_eq child.0 name) (children_in prefix es) ≡ true → list_any (λ child. bytes_eq child.0 name) (cons_option o (children_in prefix es)) ≡ true
      later None rest = rest
      later (Some child) rest = ap (λ (b : Bool). bytes_eq child.0 name || b) rest ∙ or_true (bytes_eq child.0 name)

      same_node : (x y : Node) → Some x ≡ Some y → x ≡ y
      same_node x y same = ap (λ (o : Option Node). unwrap_or o x) same

      by_test : (b : Bool) → is_eq (slice_cmp nat_cmp (prefix ++ name) (string_bytes e.0)) ≡ b → cond b (Some e.1) (lookup (λ k. is_eq (slice_cmp nat_cmp (prefix ++ name) (string_bytes k))) es) ≡ Some node
          → (lookup (λ k. is_eq (slice_cmp nat_cmp (prefix ++ name) (string_bytes k))) es ≡ Some node → list_any (λ child. bytes_eq child.0 name) (children_in prefix es) ≡ true)
          → list_any (λ child. bytes_eq child.0 name) (children_in prefix (e ∷ es)) ≡ true
      by_test true here is rest =
          let key : string_bytes e.0 ≡ prefix ++ name = sym ((bytes_decides (prefix ++ name) (string_bytes e.0)).0 (sym (is_eq-slice_cmp (prefix ++ name) (string_bytes e.0)) ∙ here)) in
          let found : child_of prefix e ≡ Some (name, shown e.1) = child_found prefix name e key plain (ap is_bare (same_node e.1 node is) ∙ kept) in
          ap (λ (o : Option (List ℕ × Local)). list_any (λ child. bytes_eq child.0 name) (cons_option o (children_in prefix es))) found
          ∙ ap (λ (b : Bool). b || list_any (λ child. bytes_eq child.0 name) (children_in prefix es)) (nat_list_eq_equiv.refl name)
      by_test false other is rest = later (child_of prefix e) (rest is)

  -- their names rise
  all_later : (e : String Y × Node) (first : List ℕ × Local) → child_of prefix e ≡ Some first → (es : List (String Y × Node)) → AllByRecursion (λ k. string_cmp e.0 k ≡ Less) (keys_of es)
      → AllByRecursion (λ name. slice_cmp nat_cmp first.0 name ≡ Less) (map (λ child. child.0) (children_in prefix es))
  all_later e first first_is [] less = tt
  all_later e first first_is (x ∷ es) less = by_child (child_of prefix x) refl (all_later e first first_is es less.1)
    where
      by_child : (o : Option (List ℕ × Local)) → child_of prefix x ≡ o → AllByRecursion (λ name. slice_cmp nat_cmp first.0 name ≡ Less) (map (λ child. child.0) (children_in prefix es)) → AllByRecursion (λ name. slice_cmp nat_cmp first.0 name ≡ Less) (map (λ child. child.0) (cons_option o (children_in prefix es)))
      by_child None is rest = rest
      by_child (Some child) is rest = (sym (cmp_behind prefix first.0 child.0) ∙ (λ i. slice_cmp nat_cmp (sym (key_of_child e first first_is) i) (sym (key_of_child x child is) i)) ∙ less.0, rest)

  rising : (es : List (String Y × Node)) → IsStrictlySortedBy string_cmp (keys_of es) → IsStrictlySortedBy (slice_cmp nat_cmp) (map (λ child. child.0) (children_in prefix es))
  unfolding IsStrictlySortedBy
  rising [] sorted = tt
  rising (e ∷ es) sorted = by_child (child_of prefix e) refl (rising es sorted.1)
    where
      by_child : (o : Option (List ℕ × Local)) → child_of prefix e ≡ o → IsStrictlySortedBy (slice_cmp nat_cmp) (map (λ child. child.0) (children_in prefix es)) → IsStrictlySortedBy (slice_cmp nat_cmp) (map (λ child. child.0) (cons_option o (children_in prefix es)))
      by_child None is rest = rest
      by_child (Some child) is rest = (all_later e child is es sorted.0, rest)

-- each entry is found by its key
all_found : {Y : Type 0} (nodes : BTreeMap (String Y) Node) → IsStrictlySortedBy string_cmp (keys_of nodes.entries) → (passed es : List (String Y × Node)) → nodes.entries ≡ passed ++ es → AllByRecursion (λ e. get_by_text nodes (string_bytes e.0) ≡ Some e.1) es
all_found nodes sorted passed [] is = tt
all_found nodes sorted passed (e ∷ es) is = (
  btree_map_get_place string_cmp_total nodes (length passed) e.0 e.1 sorted (ap (λ (xs : List _). slice_get xs (length passed)) is ∙ slice_get-seam passed es e),
  all_found nodes sorted (passed ++ e ∷ []) es (is ∙ sym (append_assoc passed (e ∷ []) es)),
)

-- what is local at a key is what its node shows
pub local_shown : {Y : Type 0} (nodes : BTreeMap (String Y) Node) → IsKept nodes → (key : List ℕ) → 0 < length key → local_at (names_in nodes) key ≡ shown (node_in nodes key)
local_shown nodes kept key some = kept_local nodes kept key some ∙ above_none (node_in nodes key).below (node_in nodes key).kind

module _ {Y : Type 0} (nodes : BTreeMap (String Y) Node) (kept : IsKept nodes) (prefix : List ℕ) where
  -- what one entry gives is a child
  given : (e : String Y × Node) → get_by_text nodes (string_bytes e.0) ≡ Some e.1 → (child : List ℕ × Local) → child_of prefix e ≡ Some child → IsChild (names_in nodes) prefix child
  given e here child is =
      let gives = gives_child prefix e child is in
      subst (IsChild (names_in nodes) prefix) gives.same (record {
        plain = gives.plain;
        is = sym (local_shown nodes kept (prefix ++ drop (length prefix) (string_bytes e.0)) (some_behind prefix _ (some_text _ gives.plain)) ∙ ap (λ (text : List ℕ). shown (node_in nodes text)) (sym gives.key) ∙ ap (λ (o : Option Node). shown (unwrap_or o bare)) here);
        some = shown_bare e.1 gives.kept;
      })

  each_given : (es : List (String Y × Node)) → AllByRecursion (λ e. get_by_text nodes (string_bytes e.0) ≡ Some e.1) es → AllByRecursion (IsChild (names_in nodes) prefix) (children_in prefix es)
  each_given [] here = tt
  each_given (e ∷ es) here = by_child (child_of prefix e) refl (each_given es here.1)
    where
      by_child : (o : Option (List ℕ × Local)) → child_of prefix e ≡ o → AllByRecursion (IsChild (names_in nodes) prefix) (children_in prefix es) → AllByRecursion (IsChild (names_in nodes) prefix) (cons_option o (children_in prefix es))
      by_child None is rest = rest
      by_child (Some child) is rest = (given e here.0 child is, rest)

  -- and each name at which something is local has its entry
  pub are_children : IsStrictlySortedBy string_cmp (keys_of nodes.entries) → AreChildren (names_in nodes) prefix (children_in prefix nodes.entries)
  are_children sorted = record {
    each = all_from (IsChild (names_in nodes) prefix) (children_in prefix nodes.entries) (each_given nodes.entries (all_found nodes sorted [] nodes.entries refl));
    all = λ name plain some.
        let kept : is_bare (node_in nodes (prefix ++ name)) ≡ false = none_shown (node_in nodes (prefix ++ name)) (ap is_none (sym (local_shown nodes kept (prefix ++ name) (some_behind prefix name (some_text name plain)))) ∙ some) in
        among prefix name plain (node_in nodes (prefix ++ name)) kept nodes.entries (there (get_by_text nodes (prefix ++ name)) kept);
    rise = rising prefix nodes.entries sorted;
  }
    where
      there : (o : Option Node) → is_bare (unwrap_or o bare) ≡ false → o ≡ Some (unwrap_or o bare)
      there None kept = absurd (cc)
      there (Some node) kept = refl
