-- The children of a directory among the entries of a table of nodes, as a walk over the entries finds them.
use Rattle.std.proofs.Common.{◌≡◌, ◌≢◌, ℕ, Bor, MatchOption, get_or, lit<, ◌<◌, ◌≤◌, suc, Bool, true, false, cond, not, ◌&&◌, List, [], ◌∷◌, ◌++◌, length, drop, filter, Option, Some, None, String, string_bytes, Ordering, Less, Equal, Greater, is_gt, nat_cmp, refl, sym, ap, ◌∙◌, subst, arith, append-nil, append_assoc, length-append}
use Rattle.std.proofs.lemmas.Map.Keys.{sorted_head, sorted_tail}
use Rattle.std.proofs.lemmas.List.Kept.{IsStrictlySortedBy-filter}
use Rattle.std.specs.BTreeMap.Comparable.{le_lt_trans}
use Rattle.std.specs.BTreeMap.Range.{entries_between}
use Rattle.std.specs.Cmp.Lexicographic.{slice_cmp, nat_list_cmp_total}
use Rattle.std.specs.List.{AllByRecursion, cons_option, list_all, starts_with}
use Rattle.std.specs.List.Sorted.{IsStrictlySortedBy}
use Rattle.std.specs.Map.{keys_of}
use Rattle.std.specs.Ordering.{is_le, ordering_reverse, ordering_then}
use Rattle.std.specs.Cmp.{nat_cmp_total}
use Rattle.std.proofs.lemmas.Cmp.{tied_itself}
use Rattle.std.proofs.lemmas.Bool.{ne_eqb}
use Rattle.std.proofs.lemmas.Str.Pattern.{IsSplitOnceResult, split_parts}
use Rattle.local_names.proofs.Names.{distinct}
use Rattle.std.specs.Prelude.{nat_eq}
use Rattle.std.specs.String.{string_cmp}
use Rattle.std.specs.declared.ops.Bound.TheVariants.{Included, Unbounded}
use Rattle.mp_types.specs.Path.{slash}
use Rattle.mp_rules.specs.declared.entry.Local.{Local}
use Rattle.local_names.specs.declared.nodes.Node.{Node}
use Rattle.local_names.specs.Nodes.{is_bare, shown}
use Rattle.local_names.specs.Children.{AddsUpTo, is_plain, is_child_key, child_of, children_in, entries_from}
use Rattle.mp_types.proofs.Prefixes.{begins_joined, between, drop_joined, from_start, split_at}
use Rattle.local_names.proofs.Prefixes.{below_name}

-- keys in order

upto : (o : Ordering) → is_le o ≡ true → is_gt o ≡ false
upto Less is = refl
upto Equal is = refl
upto Greater is = absurd (cc)

not_above : (o : Ordering) → is_gt o ≡ false → is_le o ≡ true
not_above Less is = refl
not_above Equal is = refl
not_above Greater is = absurd (cc)

greater : (o : Ordering) → is_le o ≡ false → o ≡ Greater
greater Less is = absurd (cc)
greater Equal is = absurd (cc)
greater Greater is = refl

less_above : (o : Ordering) → o ≡ Less → is_le (ordering_reverse o) ≡ false
less_above o is = ap (λ (r : Ordering). is_le (ordering_reverse r)) is

le_less : (a b c : List ℕ) → is_le (slice_cmp nat_cmp a b) ≡ true → slice_cmp nat_cmp b c ≡ Less → slice_cmp nat_cmp a c ≡ Less
le_less a b c low high = le_lt_trans nat_list_cmp_total a b c low high

le_le : (a b c : List ℕ) → is_le (slice_cmp nat_cmp a b) ≡ true → is_le (slice_cmp nat_cmp b c) ≡ true → is_le (slice_cmp nat_cmp a c) ≡ true
le_le a b c low high = by_order (slice_cmp nat_cmp b c) refl high
  where
    by_order : (o : Ordering) → slice_cmp nat_cmp b c ≡ o → is_le o ≡ true → is_le (slice_cmp nat_cmp a c) ≡ true
    by_order Less is upto = ap is_le (le_less a b c low is)
    by_order Equal is upto = subst (λ (k : List ℕ). is_le (slice_cmp nat_cmp a k) ≡ true) (distinct b c is) low
    by_order Greater is upto = absurd (cc)

-- a text that isn't up to the key is behind it
behind_key : (text key : List ℕ) → is_le (slice_cmp nat_cmp text key) ≡ false → slice_cmp nat_cmp key text ≡ Less
behind_key text key above = nat_list_cmp_total.antisymm key text ∙ ap ordering_reverse (greater _ above)

below_text : (text key : List ℕ) → slice_cmp nat_cmp key text ≡ Less → is_le (slice_cmp nat_cmp text key) ≡ false
below_text text key less = ap is_le (nat_list_cmp_total.antisymm text key ∙ ap ordering_reverse less)

-- names with a `/` are not plain

has_slash : (name more : List ℕ) → list_all (λ byte. not (nat_eq byte slash)) (name ++ slash ∷ more) ≡ false
has_slash [] more = refl
has_slash (byte ∷ name) more = no_matter (not (nat_eq byte slash)) _ (has_slash name more)
  where
    no_matter : (a b : Bool) → b ≡ false → (a && b) ≡ false
    no_matter true b is = is
    no_matter false b is = refl

second_fails : (a b : Bool) → b ≡ false → (a && b) ≡ false
second_fails true b is = is
second_fails false b is = refl

not_plain : (name more : List ℕ) → is_plain (name ++ slash ∷ more) ≡ false
not_plain name more = second_fails _ _ (has_slash name more)

none_from : {A : Type 0} (a b : Bool) (x : A) → a ≡ false → cond (a && b) (Some x) None ≡ None
none_from true b x is = absurd (cc)
none_from false b x is = refl

-- the first key below a child, and what comes behind all of them
abbrev first : List ℕ → List ℕ → List ℕ
first prefix name = prefix ++ (name ++ slash ∷ [])

abbrev past : List ℕ → List ℕ → List ℕ
past prefix name = prefix ++ (name ++ 48 ∷ [])

pub cmp_behind : (front a b : List ℕ) → slice_cmp nat_cmp (front ++ a) (front ++ b) ≡ slice_cmp nat_cmp a b
cmp_behind [] a b = refl
cmp_behind (x ∷ front) a b = ap (λ (o : Ordering). ordering_then o (slice_cmp nat_cmp (front ++ a) (front ++ b))) (tied_itself nat_cmp_total x) ∙ cmp_behind front a b

below_comes_first : (prefix name more : List ℕ) → slice_cmp nat_cmp (prefix ++ (name ++ slash ∷ more)) (past prefix name) ≡ Less
below_comes_first prefix name more = cmp_behind prefix (name ++ slash ∷ more) (name ++ 48 ∷ []) ∙ cmp_behind name (slash ∷ more) (48 ∷ [])

module _ (prefix : List ℕ) where
  without_prefix : (k : List ℕ) → starts_with nat_eq k prefix ≡ false → is_child_key prefix k ≡ false
  without_prefix k other = ap (λ (b : Bool). b && is_plain (drop (length prefix) k)) other

  below_child : (name more k : List ℕ) → k ≡ prefix ++ (name ++ slash ∷ more) → is_child_key prefix k ≡ false
  below_child name more k is = second_fails _ _ (ap is_plain (ap (drop (length prefix)) is ∙ drop_joined prefix (name ++ slash ∷ more)) ∙ not_plain name more)

  below_past : (name k : List ℕ) → is_gt (slice_cmp nat_cmp (first prefix name) k) ≡ false → is_le (slice_cmp nat_cmp (past prefix name) k) ≡ false → is_child_key prefix k ≡ false
  below_past name k low high =
      let begins : starts_with nat_eq k (first prefix name) ≡ true = subst (λ (text : List ℕ). starts_with nat_eq k text ≡ true) (append_assoc prefix name (slash ∷ []))
      (below_name (prefix ++ name) k (subst (λ (text : List ℕ). is_gt (slice_cmp nat_cmp text k) ≡ false) (sym (append_assoc prefix name (slash ∷ []))) low)
      (subst (λ (text : List ℕ). slice_cmp nat_cmp k text ≡ Less) (sym (append_assoc prefix name (48 ∷ []))) (behind_key (past prefix name) k high))) in
      below_child name (drop (length (first prefix name)) k) k (split_at (first prefix name) k begins ∙ append_assoc prefix (name ++ slash ∷ []) (drop (length (first prefix name)) k) ∙ ap (λ (text : List ℕ). prefix ++ text) (append_assoc name (slash ∷ []) (drop (length (first prefix name)) k)))

and_true : (b : Bool) → (b && true) ≡ b
and_true true = refl
and_true false = refl

module _ {Y : Type 0} (prefix : List ℕ) where
  abbrev key : String Y × Node → List ℕ
  key e = string_bytes e.0

  -- neither a key without the prefix nor one below a child is a child's
  no_child : (e : String Y × Node) → is_child_key prefix (key e) ≡ false → child_of prefix e ≡ None
  no_child e other = none_from (is_child_key prefix (key e)) (not (is_bare e.1)) _ other

  -- no entry gives a child
  no_children : (es : List (String Y × Node)) → AllByRecursion (λ k. is_child_key prefix (string_bytes k) ≡ false) (keys_of es) → children_in prefix es ≡ []
  no_children [] none = refl
  no_children (e ∷ es) none = ap (λ (o : Option (List ℕ × Local)). cons_option o (children_in prefix es)) (no_child e none.0) ∙ no_children es none.1

  -- entries that give none may be left out
  left_out : (text : List ℕ) (es : List (String Y × Node)) → AllByRecursion (λ k. is_le (slice_cmp nat_cmp text (string_bytes k)) ≡ false → is_child_key prefix (string_bytes k) ≡ false) (keys_of es)
      → children_in prefix (entries_from text es) ≡ children_in prefix es
  left_out text [] none = refl
  left_out text (e ∷ es) none = by_test (is_le (slice_cmp nat_cmp text (key e))) refl (left_out text es none.1)
    where
      by_test : (b : Bool) → is_le (slice_cmp nat_cmp text (key e)) ≡ b → children_in prefix (entries_from text es) ≡ children_in prefix es
          → children_in prefix (cond b (e ∷ entries_from text es) (entries_from text es)) ≡ children_in prefix (e ∷ es)
      by_test true is rest = ap (λ (cs : List (List ℕ × Local)). cons_option (child_of prefix e) cs) rest
      by_test false is rest = rest ∙ ap (λ (o : Option (List ℕ × Local)). cons_option o (children_in prefix es)) (sym (no_child e (none.0 is)))

  -- keys with the prefix come from it on
  pub from_prefix : (es : List (String Y × Node)) → children_in prefix (entries_from prefix es) ≡ children_in prefix es
  from_prefix es = left_out prefix es (all_before es)
    where
      before : (k : List ℕ) → is_le (slice_cmp nat_cmp prefix k) ≡ false → is_child_key prefix k ≡ false
      before k above = without_prefix prefix k (by_test (starts_with nat_eq k prefix) refl)
        where
          by_test : (b : Bool) → starts_with nat_eq k prefix ≡ b → b ≡ false
          by_test true is = absurd (cc (not_above _ (from_start prefix k is)))
          by_test false is = refl

      all_before : (xs : List (String Y × Node)) → AllByRecursion (λ k. is_le (slice_cmp nat_cmp prefix (string_bytes k)) ≡ false → is_child_key prefix (string_bytes k) ≡ false) (keys_of xs)
      all_before [] = tt
      all_before (e ∷ xs) = (before (key e), all_before xs)

  -- behind the first key without the prefix, no key has it
  none_behind : (e : String Y × Node) (es : List (String Y × Node)) → IsStrictlySortedBy string_cmp (keys_of (e ∷ es)) → is_le (slice_cmp nat_cmp prefix (key e)) ≡ true → starts_with nat_eq (key e) prefix ≡ false → children_in prefix (e ∷ es) ≡ []
  none_behind e es sorted low other = no_children (e ∷ es) (without_prefix prefix (key e) other, all_behind es (sorted_head string_cmp e.0 (keys_of es) sorted))
    where
      behind : (k : List ℕ) → slice_cmp nat_cmp (key e) k ≡ Less → is_child_key prefix k ≡ false
      behind k less = without_prefix prefix k (by_test (starts_with nat_eq k prefix) refl)
        where
          by_test : (b : Bool) → starts_with nat_eq k prefix ≡ b → b ≡ false
          by_test true is = absurd (cc (between prefix (key e) k is (upto _ low) (ap is_gt less)))
          by_test false is = refl

      all_behind : (xs : List (String Y × Node)) → AllByRecursion (λ k. string_cmp e.0 k ≡ Less) (keys_of xs) → AllByRecursion (λ k. is_child_key prefix (string_bytes k) ≡ false) (keys_of xs)
      all_behind [] less = tt
      all_behind (x ∷ xs) less = (behind (key x) less.0, all_behind xs less.1)

  -- the keys below a child are passed over
  module _ (name more : List ℕ) where
    all_below_past : (e : String Y × Node) (es : List (String Y × Node)) → IsStrictlySortedBy string_cmp (keys_of (e ∷ es)) → key e ≡ prefix ++ (name ++ slash ∷ more)
        → AllByRecursion (λ k. is_le (slice_cmp nat_cmp (past prefix name) (string_bytes k)) ≡ false → is_child_key prefix (string_bytes k) ≡ false) (keys_of (e ∷ es))
    all_below_past e es sorted is = ((λ high. below_past prefix name (key e) low high), behind es (sorted_head string_cmp e.0 (keys_of es) sorted))
      where
        low : is_gt (slice_cmp nat_cmp (first prefix name) (key e)) ≡ false
        low = from_start (first prefix name) (key e) (subst (λ (text : List ℕ). starts_with nat_eq text (first prefix name) ≡ true) (sym (is ∙ ap (λ (text : List ℕ). prefix ++ text) (sym (append_assoc name (slash ∷ []) more)) ∙ sym (append_assoc prefix (name ++ slash ∷ []) more))) (begins_joined (first prefix name) more))

        behind : (xs : List (String Y × Node)) → AllByRecursion (λ k. string_cmp e.0 k ≡ Less) (keys_of xs) → AllByRecursion (λ k. is_le (slice_cmp nat_cmp (past prefix name) (string_bytes k)) ≡ false → is_child_key prefix (string_bytes k) ≡ false) (keys_of xs)
        behind [] less = tt
        behind (x ∷ xs) less = ((λ high. below_past prefix name (key x) (ap is_gt (le_less (first prefix name) (key e) (key x) (not_above _ low) less.0)) high), behind xs less.1)

-- the entries from a text on, where the keys rise

module _ {Y : Type 0} where
  abbrev text_of : String Y × Node → List ℕ
  text_of e = string_bytes e.0

  pub ranged : (from : String Y) (es : List (String Y × Node)) → entries_between string_cmp (Included from) Unbounded es ≡ entries_from (string_bytes from) es
  ranged from [] = refl
  ranged from (e ∷ es) = λ i. cond (and_true (is_le (string_cmp from e.0)) i) (e ∷ ranged from es i) (ranged from es i)

  keys_from : (text : List ℕ) (es : List (String Y × Node)) → keys_of (entries_from text es) ≡ filter (λ k. is_le (slice_cmp nat_cmp text (string_bytes k))) (keys_of es)
  keys_from text [] = refl
  keys_from text (e ∷ es) = by_test (keys_from text es) (is_le (slice_cmp nat_cmp text (text_of e)))
    where
      by_test : keys_of (entries_from text es) ≡ filter (λ k. is_le (slice_cmp nat_cmp text (string_bytes k))) (keys_of es) → (b : Bool) → keys_of (cond b (e ∷ entries_from text es) (entries_from text es)) ≡ cond b (e.0 ∷ filter (λ k. is_le (slice_cmp nat_cmp text (string_bytes k))) (keys_of es)) (filter (λ k. is_le (slice_cmp nat_cmp text (string_bytes k))) (keys_of es))
      by_test rest true = ap (λ (ks : List (String Y)). e.0 ∷ ks) rest
      by_test rest false = rest

  sorted_from : (text : List ℕ) (es : List (String Y × Node)) → IsStrictlySortedBy string_cmp (keys_of es) → IsStrictlySortedBy string_cmp (keys_of (entries_from text es))
  sorted_from text es sorted = subst (λ (ks : List (String Y)). IsStrictlySortedBy string_cmp ks) (sym (keys_from text es)) (IsStrictlySortedBy-filter string_cmp (λ k. is_le (slice_cmp nat_cmp text (string_bytes k))) (keys_of es) sorted)

  sorted_rest : (passed rest : List (String Y × Node)) → IsStrictlySortedBy string_cmp (keys_of (passed ++ rest)) → IsStrictlySortedBy string_cmp (keys_of rest)
  sorted_rest [] rest sorted = sorted
  sorted_rest (e ∷ passed) rest sorted = sorted_rest passed rest (sorted_tail string_cmp e.0 (keys_of (passed ++ rest)) sorted)

  -- each of them comes from the text on
  comes_from : (text : List ℕ) (es passed rest : List (String Y × Node)) (e : String Y × Node) → entries_from text es ≡ passed ++ e ∷ rest → is_le (slice_cmp nat_cmp text (text_of e)) ≡ true
  comes_from text es passed rest e is = at_split passed (subst (λ (xs : List (String Y × Node)). AllByRecursion (λ x. is_le (slice_cmp nat_cmp text (text_of x)) ≡ true) xs) is (all_pass es))
    where
      all_pass : (xs : List (String Y × Node)) → AllByRecursion (λ x. is_le (slice_cmp nat_cmp text (text_of x)) ≡ true) (entries_from text xs)
      all_pass [] = tt
      all_pass (x ∷ xs) = by_test (is_le (slice_cmp nat_cmp text (text_of x))) refl (all_pass xs)
        where
          by_test : (b : Bool) → is_le (slice_cmp nat_cmp text (text_of x)) ≡ b → AllByRecursion (λ y. is_le (slice_cmp nat_cmp text (text_of y)) ≡ true) (entries_from text xs) → AllByRecursion (λ y. is_le (slice_cmp nat_cmp text (text_of y)) ≡ true) (cond b (x ∷ entries_from text xs) (entries_from text xs))
          by_test true here others = (here, others)
          by_test false here others = others

      at_split : (xs : List (String Y × Node)) → AllByRecursion (λ x. is_le (slice_cmp nat_cmp text (text_of x)) ≡ true) (xs ++ e ∷ rest) → is_le (slice_cmp nat_cmp text (text_of e)) ≡ true
      at_split [] all = all.0
      at_split (x ∷ xs) all = at_split xs all.1

  -- from a later text on
  thinned : (from text : List ℕ) → slice_cmp nat_cmp from text ≡ Less → (es : List (String Y × Node)) → entries_from text (entries_from from es) ≡ entries_from text es
  thinned from text less [] = refl
  thinned from text less (e ∷ es) = by_tests (is_le (slice_cmp nat_cmp from (text_of e))) (is_le (slice_cmp nat_cmp text (text_of e))) refl refl (thinned from text less es)
    where
      by_tests : (a b : Bool) → is_le (slice_cmp nat_cmp from (text_of e)) ≡ a → is_le (slice_cmp nat_cmp text (text_of e)) ≡ b → entries_from text (entries_from from es) ≡ entries_from text es
          → entries_from text (cond a (e ∷ entries_from from es) (entries_from from es)) ≡ cond b (e ∷ entries_from text es) (entries_from text es)
      by_tests true true low high same = ap (λ (c : Bool). cond c (e ∷ entries_from text (entries_from from es)) (entries_from text (entries_from from es))) high ∙ ap (λ (xs : List (String Y × Node)). e ∷ xs) same
      by_tests true false low high same = ap (λ (c : Bool). cond c (e ∷ entries_from text (entries_from from es)) (entries_from text (entries_from from es))) high ∙ same
      by_tests false true low high same = absurd (cc (le_le from text (text_of e) (ap is_le less) high))
      by_tests false false low high same = same

  -- what was passed comes before a text behind the next key
  passed_over : (text : List ℕ) (passed rest : List (String Y × Node)) (e : String Y × Node) → IsStrictlySortedBy string_cmp (keys_of (passed ++ e ∷ rest)) → slice_cmp nat_cmp (text_of e) text ≡ Less
      → entries_from text (passed ++ e ∷ rest) ≡ entries_from text (e ∷ rest)
  passed_over text [] rest e sorted less = refl
  passed_over text (x ∷ passed) rest e sorted less =
      let before : slice_cmp nat_cmp (text_of x) (text_of e) ≡ Less = at_split passed (sorted_head string_cmp x.0 (keys_of (passed ++ e ∷ rest)) sorted) in
      ap (λ (c : Bool). cond c (x ∷ entries_from text (passed ++ e ∷ rest)) (entries_from text (passed ++ e ∷ rest))) (below_text text (text_of x) (nat_list_cmp_total.trans (text_of x) (text_of e) text before less))
      ∙ passed_over text passed rest e (sorted_tail string_cmp x.0 (keys_of (passed ++ e ∷ rest)) sorted) less
    where
      at_split : (xs : List (String Y × Node)) → AllByRecursion (λ k. string_cmp x.0 k ≡ Less) (keys_of (xs ++ e ∷ rest)) → slice_cmp nat_cmp (text_of x) (text_of e) ≡ Less
      at_split [] all = all.0
      at_split (y ∷ xs) all = at_split xs all.1

  shorter : (text : List ℕ) (es : List (String Y × Node)) → length (entries_from text es) ≤ length es
  shorter text [] = omega arith
  shorter text (e ∷ es) = by_test (is_le (slice_cmp nat_cmp text (text_of e))) (shorter text es)
    where
      by_test : (b : Bool) → length (entries_from text es) ≤ length es → length (cond b (e ∷ entries_from text es) (entries_from text es)) ≤ suc (length es)
      by_test true least = omega (arith, least)
      by_test false least = omega (arith, least)

-- the walk

-- how far it has come: the entries that are left are the last of those from the text on
pub record IsWalking {Y : Type 0} (prefix from : List ℕ) (entries rest : List (String Y × Node)) (before found : List (List ℕ × Local)) : Type 0 where
  pub passed : List (String Y × Node)
  pub split : entries_from from entries ≡ passed ++ rest
  pub adds : found ++ children_in prefix rest ≡ before ++ children_in prefix (entries_from from entries)

module _ {Y : Type 0} (prefix from : List ℕ) (entries : List (String Y × Node)) (sorted : IsStrictlySortedBy string_cmp (keys_of entries)) (before found : List (List ℕ × Local)) where
  pub walking_first : (rest : List (String Y × Node)) → rest ≡ entries_from from entries → IsWalking prefix from entries rest before before
  walking_first rest is = record { passed = []; split = sym is; adds = ap (λ (es : List (String Y × Node)). before ++ children_in prefix es) is }

  module _ (all rest : List (String Y × Node)) (e : String Y × Node) (next : all ≡ e ∷ rest) (walking : IsWalking prefix from entries all before found) where
    split : entries_from from entries ≡ walking.passed ++ e ∷ rest
    split = walking.split ∙ ap (λ (es : List (String Y × Node)). walking.passed ++ es) next

    adds : found ++ children_in prefix (e ∷ rest) ≡ before ++ children_in prefix (entries_from from entries)
    adds = ap (λ (es : List (String Y × Node)). found ++ children_in prefix es) (sym next) ∙ walking.adds

    sorted_here : IsStrictlySortedBy string_cmp (keys_of (walking.passed ++ e ∷ rest))
    sorted_here = subst (λ (es : List (String Y × Node)). IsStrictlySortedBy string_cmp (keys_of es)) split (sorted_from from entries sorted)

    further : IsWalking prefix from entries rest before (found ++ cons_option (child_of prefix e) [])
    further = record {
      passed = walking.passed ++ e ∷ [];
      split = split ∙ sym (append_assoc walking.passed (e ∷ []) rest);
      adds = append_assoc found (cons_option (child_of prefix e) []) (children_in prefix rest) ∙ ap (λ (cs : List (List ℕ × Local)). found ++ cs) (by_child (child_of prefix e)) ∙ adds;
    }
      where
        by_child : (o : Option (List ℕ × Local)) → cons_option o [] ++ children_in prefix rest ≡ cons_option o (children_in prefix rest)
        by_child None = refl
        by_child (Some child) = refl

    -- the entry gives no child
    pub walking_over : child_of prefix e ≡ None → IsWalking prefix from entries rest before found
    walking_over none = subst (λ (cs : List (List ℕ × Local)). IsWalking prefix from entries rest before cs) (ap (λ (o : Option (List ℕ × Local)). found ++ cons_option o []) none ∙ append-nil found) further

    pub walking_on : (child : List ℕ × Local) → child_of prefix e ≡ Some child → IsWalking prefix from entries rest before (found ++ child ∷ [])
    walking_on child some = subst (λ (cs : List (List ℕ × Local)). IsWalking prefix from entries rest before cs) (ap (λ (o : Option (List ℕ × Local)). found ++ cons_option o []) some) further

    module _ (begins : starts_with nat_eq from prefix ≡ true) where
      -- the prefix has ended
      pub walked_out : starts_with nat_eq (string_bytes e.0) prefix ≡ false → found ≡ before ++ children_in prefix (entries_from from entries)
      walked_out other =
          let low : is_le (slice_cmp nat_cmp prefix (string_bytes e.0)) ≡ true = le_le prefix from (string_bytes e.0) (not_above _ (from_start prefix from begins)) (comes_from from entries walking.passed rest e split) in
          sym (append-nil found) ∙ ap (λ (cs : List (List ℕ × Local)). found ++ cs) (sym (none_behind prefix e rest (sorted_rest walking.passed (e ∷ rest) sorted_here) low other)) ∙ adds

      -- keys below a child come next
      pub walked_to : (name more text : List ℕ) → string_bytes e.0 ≡ prefix ++ (name ++ slash ∷ more) → text ≡ prefix ++ (name ++ 48 ∷ []) → AddsUpTo prefix from entries before found text
      walked_to name more text is past_is =
          let less : slice_cmp nat_cmp (string_bytes e.0) text ≡ Less = (λ i. slice_cmp nat_cmp (is i) (past_is i)) ∙ below_comes_first prefix name more in
          let low : is_le (slice_cmp nat_cmp from (string_bytes e.0)) ≡ true = comes_from from entries walking.passed rest e split in
          let same : entries_from text entries ≡ entries_from text (e ∷ rest) =
          sym (thinned from text (le_less from (string_bytes e.0) text low less) entries) ∙ ap (entries_from text) split ∙ passed_over text walking.passed rest e sorted_here less in
          record {
            begins = subst (λ (t : List ℕ). starts_with nat_eq t prefix ≡ true) (sym past_is) (begins_joined prefix (name ++ 48 ∷ []));
            adds = ap (λ (es : List (String Y × Node)). found ++ children_in prefix es) same
                ∙ ap (λ (cs : List (List ℕ × Local)). found ++ cs) (subst (λ (t : List ℕ). children_in prefix (entries_from t (e ∷ rest)) ≡ children_in prefix (e ∷ rest)) (sym past_is) (left_out prefix (prefix ++ (name ++ 48 ∷ [])) (e ∷ rest) (all_below_past prefix name more e rest (sorted_rest walking.passed (e ∷ rest) sorted_here) is)))
                ∙ adds;
            fewer = omega (arith, ap length same, ap length (dropped less), shorter text rest, ap length split, length-append walking.passed (e ∷ rest));
          }
        where
          dropped : slice_cmp nat_cmp (string_bytes e.0) text ≡ Less → entries_from text (e ∷ rest) ≡ entries_from text rest
          dropped less = ap (λ (c : Bool). cond c (e ∷ entries_from text rest) (entries_from text rest)) (below_text text (string_bytes e.0) less)

  pub walked_all : (rest : List (String Y × Node)) → rest ≡ [] → IsWalking prefix from entries rest before found → found ≡ before ++ children_in prefix (entries_from from entries)
  walked_all rest none walking = sym (append-nil found) ∙ ap (λ (es : List (String Y × Node)). found ++ children_in prefix es) (sym none) ∙ walking.adds

-- what the walk reads of a key

pub split_slash : (text : List ℕ) (r : Option (Bor (List ℕ) × Bor (List ℕ))) (x : Bor (List ℕ) × Bor (List ℕ)) → r ≡ Some x → IsSplitOnceResult 47 text r → text ≡ x.0.now ++ slash ∷ x.1.now
split_slash text r x is found = (subst (λ (o : Option (Bor (List ℕ) × Bor (List ℕ))). MatchOption o ((i : ℕ) → i < length text → get_or text i 0 ≢ 47) (λ y. (text ≡ y.0.now ++ (47 ∷ y.1.now)) × ((i : ℕ) → i < length y.0.now → get_or y.0.now i 0 ≢ 47))) is (split_parts 47 text r found (lit< tt))).0

pub no_split : (text : List ℕ) (r : Option (Bor (List ℕ) × Bor (List ℕ))) → r ≡ None → IsSplitOnceResult 47 text r → list_all (λ byte. not (nat_eq byte slash)) text ≡ true
no_split text r is none = each text (subst (λ (o : Option (Bor (List ℕ) × Bor (List ℕ))). MatchOption o ((i : ℕ) → i < length text → get_or text i 0 ≢ 47) (λ y. (text ≡ y.0.now ++ (47 ∷ y.1.now)) × ((i : ℕ) → i < length y.0.now → get_or y.0.now i 0 ≢ 47))) is (split_parts 47 text r none (lit< tt)))
  where
    each : (bytes : List ℕ) → ((i : ℕ) → i < length bytes → get_or bytes i 0 ≢ 47) → list_all (λ byte. not (nat_eq byte slash)) bytes ≡ true
    each [] other = refl
    each (byte ∷ bytes) other = (λ i. not (ne_eqb byte 47 (other 0 (omega arith)) i) && list_all (λ b. not (nat_eq b slash)) bytes) ∙ each bytes (λ i less. other (suc i) (omega (arith, less)))

module _ {Y : Type 0} (prefix name : List ℕ) (e : String Y × Node) (is : string_bytes e.0 ≡ prefix ++ name) where
  rest_is : drop (length prefix) (string_bytes e.0) ≡ name
  rest_is = ap (drop (length prefix)) is ∙ drop_joined prefix name

  child_by_name : child_of prefix e ≡ cond (is_plain name && not (is_bare e.1)) (Some (name, shown e.1)) None
  child_by_name =
      ap (λ (b : Bool). cond ((b && is_plain (drop (length prefix) (string_bytes e.0))) && not (is_bare e.1)) (Some (drop (length prefix) (string_bytes e.0), shown e.1)) None) (subst (λ (text : List ℕ). starts_with nat_eq text prefix ≡ true) (sym is) (begins_joined prefix name))
      ∙ ap (λ (text : List ℕ). cond (is_plain text && not (is_bare e.1)) (Some (text, shown e.1)) None) rest_is

  pub child_found : is_plain name ≡ true → is_bare e.1 ≡ false → child_of prefix e ≡ Some (name, shown e.1)
  child_found plain kept = child_by_name ∙ (λ i. cond (plain i && not (kept i)) (Some (name, shown e.1)) None)

  pub child_empty : length name ≡ 0 → child_of prefix e ≡ None
  child_empty empty = child_by_name ∙ ap (λ (n : ℕ). cond ((not (nat_eq n 0) && list_all (λ byte. not (nat_eq byte slash)) name) && not (is_bare e.1)) (Some (name, shown e.1)) None) empty

  pub child_bare : is_bare e.1 ≡ true → child_of prefix e ≡ None
  child_bare bare = child_by_name ∙ ap (λ (b : Bool). cond {A = Option (List ℕ × Local)} (is_plain name && not b) (Some (name, shown e.1)) None) bare ∙ by_plain (is_plain name)
    where
      by_plain : (b : Bool) → cond {A = Option (List ℕ × Local)} (b && false) (Some (name, shown e.1)) None ≡ None
      by_plain true = refl
      by_plain false = refl

pub plain_name : (name : List ℕ) → nat_eq (length name) 0 ≡ false → list_all (λ byte. not (nat_eq byte slash)) name ≡ true → is_plain name ≡ true
plain_name name some bytes = λ i. not (some i) && bytes i
