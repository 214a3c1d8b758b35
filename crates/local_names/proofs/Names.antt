-- The names of a table, and how many lie below each key.
use Rattle.std.proofs.Common.{◌≡◌, ℕ, ◌+◌, ◌<◌, ◌≤◌, Bool, true, false, cond, not, ◌&&◌, ◌||◌, List, [], ◌∷◌, length, suc, Some, None, Option, IsSome, is_some, unwrap_or, String, string_bytes, refl, sym, ap, subst, ◌∙◌, arith}
use mathlib.Core.Bool.{true≢false}
use Rattle.std.proofs.lemmas.Map.Text.{is_eq-slice_cmp}
use Rattle.std.proofs.lemmas.Bool.{or_parts}
use Rattle.std.proofs.lemmas.Bool.Decides.{nat_tests}
use Rattle.std.proofs.lemmas.List.{nil_from_length}
use Rattle.std.proofs.lemmas.List.Folds.{list_any-append}
use Rattle.std.specs.BTreeMap.{BTreeMap, IsEmpty}
use Rattle.std.specs.Cmp.Lexicographic.{slice_cmp, nat_list_cmp_total, nat_list_eq_equiv, bytes_decides}
use Rattle.std.specs.FinMap as map
use Rattle.std.specs.FinSet as set
use Rattle.std.specs.FinSet.{IsAntisymmetric, nat_cmp-IsAntisymmetric, slice_cmp-IsAntisymmetric}
use Rattle.std.specs.List.{list_any}
use Rattle.std.specs.Map.{lookup}
use Rattle.std.specs.Ordering.{nat_cmp, is_eq, eq_by_cmp}
use Rattle.std.specs.Prelude.{nat_lt, if◌then◌else◌}
use Rattle.std.specs.Str.{bytes_eq}
use Rattle.mp_types.proofs.Texts.{same_text}
use Rattle.mp_rules.specs.declared.entry.Local.{Local}
use Rattle.mp_rules.specs.declared.entry.Local.TheVariants as local
use Rattle.mp_rules.specs.Local.{Keys, LocalNames, with_file, without_name, without_file, has_name_below, file_of, local_at}
use Rattle.mp_rules.specs.Keys.{is_under}
use Rattle.local_names.specs.declared.nodes.Node.{Node}
use Rattle.local_names.specs.Nodes.{bare, is_none, is_dir, size_of, is_file, node_in, kind_in, count_in}
use Rattle.local_names.specs.Under.{one}
use Rattle.local_names.specs.Names.{Sizes, keys_in, count_under, count_below, is_name, with_name, without_dir}
use Rattle.local_names.specs.Kept.{dirs_of, with_size, sizes_of, names_in, IsKept}
use Rattle.local_names.proofs.Counts.{remove_none, count-empty, count_more, count_less, count_insert_most, count_remove_most, any_counts}

pub distinct : IsAntisymmetric (slice_cmp nat_cmp)
distinct = slice_cmp-IsAntisymmetric nat_cmp-IsAntisymmetric

pub same_keys : (s t : Keys) → ((q : List ℕ) → set.contains s q ≡ set.contains t q) → s ≡ t
same_keys = set.same_set nat_list_cmp_total distinct

same_sizes : (m n : Sizes) → ((q : List ℕ) → map.get m q ≡ map.get n q) → m ≡ n
same_sizes = map.same_map nat_list_cmp_total distinct

-- the keys of files

in_keys : (m : Sizes) (q : List ℕ) → set.contains (keys_in m) q ≡ map.contains_key m q
in_keys m q = set.contains-from_list nat_list_cmp_total (map.keys m) q ∙ sym (map.contains_key-keys m q)

some_inserted : (e : Bool) (size : ℕ) (o : Option ℕ) → is_some (cond e (Some size) o) ≡ (e || is_some o)
some_inserted true size o = refl
some_inserted false size o = refl

some_removed : (e : Bool) (o : Option ℕ) → is_some (cond e None o) ≡ (not e && is_some o)
some_removed true o = refl
some_removed false o = refl

keys-insert : (m : Sizes) (key : List ℕ) (size : ℕ) → keys_in (map.insert m key size) ≡ set.insert (keys_in m) key
keys-insert m key size = same_keys _ _ (λ q.
    let here : Bool = eq_by_cmp (slice_cmp nat_cmp) q key in
    in_keys (map.insert m key size) q
    ∙ ap is_some (map.get-insert nat_list_cmp_total m key size q) ∙ some_inserted here size (map.get m q)
    ∙ sym (set.contains-insert nat_list_cmp_total (keys_in m) key q ∙ ap (λ (b : Bool). here || b) (in_keys m q)))

keys-remove : (m : Sizes) (key : List ℕ) → keys_in (map.remove m key) ≡ set.remove (keys_in m) key
keys-remove m key = same_keys _ _ (λ q.
    let here : Bool = eq_by_cmp (slice_cmp nat_cmp) q key in
    in_keys (map.remove m key) q
    ∙ ap is_some (map.get-remove nat_list_cmp_total m key q) ∙ some_removed here (map.get m q)
    ∙ sym (set.contains-remove nat_list_cmp_total (keys_in m) key q ∙ ap (λ (b : Bool). not here && b) (in_keys m q)))

either : (e c : Bool) → (e ≡ true → c ≡ true) → (e || c) ≡ c
either true c same = sym (same refl)
either false c same = refl

inserted_again : (s : Keys) (key : List ℕ) → set.contains s key ≡ true → set.insert s key ≡ s
inserted_again s key some = same_keys _ _ (λ q.
    set.contains-insert nat_list_cmp_total s key q
    ∙ either (eq_by_cmp (slice_cmp nat_cmp) q key) (set.contains s q) (λ is. ap (λ (k : List ℕ). set.contains s k) (same_text q key is) ∙ some))

-- another size changes no key
keys_stay : (m : Sizes) (key : List ℕ) (size : ℕ) → map.contains_key m key ≡ true → keys_in (map.insert m key size) ≡ keys_in m
keys_stay m key size some = keys-insert m key size ∙ inserted_again (keys_in m) key (in_keys m key ∙ some)

-- which keys are directories, and which are files

chosen : {A : Type 0} (pick : Local → A) (b : Bool) (kind other : Local) → pick (cond b kind other) ≡ cond b (pick kind) (pick other)
chosen pick true kind other = refl
chosen pick false kind other = refl

kind_found : (b : Bool) (node : Node) (o : Option Node) → (unwrap_or (cond b (Some node) o) bare).kind ≡ cond b node.kind (unwrap_or o bare).kind
kind_found true node o = refl
kind_found false node o = refl

inserted_or : (e t : Bool) → (e || t) ≡ cond e true t
inserted_or true t = refl
inserted_or false t = refl

removed_or : (e t : Bool) → (not e && t) ≡ cond e false t
removed_or true t = refl
removed_or false t = refl

in_set : (b : Bool) (key : List ℕ) (s : Keys) (q : List ℕ) → set.contains (cond b (set.insert s key) (set.remove s key)) q ≡ cond (eq_by_cmp (slice_cmp nat_cmp) q key) b (set.contains s q)
in_set true key s q = set.contains-insert nat_list_cmp_total s key q ∙ inserted_or (eq_by_cmp (slice_cmp nat_cmp) q key) (set.contains s q)
in_set false key s q = set.contains-remove nat_list_cmp_total s key q ∙ removed_or (eq_by_cmp (slice_cmp nat_cmp) q key) (set.contains s q)

size_at : (o : Option ℕ) (key : List ℕ) (m : Sizes) (q : List ℕ) → map.get (with_size o key m) q ≡ cond (eq_by_cmp (slice_cmp nat_cmp) q key) o (map.get m q)
size_at (Some size) key m q = map.get-insert nat_list_cmp_total m key size q
size_at None key m q = map.get-remove nat_list_cmp_total m key q

module _ {Y : Type 0} where
  abbrev found : List (String Y × Node) → List ℕ → Option Node
  found es q = lookup (λ k. is_eq (slice_cmp nat_cmp q (string_bytes k))) es

  abbrev kind_at : List (String Y × Node) → List ℕ → Local
  kind_at es q = (unwrap_or (found es q) bare).kind

  kind_first : {A : Type 0} (pick : Local → A) (e : String Y × Node) (es : List (String Y × Node)) (q : List ℕ) → pick (kind_at (e ∷ es) q) ≡ cond (is_eq (slice_cmp nat_cmp q (string_bytes e.0))) (pick e.1.kind) (pick (kind_at es q))
  kind_first pick e es q =
      ap pick (kind_found (is_eq (slice_cmp nat_cmp q (string_bytes e.0))) e.1 (found es q))
      ∙ chosen pick (is_eq (slice_cmp nat_cmp q (string_bytes e.0))) e.1.kind (kind_at es q)

  dir_found : (es : List (String Y × Node)) (q : List ℕ) → set.contains (dirs_of es) q ≡ is_dir (kind_at es q)
  dir_found [] q = set.contains-empty (slice_cmp nat_cmp) q
  dir_found (e ∷ es) q =
      in_set (is_dir e.1.kind) (string_bytes e.0) (dirs_of es) q
      ∙ ap (λ (b : Bool). cond (is_eq (slice_cmp nat_cmp q (string_bytes e.0))) (is_dir e.1.kind) b) (dir_found es q)
      ∙ sym (kind_first is_dir e es q)

  size_found : (es : List (String Y × Node)) (q : List ℕ) → map.get (sizes_of es) q ≡ size_of (kind_at es q)
  size_found [] q = map.get-empty (slice_cmp nat_cmp) q
  size_found (e ∷ es) q =
      size_at (size_of e.1.kind) (string_bytes e.0) (sizes_of es) q
      ∙ ap (λ (o : Option ℕ). cond (is_eq (slice_cmp nat_cmp q (string_bytes e.0))) (size_of e.1.kind) o) (size_found es q)
      ∙ sym (kind_first size_of e es q)

  module _ (nodes : BTreeMap (String Y) Node) (key : List ℕ) where
    dir_there : set.contains (names_in nodes).dirs key ≡ is_dir (kind_in nodes key)
    dir_there = dir_found nodes.entries key

    size_there : map.get (names_in nodes).files key ≡ size_of (kind_in nodes key)
    size_there = size_found nodes.entries key

    file_there : map.contains_key (names_in nodes).files key ≡ is_file (kind_in nodes key)
    file_there = ap is_some size_there

-- no nodes

keys-empty : keys_in map.empty ≡ set.empty
keys-empty = same_keys _ _ (λ q. in_keys map.empty q ∙ ap is_some (map.get-empty {X = ℕ} (slice_cmp nat_cmp) q) ∙ sym (set.contains-empty (slice_cmp nat_cmp) q))

none_below : (key : List ℕ) → count_below (record { dirs = set.empty; files = map.empty }) key ≡ 0
none_below key =
    let dirs : count_under key set.empty ≡ 0 = count-empty nat_list_cmp_total distinct (λ name. is_under name key) in
    let files : count_under key (keys_in map.empty) ≡ 0 = ap (count_under key) keys-empty ∙ dirs in
    omega (arith, dirs, files)

pub empty_is_kept : {Y : Type 0} (nodes : BTreeMap (String Y) Node) → IsEmpty nodes → IsKept nodes
empty_is_kept nodes empty = record {
  counted = λ key. rw empty (sym (none_below key));
  unnamed = rw empty refl;
}

pub empty_dirs : {Y : Type 0} (nodes : BTreeMap (String Y) Node) → length nodes.entries ≡ 0 → (names_in nodes).dirs ≡ set.empty
empty_dirs nodes none = ap dirs_of (nil_from_length nodes.entries none)

-- what is read from a node

some_of_both : (a b : ℕ) → (nat_lt 0 a || nat_lt 0 b) ≡ nat_lt 0 (a + b)
some_of_both a b = grind (arith, nat_tests)

names_below : (names : LocalNames) (key : List ℕ) → 0 < length key → has_name_below names key ≡ nat_lt 0 (count_below names key)
names_below names [] some = absurd (omega arith)
names_below names (byte ∷ bytes) some =
    let under : List ℕ → Bool = λ name. is_under name (byte ∷ bytes) in
    let dirs : list_any under (set.items names.dirs) ≡ nat_lt 0 (count_under (byte ∷ bytes) names.dirs) = any_counts nat_list_cmp_total distinct under (set.items names.dirs) names.dirs (set.contains-items names.dirs) in
    let files : list_any under (map.keys names.files) ≡ nat_lt 0 (count_under (byte ∷ bytes) (keys_in names.files)) = any_counts nat_list_cmp_total distinct under (map.keys names.files) (keys_in names.files) (set.contains-from_list nat_list_cmp_total (map.keys names.files)) in
    list_any-append under (set.items names.dirs) (map.keys names.files)
    ∙ (λ i. dirs i || files i)
    ∙ some_of_both (count_under (byte ∷ bytes) names.dirs) (count_under (byte ∷ bytes) (keys_in names.files))

local_by_kind : (kind : Local) (b : Bool) → (if is_dir kind || b then local.Dir else file_of (size_of kind)) ≡ cond b local.Dir kind
local_by_kind local.None true = refl
local_by_kind local.None false = refl
local_by_kind local.Dir true = refl
local_by_kind local.Dir false = refl
local_by_kind (local.File size) true = refl
local_by_kind (local.File size) false = refl

module _ {Y : Type 0} (nodes : BTreeMap (String Y) Node) (is : IsKept nodes) where
  pub kept_below : (key : List ℕ) → 0 < length key → has_name_below (names_in nodes) key ≡ nat_lt 0 (count_in nodes key)
  kept_below key some = names_below (names_in nodes) key some ∙ ap (λ (n : ℕ). nat_lt 0 n) (sym (is.counted key))

  pub kept_local : (key : List ℕ) → 0 < length key → local_at (names_in nodes) key ≡ cond (nat_lt 0 (count_in nodes key)) local.Dir (kind_in nodes key)
  kept_local key some =
      (λ i. if dir_there nodes key i || kept_below key some i then local.Dir else file_of (size_there nodes key i))
      ∙ local_by_kind (kind_in nodes key) (nat_lt 0 (count_in nodes key))

  pub kept_root : set.contains (names_in nodes).dirs [] ≡ false
  kept_root = dir_there nodes [] ∙ ap is_dir is.unnamed

name_of_kind : (kind : Local) → (is_dir kind || is_file kind) ≡ not (is_none kind)
name_of_kind local.None = refl
name_of_kind local.Dir = refl
name_of_kind (local.File size) = refl

pub name_in : {Y : Type 0} (nodes : BTreeMap (String Y) Node) (key : List ℕ) → is_name (names_in nodes) key ≡ not (is_none (kind_in nodes key))
name_in nodes key = (λ i. dir_there nodes key i || file_there nodes key i) ∙ name_of_kind (kind_in nodes key)

pub is_kept_file : {Y : Type 0} (nodes : BTreeMap (String Y) Node) (names : LocalNames) (key : List ℕ) → names_in nodes ≡ names → IsSome (map.get names.files key) → is_file (kind_in nodes key) ≡ true
is_kept_file nodes names key is some = sym (file_there nodes key) ∙ ap (λ (n : LocalNames). map.contains_key n.files key) is ∙ some

-- one key is set to a kind

module _ {Y : Type 0} (old new : BTreeMap (String Y) Node) where
  pub same_names : ((q : List ℕ) → kind_in new q ≡ kind_in old q) → names_in new ≡ names_in old
  same_names kinds i = record { dirs = dirs i; files = files i }
    where
      dirs : dirs_of new.entries ≡ dirs_of old.entries
      dirs = same_keys _ _ (λ q. dir_there new q ∙ ap is_dir (kinds q) ∙ sym (dir_there old q))

      files : sizes_of new.entries ≡ sizes_of old.entries
      files = same_sizes _ _ (λ q. size_there new q ∙ ap size_of (kinds q) ∙ sym (size_there old q))

  module _ (key : List ℕ) (kind : Local) (kinds : (q : List ℕ) → kind_in new q ≡ cond (bytes_eq key q) kind (kind_in old q)) where
    kind_now : {A : Type 0} (pick : Local → A) (q : List ℕ) → pick (kind_in new q) ≡ cond (eq_by_cmp (slice_cmp nat_cmp) q key) (pick kind) (pick (kind_in old q))
    kind_now pick q =
        ap pick (kinds q) ∙ chosen pick (bytes_eq key q) kind (kind_in old q)
        ∙ ap (λ (b : Bool). cond b (pick kind) (pick (kind_in old q))) (sym (is_eq-slice_cmp q key ∙ nat_list_eq_equiv.symm q key))

    dirs_set : dirs_of new.entries ≡ cond (is_dir kind) (set.insert (dirs_of old.entries) key) (set.remove (dirs_of old.entries) key)
    dirs_set = same_keys _ _ (λ q.
        dir_there new q ∙ kind_now is_dir q
        ∙ ap (λ (b : Bool). cond (eq_by_cmp (slice_cmp nat_cmp) q key) (is_dir kind) b) (sym (dir_there old q))
        ∙ sym (in_set (is_dir kind) key (dirs_of old.entries) q))

    sizes_set : sizes_of new.entries ≡ with_size (size_of kind) key (sizes_of old.entries)
    sizes_set = same_sizes _ _ (λ q.
        size_there new q ∙ kind_now size_of q
        ∙ ap (λ (o : Option ℕ). cond (eq_by_cmp (slice_cmp nat_cmp) q key) (size_of kind) o) (sym (size_there old q))
        ∙ sym (size_at (size_of kind) key (sizes_of old.entries) q))

-- a name has one kind

is_none_kind : (kind : Local) → is_none kind ≡ true → kind ≡ local.None
is_none_kind local.None is = refl
is_none_kind local.Dir is = absurd (cc)
is_none_kind (local.File size) is = absurd (cc)

dir_is_no_file : (kind : Local) → is_dir kind ≡ true → is_file kind ≡ false
dir_is_no_file local.None is = absurd (cc)
dir_is_no_file local.Dir is = refl
dir_is_no_file (local.File size) is = absurd (cc)

file_is_no_dir : (kind : Local) → is_file kind ≡ true → is_dir kind ≡ false
file_is_no_dir local.None is = absurd (cc)
file_is_no_dir local.Dir is = absurd (cc)
file_is_no_dir (local.File size) is = refl

-- a name more or less

not_empty : (key : List ℕ) → 0 < length key → bytes_eq key [] ≡ false
not_empty [] some = absurd (omega arith)
not_empty (byte ∷ key) some = refl

without_absent : (s : Keys) (key : List ℕ) → set.contains s key ≡ false → set.remove s key ≡ s
without_absent = remove_none nat_list_cmp_total distinct

none_left : (e : Bool) (o : Option ℕ) → (e ≡ true → is_some o ≡ false) → cond e None o ≡ o
none_left true None none = refl
none_left true (Some size) none = absurd (true≢false (none refl))
none_left false o none = refl

without_absent_file : (m : Sizes) (key : List ℕ) → map.contains_key m key ≡ false → map.remove m key ≡ m
without_absent_file m key none = same_sizes _ _ (λ q.
    map.get-remove nat_list_cmp_total m key q
    ∙ none_left (eq_by_cmp (slice_cmp nat_cmp) q key) (map.get m q) (λ is. ap (λ (k : List ℕ). map.contains_key m k) (same_text q key is) ∙ none))

under_less : (key q : List ℕ) (s : Keys) → set.contains s key ≡ true → count_under q (set.remove s key) + one (is_under key q) ≡ count_under q s
under_less key q s member = count_less nat_list_cmp_total distinct (λ name. is_under name q) s key member

under_more : (key q : List ℕ) (s : Keys) → set.contains s key ≡ false → count_under q (set.insert s key) ≡ count_under q s + one (is_under key q)
under_more key q s other = count_more nat_list_cmp_total distinct (λ name. is_under name q) s key other

-- for a name that has one kind
below_less : (key q : List ℕ) (names : LocalNames) (kind : Local) → is_none kind ≡ false → set.contains names.dirs key ≡ is_dir kind → map.contains_key names.files key ≡ is_file kind
    → count_below (without_name key names) q + one (is_under key q) ≡ count_below names q
below_less key q names local.None named dir file = absurd (cc)
below_less key q names local.Dir named dir file =
    let dirs = under_less key q names.dirs dir in
    let files : count_under q (keys_in (map.remove names.files key)) ≡ count_under q (keys_in names.files) = ap (λ (m : Sizes). count_under q (keys_in m)) (without_absent_file names.files key file) in
    omega (arith, dirs, files)
below_less key q names (local.File size) named dir file =
    let fewer = under_less key q (keys_in names.files) (in_keys names.files key ∙ file) in
    let files : count_under q (keys_in (map.remove names.files key)) ≡ count_under q (set.remove (keys_in names.files) key) = ap (count_under q) (keys-remove names.files key) in
    let dirs : count_under q (set.remove names.dirs key) ≡ count_under q names.dirs = ap (count_under q) (without_absent names.dirs key dir) in
    omega (arith, dirs, files, fewer)

-- for a key that is no name
below_more : (key q : List ℕ) (names : LocalNames) (kind : Local) → is_none kind ≡ false → set.contains names.dirs key ≡ false → map.contains_key names.files key ≡ false
    → count_below (with_name kind key names) q ≡ count_below names q + one (is_under key q)
below_more key q names local.None named dir file = absurd (cc)
below_more key q names local.Dir named dir file = omega (arith, under_more key q names.dirs dir)
below_more key q names (local.File size) named dir file =
    let more = under_more key q (keys_in names.files) (in_keys names.files key ∙ file) in
    let files : count_under q (keys_in (map.insert names.files key size)) ≡ count_under q (set.insert (keys_in names.files) key) = ap (count_under q) (keys-insert names.files key size) in
    omega (arith, files, more)

pub without_none : {Y : Type 0} (nodes : BTreeMap (String Y) Node) (key : List ℕ) → is_none (kind_in nodes key) ≡ true → without_name key (names_in nodes) ≡ names_in nodes
without_none nodes key is i = record {
  dirs = without_absent (names_in nodes).dirs key (dir_there nodes key ∙ ap is_dir (is_none_kind (kind_in nodes key) is)) i;
  files = without_absent_file (names_in nodes).files key (file_there nodes key ∙ ap is_file (is_none_kind (kind_in nodes key) is)) i;
}

module _ {Y : Type 0} (old new : BTreeMap (String Y) Node) (kept : IsKept old) (key : List ℕ) where
  module _ (named : is_none (kind_in old key) ≡ false) where
    less : (q : List ℕ) → count_below (without_name key (names_in old)) q + one (is_under key q) ≡ count_in old q
    less q =
        below_less key q (names_in old) (kind_in old key) named (dir_there old key) (file_there old key)
        ∙ sym (kept.counted q)

    pub counted_above : (q : List ℕ) → one (is_under key q) ≤ count_in old q
    counted_above q = omega (arith, less q)

    module _ (kinds : (q : List ℕ) → kind_in new q ≡ cond (bytes_eq key q) local.None (kind_in old q)) where
      pub removed_names : names_in new ≡ without_name key (names_in old)
      removed_names i = record { dirs = dirs_set old new key local.None kinds i; files = sizes_set old new key local.None kinds i }

      pub removed_kept : ((q : List ℕ) → count_in new q + one (is_under key q) ≡ count_in old q) → IsKept new
      removed_kept counts = record {
        counted = λ q.
            let now : count_in new q ≡ count_below (without_name key (names_in old)) q = omega (arith, counts q, less q) in
            now ∙ sym (ap (λ (names : LocalNames). count_below names q) removed_names);
        unnamed = kinds [] ∙ still (bytes_eq key []) (kind_in old []) kept.unnamed;
      }
        where
          still : (b : Bool) (kind : Local) → kind ≡ local.None → cond b local.None kind ≡ local.None
          still true kind is = refl
          still false kind is = is

  module _ (kind : Local) (some_kind : is_none kind ≡ false) (free : is_name (names_in old) key ≡ false)
      (kinds : (q : List ℕ) → kind_in new q ≡ cond (bytes_eq key q) kind (kind_in old q)) where
    no_dir : set.contains (names_in old).dirs key ≡ false
    no_dir = (or_parts (set.contains (names_in old).dirs key) (map.contains_key (names_in old).files key) free).0

    no_file : map.contains_key (names_in old).files key ≡ false
    no_file = (or_parts (set.contains (names_in old).dirs key) (map.contains_key (names_in old).files key) free).1

    pub added_names : names_in new ≡ with_name kind key (names_in old)
    added_names = by_kind kind some_kind (dirs_set old new key kind kinds) (sizes_set old new key kind kinds)
      where
        by_kind : (k : Local) → is_none k ≡ false
            → dirs_of new.entries ≡ cond (is_dir k) (set.insert (dirs_of old.entries) key) (set.remove (dirs_of old.entries) key)
            → sizes_of new.entries ≡ with_size (size_of k) key (sizes_of old.entries)
            → names_in new ≡ with_name k key (names_in old)
        by_kind local.None named dirs files = absurd (cc)
        by_kind local.Dir named dirs files = λ i. record { dirs = dirs i; files = (files ∙ without_absent_file (sizes_of old.entries) key no_file) i }
        by_kind (local.File size) named dirs files = λ i. record { dirs = (dirs ∙ without_absent (dirs_of old.entries) key no_dir) i; files = files i }

    pub added_kept : 0 < length key → ((q : List ℕ) → count_in new q ≡ count_in old q + one (is_under key q)) → IsKept new
    added_kept some counts = record {
      counted = λ q.
          counts q ∙ ap (λ (n : ℕ). n + one (is_under key q)) (kept.counted q)
          ∙ sym (below_more key q (names_in old) kind some_kind no_dir no_file)
          ∙ sym (ap (λ (names : LocalNames). count_below names q) added_names);
      unnamed = kinds [] ∙ ap (λ (b : Bool). cond b kind (kind_in old [])) (not_empty key some) ∙ kept.unnamed;
    }

  -- a file has another size
  module _ (size : ℕ) (is : is_file (kind_in old key) ≡ true) (kinds : (q : List ℕ) → kind_in new q ≡ cond (bytes_eq key q) (local.File size) (kind_in old q)) where
    pub resized_names : names_in new ≡ with_file key size (names_in old)
    resized_names i = record {
      dirs = (dirs_set old new key (local.File size) kinds ∙ without_absent (dirs_of old.entries) key (dir_there old key ∙ file_is_no_dir (kind_in old key) is)) i;
      files = sizes_set old new key (local.File size) kinds i;
    }

    pub resized_kept : ((q : List ℕ) → count_in new q ≡ count_in old q) → IsKept new
    resized_kept counts = record {
      counted = λ q.
          counts q ∙ kept.counted q
          ∙ ap (λ (s : Keys). count_under q (dirs_of old.entries) + count_under q s) (sym (keys_stay (sizes_of old.entries) key size (file_there old key ∙ is)))
          ∙ sym (ap (λ (names : LocalNames). count_below names q) resized_names);
      unnamed = kinds [] ∙ ap (λ (b : Bool). cond b (local.File size) (kind_in old [])) (elsewhere (bytes_eq key []) refl) ∙ kept.unnamed;
    }
      where
        elsewhere : (b : Bool) → bytes_eq key [] ≡ b → b ≡ false
        elsewhere true at =
            let root : is_file (kind_in old []) ≡ true = subst (λ (k : List ℕ). is_file (kind_in old k) ≡ true) ((bytes_decides key []).0 at) is in
            absurd (true≢false (sym root ∙ ap is_file kept.unnamed))
        elsewhere false at = refl

-- nothing that is seen has changed
pub same_kept : {Y : Type 0} (old new : BTreeMap (String Y) Node) → IsKept old → ((q : List ℕ) → node_in new q ≡ node_in old q) → IsKept new
same_kept old new kept same = record {
  counted = λ q.
      ap (λ (node : Node). node.below) (same q) ∙ kept.counted q
      ∙ sym (ap (λ (names : LocalNames). count_below names q) (same_names old new (λ k. ap (λ (node : Node). node.kind) (same k))));
  unnamed = ap (λ (node : Node). node.kind) (same []) ∙ kept.unnamed;
}

-- there are at most as many names below a key as there are nodes

under_keys : {Y : Type 0} (q : List ℕ) (es : List (String Y × Node)) → count_under q (dirs_of es) + count_under q (keys_in (sizes_of es)) ≤ length es
under_keys q [] = omega (arith, none_below q)
under_keys q (e ∷ es) = by_kind e.1.kind (under_keys q es)
  where
    more : (s : Keys) → count_under q (set.insert s (string_bytes e.0)) ≤ count_under q s + 1
    more s = count_insert_most nat_list_cmp_total distinct (λ name. is_under name q) s (string_bytes e.0)

    fewer : (s : Keys) → count_under q (set.remove s (string_bytes e.0)) ≤ count_under q s
    fewer s = count_remove_most nat_list_cmp_total distinct (λ name. is_under name q) s (string_bytes e.0)

    removed : count_under q (keys_in (map.remove (sizes_of es) (string_bytes e.0))) ≤ count_under q (keys_in (sizes_of es))
    removed = rw (keys-remove (sizes_of es) (string_bytes e.0)) (fewer (keys_in (sizes_of es)))

    inserted : (size : ℕ) → count_under q (keys_in (map.insert (sizes_of es) (string_bytes e.0) size)) ≤ count_under q (keys_in (sizes_of es)) + 1
    inserted size = rw (keys-insert (sizes_of es) (string_bytes e.0) size) (more (keys_in (sizes_of es)))

    by_kind : (kind : Local) → count_under q (dirs_of es) + count_under q (keys_in (sizes_of es)) ≤ length es
        → count_under q (cond (is_dir kind) (set.insert (dirs_of es) (string_bytes e.0)) (set.remove (dirs_of es) (string_bytes e.0)))
        + count_under q (keys_in (with_size (size_of kind) (string_bytes e.0) (sizes_of es)))
        ≤ suc (length es)
    by_kind local.None rest = omega (arith, fewer (dirs_of es), removed, rest)
    by_kind local.Dir rest = omega (arith, more (dirs_of es), removed, rest)
    by_kind (local.File size) rest = omega (arith, fewer (dirs_of es), inserted size, rest)

pub count_most : {Y : Type 0} (nodes : BTreeMap (String Y) Node) → IsKept nodes → (q : List ℕ) → count_in nodes q ≤ length nodes.entries
count_most nodes kept q = omega (arith, kept.counted q, under_keys q nodes.entries)

-- a name of one kind is given up

module _ {Y : Type 0} (nodes : BTreeMap (String Y) Node) (key : List ℕ) where
  -- a key of a directory is no file's
  pub removed_dir : is_dir (kind_in nodes key) ≡ true → without_name key (names_in nodes) ≡ without_dir key (names_in nodes)
  removed_dir is i = record {
    dirs = set.remove (names_in nodes).dirs key;
    files = without_absent_file (names_in nodes).files key (file_there nodes key ∙ dir_is_no_file (kind_in nodes key) is) i;
  }

  pub without_no_dir : is_dir (kind_in nodes key) ≡ false → without_dir key (names_in nodes) ≡ names_in nodes
  without_no_dir is i = record {
    dirs = without_absent (names_in nodes).dirs key (dir_there nodes key ∙ is) i;
    files = (names_in nodes).files;
  }

  pub removed_file : is_file (kind_in nodes key) ≡ true → without_name key (names_in nodes) ≡ without_file key (names_in nodes)
  removed_file is i = record {
    dirs = without_absent (names_in nodes).dirs key (dir_there nodes key ∙ file_is_no_dir (kind_in nodes key) is) i;
    files = map.remove (names_in nodes).files key;
  }

  pub without_no_file : is_file (kind_in nodes key) ≡ false → without_file key (names_in nodes) ≡ names_in nodes
  without_no_file is i = record {
    dirs = (names_in nodes).dirs;
    files = without_absent_file (names_in nodes).files key (file_there nodes key ∙ is) i;
  }
