-- The names directly in the directory of a prefix.
use Rattle.std.specs.Prelude.{◌≡◌, ◌<◌, ℕ, Bool, true, false, not, ◌&&◌, ◌==◌, nat_eq, if◌then◌else◌, List, ◌++◌, length, drop, map, Option, Some, None, String, string_bytes}
use Rattle.std.specs.Cmp.Lexicographic.{slice_cmp}
use Rattle.std.specs.List.{All, filter, filter_map, list_all, list_any, starts_with}
use Rattle.std.specs.List.Sorted.{IsStrictlySortedBy}
use Rattle.std.specs.Ordering.{nat_cmp, is_le}
use Rattle.std.specs.Str.{bytes_eq}
use Rattle.mp_types.specs.Path.{slash}
use Rattle.mp_rules.specs.declared.entry.Local.{Local}
use Rattle.mp_rules.specs.Local.{LocalNames, local_at}
use Rattle.local_names.specs.declared.nodes.Node.{Node}
use Rattle.local_names.specs.Nodes.{is_none, is_bare, shown}

-- not empty, and without `/`
abbrev pub is_plain : List ℕ → Bool
is_plain name = not (length name == 0) && list_all (λ byte. not (byte == slash)) name

-- a name in the directory, and what is local there
pub record IsChild (names : LocalNames) (prefix : List ℕ) (child : List ℕ × Local) : Type 0 where
  pub plain : is_plain child.0 ≡ true
  pub is : child.1 ≡ local_at names (prefix ++ child.0)
  pub some : is_none child.1 ≡ false

-- each name at which something is local, once and in order
pub record AreChildren (names : LocalNames) (prefix : List ℕ) (children : List (List ℕ × Local)) : Type 0 where
  pub each : All (IsChild names prefix) children
  pub all : (name : List ℕ) → is_plain name ≡ true → is_none (local_at names (prefix ++ name)) ≡ false → list_any (λ child. bytes_eq child.0 name) children ≡ true
  pub rise : IsStrictlySortedBy (slice_cmp nat_cmp) (map (λ child. child.0) children)

-- the key of a name in the directory
abbrev pub is_child_key : List ℕ → List ℕ → Bool
is_child_key prefix key = starts_with nat_eq key prefix && is_plain (drop (length prefix) key)

module _ {Y : Type 0} where
  -- the entries whose keys come from a text on
  abbrev pub entries_from : List ℕ → List (String Y × Node) → List (String Y × Node)
  entries_from text es = filter (λ e. is_le (slice_cmp nat_cmp text (string_bytes e.0))) es

  -- the child that one entry gives
  abbrev pub child_of : List ℕ → String Y × Node → Option (List ℕ × Local)
  child_of prefix e = if is_child_key prefix (string_bytes e.0) && not (is_bare e.1) then Some (drop (length prefix) (string_bytes e.0), shown e.1) else None

  abbrev pub children_in : List ℕ → List (String Y × Node) → List (List ℕ × Local)
  children_in prefix es = filter_map (child_of prefix) es

  -- all up to the entries from a later text on, which are fewer
  pub record AddsUpTo (prefix from : List ℕ) (es : List (String Y × Node)) (old new : List (List ℕ × Local)) (text : List ℕ) : Type 0 where
    pub begins : starts_with nat_eq text prefix ≡ true
    pub adds : new ++ children_in prefix (entries_from text es) ≡ old ++ children_in prefix (entries_from from es)
    pub fewer : length (entries_from text es) < length (entries_from from es)

  -- the children of the entries from a text on were added: all, or those up to the entries from a later text on
  abbrev pub AddsChildren : {Z : Type 0} → List ℕ → List ℕ → List (String Y × Node) → List (List ℕ × Local) → List (List ℕ × Local) → Option (String Z) → Type 0
  AddsChildren prefix from es old new None = new ≡ old ++ children_in prefix (entries_from from es)
  AddsChildren prefix from es old new (Some text) = AddsUpTo prefix from es old new (string_bytes text)
