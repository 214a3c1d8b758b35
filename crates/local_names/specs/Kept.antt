-- How a table of nodes keeps names.
use Rattle.std.specs.Prelude.{◌≡◌, ℕ, if◌then◌else◌, List, [], ◌∷◌, String, string_bytes, Option, Some, None}
use Rattle.std.specs.BTreeMap.{BTreeMap}
use Rattle.std.specs.FinMap as map
use Rattle.std.specs.FinSet as set
use Rattle.mp_rules.specs.declared.entry.Local.TheVariants as local
use Rattle.mp_rules.specs.Local.{Keys, LocalNames}
use Rattle.local_names.specs.declared.nodes.Node.{Node}
use Rattle.local_names.specs.Nodes.{is_dir, size_of, kind_in, count_in}
use Rattle.local_names.specs.Names.{Sizes, count_below}

-- the keys of directories: an earlier entry of a key hides a later one
abbrev pub dirs_of : {Y : Type 0} → List (String Y × Node) → Keys
dirs_of [] = set.empty
dirs_of (e ∷ es) = if is_dir e.1.kind then set.insert (dirs_of es) (string_bytes e.0) else set.remove (dirs_of es) (string_bytes e.0)

-- a key has this size from now on, or none
abbrev pub with_size : Option ℕ → List ℕ → Sizes → Sizes
with_size (Some size) key sizes = map.insert sizes key size
with_size None key sizes = map.remove sizes key

-- the sizes of files, in the same way
abbrev pub sizes_of : {Y : Type 0} → List (String Y × Node) → Sizes
sizes_of [] = map.empty
sizes_of (e ∷ es) = with_size (size_of e.1.kind) (string_bytes e.0) (sizes_of es)

abbrev pub names_in : {Y : Type 0} → BTreeMap (String Y) Node → LocalNames
names_in nodes = record { dirs = dirs_of nodes.entries; files = sizes_of nodes.entries }

-- the counts are right, and the root is no name
pub record IsKept {Y : Type 0} (nodes : BTreeMap (String Y) Node) : Type 0 where
  pub counted : (key : List ℕ) → count_in nodes key ≡ count_below (names_in nodes) key
  pub unnamed : kind_in nodes [] ≡ local.None
