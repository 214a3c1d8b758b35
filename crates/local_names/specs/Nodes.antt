-- What a table of nodes says of each key.
use Rattle.std.specs.Prelude.{ℕ, Bool, true, false, ◌&&◌, ◌==◌, if◌then◌else◌, List, Option, Some, None, is_some, unwrap_or, String}
use Rattle.std.specs.BTreeMap.{BTreeMap, get_by_text}
use Rattle.mp_rules.specs.declared.entry.Local.{Local}
use Rattle.mp_rules.specs.declared.entry.Local.TheVariants as local
use Rattle.local_names.specs.declared.nodes.Node.{Node}

abbrev pub is_none : Local → Bool
is_none local.None = true
is_none local.Dir = false
is_none (local.File size) = false

abbrev pub is_dir : Local → Bool
is_dir local.None = false
is_dir local.Dir = true
is_dir (local.File size) = false

-- how many bytes a file has
abbrev pub size_of : Local → Option ℕ
size_of local.None = None
size_of local.Dir = None
size_of (local.File size) = Some size

abbrev pub is_file : Local → Bool
is_file kind = is_some (size_of kind)

-- no name, and none below
abbrev pub bare : Node
bare = record { kind = local.None; below = 0 }

abbrev pub is_bare : Node → Bool
is_bare node = is_none node.kind && node.below == 0

-- what is local at the node: with names below it, a directory
abbrev pub shown : Node → Local
shown node = if node.below == 0 then node.kind else local.Dir

abbrev pub kept : Node → Option Node
kept node = if is_bare node then None else Some node

-- whether the key's node is kept
abbrev pub has_node : {Y : Type 0} → BTreeMap (String Y) Node → List ℕ → Bool
has_node nodes key = is_some (get_by_text nodes key)

-- the key's node, kept or not
abbrev pub node_in : {Y : Type 0} → BTreeMap (String Y) Node → List ℕ → Node
node_in nodes key = unwrap_or (get_by_text nodes key) bare

abbrev pub kind_in : {Y : Type 0} → BTreeMap (String Y) Node → List ℕ → Local
kind_in nodes key = (node_in nodes key).kind

abbrev pub count_in : {Y : Type 0} → BTreeMap (String Y) Node → List ℕ → ℕ
count_in nodes key = (node_in nodes key).below
