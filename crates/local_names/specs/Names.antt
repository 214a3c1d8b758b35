-- Names of either kind.
use Rattle.std.specs.Prelude.{ℕ, Bool, ◌||◌, List, ◌+◌}
use Rattle.std.specs.Cmp.Lexicographic.{slice_cmp}
use Rattle.std.specs.FinMap as map
use Rattle.std.specs.FinSet as set
use Rattle.std.specs.Ordering.{nat_cmp}
use Rattle.mp_rules.specs.declared.entry.Local.{Local}
use Rattle.mp_rules.specs.declared.entry.Local.TheVariants as local
use Rattle.mp_rules.specs.Local.{Keys, LocalNames, with_dir, with_file}
use Rattle.mp_rules.specs.Keys.{is_under}

-- files with how many bytes each has
abbrev pub Sizes : Type 0
Sizes = map.FinMap (slice_cmp nat_cmp) ℕ

abbrev pub is_name : LocalNames → List ℕ → Bool
is_name names key = set.contains names.dirs key || map.contains_key names.files key

abbrev pub with_name : Local → List ℕ → LocalNames → LocalNames
with_name local.None key names = names
with_name local.Dir key names = with_dir key names
with_name (local.File size) key names = with_file key size names

abbrev pub without_dir : List ℕ → LocalNames → LocalNames
without_dir key names = record names { dirs = set.remove names.dirs key }

abbrev pub keys_in : Sizes → Keys
keys_in sizes = set.from_list (map.keys sizes)

abbrev pub count_under : List ℕ → Keys → ℕ
count_under key keys = set.len (set.retain keys (λ name. is_under name key))

-- how many names lie below the key
abbrev pub count_below : LocalNames → List ℕ → ℕ
count_below names key = count_under key names.dirs + count_under key (keys_in names.files)
