-- The names that a mount itself keeps until the bucket has them: directories that were made, and files that are being
-- written. A name is the key of its path; the root has none.
use Rattle.std.specs.Prelude.{ℕ, List, ◌++◌, Bool, not, ◌||◌, if◌then◌else◌, Option, Some, None, refl}
use Rattle.std.specs.List.{list_any}
use Rattle.std.specs.Ordering.{nat_cmp}
use Rattle.std.specs.Cmp.Lexicographic.{slice_cmp}
use Rattle.std.specs.FinSet as set
use Rattle.std.specs.FinMap as map
use Rattle.std.specs.Coded.{Coded, coded×, coded_list, coded_ℕ, code_by}
use Rattle.mp_rules.specs.declared.entry.Local.{Local}
use Rattle.mp_rules.specs.declared.entry.Local.TheVariants as local
use Rattle.mp_rules.specs.Keys.{is_below}

-- keys in the order of their bytes
abbrev pub Keys : Type 0
Keys = set.FinSet (slice_cmp nat_cmp)

-- directories, and files with how many bytes each has so far
pub record LocalNames : Type 0 where
  pub dirs : Keys
  pub files : map.FinMap (slice_cmp nat_cmp) ℕ

abbrev pub no_names : LocalNames
no_names = record { dirs = set.empty; files = map.empty }

abbrev pub with_dir : List ℕ → LocalNames → LocalNames
with_dir key names = record names { dirs = set.insert names.dirs key }

-- a file has this size from now on
abbrev pub with_file : List ℕ → ℕ → LocalNames → LocalNames
with_file key size names = record names { files = map.insert names.files key size }

abbrev pub without_name : List ℕ → LocalNames → LocalNames
without_name key names = record { dirs = set.remove names.dirs key; files = map.remove names.files key }

abbrev pub without_file : List ℕ → LocalNames → LocalNames
without_file key names = record names { files = map.remove names.files key }

-- the directory names above a key go
abbrev pub without_dirs_above : List ℕ → LocalNames → LocalNames
without_dirs_above key names = record names { dirs = set.retain names.dirs (λ dir. not (is_below key dir)) }

-- some name stands below the key
abbrev pub has_name_below : LocalNames → List ℕ → Bool
has_name_below names key = list_any (λ name. is_below name key) (set.items names.dirs ++ map.keys names.files)

abbrev pub file_of : Option ℕ → Local
file_of (Some size) = local.File size
file_of None = local.None

-- what is local at a key: a directory where one was made or a name stands below, else a file where one is being written
abbrev pub local_at : LocalNames → List ℕ → Local
local_at names key = if set.contains names.dirs key || has_name_below names key then local.Dir else file_of (map.get names.files key)

-- a record of a set and a map is stored as their pair
abbrev pub names_code : Coded LocalNames
names_code = code_by (Keys × map.FinMap (slice_cmp nat_cmp) ℕ) (coded× (set.code (coded_list coded_ℕ)) (map.code (coded_list coded_ℕ) coded_ℕ)) (λ n. (n.dirs, n.files)) (λ p. record { dirs = p.0; files = p.1 }) (λ _. refl)
