-- Prefixes of a path, in its own text.
use Rattle.std.specs.Prelude.{◌≡◌, ℕ, ◌<◌, ◌≤◌, List, [], ◌∷◌, length, slice_index}
use Rattle.std.specs.List.{slice_split, position_or_len}
use Rattle.mp_types.specs.Key.{max_key_length}
use Rattle.mp_types.specs.Path.{is_slash, slash}

-- how long the first name is
abbrev pub name_length : List ℕ → ℕ
name_length text = position_or_len is_slash text

-- the names of a text that is empty or begins with `/`
abbrev pub names_behind : List ℕ → List (List ℕ)
names_behind [] = []
names_behind (byte ∷ bytes) = slice_split is_slash bytes

-- a prefix of whole names ends here
pub record IsStop (path : List ℕ) (end : ℕ) : Type 0 where
  pub short : length path ≤ max_key_length
  pub some : 0 < end
  pub within : end ≤ length path
  pub at : end < length path → slice_index path end ≡ slash
