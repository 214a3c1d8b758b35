-- Paths: a text that begins with `/`, cut at each further `/` into names. The text `/` is the root.
use Rattle.std.specs.Prelude.{◌≡◌, ◌≤◌, true, ℕ, ◌+◌, Bool, not, ◌&&◌, ◌==◌, nat_eq, nat_lt, if◌then◌else◌, List, [], ◌∷◌, length, Result, Ok, Err}
use Rattle.std.specs.List.{list_all, slice_split, join_with_byte}
use Rattle.std.specs.Cmp.Lexicographic.{pointwise}
use Rattle.mp_types.specs.declared.path.PathFault.{PathFault}
use Rattle.mp_types.specs.declared.path.PathFault.TheVariants.{Empty, TooLong, BadName}
use Rattle.mp_types.specs.Key.{max_key_length}

abbrev pub slash : ℕ
slash = 47

-- not empty, not `.`, not `..`, and without `/` and NUL: other names can't be reached, as Mountpoint says
abbrev pub is_valid_name : List ℕ → Bool
is_valid_name name =
    not (length name == 0) && not (pointwise nat_eq name (46 ∷ [])) && not (pointwise nat_eq name (46 ∷ 46 ∷ []))
    && list_all (λ byte. not (byte == slash) && not (byte == 0)) name

-- the names, or the place of the first that is none, counted from place
abbrev pub checked : ℕ → List (List ℕ) → Result (List (List ℕ)) PathFault
checked place [] = Ok []
checked place (name ∷ names) = if is_valid_name name then joined name (checked (place + 1) names) else Err (BadName place)
  where
    joined : List ℕ → Result (List (List ℕ)) PathFault → Result (List (List ℕ)) PathFault
    joined name (Ok names) = Ok (name ∷ names)
    joined name (Err fault) = Err fault

-- what stands behind the first `/`
abbrev pub names_below : List ℕ → Result (List (List ℕ)) PathFault
names_below [] = Ok []
names_below bytes = if nat_lt max_key_length (length bytes) then Err TooLong else checked 0 (slice_split (λ byte. byte == slash) bytes)

-- the names of a path, from the root
abbrev pub path_of : List ℕ → Result (List (List ℕ)) PathFault
path_of [] = Err Empty
path_of (byte ∷ bytes) = if byte == slash then names_below bytes else Err Empty

-- a byte at which a path is cut
abbrev pub is_slash : ℕ → Bool
is_slash byte = byte == slash

-- the names of a text that stands behind the first `/`: the empty one has none
abbrev pub names_in : List ℕ → List (List ℕ)
names_in [] = []
names_in (byte ∷ bytes) = slice_split is_slash (byte ∷ bytes)

-- a part of a path that is no name
abbrev pub is_bad_name : List ℕ → Bool
is_bad_name name = not (is_valid_name name)

-- each is a name
abbrev pub are_names : List (List ℕ) → Bool
are_names names = list_all is_valid_name names

-- the names in a row, with a `/` between each two: no names give the empty text
abbrev pub joined : List (List ℕ) → List ℕ
joined names = join_with_byte slash names

-- a path by what stands behind its first `/`
abbrev pub IsPathText : List ℕ → List ℕ → Type 0
IsPathText text below = (path_of text ≡ Ok (names_in below)) × (length below ≤ max_key_length) × (are_names (names_in below) ≡ true)
