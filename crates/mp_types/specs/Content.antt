-- The bytes that a script gives to be stored.
use Rattle.std.specs.Prelude.{ℕ, ◌+◌, ◌%◌, List, map}
use Rattle.std.specs.List.{range_with_len}
use Rattle.mp_types.specs.declared.octets.Data.{Data}
use Rattle.mp_types.specs.declared.octets.Data.TheVariants.{Literal, Pattern}

-- the byte of a pattern at each of so many places
abbrev pub pattern : ℕ → ℕ → List ℕ
pattern seed count = map (λ place. (seed + place) % 251) (range_with_len 0 count)

abbrev pub bytes_of : Data → List ℕ
bytes_of (Literal bytes) = bytes
bytes_of (Pattern seed count) = pattern seed count
