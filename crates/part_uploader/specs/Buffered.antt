-- Bytes that wait for their parts.
use Rattle.std.specs.Prelude.{◌≡◌, ◌<◌, ℕ, List, ◌++◌, length, All}
use Rattle.upload_rules.specs.Run.{joined}

-- so many bytes go into a part; these wait
pub record Buffered : Type 0 where
  pub part : ℕ
  pub bytes : List ℕ

-- Buffers of a whole part each, and what is left of the last one.
abbrev pub bytes_in : List (List ℕ) → List ℕ → List ℕ
bytes_in full last = joined full ++ last

pub record AreCut (part : ℕ) (full : List (List ℕ)) (last : List ℕ) : Type 0 where
  pub whole : All (λ bytes. length bytes ≡ part) full
  pub short : length last < part
