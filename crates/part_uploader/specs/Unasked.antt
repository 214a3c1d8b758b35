-- Bytes that no part was asked for, of which those of the next part may stand by themselves.
use Rattle.std.specs.Prelude.{◌≡◌, ◌≤◌, ℕ, List, [], ◌++◌, length, nat_lt, Bool, true, false, Option, Some, None}
use Rattle.part_uploader.specs.Buffered.{Buffered}

-- so many bytes go into a part; these wait; no others come behind them, since a part that isn't full was given out
pub record Unasked : Type 0 where
  pub part : ℕ
  pub bytes : List ℕ
  pub ended : Bool

abbrev pub front_bytes : Option (List ℕ) → List ℕ
front_bytes (Some bytes) = bytes
front_bytes None = []

-- what stands by itself isn't a full part
abbrev pub is_end : ℕ → Option (List ℕ) → Bool
is_end part (Some bytes) = nat_lt (length bytes) part
is_end part None = false

abbrev pub unasked : Option (List ℕ) → Buffered → Unasked
unasked front behind = record { part = behind.part; bytes = front_bytes front ++ behind.bytes; ended = is_end behind.part front }

-- a part stands by itself, or the end, with nothing behind it
pub record IsFront (front : Option (List ℕ)) (behind : Buffered) : Type 0 where
  pub short : length (front_bytes front) ≤ behind.part
  pub last : is_end behind.part front ≡ true → behind.bytes ≡ []
