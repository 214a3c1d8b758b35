-- Counts kept in a u64.
use Rattle.std.specs.Prelude.{ℕ, ◌+◌, ◌-◌, ◌^◌, ◌≤◌, min}

-- one more, up to the greatest u64
abbrev pub risen : ℕ → ℕ
risen count = min (count + 1) (2 ^ 64 - 1)

-- the count is greater than before, or stands at its last value
abbrev pub HasRisen : ℕ → ℕ → Type 0
HasRisen before now = risen before ≤ now
