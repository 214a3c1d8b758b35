-- A clock that gives the readings of a list in turn, and then the last one again.
use Rattle.std.specs.Prelude.{ℕ, zero, suc, ◌-◌, ◌^◌, min, nat_lt, if◌then◌else◌, List, [], ◌∷◌, ◌++◌, length, slice_index, Option, Some, None}

pub record ClockState : Type 0 where
  pub readings : List ℕ
  pub calls : ℕ

-- the reading that is given after so many
abbrev pub reading_after : List ℕ → ℕ → ℕ
reading_after readings count = slice_index readings (min count (length readings - 1))

-- the first so many readings that are given
abbrev pub given : List ℕ → ℕ → List ℕ
given readings zero = []
given readings (suc count) = given readings count ++ reading_after readings count ∷ []

-- the clock can't tell how many it has given once its count stands at the greatest u64
abbrev pub told_by : ClockState → Option (List ℕ)
told_by clock = if nat_lt clock.calls (2 ^ 64 - 1) then Some (given clock.readings clock.calls) else None
