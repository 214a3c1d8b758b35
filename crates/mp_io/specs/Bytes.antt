-- What reads, writes and readings do to what a source, a sink or a clock tells.
use Rattle.std.specs.Prelude.{◌≡◌, ℕ, ◌<◌, ◌≤◌, List, [], ◌∷◌, ◌++◌, length, take, drop, Option, Some, None, Result, Ok, Err}
use Rattle.mp_io.specs.declared.source.Failed.{Failed}

-- the first n of the bytes that were left stand in the front of the buffer
pub record TakesFirst (left : List ℕ) (buf : List ℕ) (n : ℕ) (left_after : List ℕ) (buf_after : List ℕ) : Type 0 where
  pub enough : n ≤ length left
  pub rest : left_after ≡ drop n left
  pub front : take n buf_after ≡ take n left
  pub none : 0 < length buf → n ≡ 0 → left ≡ []

abbrev pub ReadsKnown : List ℕ → List ℕ → Result ℕ Failed → List ℕ → List ℕ → Type 0
ReadsKnown left buf (Ok n) left_after buf_after = TakesFirst left buf n left_after buf_after
ReadsKnown left buf (Err failed) left_after buf_after = left_after ≡ left

-- a source tells what it has left always or never
abbrev pub Reads : Option (List ℕ) → List ℕ → Result ℕ Failed → Option (List ℕ) → List ℕ → Type 0
Reads None buf result None buf_after = Unit {0}
Reads (Some left) buf result (Some left_after) buf_after = ReadsKnown left buf result left_after buf_after
Reads None buf result (Some left_after) buf_after = ⊥
Reads (Some left) buf result None buf_after = ⊥

abbrev pub WritesKnown : List ℕ → List ℕ → Result ℕ Failed → List ℕ → Type 0
WritesKnown held piece (Ok n) held_after = held_after ≡ held ++ take n piece
WritesKnown held piece (Err failed) held_after = held_after ≡ held

-- a sink tells what it holds always or never; after a failure it holds what it held
abbrev pub Writes : Option (List ℕ) → List ℕ → Result ℕ Failed → Option (List ℕ) → Type 0
Writes None piece result None = Unit {0}
Writes (Some held) piece result (Some held_after) = WritesKnown held piece result held_after
Writes None piece result (Some held_after) = ⊥
Writes (Some held) piece result None = ⊥

-- a clock tells its readings always or never, or stops telling for good
abbrev pub Gives : Option (List ℕ) → ℕ → Option (List ℕ) → Type 0
Gives None reading None = Unit {0}
Gives (Some readings) reading (Some readings_after) = readings_after ≡ readings ++ reading ∷ []
Gives None reading (Some readings_after) = ⊥
Gives (Some readings) reading None = Unit {0}
