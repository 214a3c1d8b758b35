-- What sources and sinks in memory answer to a call, and what they are after it.
use Rattle.std.specs.Prelude.{ℕ, ◌-◌, min, Bool, not, ◌&&◌, ◌||◌, ◌==◌, nat_eq, if◌then◌else◌, List, ◌++◌, length, take, drop, Result, Ok, Err}
use Rattle.std.specs.List.{list_any}
use Rattle.mp_types.specs.Count.{risen}
use Rattle.mp_io.specs.declared.source.Failed.{Failed}

-- after so many calls, the next one is among those that fail; calls are counted from 1
abbrev pub fails_next : List ℕ → ℕ → Bool
fails_next fails calls = list_any (λ fail. nat_eq fail (risen calls)) fails

pub record SourceState : Type 0 where
  pub left : List ℕ
  pub piece : ℕ
  pub fails : List ℕ
  pub calls : ℕ
  pub faults : ℕ

-- how many bytes a read that doesn't fail takes, into a buffer of this length
abbrev pub taken : SourceState → ℕ → ℕ
taken source room = min (min (length source.left) source.piece) room

abbrev pub read_answer : SourceState → ℕ → Result ℕ Failed
read_answer source room =
    if fails_next source.fails source.calls then Err (record {}) else Ok (taken source room)

abbrev pub after_read : SourceState → ℕ → SourceState
after_read source room =
    if fails_next source.fails source.calls
    then record source { calls = risen source.calls; faults = risen source.faults }
    else record source { left = drop (taken source room) source.left; calls = risen source.calls }

-- the buffer after a read
abbrev pub filled : SourceState → List ℕ → List ℕ
filled source buf =
    if fails_next source.fails source.calls
    then buf
    else take (taken source (length buf)) source.left ++ drop (taken source (length buf)) buf

pub record SinkState : Type 0 where
  pub held : List ℕ
  pub room : ℕ
  pub piece : ℕ
  pub fails : List ℕ
  pub calls : ℕ
  pub faults : ℕ

-- the next write of a piece of this length fails: it is to, or no room is left
abbrev pub write_fails : SinkState → ℕ → Bool
write_fails sink len =
    fails_next sink.fails sink.calls || (sink.room - length sink.held == 0 && not (len == 0))

-- how many bytes a write that doesn't fail takes
abbrev pub accepted : SinkState → ℕ → ℕ
accepted sink len = min (min len sink.piece) (sink.room - length sink.held)

abbrev pub write_answer : SinkState → ℕ → Result ℕ Failed
write_answer sink len = if write_fails sink len then Err (record {}) else Ok (accepted sink len)

abbrev pub after_write : SinkState → List ℕ → SinkState
after_write sink piece =
    if write_fails sink (length piece)
    then record sink { calls = risen sink.calls; faults = risen sink.faults }
    else record sink { held = sink.held ++ take (accepted sink (length piece)) piece; calls = risen sink.calls }
