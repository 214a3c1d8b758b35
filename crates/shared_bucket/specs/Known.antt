-- What a pass shows of itself.
use Rattle.std.specs.Prelude.{◌≡◌, ℕ, List, map, length, Option, Some, None, slice_get}
use Rattle.atomic_table.specs.Seated.{TableId}
use Rattle.bucket_model.specs.declared.answer.AnswerKind.{AnswerKind}
use Rattle.bucket_model.specs.declared.answer.AnswerKind.TheVariants as kind
use Rattle.bucket_model.specs.declared.history.Logged.{Logged}
use Rattle.bucket_model.specs.Answers.{kind_of}
use Rattle.bucket_model.specs.History.{IsLegalHistory}
use Rattle.store_trait.specs.Passes.{Mark}
use Rattle.turn_lock.specs.Seats.{SeatOf, IsIdle, over, own, seen}
use Rattle.turn_lock.specs.Seen.{IsOwn}

-- the bucket's lock, the history as far as it was seen, the positions of own entries, and the failed calls
pub record Known : Type 0 where
  pub bucket : TableId
  pub seen : List Logged
  pub places : List ℕ
  pub faults : ℕ

-- the variant of the answer at a position
abbrev pub kind_in : Option Logged → AnswerKind
kind_in None = kind.NoMemory
kind_in (Some logged) = kind_of logged.entry.answer

-- positions with the variants of the answers there
abbrev pub marks_at : List Logged → List ℕ → List Mark
marks_at log places = map (λ place. (place, kind_in (slice_get log place))) places

-- A seat between two calls: it holds nothing, and what it has seen is a legal history of so many entries.
pub record IsKnown {T : Type 0} (seat : SeatOf T Logged (Unit {0})) (count : ℕ) : Type 0 where
  pub idle : IsIdle seat
  pub ground : over seat ≡ Some tt
  pub counted : count ≡ length (seen seat)
  pub legal : IsLegalHistory (seen seat)
  pub places : IsOwn (own seat) (seen seat)
