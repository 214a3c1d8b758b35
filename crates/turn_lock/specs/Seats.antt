-- What clauses say of a seat.
use Rattle.std.specs.Prelude.{◌≡◌, ℕ, List, [], ◌∷◌, Option, None}
use Rattle.atomic_table.specs.declared.shared.Seat.{Seat}
use Rattle.turn_lock.specs.declared.view.Phase.TheVariants.{Idle, Turn, Closing}
use Rattle.turn_lock.specs.declared.view.View.{View}
use Rattle.atomic_table.specs.Seated.{TableId}

abbrev pub SeatOf : Type 0 → Type 0 → Type 0 → Type 0
SeatOf T E G = Seat (Option T) (View E G)

module _ {T E G : Type 0} where
  -- which lock it is a seat of
  abbrev pub seat_name : SeatOf T E G → TableId
  seat_name seat = seat.table_id

  -- all that it has seen
  abbrev pub seen : SeatOf T E G → List E
  seen seat = seat.me.0.seen

  -- the places of the entries that its turns added
  abbrev pub own : SeatOf T E G → List ℕ
  own seat = seat.me.0.own

  -- the ground of the lock's value, as the seat knows it
  abbrev pub over : SeatOf T E G → Option G
  over seat = seat.me.0.over

  -- how many turns it has had
  abbrev pub turns : SeatOf T E G → ℕ
  turns seat = seat.me.0.turns

  -- it holds nothing
  abbrev pub IsIdle : SeatOf T E G → Type 0
  IsIdle seat = (seat.me.0.phase ≡ Idle) × (seat.me.1 ≡ [])

  -- it has the turn
  abbrev pub HasTurn : SeatOf T E G → Type 0
  HasTurn seat = (drawn : ℕ) × (seat.me.0.phase ≡ Turn drawn) × (seat.me.1 ≡ (0, None) ∷ [])

  -- it is the same seat of the same lock
  abbrev pub IsSame : SeatOf T E G → SeatOf T E G → Type 0
  IsSame before after = (after.table_id ≡ before.table_id) × (after.id ≡ before.id)

  -- it took the value out for good
  abbrev pub IsClosing : SeatOf T E G → Type 0
  IsClosing seat = (drawn : ℕ) × (seat.me.0.phase ≡ Closing drawn)
