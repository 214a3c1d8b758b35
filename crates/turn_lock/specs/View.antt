-- What a seat knows.
use Rattle.std.specs.Prelude.{ℕ, List, [], Bool, true, false, Option, Some, None}
use Rattle.turn_lock.specs.declared.view.Phase.{Phase}
use Rattle.turn_lock.specs.declared.view.Phase.TheVariants.{Idle, Waiting, Turn, Left, Closing}
use Rattle.turn_lock.specs.declared.view.View.{View}
use Rattle.turn_lock.specs.Seen.{longer, shorter, merged}

-- the ticket that a seat holds
abbrev pub ticket_in : Phase → Option ℕ
ticket_in Idle = None
ticket_in (Waiting ticket) = Some ticket
ticket_in (Turn ticket) = Some ticket
ticket_in (Left ticket) = Some ticket
ticket_in (Closing ticket) = Some ticket

-- the value isn't in the lock
abbrev pub is_away : Phase → Bool
is_away Idle = false
is_away (Waiting ticket) = false
is_away (Turn ticket) = true
is_away (Left ticket) = false
is_away (Closing ticket) = true

module _ {E G : Type 0} where
  abbrev pub viewed : Phase → ℕ → List E → List ℕ → Option G → View E G
  viewed phase turns seen own over = record { phase = phase; turns = turns; seen = seen; met = []; own = own; over = over }

  -- the same seat in another phase
  abbrev pub at_phase : Phase → View E G → View E G
  at_phase phase v = viewed phase v.turns v.seen v.own v.over

  -- a new seat that has seen as much
  abbrev pub newcomer : View E G → View E G
  newcomer v = viewed Idle 0 v.seen [] v.over

  -- a seat that met another
  abbrev pub after_meeting : View E G → View E G → View E G
  after_meeting v w = record { phase = v.phase; turns = v.turns; seen = longer v.seen w.seen; met = shorter v.seen w.seen; own = merged v.own w.own; over = v.over }

  abbrev pub spent : View E G
  spent = viewed Idle 0 [] [] None
