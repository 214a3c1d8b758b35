use Rattle.turn_lock.proofs.Keeps.{gives_none, left_empty}
use Rattle.turn_lock.proofs.lock.TurnLock.close.Goals as goal

pub unreachable-requires : goal.unreachable-requires
unreachable-requires g c =
    let closing = c.take_out-value.ensures.closing in
    gives_none _ c.take.result c.in-Some.field-0 (left_empty g.T.Stands.entries g.T.Stands.ground_of g.T.Stands.closes _ closing.0 c.take_out-value.new.seat.me.0 _ _ closing.1 c.close_with-closed.ensures.values.2) c.take.ensures.value c.in-Some.is
