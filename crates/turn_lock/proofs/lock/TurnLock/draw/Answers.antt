use Rattle.std.proofs.Common.{rules, ap, ◌∙◌, arith}
use Rattle.turn_lock.proofs.Keeps.{draw_allowed}
use Rattle.turn_lock.proofs.lock.TurnLock.draw.Goals as goal

pub compare_exchange-found-requires : goal.compare_exchange-found-requires
compare_exchange-found-requires g c = (
  search rules,
  search rules,
  draw_allowed g.T.Stands.entries g.T.Stands.ground_of g.T.Stands.closes _ _ c.peek-ticket.result c.loop.seat.me (ap (λ m. m.0.phase) c.loop.invariant.2 ∙ c.requires.idle.0) (omega arith),
)
