use Rattle.std.proofs.Common.{rules, ap, ◌∙◌}
use Rattle.turn_lock.proofs.Keeps.{sees_allowed}
use Rattle.turn_lock.proofs.lock.TurnLock.wait.Goals as goal

pub load-serving-requires : goal.load-serving-requires
load-serving-requires g c = (
  search rules,
  search rules,
  sees_allowed g.T.Stands.entries g.T.Stands.ground_of g.T.Stands.closes _ _ c.args.ticket c.loop.seat.me (ap (λ m. m.0.phase) c.loop.invariant.2 ∙ c.requires.waits.0) (ap (λ m. m.1) c.loop.invariant.2 ∙ c.requires.waits.1),
)

pub loop-preserved : goal.loop-preserved
loop-preserved g c = (
  search rules,
  search rules,
  (c.load-serving.ensures.2 c.args.ticket (ap (λ m. m.0.phase) c.loop.invariant.2 ∙ c.requires.waits.0)).1 c.if-serving-ticket.false ∙ c.loop.invariant.2,
)
