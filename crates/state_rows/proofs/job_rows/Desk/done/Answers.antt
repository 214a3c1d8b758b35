use Rattle.std.proofs.Common.{refl}
use Rattle.job_table.proofs.Rising.{between_without}
use Rattle.state_rows.proofs.job_rows.Desk.done.Goals as goal

pub invariant_of-self-2 : goal.invariant_of-self-2
invariant_of-self-2 c = (
  rw c.done.ensures.steps (record { before = _; last = _; are = refl }),
  rw (c.done.ensures.held, c.done.ensures.count) (between_without _ 0 _ _ c.self.invariant.1),
  tt,
)
