use Rattle.std.proofs.Common.{refl}
use Rattle.job_table.proofs.Rising.{between_taken}
use Rattle.state_rows.proofs.TakenJobs.{is_out_once_taken}
use Rattle.state_rows.proofs.job_rows.Desk.take.Goals as goal

pub invariant_of-self-2 : goal.invariant_of-self-2
invariant_of-self-2 c = (
  rw c.take-call.ensures.steps (record { before = _; last = _; are = refl }),
  rw (c.take-call.ensures.held, c.take-call.ensures.count) (between_taken _ 0 _ _ c.self.invariant.1),
  rw c.take-call.ensures.held (is_out_once_taken _ _ (c.if-not-is_ready.ensures refl)),
)
