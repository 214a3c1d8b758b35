use Rattle.std.proofs.Common.{vec_len}
use Rattle.fault_store.proofs.Scheduled.{IsScheduled}
use Rattle.fault_store.proofs.meddled.schedule.Given as goal

abbrev pub invariant-loop-number : goal.invariant-loop-number
invariant-loop-number l = IsScheduled l.fn.changes.items l.changes.items l.listed

abbrev pub decreases-loop-number : goal.decreases-loop-number
decreases-loop-number l = vec_len l.changes
