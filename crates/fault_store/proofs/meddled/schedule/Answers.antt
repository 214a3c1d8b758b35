use Rattle.std.proofs.Common.{ℕ, subst}
use Rattle.std.specs.List.{AllByRecursion}
use Rattle.bucket_model.specs.declared.call.Call.{Call}
use Rattle.bucket_model.specs.History.{IsChange}
use Rattle.fault_store.proofs.Scheduled.{front_all, scheduled_next}
use Rattle.fault_store.proofs.meddled.schedule.Goals as goal

pub from_call-requires : goal.from_call-requires
from_call-requires c =
    (front_all (λ (change : ℕ × Call). IsChange change.1) c.pop.new.self.items (c.in-Some.number, c.in-Some.call)
    (subst (AllByRecursion (λ (change : ℕ × Call). IsChange change.1)) c.in-Some.ensures.items c.loop-number.invariant.changes)).1

pub loop-number-preserved : goal.loop-number-preserved
loop-number-preserved c =
    scheduled_next c.args.changes.items c.loop-number.changes.items c.pop.new.self.items c.loop-number.listed c.remove.new.self c.insert.new.self c.in-Some.number c.in-Some.call c.from_call.result c.remove.result c.new.result c.unwrap_or-same.result c.push.new.self
    c.loop-number.invariant c.in-Some.ensures.items c.from_call.ensures c.new.ensures.items c.unwrap_or-same.ensures c.in_ok-push.ensures.items c.remove.ensures.value c.remove.ensures.updates.0 c.in_ok-insert.ensures.updates.0
