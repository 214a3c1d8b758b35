use Rattle.fault_store.proofs.Listed.{listed_next}
use Rattle.fault_store.specs.Faulty.{when_at}
use Rattle.fault_store.proofs.faulty.table.Goals as goal

pub loop-number-preserved : goal.loop-number-preserved
loop-number-preserved c = λ n.
    listed_next n c.in-Some.number c.in-Some.when c.args.faults.items c.loop-number.faults.items c.pop.new.self.items (when_at c.loop-number.listed n) (when_at c.insert.new.self n) (c.loop-number.invariant n) c.in-Some.ensures.items (c.in_ok-insert.ensures.updates.0 n)
