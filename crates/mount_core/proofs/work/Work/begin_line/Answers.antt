use Rattle.std.proofs.Common.{arith}
use Rattle.mount_model.specs.declared.standing.Phase.TheVariants.{Begun}
use Rattle.mount_core.proofs.Kept.{owes-begun, rising-change}
use Rattle.mount_core.proofs.Known.{known-change}
use Rattle.mount_core.proofs.work.Work.begin_line.Goals as goal

pub event-requires : goal.event-requires
event-requires c = omega (arith, owes-begun c.args.line c.args.self.now.lines c.args.self.now.rising c.requires)

pub overflow_sub-self : goal.overflow_sub-self
overflow_sub-self c = omega (arith, owes-begun c.args.line c.args.self.now.lines c.args.self.now.rising c.requires)

pub invariant_of-self : goal.invariant_of-self
invariant_of-self c =
    let owes = owes-begun c.args.line c.args.self.now.lines c.args.self.now.rising c.requires in
    record {
      counted = rw c.begin.ensures (omega arith);
      enough = omega arith;
      knows = rw c.begin.ensures (known-change c.args.line (λ phase. Begun _) _ _ c.args.self.now.lines c.event.ensures.known c.args.self.now.knows);
      part_low = c.args.self.now.part_low;
      part_high = c.args.self.now.part_high;
      rising = rw c.begin.ensures (rising-change c.args.line (λ phase. Begun _) c.args.self.now.lines c.args.self.now.rising);
    }
