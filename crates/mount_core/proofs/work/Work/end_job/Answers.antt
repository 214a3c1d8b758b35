use Rattle.std.proofs.Common.{arith}
use Rattle.mount_core.proofs.Owing.{owes_jobs-without}
use Rattle.mount_core.proofs.work.Work.end_job.Goals as goal

pub done-asker-requires-clause-room : goal.done-asker-requires-clause-room
done-asker-requires-clause-room c = omega (arith, owes_jobs-without c.args.job c.args.self.now.jobs.held c.requires)

pub overflow_sub-self : goal.overflow_sub-self
overflow_sub-self c = omega (arith, owes_jobs-without c.args.job c.args.self.now.jobs.held c.requires)

pub invariant_of-self : goal.invariant_of-self
invariant_of-self c =
    let owes = owes_jobs-without c.args.job c.args.self.now.jobs.held c.requires in
    record {
      counted = rw c.done-asker.ensures.held (omega arith);
      enough = omega arith;
      knows = rw c.done-asker.ensures.known c.args.self.now.knows;
      part_low = c.args.self.now.part_low;
      part_high = c.args.self.now.part_high;
      rising = c.args.self.now.rising;
    }
