use Rattle.std.proofs.Common.{arith}
use Rattle.mount_core.proofs.Owing.{owes_jobs-taken}
use Rattle.mount_core.proofs.work.Work.take_job.Goals as goal

pub take-call-requires-clause-room : goal.take-call-requires-clause-room
take-call-requires-clause-room c = omega (arith, owes_jobs-taken c.args.job c.args.self.now.jobs.held c.requires)

pub overflow_sub-self : goal.overflow_sub-self
overflow_sub-self c = omega (arith, owes_jobs-taken c.args.job c.args.self.now.jobs.held c.requires)

pub invariant_of-self : goal.invariant_of-self
invariant_of-self c =
    let owes = owes_jobs-taken c.args.job c.args.self.now.jobs.held c.requires in
    record {
      counted = rw c.take-call.ensures.held (omega arith);
      enough = omega arith;
      knows = rw c.take-call.ensures.known c.args.self.now.knows;
      part_low = c.args.self.now.part_low;
      part_high = c.args.self.now.part_high;
      rising = c.args.self.now.rising;
    }
