use Rattle.std.proofs.Common.{refl, arith}
use Rattle.mount_model.proofs.Steps.{HasStep-change_last}
use Rattle.job_table.specs.LiveJobs.{without}
use Rattle.core_writes.proofs.Dropped.{first-goes}
use Rattle.core_writes.proofs.Paid.{paid-drop}
use Rattle.core_writes.proofs.drops.drop_first.Goals as goal

pub drop_job-requires-clause-room : goal.drop_job-requires-clause-room
drop_job-requires-clause-room c =
    let goes = first-goes c.args.writer.now.line c.args.job c.args.jobs.now.held (without c.args.job c.args.jobs.now.held) c.requires.first refl in
    omega (arith, goes.owes, c.requires.owes, c.requires.enough)

pub overflow_sub-owed : goal.overflow_sub-owed
overflow_sub-owed c =
    let goes = first-goes c.args.writer.now.line c.args.job c.args.jobs.now.held c.drop_job.new.self.held c.requires.first c.drop_job.ensures.held in
    omega (arith, goes.owes, c.requires.owes)

pub returns-clause-paid : goal.returns-clause-paid
returns-clause-paid c =
    let goes = first-goes c.args.writer.now.line c.args.job c.args.jobs.now.held c.drop_job.new.self.held c.requires.first c.drop_job.ensures.held in
    let step = HasStep-change_last _ _ c.requires.step in
    paid-drop c.args.jobs.now c.drop_job.new.self c.args.journal.now c.drop_job.new.journal c.args.owed.now (rw c.drop_job.ensures.steps step) c.drop_job.ensures.known c.requires.enough c.drop_job.ensures.room goes.owes c.requires.owes

pub returns-clause-owes : goal.returns-clause-owes
returns-clause-owes c =
    let goes = first-goes c.args.writer.now.line c.args.job c.args.jobs.now.held c.drop_job.new.self.held c.requires.first c.drop_job.ensures.held in
    omega (arith, goes.owes, c.requires.owes)

pub returns-clause-at_work : goal.returns-clause-at_work
returns-clause-at_work c =
    let goes = first-goes c.args.writer.now.line c.args.job c.args.jobs.now.held c.drop_job.new.self.held c.requires.first c.drop_job.ensures.held in
    rw c.dropped.ensures (omega (arith, goes.ready, c.requires.at_work))

pub returns-clause-fewer : goal.returns-clause-fewer
returns-clause-fewer c =
    let goes = first-goes c.args.writer.now.line c.args.job c.args.jobs.now.held c.drop_job.new.self.held c.requires.first c.drop_job.ensures.held in
    goes.ready
