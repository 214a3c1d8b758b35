use Rattle.std.proofs.Common.{[], ◌∷◌, ◌++◌, refl, sym, ap, ◌∙◌}
use Rattle.std.specs.List.{slice_get}
use Rattle.mount_model.specs.Handles.{Writer}
use Rattle.mount_model.specs.Conversation.{with_upload}
use Rattle.job_table.specs.LiveJobs.{ready_of_writer}
use Rattle.core_writes.proofs.Dropped.{dropped-none, dropped-more, none-dropped, none-first}
use Rattle.core_writes.proofs.Paid.{paid-same, paid-then}
use Rattle.core_writes.proofs.drops.drop_ready.Goals as goal

pub returns-then-not-has_failed-clause-drops : goal.returns-then-not-has_failed-clause-drops
returns-then-not-has_failed-clause-drops c = none-dropped c.args.writer.now c.args.jobs.now c.args.journal.now (sym c.has_failed.ensures ∙ c.if-not-has_failed.true)

pub loop-job-init : goal.loop-job-init
loop-job-init c = record {
  writer = refl;
  paid = paid-same c.args.jobs.now c.args.journal.now c.args.owed.now c.requires.step c.requires.enough;
  owes = c.requires.owes;
  at_work = c.requires.at_work;
  drops = [];
  dropped = dropped-none c.args.writer.now c.args.jobs.now c.args.journal.now;
}

pub loop-job-preserved : goal.loop-job-preserved
loop-job-preserved c =
    let so_far = c.loop-job.invariant in
    let line = ap (λ (w : Writer). w.line) so_far.writer in
    record {
      writer = c.drop_first.ensures.writer ∙ ap (with_upload c.drop_first.new.writer.upload) so_far.writer;
      paid = paid-then c.args.jobs.now c.loop-job.jobs c.drop_first.new.jobs c.args.journal.now c.loop-job.journal c.drop_first.new.journal c.args.owed.now c.loop-job.owed c.drop_first.new.owed so_far.paid c.drop_first.ensures.paid;
      owes = c.drop_first.ensures.owes;
      at_work = rw (← line) c.drop_first.ensures.at_work;
      drops = so_far.drops ++ c.in-Some.job ∷ [];
      dropped = dropped-more so_far.drops c.in-Some.job c.args.writer.now c.loop-job.writer c.drop_first.new.writer.upload c.args.jobs.now c.loop-job.jobs c.drop_first.new.jobs c.args.journal.now c.loop-job.journal c.drop_first.new.journal line so_far.dropped c.drop_first.ensures.dropped;
    }

pub returns-clause-drops : goal.returns-clause-drops
returns-clause-drops c =
    let so_far = c.loop-job.invariant in
    let line = ap (λ (w : Writer). w.line) so_far.writer in
    let none = none-first (ready_of_writer c.args.writer.now.line c.loop-job.jobs.held) (ap (λ n. slice_get (ready_of_writer n c.loop-job.jobs.held) 0) (sym line) ∙ sym c.ready_of_writer.ensures.first ∙ c.in_default.is) in
    record {
      drops = so_far.drops;
      dropped = so_far.dropped;
      none_dropped = λ well. absurd (let failed = sym c.has_failed.ensures ∙ c.if-not-has_failed.false in cc);
      none_ready = λ failed. none;
    }
