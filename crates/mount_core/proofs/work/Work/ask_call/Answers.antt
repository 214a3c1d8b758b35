use Rattle.std.proofs.Common.{ap, ◌∙◌, arith}
use Rattle.std.proofs.lemmas.Result.{err_from_is_err_and}
use Rattle.job_table.specs.Journal.{Journaled}
use Rattle.mount_core.proofs.Owing.{owes_jobs-push}
use Rattle.mount_core.proofs.Turns.{begun_on, replied_alike}
use Rattle.mount_core.proofs.work.Work.ask_call.Goals as goal

pub invariant_of-self-2 : goal.invariant_of-self-2
invariant_of-self-2 c = record {
  counted = rw (c.in_ok-ask.ensures.ok, owes_jobs-push) (omega (arith, c.keep_answer.new.self.counted));
  enough = c.in_ok-ask.ensures.room;
  knows = rw c.ask.ensures.known c.keep_answer.new.self.knows;
  part_low = c.keep_answer.new.self.part_low;
  part_high = c.keep_answer.new.self.part_high;
  rising = c.keep_answer.new.self.rising;
}

pub returns-in_err-ask-clause-err : goal.returns-in_err-ask-clause-err
returns-in_err-ask-clause-err c =
    let refused = err_from_is_err_and c.from_residual.result c.from_residual.ensures.1 in
    rw refused.1
    (record {
      steps = c.in_err-ask.ensures.unasked ∙ ap (λ (w : Journaled). w.steps) c.keep_answer.ensures.record_stays;
      begun = begun_on c.args.line c.args.last c.args.self.now.lines c.keep_answer.new.self.lines c.in-Ok.ensures.ok c.requires.begun;
      lines = replied_alike c.args.line c.args.last c.args.self.now.lines c.keep_answer.new.self.lines c.in-Ok.ensures.ok;
      jobs = c.in_err-ask.ensures.err ∙ c.keep_answer.ensures.jobs_stay;
      time = c.keep_answer.ensures.time_stays;
    })
