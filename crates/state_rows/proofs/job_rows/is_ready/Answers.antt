use Rattle.std.proofs.Common.{◌∙◌, Some, ap, sym}
use Rattle.state_rows.proofs.TakenJobs.{ready_at}
use Rattle.state_rows.proofs.job_rows.is_ready.Goals as goal

pub returns-then-number-job : goal.returns-then-number-job
returns-then-number-job c = λ is_so. ready_at c.args.job c.loop-place.place 0 _ _ c.requires (sym c.ready.ensures ∙ c.in-Some.is ∙ ap Some c.if-number-job.true)
