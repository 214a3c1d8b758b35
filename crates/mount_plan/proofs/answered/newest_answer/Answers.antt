use Rattle.std.proofs.Common.{List, ◌-◌, length, slice_get, option_copied, ap, ◌∙◌}
use Rattle.bucket_model.specs.declared.answer.Brief.{Brief}
use Rattle.mount_plan.proofs.Lists.{newest-apart, newest-kept}
use Rattle.mount_plan.proofs.answered.newest_answer.Goals as goal

pub returns-in-Some : goal.returns-in-Some
returns-in-Some c = newest-apart (option_copied c.args.last) c.args.heard.now c.in-Some.answer.now c.in-Some.ensures

pub returns-in-None : goal.returns-in-None
returns-in-None c = newest-kept (option_copied c.args.last) c.args.heard.now (option_copied c.last.result) c.in-None.ensures (c.last.ensures.value ∙ ap (λ (answers : List Brief). slice_get answers (length answers - 1)) c.as_slice.ensures)
