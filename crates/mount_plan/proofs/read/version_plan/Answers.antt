use Rattle.std.proofs.Common.{Some}
use Rattle.mount_model.specs.Conversation.{Range, range_next}
use Rattle.mount_plan.specs.Meant.{MeansOne}
use Rattle.mount_plan.proofs.Firsts.{by_first}
use Rattle.mount_plan.proofs.read.version_plan.Goals as goal

pub returns-in-Some-first_answer : goal.returns-in-Some-first_answer
returns-in-Some-first_answer c =
    let version = c.args.version.now in
    let range : Range = record { from = c.in-Some.from; to = c.in-Some.to } in
    rw c.in-Some.ensures.0
    (by_first (λ answers. MeansOne c.got.result (range_next version (Some range) answers)) _ c.in-Some-first_answer.answer.now c.in-Some-first_answer.ensures (c.got.ensures version range))
