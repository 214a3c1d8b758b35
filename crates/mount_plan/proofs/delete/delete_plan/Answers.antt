use Rattle.std.proofs.Common.{◌≡◌}
use Rattle.mount_model.specs.Conversation.{Replies, delete_next}
use Rattle.mount_plan.proofs.Firsts.{by_first}
use Rattle.mount_plan.proofs.delete.delete_plan.Goals as goal

pub returns-in-Some : goal.returns-in-Some
returns-in-Some c =
    let key = c.args.key.now in
    by_first (λ answers. delete_next key answers ≡ Replies c.delete_reply.result) _ c.in-Some.answer.now c.in-Some.ensures (c.delete_reply.ensures key)
