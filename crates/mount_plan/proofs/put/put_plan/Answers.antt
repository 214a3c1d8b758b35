use Rattle.std.proofs.Common.{◌≡◌}
use Rattle.mp_types.specs.Content.{bytes_of}
use Rattle.mount_model.specs.Conversation.{Replies, put_next}
use Rattle.mount_plan.proofs.Firsts.{by_first}
use Rattle.mount_plan.proofs.put.put_plan.Goals as goal

pub returns-in-Some : goal.returns-in-Some
returns-in-Some c =
    let key = c.args.key.now in
    let bytes = bytes_of c.args.content.now in
    by_first (λ answers. put_next key bytes answers ≡ Replies c.put_reply.result) _ c.in-Some.answer.now c.in-Some.ensures (c.put_reply.ensures key bytes)
