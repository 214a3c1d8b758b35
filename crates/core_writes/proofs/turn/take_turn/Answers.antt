use Rattle.std.proofs.Common.{◌≡◌, ap, ◌∙◌, subst}
use Rattle.mount_model.specs.Handles.{Writer}
use Rattle.mount_model.specs.Conversation.{with_upload}
use Rattle.mount_model.specs.Writers.{answer_to}
use Rattle.core_writes.specs.Asked.{GivesUp}
use Rattle.core_writes.specs.Dropped.{DropsReady}
use Rattle.core_writes.proofs.Turned.{turns}
use Rattle.core_writes.proofs.turn.take_turn.Goals as goal

pub returns-clause-turn : goal.returns-clause-turn
returns-clause-turn c =
    let w : Writer = c.args.writer.now in
    let asked : Writer = c.ask_all.new.writer in
    let dropped : Writer = c.drop_ready.new.writer in
    let ended : Writer = c.give_up.new.writer in
    let asked_is : asked ≡ with_upload asked.upload w = c.ask_all.ensures.writer in
    let dropped_is : dropped ≡ with_upload dropped.upload w = c.drop_ready.ensures.writer ∙ ap (with_upload dropped.upload) asked_is in
    let ended_is : ended ≡ with_upload ended.upload w = c.give_up.ensures.writer ∙ ap (with_upload ended.upload) dropped_is in
    let drops = subst (λ t. DropsReady t dropped.upload c.ask_all.new.jobs c.drop_ready.new.jobs c.ask_all.new.journal c.drop_ready.new.journal) asked_is c.drop_ready.ensures.drops in
    let ends = subst (λ t. GivesUp t ended.upload c.drop_ready.new.jobs c.give_up.new.jobs c.drop_ready.new.journal c.give_up.new.journal) dropped_is c.give_up.ensures.gives_up in
    turns w c.args.jobs.now c.ask_all.new.jobs c.drop_ready.new.jobs c.give_up.new.jobs c.args.journal.now c.ask_all.new.journal c.drop_ready.new.journal c.give_up.new.journal asked.upload dropped.upload ended.upload c.ask_all.ensures.asks drops ends c.answer.result (c.answer.ensures ∙ ap (λ (t : Writer). answer_to t.waiter ended.upload) ended_is)
