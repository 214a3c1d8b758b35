use Rattle.std.proofs.Common.{◌≡◌, sym, ap, subst, ◌∙◌}
use Rattle.mp_types.specs.HandleName.{HandleName}
use Rattle.mount_model.specs.Conversation.{with_upload}
use Rattle.mount_model.specs.Step.{HasStep}
use Rattle.line_table.specs.Table.{HasBegun}
use Rattle.mount_core.specs.declared.work.Work.{Work}
use Rattle.mount_core.proofs.Writers.{IsSettled, answer_begun, asked-stands, asked-steps, settled-stands, settled_else, settled_then, writer_turned}
use Rattle.mount_core.proofs.work.Work.turn_writer.Goals.{then-was_under_way, else-was_under_way}
use Rattle.mount_core.proofs.work.Work.turn_writer.Goals as goal

pub settle_name-requires : goal.settle_name-requires
settle_name-requires c =
    let w = c.requires.writer.writer in
    let asks = c.ask_writer-answered.ensures w c.requires.writer.stands in
    record { writer = with_upload asks.upload w; stands = asked-stands (c.args.actor, c.args.name) w c.ask_writer-answered.result c.args.self.now c.ask_writer-answered.new.self asks }

pub answer_waiter-requires-clause-step : goal.answer_waiter-requires-clause-step
answer_waiter-requires-clause-step c =
    let asks = c.ask_writer-answered.ensures c.requires.writer.writer c.requires.writer.stands in
    let steps = asked-steps (c.args.actor, c.args.name) c.requires.writer.writer c.ask_writer-answered.result c.args.self.now c.ask_writer-answered.new.self c.requires.step asks in
    elim c.if-was_under_way.branch [
      | then-was_under_way b ↦ subst (λ (x : Work). HasStep x.record.steps) (sym b.self-is) (subst HasStep (sym b.settle_name.ensures.alone.steps) steps)
      | else-was_under_way b ↦ subst (λ (x : Work). HasStep x.record.steps) (sym b.self-is) steps
    ]

pub answer_waiter-requires-clause-writer : goal.answer_waiter-requires-clause-writer
answer_waiter-requires-clause-writer c =
    let name : HandleName = (c.args.actor, c.args.name) in
    let w = c.requires.writer.writer in
    let way = c.args.was_under_way in
    let asks = c.ask_writer-answered.ensures w c.requires.writer.stands in
    let asked = c.ask_writer-answered.new.self in
    let mid = c.if-was_under_way.self in
    let settled : IsSettled name w asks.upload way asked mid = elim c.if-was_under_way.branch [
      | then-was_under_way b ↦ settled_then name w c.ask_writer-answered.result way c.args.self.now asked b.settle_name.new.self mid asks b.if-was_under_way.true b.settle_name.ensures.names b.settle_name.ensures.alone b.self-is
      | else-was_under_way b ↦ settled_else name w asks.upload way asked mid b.if-was_under_way.false b.self-is
    ] in
    record { writer = with_upload asks.upload w; stands = settled-stands name w way c.ask_writer-answered.result c.args.self.now asked mid asks settled }

pub answer_waiter-requires-clause-begun : goal.answer_waiter-requires-clause-begun
answer_waiter-requires-clause-begun c =
    let w = c.requires.writer.writer in
    let asks = c.ask_writer-answered.ensures w c.requires.writer.stands in
    let lines : c.if-was_under_way.self.lines ≡ c.args.self.now.lines = elim c.if-was_under_way.branch [
      | then-was_under_way b ↦ ap (λ (x : Work). x.lines) b.self-is ∙ b.settle_name.ensures.alone.lines ∙ asks.lines
      | else-was_under_way b ↦ ap (λ (x : Work). x.lines) b.self-is ∙ asks.lines
    ] in
    answer_begun w.waiter asks.upload c.ask_writer-answered.result c.if-was_under_way.self.lines asks.turns.told (λ number waits. subst (HasBegun number) (sym lines) (c.requires.writer.waited number waits))

pub returns : goal.returns
returns c = λ w stands.
    let name : HandleName = (c.args.actor, c.args.name) in
    let way = c.args.was_under_way in
    let asks = c.ask_writer-answered.ensures w stands in
    let asked = c.ask_writer-answered.new.self in
    let mid = c.if-was_under_way.self in
    let settled : IsSettled name w asks.upload way asked mid = elim c.if-was_under_way.branch [
      | then-was_under_way b ↦ settled_then name w c.ask_writer-answered.result way c.args.self.now asked b.settle_name.new.self mid asks b.if-was_under_way.true b.settle_name.ensures.names b.settle_name.ensures.alone b.self-is
      | else-was_under_way b ↦ settled_else name w asks.upload way asked mid b.if-was_under_way.false b.self-is
    ] in
    writer_turned name way w c.ask_writer-answered.result c.args.self.now asked mid c.answer_waiter.new.self c.requires.step asks settled c.answer_waiter.ensures.answers (c.answer_waiter.ensures.shared (with_upload asks.upload w) (settled-stands name w way c.ask_writer-answered.result c.args.self.now asked mid asks settled))
