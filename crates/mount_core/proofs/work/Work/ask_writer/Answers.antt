use Rattle.std.proofs.Common.{◌≡◌, arith, refl, sym, ap, ◌∙◌, subst}
use Rattle.std.specs.FinMap.{insert}
use Rattle.mount_model.specs.declared.handle.Handle.TheVariants.{Writing}
use Rattle.mount_model.specs.Conversation.{with_upload}
use Rattle.mount_model.specs.Handles.{Writer}
use Rattle.mount_model.specs.State.{with_handles}
use Rattle.run_laws.proofs.Handles.{some-writer}
use Rattle.core_writes.specs.Turn.{Turns}
use Rattle.mount_core.specs.Shared.{shared_in}
use Rattle.mount_core.proofs.work.Work.ask_writer.Goals as goal

pub invariant_of-self : goal.invariant_of-self
invariant_of-self c = record {
  counted = omega (arith, c.take_turn.ensures.owes _ c.args.self.now.counted);
  enough = c.take_turn.ensures.room;
  knows = rw c.take_turn.ensures.known c.args.self.now.knows;
  part_low = c.args.self.now.part_low;
  part_high = c.args.self.now.part_high;
  rising = c.args.self.now.rising;
}

pub returns : goal.returns
returns c = λ w stands.
    let before = c.args.self.now in
    let turn = c.take_turn.ensures in
    let is : c.writer_at.result.now ≡ w = some-writer c.writer_at.result.now w (sym c.writer_at.ensures.value ∙ stands) in
    let left : c.take_turn.new.writer ≡ with_upload c.take_turn.new.writer.upload w = turn.writer ∙ ap (with_upload c.take_turn.new.writer.upload) is in
    record {
      upload = c.take_turn.new.writer.upload;
      turns = subst (λ (v : Writer). Turns v before.jobs c.take_turn.new.jobs before.record.steps c.take_turn.new.journal.steps c.take_turn.new.writer.upload c.take_turn.result) is turn.turn;
      shared = ap (λ (v : Writer). with_handles (insert before.handles (c.args.actor, c.args.name) (Writing v)) (shared_in before)) left;
      lines = refl;
      time = refl;
    }
