use Rattle.std.proofs.Common.{[], ◌∷◌, ◌++◌, ◌∙◌, refl, sym, ap, subst}
use Rattle.mount_model.specs.declared.request.Reply.TheVariants.{Success}
use Rattle.mount_model.specs.Step.{HasStep}
use Rattle.mount_model.specs.Run.{due_awaits}
use Rattle.mount_model.proofs.Steps.{HasStep-change_last}
use Rattle.mount_core.specs.Turn.{with_part}
use Rattle.mount_core.proofs.Turns.{answers_more, answers_none, more_replied}
use Rattle.mount_core.proofs.work.Work.answer_awaits.Goals as goal

pub loop-line-init : goal.loop-line-init
loop-line-init c = (c.requires, ([], refl, answers_none c.args.self.now c.requires), refl)

pub loop-line-preserved : goal.loop-line-preserved
loop-line-preserved c =
    let so_far = c.loop-line.invariant in
    let one = record { line = c.in-Some.line; reply = Success } ∷ [] in
    let steps = HasStep-change_last (with_part [] [] one) c.loop-line.self.record.steps so_far.0 in (
      subst HasStep (sym c.reply_line.ensures.answers.steps) steps,
      (
        so_far.1.0 ++ one,
        more_replied so_far.1.0 (due_awaits c.loop-line.self.lines) _ (due_awaits c.reply_line.new.self.lines) (due_awaits c.args.self.now.lines) (record { line = c.in-Some.line; reply = Success }) so_far.1.1 c.in-Some.ensures.0 (ap due_awaits c.reply_line.ensures.answers.lines),
        answers_more so_far.1.0 one c.args.self.now c.loop-line.self c.reply_line.new.self c.requires so_far.1.2 c.reply_line.ensures.answers,
      ),
      c.reply_line.ensures.shared ∙ so_far.2,
    )
