use Rattle.std.proofs.Common.{fold, take, sym, ap, ◌∙◌, refl}
use Rattle.std.proofs.Math.Seq.{take_all}
use Rattle.std.proofs.lemmas.List.Sums.{fold_more}
use Rattle.mount_core.specs.Listing.{with_answer}
use Rattle.mount_core.proofs.listing.read_answers.Goals as goal

pub loop-answer-init : goal.loop-answer-init
loop-answer-init c = refl

pub loop-answer-preserved : goal.loop-answer-preserved
loop-answer-preserved c =
    c.in_ok-read_answer.ensures
    ∙ ap (λ reader. with_answer reader c.answer-item.result) c.loop-answer.invariant
    ∙ ap (with_answer (fold with_answer c.args.reader.now (take c.loop-answer.answer-index c.args.answers.now))) c.answer-item.is
    ∙ sym (fold_more with_answer c.args.reader.now c.args.answers.now c.loop-answer.answer-index c.answer-item.result c.loop-answer-test.true)

pub returns : goal.returns
returns c = c.loop-answer.invariant ∙ ap (fold with_answer c.args.reader.now) (take_all c.loop-answer.answer-index c.args.answers.now c.loop-answer-test.false)
