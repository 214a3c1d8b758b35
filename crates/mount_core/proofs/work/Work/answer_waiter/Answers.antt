use Rattle.std.proofs.Common.{refl, sym, subst}
use Rattle.std.specs.Prelude.{option_to_list}
use Rattle.mount_core.specs.Shared.{shared_in}
use Rattle.mount_core.specs.Turn.{Answers, SharedAlone}
use Rattle.mount_core.proofs.Turns.{answers_none}
use Rattle.mount_core.proofs.Writers.{answers_alone, behind_none}
use Rattle.mount_core.proofs.work.Work.answer_waiter.Goals.{in-Close, in-Nobody}
use Rattle.mount_core.proofs.work.Work.answer_waiter.Goals as goal

pub returns-in_default-clause-answers : goal.returns-in_default-clause-answers
returns-in_default-clause-answers c = subst (λ o. Answers (option_to_list o) c.args.self.now c.args.self.now) (sym c.in_default.is) (answers_none c.args.self.now c.requires.step)

pub returns-in_default-clause-shared : goal.returns-in_default-clause-shared
returns-in_default-clause-shared c = λ w stands. behind_none (c.args.actor, c.args.name) w c.args.answered (shared_in c.args.self.now) c.in_default.is stands

pub returns-clause-answers : goal.returns-clause-answers
returns-clause-answers c =
    let alone : SharedAlone c.args.self.now c.match-writer.self = elim c.match-writer.branch [
      | in-Close w ↦ subst (SharedAlone c.args.self.now) (sym w.self-is) (record { steps = refl; lines = refl; jobs = refl; time = refl; options = refl })
      | in-Nobody w ↦ subst (SharedAlone c.args.self.now) (sym w.self-is) (record { steps = refl; lines = refl; jobs = refl; time = refl; options = refl })
    ] in
    subst (λ o. Answers (option_to_list o) c.args.self.now c.reply_line.new.self) (sym c.in-Some.is) (answers_alone _ c.args.self.now c.match-writer.self c.reply_line.new.self alone c.reply_line.ensures.answers)
