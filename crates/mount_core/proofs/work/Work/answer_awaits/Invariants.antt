use Rattle.std.proofs.Common.{◌≡◌, List, ◌++◌, length}
use Rattle.mount_model.specs.declared.event.Answered.{Answered}
use Rattle.mount_model.specs.Step.{HasStep}
use Rattle.mount_model.specs.Run.{due_awaits}
use Rattle.mount_core.specs.Shared.{shared_in}
use Rattle.mount_core.specs.Turn.{Answers}
use Rattle.mount_core.proofs.work.Work.answer_awaits.Given as goal

-- those that were answered, and those that are due, are those that were due
abbrev pub invariant-loop-line : goal.invariant-loop-line
invariant-loop-line l =
    HasStep l.self.record.steps
    × ((replies : List Answered) × (replies ++ due_awaits l.self.lines ≡ due_awaits l.initial.self.lines) × Answers replies l.initial.self l.self)
    × (shared_in l.self ≡ shared_in l.initial.self)

abbrev pub decreases-loop-line : goal.decreases-loop-line
decreases-loop-line l = length (due_awaits l.self.lines)
