use Rattle.mount_model.specs.Step.{HasStep}
use Rattle.mount_model.proofs.Steps.{HasStep-change_last}
use Rattle.job_table.proofs.Rising.{between_without}
use Rattle.state_rows.proofs.job_rows.Desk.drop_first.Goals as goal

pub invariant_of-self-2 : goal.invariant_of-self-2
invariant_of-self-2 c =
    let begun : HasStep c.make_room.new.self.steps = rw c.make_room.ensures.steps c.self.invariant.0 in (
      rw c.drop_job.ensures.steps (HasStep-change_last _ _ begun),
      rw (c.drop_job.ensures.held, c.drop_job.ensures.count) (between_without _ 0 _ _ c.self.invariant.1),
      tt,
    )
