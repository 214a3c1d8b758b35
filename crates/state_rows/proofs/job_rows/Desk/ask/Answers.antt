use Rattle.std.proofs.Common.{arith}
use Rattle.mount_model.proofs.Steps.{HasStep-change_last}
use Rattle.job_table.proofs.Rising.{between_push}
use Rattle.state_rows.proofs.job_rows.Desk.ask.Goals as goal
use Rattle.state_rows.proofs.job_rows.Desk.ask.Goals.{in-Ok, in-Err}

pub invariant_of-self : goal.invariant_of-self
invariant_of-self c =
    elim c.match-ask.branch [
      | in-Ok w ↦ (
        rw w.in-Ok.ensures.steps (HasStep-change_last _ _ c.self.invariant.0),
        rw w.in-Ok.ensures.ok (between_push 0 c.self.inside.jobs.count c.self.inside.jobs.held _ c.self.invariant.1 (omega arith)),
        tt,
      )
      | in-Err w ↦ (rw w.in-Err.ensures.unasked c.self.invariant.0, rw w.in-Err.ensures.err c.self.invariant.1, tt)
    ]
