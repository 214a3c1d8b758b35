use Rattle.mount_core.proofs.Events.{quiet_core}
use Rattle.mount_core.proofs.client.Core.quiet.Goals as goal

pub returns-then-all_replied : goal.returns-then-all_replied
returns-then-all_replied c =
    let both = quiet_core c.self.inside.work c.self.invariant (c.all_replied.ensures.0 c.if-all_replied.true) in
    rw (← c.self.view_is) (λ empty. both.0 (c.is_empty.ensures.0 empty), λ quiet. c.is_empty.ensures.1 (both.1 quiet))
