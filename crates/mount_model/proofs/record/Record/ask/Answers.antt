use Rattle.std.proofs.Common.{sym, subst}
use Rattle.bucket_model.proofs.Along.{Along-push}
use Rattle.mount_model.specs.Step.{MayFollow, with_item}
use Rattle.mount_model.specs.Step.{Written, HasStep}
use Rattle.mount_model.proofs.record.Record.ask.Goals as goal

pub invariant_of-self : goal.invariant_of-self
invariant_of-self c = rw c.push_reserved.ensures.items (Along-push MayFollow with_item _ _ _ c.self.invariant (subst (λ (w : Written). HasStep w.steps) (sym c.self.view_is) c.requires.may))
