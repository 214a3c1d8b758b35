use Rattle.bucket_model.proofs.Along.{Along-push}
use Rattle.mount_model.specs.Step.{MayFollow, with_item}
use Rattle.mount_model.proofs.record.Record.event.Goals as goal

pub invariant_of-self : goal.invariant_of-self
invariant_of-self c = rw c.push_reserved.ensures.items (Along-push MayFollow with_item _ _ _ c.self.invariant tt)
