use Rattle.std.proofs.Common.{arith}
use Rattle.mem_store.proofs.Keeps.{few_uploads, keeps, served}
use Rattle.mem_store.proofs.Multipart.{create_answered}
use Rattle.mem_store.proofs.store.MemStore.create.Goals as goal

pub overflow_add-upload : goal.overflow_add-upload
overflow_add-upload c = omega (arith, few_uploads _ _ c.self.invariant, c.self.inside.log.ok.0, c.self.inside.log.small)

pub invariant_of-self-2 : goal.invariant_of-self-2
invariant_of-self-2 c = keeps _ (create_answered _ _ c.self.inside.log.items c.args.key c.self.invariant c.in-Ok-create.ensures.ok) c.self.invariant (cc)

pub returns : goal.returns
returns c = rw (← c.self.view_is) (served _ _ (create_answered _ _ c.self.inside.log.items c.args.key c.self.invariant c.in-Ok-create.ensures.ok) c.self.invariant (cc) (omega (arith, c.self.inside.log.ok.0)))
