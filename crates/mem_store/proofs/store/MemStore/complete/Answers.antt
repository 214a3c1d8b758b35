use Rattle.std.proofs.Common.{arith}
use Rattle.mem_store.proofs.Keeps.{few_versions, keeps, served}
use Rattle.mem_store.proofs.Multipart.{complete_made, complete_none}
use Rattle.mem_store.proofs.store.MemStore.complete.Goals as goal

pub overflow_add-number : goal.overflow_add-number
overflow_add-number c = omega (arith, few_versions _ _ c.self.invariant, c.self.inside.log.ok.0, c.self.inside.log.small)

pub invariant_of-self-in-Ok-Some : goal.invariant_of-self-in-Ok-Some
invariant_of-self-in-Ok-Some c =
    keeps _
    (complete_made _ c.complete.new.objects c.complete.new.self c.self.inside.log.items c.args.upload c.args.parts c.in-Ok-Some.etag c.requires c.self.invariant
    (omega (arith, few_versions _ _ c.self.invariant, c.self.inside.log.ok.0, c.self.inside.log.small)) (rw c.in-Ok-Some.field-0-is at c.in-Ok-Some.ensures.ok))
    c.self.invariant (cc)

pub invariant_of-self-in-Ok-None : goal.invariant_of-self-in-Ok-None
invariant_of-self-in-Ok-None c =
    keeps _
    (complete_none _ c.complete.new.objects c.complete.new.self c.self.inside.log.items c.args.upload c.args.parts c.requires c.self.invariant (rw c.in-Ok-None.field-0-is at c.in-Ok-None.ensures.ok))
    c.self.invariant (cc)

pub returns-in-Ok-Some : goal.returns-in-Ok-Some
returns-in-Ok-Some c =
    rw (← c.self.view_is)
    (served _ _
    (complete_made _ c.complete.new.objects c.complete.new.self c.self.inside.log.items c.args.upload c.args.parts c.in-Ok-Some.etag c.requires c.self.invariant
    (omega (arith, few_versions _ _ c.self.invariant, c.self.inside.log.ok.0, c.self.inside.log.small)) (rw c.in-Ok-Some.field-0-is at c.in-Ok-Some.ensures.ok))
    c.self.invariant (cc) (omega (arith, c.self.inside.log.ok.0)))

pub returns-in-Ok-None : goal.returns-in-Ok-None
returns-in-Ok-None c =
    rw (← c.self.view_is)
    (served _ _
    (complete_none _ c.complete.new.objects c.complete.new.self c.self.inside.log.items c.args.upload c.args.parts c.requires c.self.invariant (rw c.in-Ok-None.field-0-is at c.in-Ok-None.ensures.ok))
    c.self.invariant (cc) (omega (arith, c.self.inside.log.ok.0)))
