use Rattle.std.proofs.Common.{arith}
use Rattle.mem_store.proofs.Keeps.{few_versions, keeps, served}
use Rattle.mem_store.proofs.Puts.{put_answered}
use Rattle.mem_store.proofs.store.MemStore.put.Goals as goal

pub overflow_add-number : goal.overflow_add-number
overflow_add-number c = omega (arith, few_versions _ _ c.self.invariant, c.self.inside.log.ok.0, c.self.inside.log.small)

pub invariant_of-self-2 : goal.invariant_of-self-2
invariant_of-self-2 c =
    keeps _
    (put_answered _ c.put_version.new.objects c.self.inside.log.items c.args.key c.args.bytes _ c.self.invariant (omega (arith, few_versions _ _ c.self.invariant, c.self.inside.log.ok.0, c.self.inside.log.small))
    c.in-Ok-put_version.ensures.fits c.in-Ok-put_version.ensures.etag c.in-Ok-put_version.ensures.ok) c.self.invariant (cc)

pub returns : goal.returns
returns c =
    rw (← c.self.view_is)
    (served _ _
    (put_answered _ c.put_version.new.objects c.self.inside.log.items c.args.key c.args.bytes _ c.self.invariant (omega (arith, few_versions _ _ c.self.invariant, c.self.inside.log.ok.0, c.self.inside.log.small))
    c.in-Ok-put_version.ensures.fits c.in-Ok-put_version.ensures.etag c.in-Ok-put_version.ensures.ok) c.self.invariant (cc) (omega (arith, c.self.inside.log.ok.0)))
