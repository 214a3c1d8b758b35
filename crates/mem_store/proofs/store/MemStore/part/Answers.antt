use Rattle.std.proofs.Common.{arith}
use Rattle.mem_store.proofs.Keeps.{keeps, served}
use Rattle.mem_store.proofs.Multipart.{part_answered}
use Rattle.mem_store.proofs.store.MemStore.part.Goals as goal

pub invariant_of-self-2 : goal.invariant_of-self-2
invariant_of-self-2 c =
    keeps _
    (part_answered _ c.put_part.new.self c.self.inside.log.items c.args.upload c.args.number c.args.bytes _ c.requires.low c.requires.high c.self.invariant c.in-Ok-put_part.ensures.answer c.in-Ok-put_part.ensures.ok)
    c.self.invariant (cc)

pub returns : goal.returns
returns c =
    rw (← c.self.view_is)
    (served _ _
    (part_answered _ c.put_part.new.self c.self.inside.log.items c.args.upload c.args.number c.args.bytes _ c.requires.low c.requires.high c.self.invariant c.in-Ok-put_part.ensures.answer c.in-Ok-put_part.ensures.ok)
    c.self.invariant (cc) (omega (arith, c.self.inside.log.ok.0)))
