use Rattle.std.proofs.Common.{arith}
use Rattle.mem_store.proofs.Gets.{get_answered, get_slice}
use Rattle.mem_store.proofs.Keeps.{keeps, served}
use Rattle.mem_store.proofs.store.MemStore.get.Goals as goal

pub invariant_of-self-2 : goal.invariant_of-self-2
invariant_of-self-2 c =
    keeps _ (get_answered _ c.self.inside.log.items c.args.key c.args.etag c.args.from c.args.to _ c.requires c.self.invariant c.in-Ok-get_answer.ensures.answer) c.self.invariant (cc)

pub returns-clause-served : goal.returns-clause-served
returns-clause-served c =
    rw (← c.self.view_is)
    (served _ _ (get_answered _ c.self.inside.log.items c.args.key c.args.etag c.args.from c.args.to _ c.requires c.self.invariant c.in-Ok-get_answer.ensures.answer) c.self.invariant (cc) (omega (arith, c.self.inside.log.ok.0)))

pub returns-clause-slice : goal.returns-clause-slice
returns-clause-slice c = get_slice _ c.self.inside.log.items c.log_answered.new.log.items c.args.key c.args.etag c.args.from c.args.to _ c.self.invariant c.in-Ok-get_answer.ensures.answer (cc)
