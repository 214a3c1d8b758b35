use Rattle.std.proofs.Common.{arith}
use Rattle.mem_store.proofs.Keeps.{keeps, served}
use Rattle.mem_store.proofs.Heads.{probe_answered}
use Rattle.mem_store.proofs.store.MemStore.probe.Goals as goal

pub invariant_of-self-2 : goal.invariant_of-self-2
invariant_of-self-2 c = keeps _ (probe_answered _ c.self.inside.log.items c.args.key _ _ c.self.invariant c.in-Ok-finds_below.ensures c.probe_answer-answer.ensures.answer) c.self.invariant (cc)

pub returns : goal.returns
returns c =
    rw (← c.self.view_is)
    (served _ _ (probe_answered _ c.self.inside.log.items c.args.key _ _ c.self.invariant c.in-Ok-finds_below.ensures c.probe_answer-answer.ensures.answer) c.self.invariant (cc) (omega (arith, c.self.inside.log.ok.0)))
