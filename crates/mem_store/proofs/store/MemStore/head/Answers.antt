use Rattle.std.proofs.Common.{arith}
use Rattle.mem_store.proofs.Keeps.{keeps, served}
use Rattle.mem_store.proofs.Heads.{head_answered}
use Rattle.mem_store.proofs.store.MemStore.head.Goals as goal

pub invariant_of-self-2 : goal.invariant_of-self-2
invariant_of-self-2 c = keeps _ (head_answered _ c.self.inside.log.items c.args.key _ c.self.invariant c.head_answer-answer.ensures.answer) c.self.invariant (cc)

pub returns : goal.returns
returns c = rw (← c.self.view_is) (served _ _ (head_answered _ c.self.inside.log.items c.args.key _ c.self.invariant c.head_answer-answer.ensures.answer) c.self.invariant (cc) (omega (arith, c.self.inside.log.ok.0)))
