use Rattle.std.proofs.Common.{arith}
use Rattle.mem_store.proofs.Keeps.{keeps, served}
use Rattle.mem_store.proofs.Multipart.{abort_answered}
use Rattle.mem_store.proofs.store.MemStore.abort.Goals as goal

pub invariant_of-self-2 : goal.invariant_of-self-2
invariant_of-self-2 c = keeps _ (abort_answered _ c.abort-answer.new.self c.self.inside.log.items c.args.upload _ c.self.invariant c.abort-answer.ensures.answer c.abort-answer.ensures.gone) c.self.invariant (cc)

pub returns : goal.returns
returns c =
    rw (← c.self.view_is)
    (served _ _ (abort_answered _ c.abort-answer.new.self c.self.inside.log.items c.args.upload _ c.self.invariant c.abort-answer.ensures.answer c.abort-answer.ensures.gone) c.self.invariant (cc) (omega (arith, c.self.inside.log.ok.0)))
