use Rattle.std.proofs.Common.{arith}
use Rattle.mem_store.proofs.Keeps.{keeps, served}
use Rattle.mem_store.proofs.Puts.{delete_answered}
use Rattle.mem_store.proofs.store.MemStore.delete.Goals as goal

pub invariant_of-self-2 : goal.invariant_of-self-2
invariant_of-self-2 c = keeps _ (delete_answered _ c.remove_object.new.objects c.self.inside.log.items c.args.key c.self.invariant c.remove_object.ensures) c.self.invariant (cc)

pub returns : goal.returns
returns c =
    rw (← c.self.view_is) (served _ _ (delete_answered _ c.remove_object.new.objects c.self.inside.log.items c.args.key c.self.invariant c.remove_object.ensures) c.self.invariant (cc) (omega (arith, c.self.inside.log.ok.0)))
