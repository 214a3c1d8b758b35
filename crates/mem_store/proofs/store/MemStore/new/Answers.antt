use Rattle.mem_store.proofs.Keeps.{new_keeps}
use Rattle.mem_store.proofs.store.MemStore.new.Goals as goal

pub invariant_of-result : goal.invariant_of-result
invariant_of-result c = new_keeps _ _ _ c.new.ensures.empty c.new-2.ensures c.new-3.ensures.items
