use Rattle.std.proofs.Common.{vec_len}
use Rattle.fault_store.specs.Called.{IsCalled}
use Rattle.fault_store.specs.Change.{calls_of}
use Rattle.fault_store.proofs.Making.{GoesOn}
use Rattle.fault_store.proofs.meddled.make_all.Given as goal

abbrev pub invariant-loop-change : goal.invariant-loop-change
invariant-loop-change g l =
    GoesOn (IsCalled g.S.Store.position g.S.Store.history g.S.Store.faults g.S.Store.is_alone g.S.Store.never_fails g.S.Store.is_honest) (calls_of l.fn.changes.items) (calls_of l.changes.items) l.initial.store l.store

abbrev pub decreases-loop-change : goal.decreases-loop-change
decreases-loop-change g l = vec_len l.changes
