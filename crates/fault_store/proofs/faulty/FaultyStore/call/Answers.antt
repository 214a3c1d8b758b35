use Rattle.std.proofs.Common.{arith}
use Rattle.fault_store.proofs.Honest.{honest_served}
use Rattle.fault_store.proofs.Tells.{kind_served, tells_served, counted_served, faults_served}
use Rattle.fault_store.proofs.faulty.FaultyStore.call.Goals as goal

pub returns-clause-kind : goal.returns-clause-kind
returns-clause-kind g c =
    kind_served g.S.Store.position g.S.Store.history g.S.Store.faults g.S.Store.is_alone g.S.Store.never_fails g.S.Store.is_honest c.args.call c.serve.result c.args.self.now c.serve.new.self c.serve.ensures.served

pub returns-clause-counted : goal.returns-clause-counted
returns-clause-counted g c counts =
    rw c.mark-place.ensures (counted_served g.S.Store.position g.S.Store.history g.S.Store.faults g.S.Store.is_alone g.S.Store.never_fails g.S.Store.is_honest c.args.call c.serve.result c.args.self.now c.serve.new.self c.serve.ensures.served counts)

pub returns-clause-faults_grow : goal.returns-clause-faults_grow
returns-clause-faults_grow g c =
    omega (arith, c.serve.ensures.grows, faults_served g.S.Store.position g.S.Store.history g.S.Store.faults g.S.Store.is_alone g.S.Store.never_fails g.S.Store.is_honest c.args.call c.serve.result c.args.self.now c.serve.new.self c.serve.ensures.served)

pub returns-clause-told : goal.returns-clause-told
returns-clause-told g c =
    rw c.mark-place.ensures (tells_served g.S.Store.position g.S.Store.history g.S.Store.faults g.S.Store.is_alone g.S.Store.never_fails g.S.Store.is_honest c.args.call c.serve.result c.args.self.now c.serve.new.self c.serve.ensures.served)

pub returns-clause-honest : goal.returns-clause-honest
returns-clause-honest g c =
    honest_served g.S.Store.position g.S.Store.history g.S.Store.faults g.S.Store.is_alone g.S.Store.never_fails g.S.Store.is_honest c.args.call c.serve.result c.args.self.now c.serve.new.self c.requires c.serve.ensures.served (λ honest told is. (g.met.S.Store.honest_is_legal c.serve.new.self.inner told is honest).0)
