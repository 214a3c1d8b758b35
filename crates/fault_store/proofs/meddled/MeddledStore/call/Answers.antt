use Rattle.std.proofs.Common.{arith}
use Rattle.mp_types.specs.Count.{risen}
use Rattle.bucket_model.specs.Answers.{brief_of}
use Rattle.fault_store.specs.Meddled.{IsLeftAlone, changes_at}
use Rattle.fault_store.proofs.Making.{alone_makes, are_changes_at, faults_makes, grows_makes, honest_makes, never_makes, quiet_makes, tells_behind}
use Rattle.fault_store.proofs.meddled.MeddledStore.call.Goals as goal

pub returns-clause-not_before : goal.returns-clause-not_before
returns-clause-not_before g c =
    omega (arith, c.serve.ensures.called.not_before, grows_makes g.S.Store.position g.S.Store.history g.S.Store.faults g.S.Store.is_alone g.S.Store.never_fails g.S.Store.is_honest (changes_at c.args.self.now.listed (risen c.args.self.now.calls)) c.args.self.now.inner c.serve.ensures.between c.serve.ensures.makes)

pub returns-clause-grows : goal.returns-clause-grows
returns-clause-grows g c =
    omega (arith, c.serve.ensures.called.grows, grows_makes g.S.Store.position g.S.Store.history g.S.Store.faults g.S.Store.is_alone g.S.Store.never_fails g.S.Store.is_honest (changes_at c.args.self.now.listed (risen c.args.self.now.calls)) c.args.self.now.inner c.serve.ensures.between c.serve.ensures.makes)

pub returns-clause-faults_grow : goal.returns-clause-faults_grow
returns-clause-faults_grow g c =
    omega (arith, c.serve.ensures.called.faults_grow, faults_makes g.S.Store.position g.S.Store.history g.S.Store.faults g.S.Store.is_alone g.S.Store.never_fails g.S.Store.is_honest (changes_at c.args.self.now.listed (risen c.args.self.now.calls)) c.args.self.now.inner c.serve.ensures.between c.serve.ensures.makes)

pub returns-clause-fault : goal.returns-clause-fault
returns-clause-fault g c fault =
    omega (arith, c.serve.ensures.called.fault fault, faults_makes g.S.Store.position g.S.Store.history g.S.Store.faults g.S.Store.is_alone g.S.Store.never_fails g.S.Store.is_honest (changes_at c.args.self.now.listed (risen c.args.self.now.calls)) c.args.self.now.inner c.serve.ensures.between c.serve.ensures.makes)

pub returns-clause-never : goal.returns-clause-never
returns-clause-never g c never =
    c.serve.ensures.called.never (never_makes g.S.Store.position g.S.Store.history g.S.Store.faults g.S.Store.is_alone g.S.Store.never_fails g.S.Store.is_honest (changes_at c.args.self.now.listed (risen c.args.self.now.calls)) c.args.self.now.inner c.serve.ensures.between c.serve.ensures.makes never)

pub returns-clause-told : goal.returns-clause-told
returns-clause-told g c =
    tells_behind (IsLeftAlone (g.S.Store.is_alone c.args.self.now.inner) c.args.self.now.listed) (g.S.Store.is_alone c.serve.ensures.between) c.args.call c.serve.result.0 (brief_of c.serve.result.1)
    (g.S.Store.history c.args.self.now.inner) (g.S.Store.history c.serve.ensures.between) (g.S.Store.history c.serve.new.self.inner)
    (λ alone. alone_makes g.S.Store.position g.S.Store.history g.S.Store.faults g.S.Store.is_alone g.S.Store.never_fails g.S.Store.is_honest (changes_at c.args.self.now.listed (risen c.args.self.now.calls)) c.args.self.now.inner c.serve.ensures.between c.serve.ensures.makes alone.inner)
    (quiet_makes g.S.Store.position g.S.Store.history g.S.Store.faults g.S.Store.is_alone g.S.Store.never_fails g.S.Store.is_honest (IsLeftAlone (g.S.Store.is_alone c.args.self.now.inner) c.args.self.now.listed) (changes_at c.args.self.now.listed (risen c.args.self.now.calls)) c.args.self.now.inner c.serve.ensures.between (λ alone. alone.none_left (risen c.args.self.now.calls) (omega arith))
    (are_changes_at c.args.self.now.listed (risen c.args.self.now.calls)) c.serve.ensures.makes)
    c.serve.ensures.called.told

pub returns-clause-honest : goal.returns-clause-honest
returns-clause-honest g c honest =
    c.serve.ensures.called.honest (honest_makes g.S.Store.position g.S.Store.history g.S.Store.faults g.S.Store.is_alone g.S.Store.never_fails g.S.Store.is_honest (changes_at c.args.self.now.listed (risen c.args.self.now.calls)) c.args.self.now.inner c.serve.ensures.between c.serve.ensures.makes honest)
