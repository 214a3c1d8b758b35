use Rattle.std.proofs.Common.{ap, sym, ◌∙◌, ◌∷◌}
use Rattle.fault_store.specs.Called.{IsCalled}
use Rattle.fault_store.specs.Change.{calls_of}
use Rattle.fault_store.proofs.Making.{goes_on_next}
use Rattle.fault_store.proofs.Scheduled.{calls_of-push}
use Rattle.fault_store.proofs.meddled.make_all.Goals as goal

pub loop-change-preserved : goal.loop-change-preserved
loop-change-preserved g c =
    goes_on_next (IsCalled g.S.Store.position g.S.Store.history g.S.Store.faults g.S.Store.is_alone g.S.Store.never_fails g.S.Store.is_honest) (calls_of c.args.changes.items) (calls_of c.loop-change.changes.items) (calls_of c.pop.new.self.items) c.into_call.result
    c.args.store.now c.loop-change.store c.call-answer.new.self c.loop-change.invariant (ap calls_of c.in-Some.ensures.items ∙ calls_of-push c.pop.new.self.items c.in-Some.change ∙ ap (λ asked. asked ∷ calls_of c.pop.new.self.items) (sym c.into_call.ensures))
    (record {
      place = c.call-answer.result.0;
      answer = c.call-answer.result.1;
      called = record {
        kind = c.call-answer.ensures.kind;
        not_before = c.call-answer.ensures.not_before;
        counted = c.call-answer.ensures.counted;
        grows = c.call-answer.ensures.grows;
        faults_grow = c.call-answer.ensures.faults_grow;
        fault = c.call-answer.ensures.fault;
        never = c.call-answer.ensures.never;
        told = c.call-answer.ensures.told;
        slice = c.call-answer.ensures.slice;
        alone = c.call-answer.ensures.alone;
        honest = c.call-answer.ensures.honest;
      };
    })
