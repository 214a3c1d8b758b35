use Rattle.std.proofs.Common.{inr, refl}
use Rattle.fault_store.specs.Called.{IsCalled}
use Rattle.fault_store.proofs.Lost.{conveys_lost}
use Rattle.fault_store.proofs.faulty.Faulty.reach.Goals as goal

pub returns-in-Err-brief-clause-reaches : goal.returns-in-Err-brief-clause-reaches
returns-in-Err-brief-clause-reaches g c =
    let said = c.call-said.ensures in
    inr (conveys_lost (IsCalled g.S.Store.position g.S.Store.history g.S.Store.faults g.S.Store.is_alone g.S.Store.never_fails g.S.Store.is_honest c.args.call) c.args.call c.args.hides c.call-said.result.0 c.call-said.result.1 c.args.self.now _ c.if-hides.false c.in-Err-brief.ensures.plain
    (record {
      kind = said.kind;
      not_before = said.not_before;
      counted = said.counted;
      grows = said.grows;
      faults_grow = said.faults_grow;
      fault = said.fault;
      never = said.never;
      told = said.told;
      slice = said.slice;
      alone = said.alone;
      honest = said.honest;
    }) refl refl)
