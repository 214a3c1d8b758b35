use Rattle.std.proofs.Common.{ℕ, List, [], ◌∷◌, refl, ◌∙◌, arith}
use Rattle.bucket_model.specs.Answers.{bytes_in}
use Rattle.mount_model.specs.Run.{ready, startable}
use Rattle.mount_core.specs.Core.{state_of}
use Rattle.mp_driver.proofs.ByJob.{with-one}
use Rattle.mp_driver.proofs.Choices.{none_first}
use Rattle.mp_driver.proofs.Cores.{at-begun, at-called, called-owed, at-done, at-end, at-start, may_done}
use Rattle.mp_driver.proofs.Faults.{few-all, few-begun, few-called, few-done, few-none, few-start}
use Rattle.mp_driver.proofs.Jobs.{is_among-place}
use Rattle.mp_driver.proofs.driving.drive_oldest.Goals as goal

pub loop-job-init : goal.loop-job-init
loop-job-init g c = record {
  options = refl;
  script = refl;
  between = at-start (g.S.Store.history c.args.store.now) (g.S.Store.position c.args.store.now) (g.S.Store.is_alone c.args.store.now) c.args.core c.requires (λ history is. g.met.S.Store.position_is c.args.store.now history is);
  faults = few-start (g.S.Store.faults c.args.store.now) c.args.core c.requires;
  alone = λ is. is;
  honest = λ is. is;
  grown = omega arith;
}

pub call_for-got-requires-clause-ready : goal.call_for-got-requires-clause-ready
call_for-got-requires-clause-ready g c = is_among-place c.in-Some.job 0 (ready (state_of c.loop-job.core).jobs) c.in-Some.ensures

pub done-requires : goal.done-requires
done-requires g c =
    let got = c.call_for-got.result in
    let was = c.loop-job.invariant in
    let called = c.call_for-got.ensures.called in
    let owed = called-owed (g.S.Store.history c.loop-job.store) (g.S.Store.history c.call_for-got.new.store) c.in-Some.job (g.S.Store.position c.loop-job.store) (g.S.Store.position c.call_for-got.new.store) (g.S.Store.faults c.loop-job.store) (g.S.Store.faults c.call_for-got.new.store) (g.S.Store.is_alone c.loop-job.store) got c.loop-job.core c.call_for-got.new.core called in
    may_done (g.S.Store.history c.call_for-got.new.store) (g.S.Store.position c.call_for-got.new.store) (g.S.Store.position c.args.store.now) (g.S.Store.is_alone c.args.store.now) (got ∷ []) got c.call_for-got.new.core (with-one got).own owed
    (at-called (g.S.Store.history c.loop-job.store) (g.S.Store.history c.call_for-got.new.store) c.in-Some.job (g.S.Store.position c.loop-job.store) (g.S.Store.position c.call_for-got.new.store) (g.S.Store.position c.args.store.now) (g.S.Store.faults c.loop-job.store) (g.S.Store.faults c.call_for-got.new.store) (g.S.Store.is_alone c.args.store.now) (g.S.Store.is_alone c.loop-job.store) got [] (got ∷ []) c.loop-job.core c.call_for-got.new.core called was.alone (with-one got) was.between)

pub loop-job-preserved-in-Some : goal.loop-job-preserved-in-Some
loop-job-preserved-in-Some g c =
    let got = c.call_for-got.result in
    let was = c.loop-job.invariant in
    let called = c.call_for-got.ensures.called in
    let owed = called-owed (g.S.Store.history c.loop-job.store) (g.S.Store.history c.call_for-got.new.store) c.in-Some.job (g.S.Store.position c.loop-job.store) (g.S.Store.position c.call_for-got.new.store) (g.S.Store.faults c.loop-job.store) (g.S.Store.faults c.call_for-got.new.store) (g.S.Store.is_alone c.loop-job.store) got c.loop-job.core c.call_for-got.new.core called in
    let between = at-called (g.S.Store.history c.loop-job.store) (g.S.Store.history c.call_for-got.new.store) c.in-Some.job (g.S.Store.position c.loop-job.store) (g.S.Store.position c.call_for-got.new.store) (g.S.Store.position c.args.store.now) (g.S.Store.faults c.loop-job.store) (g.S.Store.faults c.call_for-got.new.store) (g.S.Store.is_alone c.args.store.now) (g.S.Store.is_alone c.loop-job.store) got [] (got ∷ []) c.loop-job.core c.call_for-got.new.core called was.alone (with-one got) was.between in
    record {
      options = c.done.ensures.options ∙ (called.take.options ∙ was.options);
      script = c.done.ensures.script ∙ (called.take.script ∙ was.script);
      between = at-done (g.S.Store.history c.call_for-got.new.store) (g.S.Store.position c.call_for-got.new.store) (g.S.Store.position c.args.store.now) (g.S.Store.is_alone c.args.store.now) got [] (got ∷ []) c.call_for-got.new.core c.done.new.self c.done.ensures owed (with-one got) between;
      faults =
          few-all (g.S.Store.faults c.args.store.now) (g.S.Store.faults c.call_for-got.new.store) c.done.new.self
          (few-done (g.S.Store.faults c.args.store.now) (g.S.Store.faults c.call_for-got.new.store) (bytes_in got.answer) got [] (got ∷ []) c.call_for-got.new.core c.done.new.self c.done.ensures (with-one got)
          (few-called c.in-Some.job (g.S.Store.position c.loop-job.store) (g.S.Store.position c.call_for-got.new.store) (g.S.Store.faults c.args.store.now) (g.S.Store.faults c.loop-job.store) (g.S.Store.faults c.call_for-got.new.store) (g.S.Store.is_alone c.loop-job.store) (g.S.Store.history c.loop-job.store) (g.S.Store.history c.call_for-got.new.store) got [] (got ∷ []) c.loop-job.core c.call_for-got.new.core called (with-one got)
          (few-none (g.S.Store.faults c.args.store.now) (g.S.Store.faults c.loop-job.store) c.loop-job.core was.faults)));
      alone = λ is. c.call_for-got.ensures.alone (was.alone is);
      honest = λ is. c.call_for-got.ensures.honest (was.honest is);
      grown = omega (arith, was.grown, called.faults_grow);
    }

pub begin-requires : goal.begin-requires
begin-requires g c = is_among-place c.in-Some-startable_at.line 0 (startable (state_of c.loop-job.core).lines) c.in-Some-startable_at.ensures.value

pub loop-job-preserved : goal.loop-job-preserved
loop-job-preserved g c =
    let was = c.loop-job.invariant in
    record {
      options = c.begin.ensures.options ∙ was.options;
      script = c.begin.ensures.script ∙ was.script;
      between = at-begun (g.S.Store.history c.loop-job.store) (g.S.Store.position c.loop-job.store) (g.S.Store.position c.args.store.now) (g.S.Store.is_alone c.args.store.now) [] c.in-Some-startable_at.line _ c.loop-job.core c.begin.new.self c.begin.ensures was.between;
      faults =
          few-all (g.S.Store.faults c.args.store.now) (g.S.Store.faults c.loop-job.store) c.begin.new.self
          (few-begun _ c.in-Some-startable_at.line _ (g.S.Store.faults c.args.store.now) (g.S.Store.faults c.loop-job.store) [] c.loop-job.core c.begin.new.self c.begin.ensures
          (few-none (g.S.Store.faults c.args.store.now) (g.S.Store.faults c.loop-job.store) c.loop-job.core was.faults));
      alone = was.alone;
      honest = was.honest;
      grown = was.grown;
    }

pub returns-in_default-startable_at-clause-driven : goal.returns-in_default-startable_at-clause-driven
returns-in_default-startable_at-clause-driven g c =
    let was = c.loop-job.invariant in
    let core = c.loop-job.core in
    let jobs : List ℕ = ready (state_of core).jobs in
    let lines : List ℕ = startable (state_of core).lines in
    at-end (g.S.Store.history c.loop-job.store) (g.S.Store.position c.loop-job.store) (g.S.Store.position c.args.store.now) (g.S.Store.is_alone c.args.store.now) (g.S.Store.is_honest c.args.store.now) (g.S.Store.faults c.args.store.now) (g.S.Store.faults c.loop-job.store) c.args.core.options c.args.core.script core was.options was.script (c.startable_at.ensures.within, c.startable_at.ensures.rising)
    (λ honest history is. (g.met.S.Store.honest_is_legal c.loop-job.store history is (was.honest honest)).0)
    (none_first jobs c.in_default.ensures)
    (none_first lines c.in_default-startable_at.ensures.value)
    was.faults was.between
