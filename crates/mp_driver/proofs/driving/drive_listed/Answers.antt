use Rattle.std.proofs.Common.{◌≡◌, ℕ, ◌+◌, ◌-◌, List, [], refl, sym, ◌∙◌, subst, arith}
use Rattle.bucket_model.specs.Answers.{bytes_in}
use Rattle.mount_model.specs.Run.{ready, startable}
use Rattle.mount_core.specs.Core.{state_of}
use Rattle.mp_driver.specs.declared.held.HeldAnswer.{HeldAnswer}
use Rattle.mp_driver.specs.Drive.{HasRisenBy, faults_in}
use Rattle.mp_driver.specs.Held.{IsWith, faults_among}
use Rattle.mp_driver.proofs.Between.{IsAtTurn}
use Rattle.mp_driver.proofs.Choices.{none_left, nothing-is, past-none}
use Rattle.mp_driver.proofs.Cores.{at-begun, at-called, at-done, at-end, at-start, may_done, not_held}
use Rattle.mp_driver.proofs.Faults.{few-all, few-begun, few-called, few-done, few-none, few-start}
use Rattle.mp_driver.proofs.Jobs.{is_among-place}
use Rattle.mp_driver.proofs.driving.drive_listed.Goals as goal

pub loop-held-init : goal.loop-held-init
loop-held-init g c =
    let start = at-start (g.S.Store.history c.args.store.now) (g.S.Store.position c.args.store.now) (g.S.Store.is_alone c.args.store.now) c.args.core c.requires (λ history is. g.met.S.Store.position_is c.args.store.now history is) in
    let few = few-none (g.S.Store.faults c.args.store.now) (g.S.Store.faults c.args.store.now) c.args.core (few-start (g.S.Store.faults c.args.store.now) c.args.core c.requires) in
    record {
      options = refl;
      script = refl;
      by_job = rw c.new-held.ensures.items tt;
      between = rw c.new-held.ensures.items start;
      faults = rw c.new-held.ensures.items few;
      alone = λ is. is;
      honest = λ is. is;
      grown = omega arith;
    }

pub done-requires : goal.done-requires
done-requires g c =
    let got = c.let_go-got.result in
    let between = c.loop-held.invariant.between in
    may_done (g.S.Store.history c.loop-held.store) (g.S.Store.position c.loop-held.store) (g.S.Store.position c.args.store.now) (g.S.Store.is_alone c.args.store.now) c.loop-held.held.items got c.loop-held.core c.let_go-got.ensures.with.own (between.owed (c.startable_len-startable.ensures.within, c.startable_len-startable.ensures.rising) got.job got c.let_go-got.ensures.with.own) between

pub loop-held-preserved-then-choice-answers : goal.loop-held-preserved-then-choice-answers
loop-held-preserved-then-choice-answers g c =
    let got = c.let_go-got.result in
    let was = c.loop-held.invariant in
    record {
      options = c.done.ensures.options ∙ was.options;
      script = c.done.ensures.script ∙ was.script;
      by_job = c.let_go-got.ensures.by_job;
      between = at-done (g.S.Store.history c.loop-held.store) (g.S.Store.position c.loop-held.store) (g.S.Store.position c.args.store.now) (g.S.Store.is_alone c.args.store.now) got c.let_go-got.new.held.items c.loop-held.held.items c.loop-held.core c.done.new.self c.done.ensures (was.between.owed (c.startable_len-startable.ensures.within, c.startable_len-startable.ensures.rising) got.job got c.let_go-got.ensures.with.own) c.let_go-got.ensures.with was.between;
      faults = few-done (g.S.Store.faults c.args.store.now) (g.S.Store.faults c.loop-held.store) (bytes_in got.answer) got c.let_go-got.new.held.items c.loop-held.held.items c.loop-held.core c.done.new.self c.done.ensures c.let_go-got.ensures.with was.faults;
      alone = was.alone;
      honest = was.honest;
      grown = was.grown;
    }

pub call_for-got-requires-clause-ready : goal.call_for-got-requires-clause-ready
call_for-got-requires-clause-ready g c = is_among-place c.in-Some.job _ (ready (state_of c.loop-held.core).jobs) c.in-Some.ensures

pub hold-requires-clause-new : goal.hold-requires-clause-new
hold-requires-clause-new g c =
    let called = c.call_for-got.ensures.called in
    let none = not_held (g.S.Store.history c.loop-held.store) (g.S.Store.position c.loop-held.store) (g.S.Store.position c.args.store.now) (g.S.Store.is_alone c.args.store.now) c.loop-held.held.items c.in-Some.job c.loop-held.core (c.startable_len-startable.ensures.within, c.startable_len-startable.ensures.rising) (is_among-place c.in-Some.job _ (ready (state_of c.loop-held.core).jobs) c.in-Some.ensures) c.loop-held.invariant.between in
    rw (called.same, c.reserve.ensures.items) none

pub loop-held-preserved-in-Some : goal.loop-held-preserved-in-Some
loop-held-preserved-in-Some g c =
    let got = c.call_for-got.result in
    let was = c.loop-held.invariant in
    let called = c.call_for-got.ensures.called in
    let with : IsWith got c.loop-held.held.items c.hold.new.held.items = rw c.reserve.ensures.items at c.hold.ensures.with in
    record {
      options = called.take.options ∙ was.options;
      script = called.take.script ∙ was.script;
      by_job = c.hold.ensures.by_job;
      between = at-called (g.S.Store.history c.loop-held.store) (g.S.Store.history c.call_for-got.new.store) c.in-Some.job (g.S.Store.position c.loop-held.store) (g.S.Store.position c.call_for-got.new.store) (g.S.Store.position c.args.store.now) (g.S.Store.faults c.loop-held.store) (g.S.Store.faults c.call_for-got.new.store) (g.S.Store.is_alone c.args.store.now) (g.S.Store.is_alone c.loop-held.store) got c.loop-held.held.items c.hold.new.held.items c.loop-held.core c.call_for-got.new.core called was.alone with was.between;
      faults = few-called c.in-Some.job (g.S.Store.position c.loop-held.store) (g.S.Store.position c.call_for-got.new.store) (g.S.Store.faults c.args.store.now) (g.S.Store.faults c.loop-held.store) (g.S.Store.faults c.call_for-got.new.store) (g.S.Store.is_alone c.loop-held.store) (g.S.Store.history c.loop-held.store) (g.S.Store.history c.call_for-got.new.store) got c.loop-held.held.items c.hold.new.held.items c.loop-held.core c.call_for-got.new.core called with was.faults;
      alone = λ is. c.call_for-got.ensures.alone (was.alone is);
      honest = λ is. c.call_for-got.ensures.honest (was.honest is);
      grown = omega (arith, was.grown, called.faults_grow);
    }

pub overflow_sub-choice-in_default-2 : goal.overflow_sub-choice-in_default-2
overflow_sub-choice-in_default-2 g c = rw c.ready_len-ready.ensures (past-none (ready (state_of c.loop-held.core).jobs) _ c.in_default.ensures)

pub begin-requires : goal.begin-requires
begin-requires g c = is_among-place c.in-Some-startable_at.line _ (startable (state_of c.loop-held.core).lines) c.in-Some-startable_at.ensures.value

pub loop-held-preserved : goal.loop-held-preserved
loop-held-preserved g c =
    let was = c.loop-held.invariant in
    record {
      options = c.begin.ensures.options ∙ was.options;
      script = c.begin.ensures.script ∙ was.script;
      by_job = was.by_job;
      between = at-begun (g.S.Store.history c.loop-held.store) (g.S.Store.position c.loop-held.store) (g.S.Store.position c.args.store.now) (g.S.Store.is_alone c.args.store.now) c.loop-held.held.items c.in-Some-startable_at.line _ c.loop-held.core c.begin.new.self c.begin.ensures was.between;
      faults = few-begun _ c.in-Some-startable_at.line _ (g.S.Store.faults c.args.store.now) (g.S.Store.faults c.loop-held.store) [] c.loop-held.core c.begin.new.self c.begin.ensures was.faults;
      alone = was.alone;
      honest = was.honest;
      grown = was.grown;
    }

pub returns-in_default-startable_at-clause-driven : goal.returns-in_default-startable_at-clause-driven
returns-in_default-startable_at-clause-driven g c =
    let was = c.loop-held.invariant in
    let core = c.loop-held.core in
    let jobs : List ℕ = ready (state_of core).jobs in
    let lines : List ℕ = startable (state_of core).lines in
    let choice : ℕ = c.choice_of-choice.result in
    let held : ℕ = c.len-answers.result in
    let waiting : ℕ = c.ready_len-ready.result in
    let none = none_left c.unwrap_or.result choice held waiting c.startable_len-startable.result c.saturating_add.result c.saturating_add-count.result c.saturating_add.ensures c.saturating_add-count.ensures c.choice_of-choice.ensures c.if-choice-answers.false
    (rw c.ready_len-ready.ensures (past-none jobs (choice - held) c.in_default.ensures))
    (rw c.startable_len-startable.ensures.value (past-none lines (choice - held - waiting) c.in_default-startable_at.ensures.value)) in
    let empty : c.loop-held.held.items ≡ [] = nothing-is c.loop-held.held.items (omega (arith, none.0, c.len-answers.ensures, c.loop-held.held.ok.0)) in
    at-end (g.S.Store.history c.loop-held.store) (g.S.Store.position c.loop-held.store) (g.S.Store.position c.args.store.now) (g.S.Store.is_alone c.args.store.now) (g.S.Store.is_honest c.args.store.now) (g.S.Store.faults c.args.store.now) (g.S.Store.faults c.loop-held.store) c.args.core.options c.args.core.script core was.options was.script (c.startable_at.ensures.within, c.startable_at.ensures.rising)
    (λ honest history is. (g.met.S.Store.honest_is_legal c.loop-held.store history is (was.honest honest)).0)
    (nothing-is jobs (sym c.ready_len-ready.ensures ∙ none.1))
    (nothing-is lines (sym c.startable_len-startable.ensures.value ∙ none.2))
    (few-all (g.S.Store.faults c.args.store.now) (g.S.Store.faults c.loop-held.store) core (subst (λ (held : List HeldAnswer). HasRisenBy (faults_in core.steps + faults_among held) (g.S.Store.faults c.args.store.now) (g.S.Store.faults c.loop-held.store)) empty was.faults))
    (subst (λ (held : List HeldAnswer). IsAtTurn (g.S.Store.history c.loop-held.store) (g.S.Store.position c.loop-held.store) (g.S.Store.position c.args.store.now) (g.S.Store.is_alone c.args.store.now) held core) empty was.between)
