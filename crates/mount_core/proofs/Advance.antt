-- One event of a core is one legal step of its record.
use Rattle.std.proofs.Common.{◌≡◌, ℕ, ◌<◌, List, [], ◌∷◌, ◌++◌, map, length, refl, sym, ap, ◌∙◌, subst}
use Rattle.std.specs.List.{AllByRecursion}
use Rattle.std.proofs.lemmas.List.Sums.{fold_push}
use Rattle.bucket_model.proofs.Along.{Along-push}
use Rattle.mp_types.specs.declared.options.Opts.{Opts}
use Rattle.mp_types.specs.Options.{AreWithin}
use Rattle.mount_model.specs.declared.request.Line.{Line}
use Rattle.mount_model.specs.declared.request.Request.{Request}
use Rattle.mount_model.specs.declared.request.Request.TheVariants as request
use Rattle.mount_model.specs.declared.event.Event.{Event}
use Rattle.mount_model.specs.declared.event.Answered.{Answered}
use Rattle.mount_model.specs.declared.standing.Heard.{Heard}
use Rattle.mount_model.specs.declared.standing.Phase.{Phase}
use Rattle.mount_model.specs.declared.standing.Phase.TheVariants.{Waiting, Begun, Replied}
use Rattle.mount_model.specs.declared.standing.Standing.{Standing}
use Rattle.mount_model.specs.Step.{Step, step_of, HasStep}
use Rattle.mount_model.specs.State.{ClientState, Turn, opening, after, state_after, Shared, lines_at, jobs_at, jobs_asked, jobs_after, time_after, with_replies, shared_after, turn_at}
use Rattle.mount_model.specs.Reads.{GivesOnly}
use Rattle.mount_model.specs.Run.{IsLegalStep, IsRunSoFar, MayCome, TakesTurn, due_awaits, AreRising}
use Rattle.job_table.specs.LiveJobs.{LiveJobs, held_of}
use Rattle.run_laws.specs.Work.{work_left}
use Rattle.run_laws.proofs.Keyed.{all-append}
use Rattle.run_laws.proofs.Lines.{with_replies-append}
use Rattle.mount_core.specs.declared.work.Work.{Work}
use Rattle.mount_core.specs.Shared.{shared_in}
use Rattle.mount_core.specs.Turn.{AreAll, Holds, gone_with, Answers, Takes}
use Rattle.mount_core.specs.Core.{state_of, Advances, IsCore, core_of}
use Rattle.mount_core.proofs.Steps.{steps-more, steps-begun}

-- awaits give no data
awaits-give : (bytes : List ℕ) (lines : List Standing) → AllByRecursion (GivesOnly bytes) (due_awaits lines)
awaits-give bytes [] = tt
awaits-give bytes (s ∷ lines) = by_phase s.phase refl (awaits-give bytes lines)
  where
    by_request : (before : Heard) → s.phase ≡ Begun before → (r : Request) → s.line.request ≡ r → AllByRecursion (GivesOnly bytes) (due_awaits lines) → AllByRecursion (GivesOnly bytes) (due_awaits (s ∷ lines))
    by_request before e request.Await is below = rw (e, is) (tt, below)
    by_request before e (request.Put key content) is below = rw (e, is) tt
    by_request before e (request.Stat path) is below = rw (e, is) tt
    by_request before e (request.List path) is below = rw (e, is) tt
    by_request before e (request.OpenRead name path) is below = rw (e, is) tt
    by_request before e (request.OpenWrite name path) is below = rw (e, is) tt
    by_request before e (request.OpenTruncate name path) is below = rw (e, is) tt
    by_request before e (request.Read name offset count) is below = rw (e, is) tt
    by_request before e (request.Write name offset content) is below = rw (e, is) tt
    by_request before e (request.Sync name) is below = rw (e, is) tt
    by_request before e (request.Close name) is below = rw (e, is) tt
    by_request before e (request.Delete key) is below = rw (e, is) tt
    by_request before e (request.MakeDir path) is below = rw (e, is) tt
    by_request before e (request.RemoveDir path) is below = rw (e, is) tt
    by_request before e (request.Unlink path) is below = rw (e, is) tt

    by_phase : (p : Phase) → s.phase ≡ p → AllByRecursion (GivesOnly bytes) (due_awaits lines) → AllByRecursion (GivesOnly bytes) (due_awaits (s ∷ lines))
    by_phase Waiting e below = rw e tt
    by_phase (Begun before) e below = by_request before e s.line.request refl below
    by_phase Replied e below = rw e below

-- A turn behind an event makes one legal step.
pub record TurnDone (state : ClientState) (event : Event) (bytes : List ℕ) (before : List Step) (begun new : Work) : Type 0 where
  pub step : Step
  pub steps : new.record.steps ≡ before ++ step ∷ []
  pub event_is : step.event ≡ event
  pub legal : IsLegalStep state step
  pub lines : new.lines ≡ with_replies (lines_at state.lines state.jobs event) step.replies
  pub jobs : Holds new.jobs (jobs_after state.jobs step (turn_at state step.event))
  pub time : new.time ≡ begun.time
  pub options : new.options ≡ begun.options
  pub shared : shared_in new ≡ shared_after (turn_at state step.event) step state.shared
  pub gives : AllByRecursion (GivesOnly bytes) step.replies

pub turn_done : (state : ClientState) (event : Event) (turn : Turn) (lines : List Standing) (bytes : List ℕ) (before : List Step) (begun turned new : Work) →
    begun.record.steps ≡ before ++ step_of event ∷ [] →
    turn_at state event ≡ turn →
    lines_at state.lines state.jobs event ≡ lines →
    AreAll begun.jobs (jobs_at state.jobs event) →
    length (jobs_at state.jobs event) ≡ length state.jobs →
    MayCome state event →
    shared_in begun ≡ state.shared →
    Takes turn lines bytes begun turned →
    Answers (due_awaits turned.lines) turned new →
    shared_in new ≡ shared_in turned →
    TurnDone state event bytes before begun new
turn_done state event turn lines bytes before begun turned new steps turn_is lines_are all len may seen takes answers kept =
    let due : List Answered = due_awaits (with_replies lines takes.own) in
    let due_is : due_awaits turned.lines ≡ due = ap due_awaits takes.replied in
    let awaits : Answers due turned new = subst (λ (d : List Answered). Answers d turned new) due_is answers in
    let whole : Step = record { event = event; drops = takes.drops; asks = takes.asks; replies = takes.own ++ due } in
    let has : HasStep begun.record.steps = record { before = before; last = step_of event; are = steps } in
    let all_steps : new.record.steps ≡ before ++ whole ∷ [] = steps-begun takes.drops takes.asks (takes.own ++ due) before begun.record.steps new.record.steps event steps (steps-more takes.drops takes.asks takes.own due begun.record.steps turned.record.steps new.record.steps has takes.steps awaits.steps) in
    let holds : Holds turned.jobs (gone_with (jobs_at state.jobs event ++ jobs_asked whole turn) takes.drops) = takes.jobs whole (jobs_at state.jobs event) refl refl all in
    let back : turn ≡ turn_at state event = sym turn_is in
    record {
      step = whole;
      steps = all_steps;
      event_is = refl;
      legal = record {
        may_come = may;
        own = takes.own;
        turn = subst (λ (t : Turn). TakesTurn state whole t takes.own) back (takes.legal state whole refl refl all len);
        replies = ap (λ l. takes.own ++ due_awaits (with_replies l takes.own)) (sym lines_are);
      };
      lines = awaits.lines ∙ (ap (λ l. with_replies l due) takes.replied ∙ (sym (with_replies-append lines takes.own due) ∙ ap (λ l. with_replies l (takes.own ++ due)) (sym lines_are)));
      jobs = subst (λ (j : LiveJobs). Holds j (jobs_after state.jobs whole (turn_at state event))) (sym awaits.jobs) (subst (λ (t : Turn). Holds turned.jobs (gone_with (jobs_at state.jobs event ++ jobs_asked whole t) takes.drops)) back holds);
      time = awaits.time ∙ takes.time;
      options = ap (λ (t : Shared). t.options) kept ∙ takes.options;
      shared = kept ∙ (takes.shared whole (jobs_at state.jobs event) due all refl refl refl ∙ (ap (shared_after turn whole) seen ∙ ap (λ (t : Turn). shared_after t whole state.shared) back));
      gives = all-append (GivesOnly bytes) takes.own due takes.gives (awaits-give bytes (with_replies lines takes.own));
    }

-- The state behind the record with that step.
state_goes_on : (old : Work) (event : Event) (bytes : List ℕ) (begun new : Work) →
    (done : TurnDone (state_of (core_of old)) event bytes old.record.steps begun new) →
    map (λ s. s.line) new.lines ≡ map (λ s. s.line) old.lines →
    begun.options ≡ old.options →
    state_of (core_of new) ≡ after (state_of (core_of old)) done.step
state_goes_on old event bytes begun new done script same =
    let script0 : List Line = map (λ s. s.line) old.lines in
    ap (λ (o : Opts). state_after o (map (λ s. s.line) new.lines) new.record.steps) (done.options ∙ same)
    ∙ (ap (λ w. state_after old.options w new.record.steps) script
    ∙ (ap (state_after old.options script0) done.steps ∙ fold_push after (opening old.options script0) old.record.steps done.step))

-- The core's parts stand for the record with that step.
pub core_goes_on : (old : Work) (event : Event) (bytes : List ℕ) (begun new : Work) →
    IsCore old (core_of old) →
    TurnDone (state_of (core_of old)) event bytes old.record.steps begun new →
    map (λ s. s.line) new.lines ≡ map (λ s. s.line) old.lines →
    begun.options ≡ old.options →
    begun.time ≡ time_after (state_of (core_of old)).time event →
    IsCore new (core_of new)
core_goes_on old event bytes begun new core done script same time =
    let s0 : ClientState = state_of (core_of old) in
    let script0 : List Line = map (λ s. s.line) old.lines in
    let is : state_of (core_of new) ≡ after s0 done.step = state_goes_on old event bytes begun new done script same in
    record {
      within = subst AreWithin (sym (done.options ∙ same)) core.within;
      rising = subst (AreRising 0) (sym script) core.rising;
      so_far = subst (λ (o : Opts). IsRunSoFar o (map (λ s. s.line) new.lines) new.record.steps) (sym (done.options ∙ same)) (subst (λ w. IsRunSoFar old.options w new.record.steps) (sym script) (subst (IsRunSoFar old.options script0) (sym done.steps) (Along-push IsLegalStep after (opening old.options script0) old.record.steps done.step core.so_far done.legal)));
      time = done.time ∙ (time ∙ (ap (time_after s0.time) (sym done.event_is) ∙ ap (λ (s : ClientState). s.time) (sym is)));
      lines = done.lines ∙ (ap (λ e. with_replies (lines_at s0.lines s0.jobs e) done.step.replies) (sym done.event_is) ∙ ap (λ (s : ClientState). s.lines) (sym is));
      held = done.jobs.held ∙ ap (λ (s : ClientState). held_of s.jobs) (sym is);
      count = done.jobs.count ∙ ap (λ (s : ClientState). length s.jobs) (sym is);
      shared = done.shared ∙ ap (λ (s : ClientState). s.shared) (sym is);
    }

-- and the record has one step more
pub core_advances : (old : Work) (event : Event) (bytes : List ℕ) (begun new : Work) →
    TurnDone (state_of (core_of old)) event bytes old.record.steps begun new →
    map (λ s. s.line) new.lines ≡ map (λ s. s.line) old.lines →
    begun.options ≡ old.options →
    ((step : Step) → IsLegalStep (state_of (core_of old)) step → work_left (after (state_of (core_of old)) step) < work_left (state_of (core_of old))) →
    Advances event bytes (core_of old) (core_of new)
core_advances old event bytes begun new done script same falls =
    let s0 : ClientState = state_of (core_of old) in
    let is : state_of (core_of new) ≡ after s0 done.step = state_goes_on old event bytes begun new done script same in
    record {
      options = done.options ∙ same;
      script = script;
      step = done.step;
      steps = done.steps;
      event_is = done.event_is;
      legal = done.legal;
      gives = done.gives;
      less = subst (λ s. work_left s < work_left s0) (sym is) (falls done.step done.legal);
    }
