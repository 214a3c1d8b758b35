-- A core between two turns.
use Rattle.std.proofs.Common.{◌≡◌, ℕ, true, List, [], ◌∷◌, ◌++◌, length, Option, Some, None, refl, sym, ap, ◌∙◌, subst, subst₂, arith}
use Rattle.mp_types.specs.declared.options.Opts.{Opts}
use Rattle.std.proofs.lemmas.List.Sums.{fold_push}
use Rattle.bucket_model.specs.Answers.{brief_of, bytes_in}
use Rattle.bucket_model.specs.History.{History, IsLegalHistory}
use Rattle.mount_model.specs.declared.event.Event.{Event}
use Rattle.mount_model.specs.declared.event.Event.TheVariants.{Begin, Take, Done}
use Rattle.mount_model.specs.declared.request.Line.{Line}
use Rattle.mount_model.specs.Step.{Step}
use Rattle.mount_model.specs.State.{ClientState, Job, Ready, Out, opening, after, state_after, job_at}
use Rattle.mount_model.specs.Run.{IsLegalStep, MayDone, is_among, ready, startable}
use Rattle.run_laws.proofs.Alive.{alive}
use Rattle.run_laws.proofs.Jobs.{Rises-jobs, ready-found}
use Rattle.run_laws.proofs.Quiet.{no_reply_lost}
use Rattle.mount_core.specs.Core.{CoreState, state_of, Advances}
use Rattle.mp_driver.specs.declared.held.HeldAnswer.{HeldAnswer}
use Rattle.mp_driver.specs.Calls.{Calls}
use Rattle.mount_model.specs.Tied.{IsTiedTo}
use Rattle.mp_driver.specs.Drive.{HasRisenBy, IsDriven, faults_in}
use Rattle.mp_driver.specs.Held.{answer_for, IsWith}
use Rattle.mp_driver.proofs.ByJob.{answer_for-job}
use Rattle.mp_driver.proofs.Between.{AreServed, IsBetween, IsAtTurn, IsOwed}
use Rattle.mp_driver.proofs.Jobs.{all_gone}
use Rattle.mp_driver.proofs.Ties.{tied-start, tied-end}
use Rattle.mp_driver.proofs.Turns.{reads-none, begun-at, taken-owed, taken-at, done-at}
use Rattle.mp_driver.proofs.Written.{written-over}

-- what an event leaves, by its step's parts

abbrev stepped : Event → Step → Step
stepped event step = record { event = event; drops = step.drops; asks = step.asks; replies = step.replies }

legal-at : (event : Event) (bytes : List ℕ) (old new : CoreState) (adv : Advances event bytes old new) → IsLegalStep (state_of old) (stepped event adv.step)
legal-at event bytes old new adv = subst (λ (e : Event). IsLegalStep (state_of old) (stepped e adv.step)) adv.event_is adv.legal

moved : (P : Opts → List Line → List Step → ClientState → Type 0) (event : Event) (bytes : List ℕ) (old new : CoreState) (adv : Advances event bytes old new) → P old.options old.script (old.steps ++ stepped event adv.step ∷ []) (after (state_of old) (stepped event adv.step)) → P new.options new.script new.steps (state_of new)
moved P event bytes old new adv holds =
    let own : P old.options old.script (old.steps ++ adv.step ∷ []) (after (state_of old) adv.step) = subst (λ (e : Event). P old.options old.script (old.steps ++ stepped e adv.step ∷ []) (after (state_of old) (stepped e adv.step))) (sym adv.event_is) holds in
    let whole : P old.options old.script (old.steps ++ adv.step ∷ []) (state_after old.options old.script (old.steps ++ adv.step ∷ [])) = subst (P old.options old.script (old.steps ++ adv.step ∷ [])) (sym (fold_push after (opening old.options old.script) old.steps adv.step)) own in
    let steps : P old.options old.script new.steps (state_after old.options old.script new.steps) = subst (λ (s : List Step). P old.options old.script s (state_after old.options old.script s)) (sym adv.steps) whole in
    subst₂ (λ (o : Opts) (w : List Line). P o w new.steps (state_after o w new.steps)) (sym adv.options) (sym adv.script) steps

pub at-begun : (told : Option History) (position start : ℕ) (is_alone : Type 0) (held : List HeldAnswer) (line time : ℕ) (old new : CoreState) → Advances (Begin line time) [] old new → IsAtTurn told position start is_alone held old → IsAtTurn told position start is_alone held new
at-begun told position start is_alone held line time old new adv between =
    moved (IsBetween told position start is_alone held) (Begin line time) [] old new adv (begun-at told position start is_alone held old.options old.script old.steps line time adv.step.drops adv.step.asks adv.step.replies (legal-at (Begin line time) [] old new adv) adv.gives between)

pub at-called : (was now : Option History) (job before behind start faults_before faults_behind : ℕ) (is_alone alone_then : Type 0) (got : HeldAnswer) (less more : List HeldAnswer) (old new : CoreState) → Calls job before behind faults_before faults_behind alone_then was now got old new → (is_alone → alone_then) → IsWith got less more → IsAtTurn was before start is_alone less old → IsAtTurn now behind start is_alone more new
at-called was now job before behind start faults_before faults_behind is_alone alone_then got less more old new called alone with between =
    let adv : Advances (Take got.job called.time before) [] old new = subst (λ (n : ℕ). Advances (Take n called.time before) [] old new) (sym called.same) called.take in
    moved (IsBetween now behind start is_alone more) (Take got.job called.time before) [] old new adv (taken-at was now before behind start is_alone alone_then called.called got less more old.options old.script old.steps called.time adv.step.drops adv.step.asks adv.step.replies (legal-at (Take got.job called.time before) [] old new adv) (subst (λ (n : ℕ). (j : Job) → job_at n (state_of old).jobs ≡ Some j → called.called ≡ j.call) (sym called.same) called.calls) called.kind called.above called.counted called.grows alone called.tells called.slice with between)

-- the answer to a call that was just made is owed
pub called-owed : (was now : Option History) (job before behind faults_before faults_behind : ℕ) (alone_then : Type 0) (got : HeldAnswer) (old new : CoreState) → Calls job before behind faults_before faults_behind alone_then was now got old new → IsOwed now (state_of new).jobs got
called-owed was now job before behind faults_before faults_behind alone_then got old new called =
    let adv : Advances (Take got.job called.time before) [] old new = subst (λ (n : ℕ). Advances (Take n called.time before) [] old new) (sym called.same) called.take in
    moved (λ options script steps state. IsOwed now state.jobs got) (Take got.job called.time before) [] old new adv (taken-owed was now before behind alone_then called.called got (state_of old) called.time adv.step.drops adv.step.asks adv.step.replies (legal-at (Take got.job called.time before) [] old new adv) (subst (λ (n : ℕ). (j : Job) → job_at n (state_of old).jobs ≡ Some j → called.called ≡ j.call) (sym called.same) called.calls) called.kind called.above called.tells called.slice)

pub at-done : (told : Option History) (position start : ℕ) (is_alone : Type 0) (got : HeldAnswer) (less more : List HeldAnswer) (old new : CoreState) → Advances (Done got.job got.position (brief_of got.answer)) (bytes_in got.answer) old new → IsOwed told (state_of old).jobs got → IsWith got less more → IsAtTurn told position start is_alone more old → IsAtTurn told position start is_alone less new
at-done told position start is_alone got less more old new adv owed with between =
    moved (IsBetween told position start is_alone less) (Done got.job got.position (brief_of got.answer)) (bytes_in got.answer) old new adv (done-at told position start is_alone got less more old.options old.script old.steps adv.step.drops adv.step.asks adv.step.replies (legal-at (Done got.job got.position (brief_of got.answer)) (bytes_in got.answer) old new adv) adv.gives owed with between)

-- a held answer may be handed in
pub may_done : (told : Option History) (position start : ℕ) (is_alone : Type 0) (held : List HeldAnswer) (got : HeldAnswer) (core : CoreState) → answer_for got.job held ≡ Some got → IsOwed told (state_of core).jobs got → IsAtTurn told position start is_alone held core → MayDone (state_of core) got.job got.position (brief_of got.answer)
may_done told position start is_alone held got core own owed between =
    record {
      job = owed.job;
      stands = owed.stands;
      from = owed.from;
      is_out = owed.is_out;
      kind = owed.kind;
      behind = λ counted. owed.behind;
      is_new = between.fresh got.job got own;
    }

-- a job that is ready has no answer yet
pub not_held : (told : Option History) (position start : ℕ) (is_alone : Type 0) (held : List HeldAnswer) (job : ℕ) (core : CoreState) → AreServed core.options core.script → is_among job (ready (state_of core).jobs) ≡ true → IsAtTurn told position start is_alone held core → answer_for job held ≡ None
not_held told position start is_alone held job core served is_ready between = by_answer (answer_for job held) refl
  where
    by_answer : (o : Option HeldAnswer) → answer_for job held ≡ o → answer_for job held ≡ None
    by_answer None is = is
    by_answer (Some got) is =
        let owed = between.owed served job got is in
        let found = ready-found 0 job (state_of core).jobs (Rises-jobs 0 (state_of core).jobs (alive core.options core.script core.steps served.0 served.1 between.so_far).numbered) is_ready in
        let number : got.job ≡ job = answer_for-job job held got is in
        let stands : job_at job (state_of core).jobs ≡ Some owed.job = ap (λ (n : ℕ). job_at n (state_of core).jobs) (sym number) ∙ owed.stands in
        let both : Some found.job ≡ Some owed.job = sym found.stands ∙ stands in
        let same : found.job ≡ owed.job = cc in
        let phases : Ready ≡ Out owed.from = sym found.phase ∙ (ap (λ (j : Job). j.phase) same ∙ owed.is_out) in
        absurd (cc)

-- nothing has happened

start-at : (told : Option History) (start : ℕ) (is_alone : Type 0) (options : Opts) (script : List Line) → ((history : History) → told ≡ Some history → start ≡ length history.log) → IsBetween told start start is_alone [] options script [] (opening options script)
start-at told start is_alone options script is = record {
  so_far = tt;
  grown = omega arith;
  known = tt;
  owed = λ served job got none. absurd (cc);
  behind = tt;
  below = λ job got none. absurd (cc);
  fresh = λ job got none. absurd (cc);
  apart = λ i j one other none. absurd (cc);
  tied = tied-start told options script start is_alone is;
  reads = λ served. reads-none told options script;
}

pub at-start : (told : Option History) (start : ℕ) (is_alone : Type 0) (core : CoreState) → core.steps ≡ [] → ((history : History) → told ≡ Some history → start ≡ length history.log) → IsAtTurn told start start is_alone [] core
at-start told start is_alone core new is = subst (λ (s : List Step). IsBetween told start start is_alone [] core.options core.script s (state_after core.options core.script s)) (sym new) (start-at told start is_alone core.options core.script is)

-- where nothing may come, the run is whole
pub at-end : (told : Option History) (position start : ℕ) (is_alone is_honest : Type 0) (before now : ℕ) (options : Opts) (script : List Line) (core : CoreState) → core.options ≡ options → core.script ≡ script → AreServed core.options core.script → (is_honest → (history : History) → told ≡ Some history → IsLegalHistory history.log) → ready (state_of core).jobs ≡ [] → startable (state_of core).lines ≡ [] → HasRisenBy (faults_in core.steps) before now → IsAtTurn told position start is_alone [] core → IsDriven told start is_alone is_honest before now options script core
at-end told position start is_alone is_honest before now options script core options_is script_is served legal none_ready none_startable faults between = subst₂ (λ (o : Opts) (w : List Line). IsDriven told start is_alone is_honest before now o w core) options_is script_is (record {
  same_options = refl;
  same_script = refl;
  run = record {
    so_far = between.so_far;
    quiet = no_reply_lost core.options core.script core.steps served.0 served.1 between.so_far none_startable (all_gone (state_of core).jobs between.known none_ready);
  };
  tied = tied;
  reads = between.reads served;
  written = λ honest. written-over told core.options core.script start is_alone core.steps served.0 served.1 between.so_far tied (legal honest);
  faults = faults;
})
  where
    tied : IsTiedTo told core.options core.script start is_alone core.steps
    tied = tied-end told core.options core.script start is_alone core.steps between.tied
