-- What holds between two turns of the driver.
use Rattle.std.proofs.Common.{◌≡◌, ◌≢◌, ℕ, ◌<◌, ◌≤◌, true, false, List, ◌++◌, length, Option, Some, None, ◌⊎◌}
use Rattle.mp_types.specs.declared.options.Opts.{Opts}
use Rattle.mp_types.specs.Options.{AreWithin}
use Rattle.std.specs.List.{slice_get, AllByRecursion}
use Rattle.bucket_model.specs.declared.call.Call.{Call}
use Rattle.bucket_model.specs.declared.answer.Brief.{Brief}
use Rattle.bucket_model.specs.declared.history.Logged.{Logged}
use Rattle.bucket_model.specs.Along.{Along}
use Rattle.bucket_model.specs.Answers.{brief_of, fits, is_counted}
use Rattle.bucket_model.specs.History.{HasEntry, History, IsChange}
use Rattle.store_trait.specs.Told.{BringsSlice, KeepsVersions}
use Rattle.mount_model.specs.declared.request.Line.{Line}
use Rattle.mount_model.specs.Step.{Step}
use Rattle.mount_model.specs.State.{ClientState, Job, JobPhase, Ready, Out, Gone, opening, after, job_at}
use Rattle.mount_model.specs.Run.{AreRising, IsRunSoFar, is_among}
use Rattle.mount_model.specs.Tied.{TiesEvent}
use Rattle.mount_core.specs.Core.{CoreState, state_of}
use Rattle.mp_driver.specs.declared.held.HeldAnswer.{HeldAnswer}
use Rattle.mount_model.specs.Reads.{ReadsOver}
use Rattle.mp_driver.specs.Held.{answer_for}

-- a history with more entries, and with no version lost
pub record IsMore (was now : History) : Type 0 where
  pub entries : List Logged
  pub log : now.log ≡ was.log ++ entries
  pub versions : KeepsVersions was.versions now.versions

abbrev pub Grows : Option History → Option History → Type 0
Grows None None = Unit {0}
Grows (Some was) (Some now) = IsMore was now
Grows None (Some now) = ⊥
Grows (Some was) None = ⊥

-- an entry, as far as the store tells it
abbrev pub HasToldEntry : Option History → ℕ → Call → Brief → Type 0
HasToldEntry None position called answer = Unit {0}
HasToldEntry (Some told) position called answer = HasEntry told.log position called answer

-- The answer is that of a job that is out: it fits the call, its entry stands behind what the call was made behind,
-- and its bytes are those of a version.
pub record IsOwed (told : Option History) (jobs : List Job) (got : HeldAnswer) : Type 0 where
  pub job : Job
  pub stands : job_at got.job jobs ≡ Some job
  pub from : ℕ
  pub is_out : job.phase ≡ Out from
  pub kind : fits job.call (brief_of got.answer) ≡ true
  pub behind : from ≤ got.position
  pub slice : BringsSlice job.call got.answer told
  pub entry : is_counted (brief_of got.answer) ≡ true → HasToldEntry told got.position job.call (brief_of got.answer)

-- a job that is out has its answer held
abbrev pub KnowsPhase : List HeldAnswer → ℕ → JobPhase → Type 0
KnowsPhase held number Ready = Unit {0}
KnowsPhase held number (Out from) = (got : HeldAnswer) × (answer_for number held ≡ Some got)
KnowsPhase held number Gone = Unit {0}

abbrev pub IsKnown : List HeldAnswer → Job → Type 0
IsKnown held job = KnowsPhase held job.number job.phase

-- a held answer has its entry here
pub record IsHeldAt (held : List HeldAnswer) (position : ℕ) : Type 0 where
  pub got : HeldAnswer
  pub stands : answer_for got.job held ≡ Some got
  pub counted : is_counted (brief_of got.answer) ≡ true
  pub at : got.position ≡ position

-- an answer, handed in or held, has its entry here
abbrev pub IsPlaced : List HeldAnswer → List ℕ → ℕ → Type 0
IsPlaced held positions position = (is_among position positions ≡ true) ⊎ IsHeldAt held position

-- The record is tied to the history, save that the entries of held answers are not in the record yet.
pub record IsTiedSoFar (options : Opts) (script : List Line) (start : ℕ) (is_alone : Type 0) (log : List Logged) (held : List HeldAnswer) (steps : List Step) (positions : List ℕ) : Type 0 where
  pub each : Along (λ state (step : Step). TiesEvent start log state step.event) after (opening options script) steps
  pub others : (position : ℕ) (logged : Logged) → start ≤ position → slice_get log position ≡ Some logged → (IsChange logged.entry.call → ⊥) → IsPlaced held positions position
  pub alone : is_alone → (position : ℕ) → start ≤ position → position < length log → IsPlaced held positions position

abbrev pub IsTiedToSoFar : Option History → Opts → List Line → ℕ → Type 0 → List HeldAnswer → List Step → List ℕ → Type 0
IsTiedToSoFar None options script start is_alone held steps positions = Unit {0}
IsTiedToSoFar (Some told) options script start is_alone held steps positions = IsTiedSoFar options script start is_alone told.log held steps positions

-- options and line numbers as a core has them
abbrev pub AreServed : Opts → List Line → Type 0
AreServed options script = AreWithin options × AreRising 0 script

-- Each job that is out has its answer held, each answer has its own place before the store's position, and the
-- record is tied and reads so far.
pub record IsBetween (told : Option History) (position start : ℕ) (is_alone : Type 0) (held : List HeldAnswer) (options : Opts) (script : List Line) (steps : List Step) (state : ClientState) : Type 0 where
  pub so_far : IsRunSoFar options script steps
  pub grown : start ≤ position
  pub known : AllByRecursion (IsKnown held) state.jobs
  pub owed : AreServed options script → (job : ℕ) (got : HeldAnswer) → answer_for job held ≡ Some got → IsOwed told state.jobs got
  pub behind : AllByRecursion (λ p. p < position) state.positions
  pub below : (job : ℕ) (got : HeldAnswer) → answer_for job held ≡ Some got → is_counted (brief_of got.answer) ≡ true → got.position < position
  pub fresh : (job : ℕ) (got : HeldAnswer) → answer_for job held ≡ Some got → is_counted (brief_of got.answer) ≡ true → is_among got.position state.positions ≡ false
  pub apart : (i j : ℕ) (one other : HeldAnswer) → answer_for i held ≡ Some one → answer_for j held ≡ Some other → i ≢ j → is_counted (brief_of one.answer) ≡ true → is_counted (brief_of other.answer) ≡ true → one.position ≢ other.position
  pub tied : IsTiedToSoFar told options script start is_alone held steps state.positions
  pub reads : AreServed options script → ReadsOver told options script steps

-- the same of a core
abbrev pub IsAtTurn : Option History → ℕ → ℕ → Type 0 → List HeldAnswer → CoreState → Type 0
IsAtTurn told position start is_alone held core = IsBetween told position start is_alone held core.options core.script core.steps (state_of core)
