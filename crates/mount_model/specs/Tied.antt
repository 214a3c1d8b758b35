-- How a record is tied to the bucket's history, call by call.
use Rattle.std.specs.Prelude.{◌≡◌, ℕ, ◌<◌, ◌≤◌, List, length, slice_get, true, Option, Some, None}
use Rattle.mp_types.specs.declared.options.Opts.{Opts}
use Rattle.bucket_model.specs.declared.call.Call.{Call}
use Rattle.bucket_model.specs.declared.history.Logged.{Logged}
use Rattle.bucket_model.specs.Along.{Along}
use Rattle.bucket_model.specs.declared.answer.Brief.TheVariants.{Upload}
use Rattle.bucket_model.specs.Answers.{is_counted, upload_in}
use Rattle.bucket_model.specs.History.{HasEntry, History, IsChange}
use Rattle.mount_model.specs.declared.request.Line.{Line}
use Rattle.mount_model.specs.declared.event.Event.{Event}
use Rattle.mount_model.specs.declared.event.Event.TheVariants.{Begin, Take, Done}
use Rattle.mount_model.specs.Step.{Step}
use Rattle.mount_model.specs.State.{ClientState, Job, opening, after, state_after, job_at}
use Rattle.mount_model.specs.Run.{is_among}

-- each answer but want of memory stands in the history, at its position, as the answer to the job's whole call
abbrev pub TiesEvent : ℕ → List Logged → ClientState → Event → Type 0
TiesEvent start log state (Begin line time) = Unit {0}
TiesEvent start log state (Take job time from) = start ≤ from
TiesEvent start log state (Done number position answer) = is_counted answer ≡ true → (job : Job) → job_at number state.jobs ≡ Some job → HasEntry log position job.call answer

-- the record's calls are those of the history from its opening length on
abbrev pub TiesTo : Opts → List Line → ℕ → List Logged → List Step → Type 0
TiesTo options script start log steps = Along (λ state (step : Step). TiesEvent start log state step.event) after (opening options script) steps

-- beside these positions stand changes by others alone, and none at all where the store is alone
pub record IsAmongChanges (start : ℕ) (is_alone : Type 0) (log : List Logged) (positions : List ℕ) : Type 0 where
  pub others : (position : ℕ) (logged : Logged) → start ≤ position → slice_get log position ≡ Some logged → (IsChange logged.entry.call → ⊥) → is_among position positions ≡ true
  pub alone : is_alone → (position : ℕ) → start ≤ position → position < length log → is_among position positions ≡ true

-- The record of one who alone makes calls other than changes: they are those of the history, and all others are changes.
pub record IsTied (options : Opts) (script : List Line) (start : ℕ) (is_alone : Type 0) (log : List Logged) (steps : List Step) : Type 0 where
  pub calls : TiesTo options script start log steps
  pub changes : IsAmongChanges start is_alone log (state_after options script steps).positions

-- the record is tied to the history, as far as the store tells it
abbrev pub IsTiedTo : Option History → Opts → List Line → ℕ → Type 0 → List Step → Type 0
IsTiedTo None options script start is_alone steps = Unit {0}
IsTiedTo (Some told) options script start is_alone steps = IsTied options script start is_alone told.log steps

-- the answer at one of these positions gave the upload its id
pub record WasGiven (log : List Logged) (positions : List ℕ) (upload : ℕ) : Type 0 where
  pub position : ℕ
  pub own : is_among position positions ≡ true
  pub logged : Logged
  pub stands : slice_get log position ≡ Some logged
  pub gives : logged.entry.answer ≡ Upload upload

-- who was given an upload has it alone: no call of others names it
abbrev pub HasItsUploads : ℕ → List Logged → List ℕ → Type 0
HasItsUploads start log positions = (position : ℕ) (logged : Logged) (upload : ℕ) → start ≤ position → slice_get log position ≡ Some logged → upload_in logged.entry.call ≡ Some upload → WasGiven log positions upload → is_among position positions ≡ true
