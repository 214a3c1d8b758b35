-- What is promised of a driven run, and how many faults it has.
use Rattle.std.specs.Prelude.{◌≡◌, ℕ, ◌+◌, ◌-◌, ◌^◌, ◌≤◌, Bool, true, false, ◌⊎◌, List, Option, Some, None}
use Rattle.mp_types.specs.declared.options.Opts.{Opts}
use Rattle.std.specs.List.{count_by}
use Rattle.bucket_model.specs.declared.answer.Brief.{Brief}
use Rattle.bucket_model.specs.declared.answer.Brief.TheVariants.{Fault}
use Rattle.bucket_model.specs.History.{History}
use Rattle.mount_model.specs.declared.event.Event.{Event}
use Rattle.mount_model.specs.declared.event.Event.TheVariants.{Done}
use Rattle.mount_model.specs.declared.request.Line.{Line}
use Rattle.mount_model.specs.Step.{Step}
use Rattle.mount_model.specs.Reads.{ReadsOver}
use Rattle.mount_model.specs.Run.{IsRun}
use Rattle.mount_model.specs.Tied.{IsTiedTo}
use Rattle.mount_model.specs.Written.{WrittenOver}
use Rattle.mount_core.specs.Core.{CoreState}

-- whether the answer is a fault
abbrev pub is_fault : Brief → Bool
is_fault Fault = true
is_fault other = false

-- whether the event is the end of a job with a fault
abbrev pub has_failed : Event → Bool
has_failed (Done job position answer) = is_fault answer
has_failed other = false

-- how many jobs ended with a fault in these steps
abbrev pub faults_in : List Step → ℕ
faults_in steps = count_by (λ step. has_failed step.event) steps

-- the count is greater than before by at least so many, or stands at its last value
abbrev pub HasRisenBy : ℕ → ℕ → ℕ → Type 0
HasRisenBy many before now = (many + before ≤ now) ⊎ (2 ^ 64 - 1 ≤ now)

-- the record has no more faults than were counted
abbrev pub HasFewFaults : ℕ → ℕ → List Step → Type 0
HasFewFaults before now steps = HasRisenBy (faults_in steps) before now

-- what is promised of a run that was driven to its end
pub record IsDriven (told : Option History) (start : ℕ) (is_alone is_honest : Type 0) (before now : ℕ) (options : Opts) (script : List Line) (done : CoreState) : Type 0 where
  pub same_options : done.options ≡ options
  pub same_script : done.script ≡ script
  pub run : IsRun options script done.steps
  pub tied : IsTiedTo told options script start is_alone done.steps
  pub reads : ReadsOver told options script done.steps
  pub written : is_honest → WrittenOver told options script done.steps
  pub faults : HasFewFaults before now done.steps
