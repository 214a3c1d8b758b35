-- The turn of a writer, by what it adds to the last step.
use Rattle.std.specs.Prelude.{◌≡◌, ℕ, ◌+◌, List, [], ◌++◌, length, fold, true, if◌then◌else◌, Option, Some, option_to_list}
use Rattle.upload_rules.specs.declared.upload.UpAsk.TheVariants.{Abort}
use Rattle.upload_rules.specs.Upload.{Upload, due}
use Rattle.mount_model.specs.declared.event.Ask.{Ask}
use Rattle.mount_model.specs.declared.event.Answered.{Answered}
use Rattle.mount_model.specs.declared.event.Owner.TheVariants as owner
use Rattle.mount_model.specs.Step.{Step, change_last}
use Rattle.mount_model.specs.Handles.{Writer}
use Rattle.mount_model.specs.Writers.{answer_to, has_failed}
use Rattle.mount_model.specs.State.{Job, Gone, change_job, ready_for, calls_in, gives_up, behind_asks, behind_drops, behind_step, askings_of, jobs_of_writer, AreNumbered}
use Rattle.mount_model.specs.Run.{numbered, jobs_called}
use Rattle.job_table.specs.LiveJobs.{LiveJobs, held_of}

-- so many drops and asks behind those of a step
abbrev pub with_turn : List ℕ → List Ask → Step → Step
with_turn drops asks step = record step { drops = step.drops ++ drops; asks = step.asks ++ asks }

-- what the turn of a writer asks, drops and answers among all jobs so far, and what it leaves
pub record IsTurn (writer : Writer) (all : List Job) (step : Step) (upload : Upload) (jobs : LiveJobs) (own : List Answered) : Type 0 where
  pub asks : step.asks ≡ numbered (length all + 1) (owner.Writer writer.line) (askings_of step writer)
  pub drops : step.drops ≡ (if has_failed (behind_asks (calls_in step.asks) writer.upload) then ready_for writer.line (all ++ jobs_called step writer) else [])
  pub gives_up : gives_up step.asks ≡ true → due (behind_drops (calls_in step.asks) (length step.drops) writer.upload) ≡ Some Abort
  pub left : upload ≡ behind_step step writer.upload
  pub answers : own ≡ answer_to writer.waiter upload
  pub count : jobs.count ≡ length all + length step.asks
  pub held : jobs.held ≡ held_of (fold (λ all job. change_job job Gone all) (all ++ jobs_of_writer step writer) step.drops)

-- the turn of a writer as the parts of the mount see it: the last step gets the drops and asks
pub record Turns (writer : Writer) (old new : LiveJobs) (before after : List Step) (upload : Upload) (said : Option Answered) : Type 0 where
  pub asks : List Ask
  pub drops : List ℕ
  pub steps : after ≡ change_last (with_turn drops asks) before
  pub told : option_to_list said ≡ answer_to writer.waiter upload
  pub is : (step : Step) (all : List Job) → step.asks ≡ asks → step.drops ≡ drops → AreNumbered 1 all → old.held ≡ held_of all → old.count ≡ length all → IsTurn writer all step upload new (option_to_list said)
