-- What a writer asks for in its turn, one call behind the other.
use Rattle.std.specs.Prelude.{◌≡◌, ℕ, ◌+◌, List, [], ◌∷◌, ◌++◌, fold, Bool, true, false, if◌then◌else◌, Option, Some, None}
use Rattle.upload_rules.specs.declared.upload.UpAsk.{UpAsk}
use Rattle.upload_rules.specs.declared.upload.UpAsk.TheVariants.{Abort}
use Rattle.upload_rules.specs.Upload.{Upload, due, with_ask}
use Rattle.mount_model.specs.declared.event.Ask.{Ask}
use Rattle.mount_model.specs.declared.event.Owner.TheVariants as owner
use Rattle.mount_model.specs.Step.{change_last}
use Rattle.mount_model.specs.Handles.{Writer}
use Rattle.mount_model.specs.Writers.{Asking, asking_for, ask_times, first_asks, settled}
use Rattle.mount_model.specs.State.{calls_in, gives_up}
use Rattle.mount_model.specs.Run.{numbered}
use Rattle.job_table.specs.declared.jobs.Asking.{Asking as JobAsking}
use Rattle.job_table.specs.Journal.{Journaled}
use Rattle.job_table.specs.LiveJobs.{LiveJobs, Held, purpose_of}
use Rattle.core_writes.specs.Turn.{with_turn}

-- a writer's ask with all that the job table keeps of it
abbrev pub job_for : ℕ → Asking → JobAsking
job_for line asking = record { owner = owner.Writer line; line = line; call = asking.call; asked = asking.told; purpose = purpose_of asking.call }

-- what is due, but an abort
abbrev pub call_in : Option UpAsk → Option UpAsk
call_in (Some Abort) = None
call_in other = other

-- the jobs with those that a writer asks for

abbrev pub held_for : ℕ → ℕ → Asking → Held
held_for line number asking = record { number = number; owner = owner.Writer line; line = line; call = Some asking.call; purpose = purpose_of asking.call }

abbrev pub with_job : ℕ → LiveJobs → Asking → LiveJobs
with_job line jobs asking = record { count = jobs.count + 1; held = jobs.held ++ held_for line (jobs.count + 1) asking ∷ [] }

abbrev pub with_jobs : ℕ → List Asking → LiveJobs → LiveJobs
with_jobs line askings jobs = fold (with_job line) jobs askings

-- and how the step tells them
abbrev pub told_behind : LiveJobs → ℕ → List Asking → List Ask
told_behind jobs line askings = numbered (jobs.count + 1) (owner.Writer line) askings

-- the writer has these jobs more, and the last step their asks
pub record HasJobs (line : ℕ) (askings : List Asking) (old new : LiveJobs) (before after : Journaled) : Type 0 where
  pub jobs : new ≡ with_jobs line askings old
  pub steps : after.steps ≡ change_last (with_turn [] (told_behind old line askings)) before.steps

-- it has asked for so many calls, and no abort
pub record HasAsked (count : ℕ) (writer : Writer) (now : Upload) (old new : LiveJobs) (before after : Journaled) : Type 0 where
  pub upload : now ≡ ask_times count writer.upload
  pub has : HasJobs writer.line (first_asks count writer.key writer.upload) old new before after
  pub calls : calls_in (told_behind old writer.line (first_asks count writer.key writer.upload)) ≡ count
  pub no_abort : gives_up (told_behind old writer.line (first_asks count writer.key writer.upload)) ≡ false

-- for all that is due, or it has failed for want of memory
pub record AsksAll (writer : Writer) (now : Upload) (old new : LiveJobs) (before after : Journaled) : Type 0 where
  pub count : ℕ
  pub behind : Upload
  pub asked : HasAsked count writer behind old new before after
  pub left : now ≡ settled behind

-- the abort, where it is asked for
abbrev pub abort_if : Bool → Writer → List Asking
abort_if given writer = if given then asking_for writer.key writer.upload Abort ∷ [] else []

-- it is asked for only where it is due
pub record GivesUp (writer : Writer) (now : Upload) (old new : LiveJobs) (before after : Journaled) : Type 0 where
  pub given : Bool
  pub is_due : given ≡ true → due writer.upload ≡ Some Abort
  pub has : HasJobs writer.line (abort_if given writer) old new before after
  pub left : now ≡ (if given then with_ask Abort writer.upload else writer.upload)
