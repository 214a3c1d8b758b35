-- How many items the record still gets for the jobs that are ready or out.
use Rattle.std.specs.Prelude.{◌≡◌, ℕ, ◌+◌, ◌≤◌, List, Option, Some, None}
use Rattle.bucket_model.specs.declared.call.Call.{Call}
use Rattle.mount_model.specs.Step.{HasStep}
use Rattle.run_laws.specs.Counts.{total}
use Rattle.job_table.specs.LiveJobs.{Held, LiveJobs}
use Rattle.job_table.specs.Journal.{Journaled}

-- a job's take and its end
abbrev pub owes_call : Option Call → ℕ
owes_call (Some call) = 2
owes_call None = 1

abbrev pub owes_jobs : List Held → ℕ
owes_jobs held = total (λ h. owes_call h.call) held

-- the journal has a step and room for all that is owed then, and what is owed goes with the jobs
pub record IsPaid (old new : LiveJobs) (before after : Journaled) (owed owes : ℕ) : Type 0 where
  pub known : after.known ≡ before.known
  pub step : HasStep after.steps
  pub room : owes ≤ after.room
  pub jobs : owes_jobs new.held + owed ≤ owes_jobs old.held + owes
