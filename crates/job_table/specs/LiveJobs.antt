-- The jobs that are ready or out.
use Rattle.std.specs.Prelude.{◌≡◌, ℕ, List, [], ◌∷◌, Bool, false, ◌&&◌, not, map, find, filter, flat_map, ◌==◌, if◌then◌else◌, Option, Some, None, is_some}
use Rattle.mp_rules.specs.declared.facts.Question.TheVariants as question
use Rattle.bucket_model.specs.declared.call.Call.{Call}
use Rattle.bucket_model.specs.declared.call.Call.TheVariants as call
use Rattle.mount_model.specs.declared.event.Owner.{Owner}
use Rattle.mount_model.specs.declared.event.Owner.TheVariants as owner
use Rattle.mount_model.specs.State.{Job, JobPhase, Ready, Out, Gone}
use Rattle.job_table.specs.declared.purpose.Purpose.{Purpose}
use Rattle.job_table.specs.declared.purpose.Purpose.TheVariants as purpose

-- what a call is for
abbrev pub purpose_of : Call → Purpose
purpose_of (call.Head key) = purpose.Question (question.Head key)
purpose_of (call.Probe key) = purpose.Question (question.Probe key)
purpose_of (call.Create key) = purpose.Create
purpose_of (call.Part upload number bytes) = purpose.Part
purpose_of (call.Complete upload parts) = purpose.Complete
purpose_of (call.Abort upload) = purpose.Abort
purpose_of other = purpose.Other

-- a job that is ready or out: whose it is, the line whose turn asked for it, or which opened its writer, and what its
-- call is for; the call stands here while the job is ready
pub record Held : Type 0 where
  pub number : ℕ
  pub owner : Owner
  pub line : ℕ
  pub call : Option Call
  pub purpose : Purpose

-- how many jobs were asked in all, and those that are ready or out, by rising number
pub record LiveJobs : Type 0 where
  pub count : ℕ
  pub held : List Held

abbrev pub held_at : ℕ → List Held → Option Held
held_at number held = find (λ h. h.number == number) held

-- the job's call has moved out
abbrev pub taken : Held → Held
taken h = record h { call = None }

abbrev pub with_taken : ℕ → List Held → List Held
with_taken number held = map (λ h. if h.number == number then taken h else h) held

abbrev pub without : ℕ → List Held → List Held
without number held = filter (λ h. not (h.number == number)) held

-- the numbers of the jobs that pass a test, in order
abbrev pub numbers_by : (Held → Bool) → List Held → List ℕ
numbers_by passes held = map (λ (h : Held). h.number) (filter passes held)

-- whether the job's call stands here
abbrev pub is_ready : Held → Bool
is_ready h = is_some h.call

abbrev pub ready_numbers : List Held → List ℕ
ready_numbers held = numbers_by is_ready held

-- whether a job is of the writer that this line opened
abbrev pub is_of_writer : ℕ → Owner → Bool
is_of_writer line (owner.Writer opened) = opened == line
is_of_writer line other = false

abbrev pub is_ready_of_writer : ℕ → Held → Bool
is_ready_of_writer line h = is_ready h && is_of_writer line h.owner

abbrev pub ready_of_writer : ℕ → List Held → List ℕ
ready_of_writer line held = numbers_by (is_ready_of_writer line) held

-- the job of this number may be taken
pub record IsReadyIn (number : ℕ) (held : List Held) : Type 0 where
  pub job : Held
  pub stands : held_at number held ≡ Some job
  pub called : Call
  pub waits : job.call ≡ Some called

-- the job of this number was taken, and its answer may come
pub record IsOutIn (number : ℕ) (held : List Held) : Type 0 where
  pub job : Held
  pub stands : held_at number held ≡ Some job
  pub is_out : job.call ≡ None

-- a job of a run as it stands here, with its call or without
abbrev pub held_as : Option Call → Job → Held
held_as called job = record { number = job.number; owner = job.owner; line = job.line; call = called; purpose = purpose_of job.call }

-- what stands of a job in this phase
abbrev pub held_when : JobPhase → Job → List Held
held_when Ready job = held_as (Some job.call) job ∷ []
held_when (Out from) job = held_as None job ∷ []
held_when Gone job = []

-- what stands of all jobs of a run
abbrev pub held_of : List Job → List Held
held_of jobs = flat_map (λ (job : Job). held_when job.phase job) jobs
