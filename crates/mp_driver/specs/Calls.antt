-- What a call that is made leaves.
use Rattle.std.specs.Prelude.{◌≡◌, ℕ, ◌<◌, ◌≤◌, true, [], Option, Some}
use Rattle.mp_types.specs.Count.{HasRisen}
use Rattle.bucket_model.specs.declared.call.Call.{Call}
use Rattle.bucket_model.specs.declared.answer.Brief.TheVariants.{Fault}
use Rattle.bucket_model.specs.Answers.{brief_of, fits, is_counted}
use Rattle.bucket_model.specs.History.{History}
use Rattle.store_trait.specs.Told.{BringsSlice, Tells}
use Rattle.mount_model.specs.declared.event.Event.TheVariants.{Take}
use Rattle.mount_model.specs.State.{Job, job_at}
use Rattle.mount_core.specs.Core.{CoreState, state_of, Advances}
use Rattle.mp_driver.specs.declared.held.HeldAnswer.{HeldAnswer}

-- A ready job was taken behind the store's entries, and its call was answered.
pub record Calls (job before behind faults_before faults_behind : ℕ) (is_alone : Type 0) (was now : Option History) (got : HeldAnswer) (old new : CoreState) : Type 0 where
  pub time : ℕ
  pub called : Call
  pub take : Advances (Take job time before) [] old new
  pub same : got.job ≡ job
  pub calls : (j : Job) → job_at job (state_of old).jobs ≡ Some j → called ≡ j.call
  pub kind : fits called (brief_of got.answer) ≡ true
  pub above : before ≤ got.position
  pub counted : is_counted (brief_of got.answer) ≡ true → got.position < behind
  pub grows : before ≤ behind
  pub faults_grow : faults_before ≤ faults_behind
  pub fault : brief_of got.answer ≡ Fault → HasRisen faults_before faults_behind
  pub tells : Tells is_alone called got.position (brief_of got.answer) was now
  pub slice : BringsSlice called got.answer now
