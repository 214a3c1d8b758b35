-- Lines and the jobs that they wait for.
use Rattle.std.specs.Prelude.{◌≡◌, ◌≢◌, ℕ, false, Some}
use Rattle.mount_model.specs.declared.event.Owner.{Owner}
use Rattle.mount_model.specs.declared.event.Owner.TheVariants as owner
use Rattle.mount_model.specs.declared.request.Request.TheVariants.{Await}
use Rattle.mount_model.specs.declared.standing.Heard.{Heard}
use Rattle.mount_model.specs.declared.standing.Phase.TheVariants.{Begun}
use Rattle.mount_model.specs.declared.standing.Standing.{Standing}
use Rattle.mount_model.specs.State.{ClientState, Job, Gone, line_at, job_at}
use Rattle.run_laws.specs.Writers.{awaits_writer}

-- the job is a line's own, and no writer's
abbrev pub IsOfLine : Owner → Type 0
IsOfLine (owner.Writer opened) = ⊥
IsOfLine other = Unit {0}

-- the job's line has begun, and waits neither for other lines nor for a writer
pub record IsOwned (state : ClientState) (job : Job) : Type 0 where
  pub standing : Standing
  pub stands : line_at job.line state.lines ≡ Some standing
  pub heard : Heard
  pub begun : standing.phase ≡ Begun heard
  pub no_await : standing.line.request ≢ Await
  pub no_writer : awaits_writer standing.line.request ≡ false

-- the line has a job of its own that is ready or out
pub record HasJob (state : ClientState) (line : ℕ) : Type 0 where
  pub number : ℕ
  pub job : Job
  pub stands : job_at number state.jobs ≡ Some job
  pub of_line : IsOfLine job.owner
  pub owned : job.line ≡ line
  pub live : job.phase ≢ Gone
