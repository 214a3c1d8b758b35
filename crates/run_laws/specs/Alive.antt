-- What holds of the mount's state after each step of a run.
use Rattle.std.specs.Prelude.{◌≡◌, ℕ, ◌≤◌, List, [], ◌∷◌, map, false, Option, Some, None}
use Rattle.std.specs.FinMap as table
use Rattle.mount_model.specs.declared.event.Owner.{Owner}
use Rattle.mount_model.specs.declared.event.Owner.TheVariants as owner
use Rattle.mount_model.specs.declared.request.Request.{Request}
use Rattle.mount_model.specs.declared.request.Request.TheVariants.{Await, Sync, Close}
use Rattle.mount_model.specs.declared.standing.Phase.{Phase}
use Rattle.mount_model.specs.declared.standing.Phase.TheVariants.{Waiting, Begun, Replied}
use Rattle.mount_model.specs.declared.standing.Standing.{Standing}
use Rattle.mount_model.specs.State.{ClientState, Job, line_at, AreNumbered}
use Rattle.mount_model.specs.Run.{AreRising, is_among, due_awaits}
use Rattle.run_laws.specs.Counts.{total, if_live, if_line}
use Rattle.run_laws.specs.Writers.{HasWriters, AreAtWork}

-- how many jobs of a line are ready or out; a writer's job is no line's

abbrev pub if_of_line : Owner → ℕ → ℕ
if_of_line (owner.Writer opened) count = 0
if_of_line other count = count

abbrev pub live_job : ℕ → Job → ℕ
live_job number job = if_live job.phase (if_of_line job.owner (if_line number job.line))

abbrev pub live_jobs : ℕ → List Job → ℕ
live_jobs number jobs = total (live_job number) jobs

-- How many it has to have: one where it has begun and waits for no other lines and no writer. A write never stands so,
-- since it has its reply when it begins.

abbrev pub jobs_at_once : Request → ℕ
jobs_at_once Await = 0
jobs_at_once (Sync name) = 0
jobs_at_once (Close name) = 0
jobs_at_once other = 1

abbrev pub if_begun : Phase → ℕ → ℕ
if_begun (Begun heard) count = count
if_begun other count = 0

abbrev pub jobs_wanted : Option Standing → ℕ
jobs_wanted None = 0
jobs_wanted (Some s) = if_begun s.phase (jobs_at_once s.line.request)

-- each actor does one thing at a time: a line waits where one of its actor above has no reply
abbrev pub AreOrderly : List ℕ → List Standing → Type 0
AreOrderly busy [] = Unit {0}
AreOrderly busy (s ∷ lines) = by_phase s.phase (AreOrderly busy lines) (AreOrderly (s.line.actor ∷ busy) lines)
  where
    by_phase : Phase → Type 0 → Type 0 → Type 0
    by_phase Waiting same more = more
    by_phase (Begun heard) same more = (is_among s.line.actor busy ≡ false) × more
    by_phase Replied same more = (is_among s.line.actor busy ≡ false) × same

pub record IsAlive (state : ClientState) : Type 0 where
  pub rising : AreRising 0 (map (λ s. s.line) state.lines)
  pub numbered : AreNumbered 1 state.jobs
  pub balanced : (number : ℕ) → live_jobs number state.jobs ≡ jobs_wanted (line_at number state.lines)
  pub no_due : due_awaits state.lines ≡ []
  pub orderly : AreOrderly [] state.lines
  pub part_low : 1 ≤ state.shared.options.part
  pub writers : HasWriters state.lines state.jobs (table.get state.shared.handles)
  pub at_work : AreAtWork state.jobs (table.get state.shared.handles)
