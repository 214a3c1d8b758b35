-- How many jobs a line asks for.
use Rattle.std.specs.Prelude.{ℕ, ◌-◌, List, Option, Some, None}
use Rattle.mount_model.specs.declared.request.Request.{Request}
use Rattle.mount_model.specs.declared.standing.Phase.{Phase}
use Rattle.mount_model.specs.declared.standing.Phase.TheVariants.{Waiting, Begun, Replied}
use Rattle.mount_model.specs.declared.standing.Standing.{Standing}
use Rattle.mount_model.specs.Heard.{nothing_heard}
use Rattle.mount_model.specs.State.{Job}
use Rattle.run_laws.specs.Counts.{total, if_line}
use Rattle.run_laws.specs.Alive.{if_of_line}
use Rattle.run_laws.specs.Work.{calls_left}

abbrev pub job_for : ℕ → Job → ℕ
job_for number job = if_of_line job.owner (if_line number job.line)

-- a line's own jobs so far, those that are gone too
abbrev pub jobs_of : ℕ → List Job → ℕ
jobs_of number jobs = total (job_for number) jobs

-- how many it may still ask for: of what is left after what it has heard, one call is already asked
abbrev pub may_ask : Phase → Request → ℕ
may_ask Waiting request = calls_left request nothing_heard
may_ask (Begun heard) request = calls_left request heard - 1
may_ask Replied request = 0

abbrev pub line_may_ask : Option Standing → ℕ
line_may_ask None = 0
line_may_ask (Some s) = may_ask s.phase s.line.request
