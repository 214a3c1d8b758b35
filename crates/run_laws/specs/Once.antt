-- How often a line begins and is answered.
use Rattle.std.specs.Prelude.{ℕ, List, ◌==◌, if◌then◌else◌, Option, Some, None}
use Rattle.mount_model.specs.declared.event.Event.{Event}
use Rattle.mount_model.specs.declared.event.Event.TheVariants.{Begin}
use Rattle.mount_model.specs.declared.event.Answered.{Answered}
use Rattle.mount_model.specs.declared.standing.Phase.{Phase}
use Rattle.mount_model.specs.declared.standing.Phase.TheVariants.{Waiting, Replied}
use Rattle.mount_model.specs.declared.standing.Standing.{Standing}
use Rattle.mount_model.specs.Step.{Step}
use Rattle.run_laws.specs.Counts.{total}

abbrev pub begins : ℕ → Event → ℕ
begins number (Begin line time) = if line == number then 1 else 0
begins number other = 0

abbrev pub replies_to : ℕ → Answered → ℕ
replies_to number reply = if reply.line == number then 1 else 0

-- how many steps begin this line, and how many replies it has in them
abbrev pub begins_in : ℕ → List Step → ℕ
begins_in number steps = total (λ step. begins number step.event) steps

abbrev pub replies_in : ℕ → List Step → ℕ
replies_in number steps = total (λ step. total (replies_to number) step.replies) steps

-- 1 where a line in this phase has begun, or has its reply
abbrev pub begun_in : Phase → ℕ
begun_in Waiting = 0
begun_in other = 1

abbrev pub replied_in : Phase → ℕ
replied_in Replied = 1
replied_in other = 0

abbrev pub for_phase : (Phase → ℕ) → Option Standing → ℕ
for_phase count None = 0
for_phase count (Some s) = count s.phase
