-- Jobs that have their numbers one after the other.
use Rattle.std.proofs.Common.{◌≡◌, ℕ, ◌+◌, List, [], ◌∷◌, ◌++◌, length, Bool, true, false, ◌==◌, if◌then◌else◌, arith}
use Rattle.mount_model.specs.State.{Job, JobPhase, AreNumbered, in_phase, change_job}

pub numbered-change : (number n : ℕ) (phase : JobPhase) (jobs : List Job) → AreNumbered number jobs → AreNumbered number (change_job n phase jobs)
numbered-change number n phase [] r = tt
numbered-change number n phase (job ∷ jobs) r = (go (job.number == n), numbered-change (number + 1) n phase jobs r.1)
  where
    go : (b : Bool) → (if b then in_phase phase job else job).number ≡ number
    go true = r.0
    go false = r.0

pub numbered-push : (number : ℕ) (jobs : List Job) (job : Job) → job.number ≡ number + length jobs → AreNumbered number jobs → AreNumbered number (jobs ++ job ∷ [])
numbered-push number [] job is r = (omega arith, tt)
numbered-push number (first ∷ jobs) job is r = (r.0, numbered-push (number + 1) jobs job (omega arith) r.1)
