-- The journal's room goes with what is owed.
use Rattle.std.proofs.Common.{◌≡◌, ℕ, ◌+◌, ◌-◌, ◌≤◌, List, [], ◌∷◌, ◌++◌, refl, ap, ◌∙◌, arith}
use Rattle.mount_model.specs.Step.{HasStep}
use Rattle.job_table.specs.Journal.{Journaled}
use Rattle.job_table.specs.LiveJobs.{LiveJobs, Held}
use Rattle.core_writes.specs.Owed.{owes_jobs, IsPaid}

-- nothing changes
pub paid-same : (jobs : LiveJobs) (journal : Journaled) (owed : ℕ) → HasStep journal.steps → owed ≤ journal.room → IsPaid jobs jobs journal journal owed owed
paid-same jobs journal owed step enough = record { known = refl; step = step; room = enough; jobs = omega arith }

pub paid-then : (old mid new : LiveJobs) (before between after : Journaled) (owed owes more : ℕ) → IsPaid old mid before between owed owes → IsPaid mid new between after owes more → IsPaid old new before after owed more
paid-then old mid new before between after owed owes more first second = record {
  known = second.known ∙ first.known;
  step = second.step;
  room = second.room;
  jobs = omega (arith, first.jobs, second.jobs);
}

-- one job more, which is ready
pub owes-push : (held : List Held) (h : Held) → owes_jobs (held ++ h ∷ []) ≡ owes_jobs held + owes_jobs (h ∷ [])
owes-push [] h = omega arith
owes-push (first ∷ held) h = let more = owes-push held h in omega arith

pub paid-ask : (old new : LiveJobs) (before after : Journaled) (owed : ℕ) (h : Held) (step : HasStep after.steps) → after.known ≡ before.known → owed + 2 ≤ after.room → new.held ≡ old.held ++ h ∷ [] → owes_jobs (h ∷ []) ≡ 2 → IsPaid old new before after owed (owed + 2)
paid-ask old new before after owed h step known room held owes = record {
  known = known;
  step = step;
  room = room;
  jobs = omega (arith, ap owes_jobs held, owes-push old.held h, owes);
}

-- one job less
pub paid-drop : (old new : LiveJobs) (before after : Journaled) (owed : ℕ) → HasStep after.steps → after.known ≡ before.known → owed ≤ before.room → after.room + 1 ≡ before.room → owes_jobs new.held + 2 ≤ owes_jobs old.held → owes_jobs old.held ≤ owed → IsPaid old new before after owed (owed - 2)
paid-drop old new before after owed step known enough room less owes = record {
  known = known;
  step = step;
  room = omega (arith, enough, room);
  jobs = omega (arith, less, owes);
}
