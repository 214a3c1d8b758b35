-- The order in which a step's text has its parts.
use Rattle.std.specs.Prelude.{ℕ, ◌<◌, List, [], ◌∷◌}
use Rattle.mount_model.specs.declared.event.Ask.{Ask}
use Rattle.mount_model.specs.declared.event.Answered.{Answered}
use Rattle.mount_model.specs.Step.{Step}

-- keys rise, from above a bound
abbrev pub Rises : {X : Type 0} → (X → ℕ) → ℕ → List X → Type 0
Rises key above [] = Unit {0}
Rises key above (x ∷ xs) = (above < key x) × Rises key (key x) xs

abbrev pub asked_job : Ask → ℕ
asked_job ask = ask.job

abbrev pub reply_line : Answered → ℕ
reply_line reply = reply.line

-- drops and asks stand by their job, and replies by their line
pub record IsInOrder (step : Step) : Type 0 where
  pub drops : Rises (λ job. job) 0 step.drops
  pub asks : Rises asked_job 0 step.asks
  pub replies : Rises reply_line 0 step.replies
