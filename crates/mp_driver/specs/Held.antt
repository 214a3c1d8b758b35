-- Answers of calls that were made, until they are handed in.
use Rattle.std.specs.Prelude.{◌≡◌, ◌≢◌, ℕ, ◌+◌, ◌<◌, List, [], ◌∷◌, find, ◌==◌, if◌then◌else◌, Option, Some, None}
use Rattle.std.specs.List.{AllByRecursion, count_by}
use Rattle.bucket_model.specs.Answers.{brief_of}
use Rattle.mp_driver.specs.declared.held.HeldAnswer.{HeldAnswer}
use Rattle.mp_driver.specs.Drive.{is_fault}

-- the held answer for a job
abbrev pub answer_for : ℕ → List HeldAnswer → Option HeldAnswer
answer_for job held = find (λ got. got.job == job) held

-- how many of them are faults
abbrev pub faults_among : List HeldAnswer → ℕ
faults_among held = count_by (λ got. is_fault (brief_of got.answer)) held

-- they stand by rising job
abbrev pub AreByJob : List HeldAnswer → Type 0
AreByJob [] = Unit {0}
AreByJob (got ∷ held) = AllByRecursion (λ other. got.job < other.job) held × AreByJob held

-- the second list is the first one with this answer
pub record IsWith (got : HeldAnswer) (less more : List HeldAnswer) : Type 0 where
  pub absent : answer_for got.job less ≡ None
  pub own : answer_for got.job more ≡ Some got
  pub others : (job : ℕ) → job ≢ got.job → answer_for job more ≡ answer_for job less
  pub faults : faults_among more ≡ faults_among less + (if is_fault (brief_of got.answer) then 1 else 0)
