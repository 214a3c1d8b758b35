-- One call of a store, seen from a store around it.
use Rattle.std.specs.Prelude.{◌≡◌, ◌≢◌, ℕ, ◌<◌, ◌≤◌, true, Option}
use Rattle.mp_types.specs.Count.{HasRisen}
use Rattle.bucket_model.specs.declared.call.Call.{Call}
use Rattle.bucket_model.specs.declared.answer.Answer.{Answer}
use Rattle.bucket_model.specs.declared.answer.Brief.TheVariants.{Fault}
use Rattle.bucket_model.specs.Answers.{brief_of, fits, is_counted}
use Rattle.bucket_model.specs.History.{History}
use Rattle.store_trait.specs.Told.{BringsSlice, Tells}

-- the store answered the call so, with this number: what every store promises of that
pub record IsCalled {S : Type 0} (position : S → ℕ) (history : S → Option History) (faults : S → ℕ) (is_alone never_fails is_honest : S → Type 0) (asked : Call) (place : ℕ) (answer : Answer) (old new : S) : Type 0 where
  pub kind : fits asked (brief_of answer) ≡ true
  pub not_before : position old ≤ place
  pub counted : is_counted (brief_of answer) ≡ true → place < position new
  pub grows : position old ≤ position new
  pub faults_grow : faults old ≤ faults new
  pub fault : brief_of answer ≡ Fault → HasRisen (faults old) (faults new)
  pub never : never_fails old → (brief_of answer ≢ Fault) × never_fails new
  pub told : Tells (is_alone old) asked place (brief_of answer) (history old) (history new)
  pub slice : BringsSlice asked answer (history new)
  pub alone : is_alone old → is_alone new
  pub honest : is_honest old → is_honest new
