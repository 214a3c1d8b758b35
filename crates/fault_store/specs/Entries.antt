-- The entries of calls that failed or were handed on.
use Rattle.std.specs.Prelude.{Bool, true, false, List, [], ◌∷◌, None}
use Rattle.bucket_model.specs.declared.call.Call.{Call}
use Rattle.bucket_model.specs.declared.answer.Answer.{Answer}
use Rattle.bucket_model.specs.declared.answer.Answer.TheVariants as answer
use Rattle.bucket_model.specs.declared.answer.Brief.TheVariants.{Fault}
use Rattle.bucket_model.specs.declared.history.Logged.{Logged}
use Rattle.bucket_model.specs.Answers.{brief_of, entry_after}

-- a call that took no effect
abbrev pub entry_before : Call → Logged
entry_before asked = record { entry = record { call = asked; answer = Fault; took = false }; made = None }

-- what the caller is told: a fault where that hides an answer which has an entry
abbrev pub shown : Bool → Bool → Answer → Answer
shown true true said = answer.Fault
shown true false said = said
shown false hides said = said

-- what the log gets: nothing where the answer has no entry
abbrev pub entries_of : Bool → Bool → Call → Answer → List Logged
entries_of true hides asked said = entry_after asked (brief_of (shown true hides said)) (brief_of said) ∷ []
entries_of false hides asked said = []
