-- What a pass knows of a bucket that threads share.
use Rattle.std.specs.Prelude.{◌≡◌, ℕ, ◌+◌, ◌≤◌, List, [], ◌∷◌, ◌++◌, true, Option, Some, None, if◌then◌else◌, nat_le}
use Rattle.bucket_model.specs.declared.call.Call.{Call}
use Rattle.bucket_model.specs.declared.answer.Answer.{Answer}
use Rattle.bucket_model.specs.declared.answer.AnswerKind.{AnswerKind}
use Rattle.bucket_model.specs.declared.answer.Brief.{Brief}
use Rattle.bucket_model.specs.declared.history.Logged.{Logged}
use Rattle.bucket_model.specs.Answers.{is_counted, kind_of}
use Rattle.bucket_model.specs.Bucket.{IsSlice}
use Rattle.bucket_model.specs.History.{HasEntry, IsLegalHistory, versions_of}

-- the position of a call's entry, with the variant of its answer
abbrev pub Mark : Type 0
Mark = ℕ × AnswerKind

-- strictly rising positions, each from low on
abbrev pub RiseFrom : ℕ → List Mark → Type 0
RiseFrom low [] = Unit {0}
RiseFrom low (mark ∷ marks) = (low ≤ mark.0) × RiseFrom (mark.0 + 1) marks

-- each position once, and in order
abbrev pub AreRisingMarks : List Mark → Type 0
AreRisingMarks marks = RiseFrom 0 marks

-- a call adds its mark behind the others; after want of memory it has none
abbrev pub AddsMark : ℕ → Brief → List Mark → List Mark → Type 0
AddsMark position answer old new = new ≡ (if is_counted answer then old ++ (position, kind_of answer) ∷ [] else old)

-- a mark among rising marks
abbrev pub with_mark : Mark → List Mark → List Mark
with_mark mark [] = mark ∷ []
with_mark mark (first ∷ marks) = if nat_le mark.0 first.0 then mark ∷ first ∷ marks else first ∷ with_mark mark marks

-- the marks of both, rising
abbrev pub merged_marks : List Mark → List Mark → List Mark
merged_marks [] marks = marks
merged_marks (first ∷ more) marks = with_mark first (merged_marks more marks)

-- the one history goes on to be the other
abbrev pub GoesOn : List Logged → List Logged → Type 0
GoesOn old new = (more : List Logged) × (new ≡ old ++ more)

-- A call sees more of the history, and the entry of its own.
pub record SeesCall (asked : Call) (position : ℕ) (answer : Brief) (old new : List Logged) : Type 0 where
  pub goes_on : GoesOn old new
  pub entry : is_counted answer ≡ true → HasEntry new position asked answer

-- A pass tells what it has seen always or never.
abbrev pub PassTells : Call → ℕ → Brief → Option (List Logged) → Option (List Logged) → Type 0
PassTells asked position answer None None = Unit {0}
PassTells asked position answer (Some old) (Some new) = SeesCall asked position answer old new
PassTells asked position answer None (Some new) = ⊥
PassTells asked position answer (Some old) None = ⊥

-- who meets another has seen what both had seen, the one behind the other
abbrev pub SeesBoth : List Logged → List Logged → List Logged → Type 0
SeesBoth old other new = GoesOn old new × GoesOn other new

abbrev pub PassMeets : Option (List Logged) → Option (List Logged) → Option (List Logged) → Type 0
PassMeets (Some old) (Some other) (Some new) = SeesBoth old other new
PassMeets (Some old) (Some other) None = ⊥
PassMeets (Some old) None new = ⊥
PassMeets None (Some other) new = ⊥
PassMeets None None None = Unit {0}
PassMeets None None (Some new) = ⊥

-- bytes that a call brings are those of a version that the history made
abbrev pub PassBrings : Call → Answer → Option (List Logged) → Type 0
PassBrings asked answer None = Unit {0}
PassBrings asked answer (Some log) = IsSlice (versions_of log) asked answer

-- what is told is a legal history
abbrev pub IsLegalTold : Option (List Logged) → Type 0
IsLegalTold None = Unit {0}
IsLegalTold (Some log) = IsLegalHistory log
