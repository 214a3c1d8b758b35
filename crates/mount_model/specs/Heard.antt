-- What a line has heard of its own calls.
use Rattle.std.specs.Prelude.{[], ◌∷◌, ◌++◌, Option, Some, None}
use Rattle.mp_rules.specs.declared.facts.Question.{Question}
use Rattle.mp_rules.specs.declared.facts.Question.TheVariants as question
use Rattle.mp_rules.specs.declared.facts.Fact.{Fact}
use Rattle.mp_rules.specs.declared.facts.Fact.TheVariants as fact
use Rattle.mp_rules.specs.Walk.{with_known}
use Rattle.bucket_model.specs.declared.call.Call.{Call}
use Rattle.bucket_model.specs.declared.call.Call.TheVariants as call
use Rattle.bucket_model.specs.declared.answer.Brief.{Brief}
use Rattle.bucket_model.specs.declared.answer.Brief.TheVariants.{Found, Missing, Yes, No}
use Rattle.mount_model.specs.declared.standing.Heard.{Heard}
use Rattle.mount_model.specs.declared.standing.Told.{Told}
use Rattle.mount_model.specs.declared.standing.Told.TheVariants.{Fact as AFact, Answer}

abbrev pub nothing_heard : Heard
nothing_heard = record { facts = []; answers = [] }

abbrev pub with_told : Told → Heard → Heard
with_told (AFact known) heard = record heard { facts = with_known known heard.facts }
with_told (Answer answer) heard = record heard { answers = heard.answers ++ answer ∷ [] }

-- a question as a call
abbrev pub call_of : Question → Call
call_of (question.Head key) = call.Head key
call_of (question.Probe key) = call.Probe key

-- the question that a call asks, if it asks one
abbrev pub question_of : Call → Option Question
question_of (call.Head key) = Some (question.Head key)
question_of (call.Probe key) = Some (question.Probe key)
question_of other = None

-- the fact that an answer to a question tells; one that failed tells none
abbrev pub fact_of : Brief → Option Fact
fact_of (Found etag size) = Some (fact.Found etag size)
fact_of Missing = Some fact.Missing
fact_of Yes = Some fact.Yes
fact_of No = Some fact.No
fact_of other = None

abbrev pub told_from : Option Question → Option Fact → Brief → Told
told_from (Some asked) (Some tells) answer = AFact (record { question = asked; fact = tells })
told_from asked tells answer = Answer answer

-- what the answer to a call tells, by the question that the call asks
abbrev pub told_by : Option Question → Brief → Told
told_by asked answer = told_from asked (fact_of answer) answer
