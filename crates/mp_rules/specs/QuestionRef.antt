-- Questions about keys that stand in a text of someone else.
use Rattle.std.specs.Prelude.{ℕ, List}
use Rattle.mp_rules.specs.declared.facts.Question.{Question}
use Rattle.mp_rules.specs.declared.facts.Question.TheVariants as question
use Rattle.mp_rules.specs.declared.facts.QuestionRef.{QuestionRef}
use Rattle.mp_rules.specs.declared.facts.QuestionRef.TheVariants.{Head, Probe}

abbrev pub as_question : QuestionRef → Question
as_question (Head key) = question.Head key.now
as_question (Probe key) = question.Probe key.now

abbrev pub key_in : QuestionRef → List ℕ
key_in (Head key) = key.now
key_in (Probe key) = key.now
