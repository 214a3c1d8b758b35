-- What the last answer told, a fact or something else.
use Rattle.std.specs.Prelude.{List, [], ◌∷◌, Option, Some, None}
use Rattle.bucket_model.specs.declared.answer.Brief.{Brief}
use Rattle.mp_rules.specs.declared.facts.Known.{Known}
use Rattle.mount_model.specs.declared.standing.Told.{Told}
use Rattle.mount_model.specs.declared.standing.Told.TheVariants.{Fact, Answer}
use Rattle.mount_model.specs.Conversation.{last_of}

abbrev pub last_fact : Option Told → Option Known
last_fact (Some (Fact known)) = Some known
last_fact told = None

abbrev pub last_answer : Option Told → Option Brief
last_answer (Some (Answer answer)) = Some answer
last_answer told = None

-- the last of some answers, if there are any
abbrev pub last_in : List Brief → Option Brief
last_in [] = None
last_in (answer ∷ answers) = Some (last_of answer answers)
