-- What a decision of the code says.
use Rattle.std.specs.Prelude.{◌≡◌, Option, Some, None}
use Rattle.mp_types.specs.Key.{IsKeyText}
use Rattle.mp_rules.specs.QuestionRef.{as_question, key_in}
use Rattle.mp_rules.specs.Walk.{Decision as Meaning, Need, Is as Stands, Refused as Fails, below}
use Rattle.superblock.specs.declared.decision.Decision.{Decision}
use Rattle.superblock.specs.declared.decision.Decision.TheVariants.{Ask, Is, Refused}

-- a key that is asked about is as long as a key may be
abbrev pub Decides : Decision → Meaning → Type 0
Decides (Ask asked) meant = (meant ≡ Need (as_question asked)) × IsKeyText (key_in asked)
Decides (Is entry) meant = meant ≡ Stands entry
Decides (Refused errno) meant = meant ≡ Fails errno

-- how a walk ends at a proper prefix where this was found, or goes on
abbrev pub StopsAt : Decision → Option Decision → Type 0
StopsAt found None = (meant rest : Meaning) → Decides found meant → below meant rest ≡ rest
StopsAt found (Some stop) = (meant rest : Meaning) → Decides found meant → Decides stop (below meant rest)
