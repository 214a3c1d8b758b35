-- Whether an object is gone, by the answer to its Delete.
use Rattle.std.specs.Prelude.{Bool, true, false, Option, Some}
use Rattle.bucket_model.specs.declared.answer.Brief.{Brief}
use Rattle.bucket_model.specs.declared.answer.Brief.TheVariants.{Gone}

abbrev pub is_gone : Option Brief → Bool
is_gone (Some Gone) = true
is_gone answer = false
