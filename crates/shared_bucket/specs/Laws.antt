-- What holds of each pass by its form.
use Rattle.std.specs.Prelude.{◌≡◌, List, [], length, Option, Some, unwrap_or}
use mathlib.Core.Path.{ap}
use Rattle.bucket_model.specs.declared.history.Logged.{Logged}

pub told_length : (seen log : List Logged) → Some seen ≡ Some log → length seen ≡ length log
told_length seen log is = ap (λ (told : Option (List Logged)). length (unwrap_or told [])) is
