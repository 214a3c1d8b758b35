-- What is due of an upload, and that it is asked for.
use Rattle.std.specs.Prelude.{ℕ, Bool, true, false, Option, Some, None}
use Rattle.upload_rules.specs.declared.upload.Created.{Created}
use Rattle.upload_rules.specs.declared.upload.Created.TheVariants.{Known}
use Rattle.upload_rules.specs.declared.upload.UpAsk.{UpAsk}
use Rattle.upload_rules.specs.declared.upload.UpAsk.TheVariants.{Part}

-- a part is due
abbrev pub is_part : Option UpAsk → Bool
is_part (Some (Part number from to)) = true
is_part (Some other) = false
is_part None = false

-- the upload's id, while it is known
abbrev pub known_id : Created → Option ℕ
known_id (Known upload) = Some upload
known_id other = None
