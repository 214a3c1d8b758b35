-- What holds of an upload at each moment, so that its counts stay small.
use Rattle.std.specs.Prelude.{◌≡◌, ◌≤◌, ◌+◌, ◌*◌, ◌^◌, ℕ, Bool, false, length}
use Rattle.bucket_model.specs.Answers.{max_parts}
use Rattle.upload_rules.specs.declared.upload.UpState.{UpState}
use Rattle.upload_rules.specs.declared.upload.UpState.TheVariants.{Open}
use Rattle.upload_rules.specs.declared.upload.Created.{Created}
use Rattle.upload_rules.specs.declared.upload.Created.TheVariants.{NotAsked}
use Rattle.upload_rules.specs.Upload.{Upload, written}
use Rattle.part_uploader.specs.Unasked.{Unasked}

-- an upload whose bytes behind its parts wait
abbrev pub upload_of : UpState → Created → ℕ → ℕ → ℕ → Unasked → ℕ → Bool → Upload
upload_of state created asked sent stored waiting pending closing =
    record { part = waiting.part; state = state; created = created; asked = asked; sent = sent; stored = stored; rest = waiting.bytes; pending = pending; closing = closing }

pub record IsSound (u : Upload) (ended : Bool) (total : ℕ) : Type 0 where
  pub sum : total ≡ written u
  pub some : 1 ≤ u.part
  pub small : u.part ≤ 2 ^ 30
  -- each part that was asked for, and what waits, has room among the most parts
  pub room : u.asked * u.part + length u.rest ≤ u.part * max_parts
  -- until the writer has all its bytes, each part was a whole one
  pub whole : u.state ≡ Open → u.sent ≡ u.asked * u.part
  pub calls : u.pending ≤ u.asked + 1
  pub uncalled : u.created ≡ NotAsked → u.pending ≡ 0
  -- bytes come only while none of a part that isn't full were given out
  pub open_ended : u.state ≡ Open → ended ≡ false
