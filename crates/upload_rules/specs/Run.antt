-- A writer's life, from its first byte on, and the parts that it asks for.
use Rattle.std.specs.Prelude.{◌<◌, ◌≡◌, ℕ, ◌≤◌, List, [], ◌∷◌, ◌++◌, length, fold, flat_map, Some}
use Rattle.mp_types.specs.declared.errno.Errno.{Errno}
use Rattle.mp_types.specs.declared.errno.Errno.TheVariants.{Enomem}
use Rattle.bucket_model.specs.Along.{Along}
use Rattle.upload_rules.specs.declared.upload.UpState.TheVariants.{Open, Finished, Failed}
use Rattle.upload_rules.specs.declared.upload.Created.TheVariants.{Asked}
use Rattle.upload_rules.specs.declared.upload.UpAsk.{UpAsk}
use Rattle.upload_rules.specs.declared.upload.UpAsk.TheVariants.{Part, Complete}
use Rattle.upload_rules.specs.Upload.{Upload, new_upload, due, next_part, with_ask, with_bytes, finished, with_closing, with_back, with_id, with_stored, completed, fails_with, with_failure, given_up}

-- What happens to a writer: it takes bytes, has all of them, is closed, asks for a call, hears of one that is back, finds no
-- memory, drops a call that it asked for, or has its upload given up.
pub data Happening : Type 0 where
  Takes : List ℕ → Happening
  Finishes : Happening
  Closes : Happening
  Asks : UpAsk → Happening
  Creates : ℕ → Happening
  Stores : Happening
  Completes : Happening
  Fails : Errno → Happening
  Lacks : Happening
  Drops : Happening
  GivesUp : Happening

abbrev pub after : Upload → Happening → Upload
after u (Takes bytes) = with_bytes bytes u
after u Finishes = finished u
after u Closes = with_closing u
after u (Asks ask) = with_ask ask u
after u (Creates upload) = with_id upload u
after u Stores = with_stored u
after u Completes = completed u
after u (Fails errno) = with_failure errno u
after u Lacks = fails_with Enomem u
after u Drops = with_back u
after u GivesUp = given_up u

abbrev pub HasFailed : Upload → Type 0
HasFailed u = (errno : Errno) × (u.state ≡ Failed errno)

-- Bytes come until the writer is finished, it asks only for what is due, and hears only of calls that are not back. A
-- failed writer drops calls, and its upload is given up.
abbrev pub MayHappen : Upload → Happening → Type 0
MayHappen u (Takes bytes) = u.state ≡ Open
MayHappen u Finishes = u.state ≡ Open
MayHappen u Closes = Unit {0}
MayHappen u (Asks ask) = due u ≡ Some ask
MayHappen u (Creates upload) = (u.created ≡ Asked) × (0 < u.pending)
MayHappen u Stores = (u.stored < u.asked) × (0 < u.pending)
MayHappen u Completes = (u.state ≡ Finished) × (0 < u.pending)
MayHappen u (Fails errno) = 0 < u.pending
MayHappen u Lacks = Unit {0}
MayHappen u Drops = HasFailed u × (0 < u.pending)
MayHappen u GivesUp = HasFailed u × (0 < u.pending)

-- this may have happened to a writer from its first byte on
abbrev pub IsLife : ℕ → List Happening → Type 0
IsLife part happenings = Along MayHappen after (new_upload part) happenings

abbrev pub upload_after : ℕ → List Happening → Upload
upload_after part happenings = fold after (new_upload part) happenings

abbrev pub bytes_in : Happening → List ℕ
bytes_in (Takes bytes) = bytes
bytes_in other = []

-- all bytes that were written
abbrev pub bytes_taken : List Happening → List ℕ
bytes_taken happenings = flat_map bytes_in happenings

-- the bytes of the part that is asked for
abbrev pub part_asked : Upload → Happening → List (List ℕ)
part_asked u (Asks (Part number from to)) = next_part u ∷ []
part_asked u other = []

abbrev pub parts_from : Upload → List Happening → List (List ℕ)
parts_from u [] = []
parts_from u (happening ∷ happenings) = part_asked u happening ++ parts_from (after u happening) happenings

-- the bytes of all parts, in the order of their numbers
abbrev pub parts_asked : ℕ → List Happening → List (List ℕ)
parts_asked part happenings = parts_from (new_upload part) happenings

abbrev pub joined : List (List ℕ) → List ℕ
joined parts = flat_map (λ bytes. bytes) parts

-- each part has so many bytes, and the last one no more
abbrev pub AreCut : ℕ → List (List ℕ) → Type 0
AreCut part [] = Unit {0}
AreCut part (bytes ∷ []) = length bytes ≤ part
AreCut part (bytes ∷ next ∷ parts) = (length bytes ≡ part) × AreCut part (next ∷ parts)

-- The parts in their order are the bytes in theirs. What a failed writer had no part for is let go. The object is
-- asked for only of all the bytes.
pub record AreTheBytes (part : ℕ) (happenings : List Happening) : Type 0 where
  pub behind : List ℕ
  pub bytes : joined (parts_asked part happenings) ++ behind ≡ bytes_taken happenings
  pub rest : (HasFailed (upload_after part happenings) → ⊥) → behind ≡ (upload_after part happenings).rest
  pub count : length (parts_asked part happenings) ≡ (upload_after part happenings).asked
  pub sent : length (joined (parts_asked part happenings)) ≡ (upload_after part happenings).sent
  pub cut : AreCut part (parts_asked part happenings)
  pub whole : (parts : ℕ) → due (upload_after part happenings) ≡ Some (Complete parts) → (parts ≡ length (parts_asked part happenings)) × (1 ≤ parts) × (joined (parts_asked part happenings) ≡ bytes_taken happenings)
