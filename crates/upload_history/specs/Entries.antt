-- What the entries of a history say of one upload.
use Rattle.std.specs.Prelude.{◌≡◌, ℕ, ◌+◌, ◌<◌, List, flat_map, slice_get, Some}
use Rattle.bucket_model.specs.declared.call.Call.{Call}
use Rattle.bucket_model.specs.declared.call.Call.TheVariants.{Create, Part, Complete, Abort}
use Rattle.bucket_model.specs.declared.answer.Brief.TheVariants.{Stored}
use Rattle.bucket_model.specs.declared.history.Name.TheVariants as name
use Rattle.bucket_model.specs.declared.history.Logged.{Logged}
use Rattle.bucket_model.specs.Bucket.{Whole}

-- the entry at this position makes this call
pub record HasCall (log : List Logged) (position : ℕ) (called : Call) : Type 0 where
  pub logged : Logged
  pub stands : slice_get log position ≡ Some logged
  pub calls : logged.entry.call ≡ called

-- the entry at this position created the upload, for this key
pub record IsCreatedAt (log : List Logged) (position upload : ℕ) (key : List ℕ) : Type 0 where
  pub logged : Logged
  pub stands : slice_get log position ≡ Some logged
  pub calls : logged.entry.call ≡ Create key
  pub makes : logged.made ≡ Some (name.Upload upload)

-- between these positions the upload got this part, and the part was answered as stored
pub record IsStored (log : List Logged) (upload from to number : ℕ) (bytes : List ℕ) : Type 0 where
  pub position : ℕ
  pub behind : from < position
  pub before : position < to
  pub logged : Logged
  pub stands : slice_get log position ≡ Some logged
  pub calls : logged.entry.call ≡ Part upload number bytes
  pub answered : logged.entry.answer ≡ Stored

-- the list has these bytes at this number's place; the first number is 1
pub record IsNumbered (parts : List (List ℕ)) (number : ℕ) (bytes : List ℕ) : Type 0 where
  pub index : ℕ
  pub number_is : number ≡ index + 1
  pub listed : slice_get parts index ≡ Some bytes

-- Between these positions the upload got just these parts, in any order and perhaps more than once, and each of them was
-- answered as stored. Nothing else happened to it.
pub record HasParts (log : List Logged) (upload from to : ℕ) (parts : List (List ℕ)) : Type 0 where
  pub each : (index : ℕ) (bytes : List ℕ) → slice_get parts index ≡ Some bytes → IsStored log upload from to (index + 1) bytes
  pub only : (position number : ℕ) (bytes : List ℕ) → from < position → position < to → HasCall log position (Part upload number bytes) → IsNumbered parts number bytes
  pub no_complete : (position count : ℕ) → from < position → position < to → HasCall log position (Complete upload count) → ⊥
  pub no_abort : (position : ℕ) → from < position → position < to → HasCall log position (Abort upload) → ⊥

-- the object of these parts, in their order
abbrev pub whole_from : List ℕ → List (List ℕ) → Whole
whole_from key parts = record { key = key; bytes = flat_map (λ bytes. bytes) parts }
