-- A bucket's history, and what makes it legal.
use Rattle.std.specs.Prelude.{◌≡◌, ◌≢◌, ℕ, List, [], ◌∷◌, ◌++◌, fold, Contains, Bool, true, false, Option, Some, None, option_to_list, slice_get}
use Rattle.bucket_model.specs.declared.call.Call.{Call}
use Rattle.bucket_model.specs.declared.call.Call.TheVariants.{Delete, Put, Create, Complete}
use Rattle.bucket_model.specs.declared.answer.Brief.{Brief}
use Rattle.bucket_model.specs.declared.answer.Brief.TheVariants.{Made, Upload, Fault, NoMemory}
use Rattle.bucket_model.specs.declared.history.Name.{Name}
use Rattle.bucket_model.specs.declared.history.Name.TheVariants as name
use Rattle.bucket_model.specs.declared.history.Logged.{Logged}
use Rattle.bucket_model.specs.Along.{Along}
use Rattle.bucket_model.specs.Answers.{MayBeMade}
use Rattle.bucket_model.specs.Bucket.{BucketState, empty_bucket, ObjectVersion, Whole, IsAnswer, whole_of, upload_at, version_made, after}

-- the state after a history, from an empty bucket
abbrev pub replay : List Logged → BucketState
replay log = fold after empty_bucket log

-- all versions made, in order
abbrev pub versions_from : BucketState → List Logged → List ObjectVersion
versions_from state [] = []
versions_from state (logged ∷ log) = option_to_list (version_made state logged) ++ versions_from (after state logged) log

abbrev pub versions_of : List Logged → List ObjectVersion
versions_of log = versions_from empty_bucket log

-- a fault may come of any call, whatever it left; want of memory has no entry
abbrev pub MayAnswer : BucketState → Call → Brief → Type 0
MayAnswer state call Fault = Unit {0}
MayAnswer state call NoMemory = ⊥
MayAnswer state call answer = IsAnswer state call answer

-- an object that was made has a version: the one that was told, or one that a fault hid
abbrev pub MakesVersion : Brief → Option Name → Type 0
MakesVersion (Made etag) made = made ≡ Some (name.Version etag)
MakesVersion Fault made = (etag : List ℕ) × (made ≡ Some (name.Version etag))
MakesVersion other made = made ≡ None

-- an upload that was created has an id: the one that was told, or one that a fault hid
abbrev pub MakesUpload : Brief → Option Name → Type 0
MakesUpload (Upload upload) made = made ≡ Some (name.Upload upload)
MakesUpload Fault made = (upload : ℕ) × (made ≡ Some (name.Upload upload))
MakesUpload other made = made ≡ None

-- an upload makes an object where its parts are there
abbrev pub MakesWhole : Option Whole → Brief → Option Name → Type 0
MakesWhole None answer made = made ≡ None
MakesWhole (Some whole) answer made = MakesVersion answer made

-- what a call makes that took effect
abbrev pub Makes : BucketState → Call → Brief → Option Name → Type 0
Makes state (Put key bytes) answer made = MakesVersion answer made
Makes state (Create key) answer made = MakesUpload answer made
Makes state (Complete upload parts) answer made = MakesWhole (whole_of parts (upload_at state upload)) answer made
Makes state other answer made = made ≡ None

-- a call without effect makes nothing
abbrev pub MakesName : BucketState → Call → Bool → Brief → Option Name → Type 0
MakesName state call true answer made = Makes state call answer made
MakesName state call false answer made = made ≡ None

-- equal ETags of one key mean equal bytes
abbrev pub IsOneContent : List ObjectVersion → ObjectVersion → Type 0
IsOneContent versions new = (v : ObjectVersion) → Contains versions v → v.key ≡ new.key → v.etag ≡ new.etag → v.bytes ≡ new.bytes

-- no earlier upload has this id
abbrev pub IsNewUpload : List Logged → ℕ → Type 0
IsNewUpload past upload = (logged : Logged) → Contains past logged → logged.made ≢ Some (name.Upload upload)

-- the entry is one that the bucket may have logged behind these
pub record IsLegalEntry (past : List Logged) (logged : Logged) : Type 0 where
  pub may : MayBeMade logged.entry.call
  pub answered : MayAnswer (replay past) logged.entry.call logged.entry.answer
  pub took : logged.entry.answer ≢ Fault → logged.entry.took ≡ true
  pub made : MakesName (replay past) logged.entry.call logged.entry.took logged.entry.answer logged.made
  pub one_content : (new : ObjectVersion) → version_made (replay past) logged ≡ Some new → IsOneContent (versions_of past) new
  pub new_upload : (upload : ℕ) → logged.made ≡ Some (name.Upload upload) → IsNewUpload past upload

abbrev pub IsLegalHistory : List Logged → Type 0
IsLegalHistory log = Along IsLegalEntry (λ past logged. past ++ logged ∷ []) [] log

-- what a store tells: its entries, and the versions that they made
pub record History : Type 0 where
  pub log : List Logged
  pub versions : List ObjectVersion

-- a change of an object that others may make: a put or a delete
abbrev pub IsChange : Call → Type 0
IsChange (Delete key) = Unit {0}
IsChange (Put key bytes) = Unit {0}
IsChange other = ⊥

-- this call with this answer stands at the position
pub record HasEntry (log : List Logged) (position : ℕ) (called : Call) (answer : Brief) : Type 0 where
  pub logged : Logged
  pub stands : slice_get log position ≡ Some logged
  pub call : logged.entry.call ≡ called
  pub brief : logged.entry.answer ≡ answer
