-- A bucket's content, what one call answers, and what it leaves.
use Rattle.std.specs.Prelude.{◌≡◌, ℕ, zero, suc, ◌+◌, ◌-◌, List, [], ◌∷◌, ◌++◌, length, find, nat_eq, nat_le, ◌&&◌, ◌==◌, Bool, true, if◌then◌else◌, Option, Some, None, IsSome, option_map}
use Rattle.std.specs.Ordering.{nat_cmp}
use Rattle.std.specs.Cmp.Lexicographic.{slice_cmp, pointwise}
use Rattle.std.specs.List.{starts_with, slice_range}
use Rattle.std.specs.FinMap as map
use Rattle.mp_types.specs.Path.{slash}
use Rattle.bucket_model.specs.declared.call.Call.{Call}
use Rattle.bucket_model.specs.declared.call.Call.TheVariants as call
use Rattle.bucket_model.specs.declared.call.Call.TheVariants.{Head, Probe, Get, Delete, Put, Create, Part, Complete, Abort}
use Rattle.bucket_model.specs.declared.answer.Answer.{Answer}
use Rattle.bucket_model.specs.declared.answer.Answer.TheVariants as answer
use Rattle.bucket_model.specs.declared.answer.Brief.{Brief}
use Rattle.bucket_model.specs.declared.answer.Brief.TheVariants.{Found, Missing, Yes, No, Page, Bytes, Changed, Gone, Made, Upload, Stored, NoUpload}
use Rattle.bucket_model.specs.declared.history.Object.{Object}
use Rattle.bucket_model.specs.declared.history.Name.{Name}
use Rattle.bucket_model.specs.declared.history.Name.TheVariants as name
use Rattle.bucket_model.specs.declared.history.Logged.{Logged}
use Rattle.bucket_model.specs.Listing.{page_of}

-- the parts of an upload, by their numbers
abbrev pub Parts : Type 0
Parts = map.FinMap nat_cmp (List ℕ)

-- an upload that is neither complete nor given up: the key that it is for, and its parts so far
pub record Staged : Type 0 where
  pub key : List ℕ
  pub parts : Parts

-- keys with their objects, and uploads by their ids. Of an upload nothing shows under its key.
pub record BucketState : Type 0 where
  pub objects : map.FinMap (slice_cmp nat_cmp) Object
  pub uploads : map.FinMap nat_cmp Staged

abbrev pub empty_bucket : BucketState
empty_bucket = record { objects = map.empty; uploads = map.empty }

abbrev pub object_at : BucketState → List ℕ → Option Object
object_at state key = map.get state.objects key

abbrev pub upload_at : BucketState → ℕ → Option Staged
upload_at state upload = map.get state.uploads upload

-- some object's key is below this one, which so is a directory
pub record HasBelow (state : BucketState) (above : List ℕ) : Type 0 where
  pub key : List ℕ
  pub stands : IsSome (object_at state key)
  pub below : starts_with nat_eq key (above ++ slash ∷ []) ≡ true

abbrev pub head_of : Option Object → Brief
head_of None = Missing
head_of (Some object) = Found object.etag (length object.bytes)

-- HeadObject gives the ETag and the size
abbrev pub IsHead : BucketState → List ℕ → Brief → Type 0
IsHead state key answer = answer ≡ head_of (object_at state key)

abbrev pub IsProbe : BucketState → List ℕ → Brief → Type 0
IsProbe state key Yes = HasBelow state key
IsProbe state key No = HasBelow state key → ⊥
IsProbe state key other = ⊥

-- ListObjectsV2 gives a page of all keys
abbrev pub IsList : BucketState → List ℕ → List ℕ → ℕ → Brief → Type 0
IsList state prefix after max answer = answer ≡ Page (page_of prefix after max (map.entries state.objects))

-- GetObject with If-Match gives bytes of the object with this ETag alone
abbrev pub get_of : List ℕ → ℕ → ℕ → Option Object → Brief
get_of etag from to None = Missing
get_of etag from to (Some object) = if pointwise nat_eq object.etag etag && nat_le to (length object.bytes) then Bytes (to - from) else Changed

abbrev pub IsGet : BucketState → List ℕ → List ℕ → ℕ → ℕ → Brief → Type 0
IsGet state key etag from to answer = answer ≡ get_of etag from to (object_at state key)

-- a new object has a new ETag
abbrev pub IsMade : Brief → Type 0
IsMade (Made etag) = Unit {0}
IsMade other = ⊥

-- CreateMultipartUpload gives an id
abbrev pub IsCreate : Brief → Type 0
IsCreate (Upload upload) = Unit {0}
IsCreate other = ⊥

-- what is answered about an upload that is staged, and about one that isn't
abbrev pub staged_or_not : Brief → Option Staged → Brief
staged_or_not answer None = NoUpload
staged_or_not answer (Some staged) = answer

-- both joined, where both are there
abbrev pub joined : Option (List ℕ) → Option (List ℕ) → Option (List ℕ)
joined None rest = None
joined (Some bytes) rest = option_map (λ more. bytes ++ more) rest

-- the parts from this number on, as many as these, joined by number, where each of them is there
abbrev pub joined_from : Parts → ℕ → ℕ → Option (List ℕ)
joined_from parts number zero = Some []
joined_from parts number (suc more) = joined (map.get parts number) (joined_from parts (number + 1) more)

-- an object that an upload makes: its key and its bytes
pub record Whole : Type 0 where
  pub key : List ℕ
  pub bytes : List ℕ

-- what the upload makes, where it is staged and the numbers of its parts are just those from 1 to the count
abbrev pub whole_of : ℕ → Option Staged → Option Whole
whole_of count None = None
whole_of count (Some staged) = if map.len staged.parts == count then option_map (λ bytes. record { key = staged.key; bytes = bytes }) (joined_from staged.parts 1 count) else None

abbrev pub IsComplete : Option Whole → Brief → Type 0
IsComplete None answer = answer ≡ NoUpload
IsComplete (Some whole) answer = IsMade answer

-- the bucket in this state answers the call so, where it doesn't fail
abbrev pub IsAnswer : BucketState → Call → Brief → Type 0
IsAnswer state (Head key) answer = IsHead state key answer
IsAnswer state (Probe key) answer = IsProbe state key answer
IsAnswer state (call.List prefix after max) answer = IsList state prefix after max answer
IsAnswer state (Get key etag from to) answer = IsGet state key etag from to answer
IsAnswer state (Delete key) answer = answer ≡ Gone
IsAnswer state (Put key bytes) answer = IsMade answer
IsAnswer state (Create key) answer = IsCreate answer
IsAnswer state (Part upload number bytes) answer = answer ≡ staged_or_not Stored (upload_at state upload)
IsAnswer state (Complete upload parts) answer = IsComplete (whole_of parts (upload_at state upload)) answer
IsAnswer state (Abort upload) answer = answer ≡ staged_or_not Gone (upload_at state upload)

-- an object as it was at some time
pub record ObjectVersion : Type 0 where
  pub key : List ℕ
  pub etag : List ℕ
  pub bytes : List ℕ

-- the version of these bytes at this key, where a version was made
abbrev pub version_named : Option Name → Whole → Option ObjectVersion
version_named None whole = None
version_named (Some (name.Version etag)) whole = Some (record { key = whole.key; etag = etag; bytes = whole.bytes })
version_named (Some (name.Upload upload)) whole = None

abbrev pub version_completed : Option Name → Option Whole → Option ObjectVersion
version_completed made None = None
version_completed made (Some whole) = version_named made whole

-- the version that an entry made, if any: a put of its bytes, and a complete of those of the parts
abbrev pub version_made : BucketState → Logged → Option ObjectVersion
version_made state logged = by_call logged.entry.call
  where
    by_call : Call → Option ObjectVersion
    by_call (Put key bytes) = version_named logged.made (record { key = key; bytes = bytes })
    by_call (Complete upload parts) = version_completed logged.made (whole_of parts (upload_at state upload))
    by_call other = None

abbrev pub with_version : BucketState → Option ObjectVersion → BucketState
with_version state None = state
with_version state (Some v) = record state { objects = map.insert state.objects v.key (record { etag = v.etag; bytes = v.bytes }) }

abbrev pub without_object : BucketState → List ℕ → BucketState
without_object state key = record state { objects = map.remove state.objects key }

-- a new upload has no parts
abbrev pub with_upload : BucketState → List ℕ → Option Name → BucketState
with_upload state key (Some (name.Upload upload)) = record state { uploads = map.insert state.uploads upload (record { key = key; parts = map.empty }) }
with_upload state key other = state

-- a part replaces an earlier one of its number
abbrev pub with_part : BucketState → ℕ → ℕ → List ℕ → Option Staged → BucketState
with_part state upload number bytes None = state
with_part state upload number bytes (Some staged) = record state { uploads = map.insert state.uploads upload (record staged { parts = map.insert staged.parts number bytes }) }

abbrev pub without_upload : BucketState → ℕ → BucketState
without_upload state upload = record state { uploads = map.remove state.uploads upload }

-- the upload that made the object is gone
abbrev pub completed : BucketState → ℕ → Option ObjectVersion → BucketState
completed state upload None = state
completed state upload (Some v) = with_version (without_upload state upload) (Some v)

-- what a call that took effect leaves
abbrev pub after_call : BucketState → Logged → BucketState
after_call state logged = by_call logged.entry.call
  where
    by_call : Call → BucketState
    by_call (Delete key) = without_object state key
    by_call (Put key bytes) = with_version state (version_made state logged)
    by_call (Create key) = with_upload state key logged.made
    by_call (Part upload number bytes) = with_part state upload number bytes (upload_at state upload)
    by_call (Complete upload parts) = completed state upload (version_made state logged)
    by_call (Abort upload) = without_upload state upload
    by_call other = state

abbrev pub after : BucketState → Logged → BucketState
after state logged = if logged.entry.took then after_call state logged else state

-- versions, by key and ETag

abbrev pub is_version : List ℕ → List ℕ → ObjectVersion → Bool
is_version key etag v = pointwise nat_eq v.key key && pointwise nat_eq v.etag etag

-- the bytes of the object version with this key and this ETag
abbrev pub version_at : List ObjectVersion → List ℕ → List ℕ → Option (List ℕ)
version_at versions key etag = option_map (λ v. v.bytes) (find (is_version key etag) versions)

-- bytes of that version
abbrev pub slice_at : List ObjectVersion → List ℕ → List ℕ → ℕ → ℕ → Option (List ℕ)
slice_at versions key etag from to = option_map (λ bytes. slice_range bytes from to) (version_at versions key etag)

-- a get's bytes are those of the version that it asks for
abbrev pub IsSlice : List ObjectVersion → Call → Answer → Type 0
IsSlice versions (Get key etag from to) (answer.Bytes bytes) = slice_at versions key etag from to ≡ Some bytes
IsSlice versions called said = Unit {0}
