-- What one entry makes of an upload.
use Rattle.std.proofs.Common.{◌≡◌, ◌≢◌, ℕ, List, Bool, true, false, Option, Some, None, inl, inr, refl, sym, ap, subst}
use Rattle.std.proofs.lemmas.Bool.{cases_eq}
use Rattle.std.specs.FinMap as map
use Rattle.bucket_model.specs.declared.call.Call.{Call}
use Rattle.bucket_model.specs.declared.call.Call.TheVariants as call
use Rattle.bucket_model.specs.declared.call.Call.TheVariants.{Head, Probe, Get, Delete, Put, Create, Part, Complete, Abort}
use Rattle.bucket_model.specs.declared.answer.Brief.{Brief}
use Rattle.bucket_model.specs.declared.history.Name.{Name}
use Rattle.bucket_model.specs.declared.history.Name.TheVariants as name
use Rattle.bucket_model.specs.declared.history.Logged.{Logged}
use Rattle.bucket_model.specs.Bucket.{BucketState, ObjectVersion, Staged, after, completed, upload_at, version_completed, whole_of, with_part, with_upload}
use Rattle.upload_history.proofs.Numbered.{get-same, get-other, get-left}

-- the call is of no upload that is there, or of another one
abbrev pub IsElsewhere : ℕ → Call → Type 0
IsElsewhere upload (Part id number bytes) = upload ≢ id
IsElsewhere upload (Complete id count) = upload ≢ id
IsElsewhere upload (Abort id) = upload ≢ id
IsElsewhere upload other = Unit {0}

-- what a call has to do with an upload
pub data Touches (upload : ℕ) (called : Call) : Type 0 where
  Stores : (number : ℕ) (bytes : List ℕ) → called ≡ Part upload number bytes → Touches upload called
  Completes : (count : ℕ) → called ≡ Complete upload count → Touches upload called
  GivesUp : called ≡ Abort upload → Touches upload called
  Leaves : IsElsewhere upload called → Touches upload called

pub touches : (upload : ℕ) (called : Call) → Touches upload called
touches upload (Head key) = Leaves tt
touches upload (Probe key) = Leaves tt
touches upload (call.List prefix after max) = Leaves tt
touches upload (Get key etag from to) = Leaves tt
touches upload (Delete key) = Leaves tt
touches upload (Put key bytes) = Leaves tt
touches upload (Create key) = Leaves tt
touches upload (Part id number bytes) = elim (cases_eq upload id) [
  | inl same ↦ Stores number bytes (ap (λ (n : ℕ). Part n number bytes) (sym same))
  | inr apart ↦ Leaves apart
]
touches upload (Complete id count) = elim (cases_eq upload id) [
  | inl same ↦ Completes count (ap (λ (n : ℕ). Complete n count) (sym same))
  | inr apart ↦ Leaves apart
]
touches upload (Abort id) = elim (cases_eq upload id) [
  | inl same ↦ GivesUp (ap Abort (sym same))
  | inr apart ↦ Leaves apart
]

-- one entry, field by field
abbrev entry_of : Call → Brief → Bool → Option Name → Logged
entry_of called answer took made = record { entry = record { call = called; answer = answer; took = took }; made = made }

-- another upload, or another key's object

creates-other : (upload : ℕ) (state : BucketState) (key : List ℕ) (made : Option Name) → made ≢ Some (name.Upload upload) → upload_at (with_upload state key made) upload ≡ upload_at state upload
creates-other upload state key None apart = refl
creates-other upload state key (Some (name.Version etag)) apart = refl
creates-other upload state key (Some (name.Upload id)) apart = get-other state.uploads id _ upload (λ same. apart (ap (λ (n : ℕ). Some (name.Upload n)) (sym same)))

stores-other : (upload : ℕ) (state : BucketState) (id number : ℕ) (bytes : List ℕ) (there : Option Staged) → upload ≢ id → upload_at (with_part state id number bytes there) upload ≡ upload_at state upload
stores-other upload state id number bytes None apart = refl
stores-other upload state id number bytes (Some staged) apart = get-other state.uploads id _ upload apart

completes-other : (upload : ℕ) (state : BucketState) (id : ℕ) (made : Option ObjectVersion) → upload ≢ id → upload_at (completed state id made) upload ≡ upload_at state upload
completes-other upload state id None apart = refl
completes-other upload state id (Some v) apart = get-left state.uploads id upload apart

puts : (upload : ℕ) (state : BucketState) (key bytes : List ℕ) (answer : Brief) (made : Option Name) → upload_at (after state (entry_of (Put key bytes) answer true made)) upload ≡ upload_at state upload
puts upload state key bytes answer None = refl
puts upload state key bytes answer (Some (name.Version etag)) = refl
puts upload state key bytes answer (Some (name.Upload id)) = refl

leaves-entry : (upload : ℕ) (state : BucketState) (called : Call) (answer : Brief) (took : Bool) (made : Option Name) → IsElsewhere upload called → made ≢ Some (name.Upload upload) → upload_at (after state (entry_of called answer took made)) upload ≡ upload_at state upload
leaves-entry upload state called answer false made elsewhere apart = refl
leaves-entry upload state (Head key) answer true made elsewhere apart = refl
leaves-entry upload state (Probe key) answer true made elsewhere apart = refl
leaves-entry upload state (call.List prefix after max) answer true made elsewhere apart = refl
leaves-entry upload state (Get key etag from to) answer true made elsewhere apart = refl
leaves-entry upload state (Delete key) answer true made elsewhere apart = refl
leaves-entry upload state (Put key bytes) answer true made elsewhere apart = puts upload state key bytes answer made
leaves-entry upload state (Create key) answer true made elsewhere apart = creates-other upload state key made apart
leaves-entry upload state (Part id number bytes) answer true made elsewhere apart = stores-other upload state id number bytes (upload_at state id) elsewhere
leaves-entry upload state (Complete id count) answer true made elsewhere apart = completes-other upload state id (version_completed made (whole_of count (upload_at state id))) elsewhere
leaves-entry upload state (Abort id) answer true made elsewhere apart = get-left state.uploads id upload elsewhere

pub leaves : (upload : ℕ) (state : BucketState) (logged : Logged) → IsElsewhere upload logged.entry.call → logged.made ≢ Some (name.Upload upload) → upload_at (after state logged) upload ≡ upload_at state upload
leaves upload state logged elsewhere apart = leaves-entry upload state logged.entry.call logged.entry.answer logged.entry.took logged.made elsewhere apart

-- an upload is there from when it was created

creates-entry : (upload : ℕ) (state : BucketState) (key : List ℕ) (answer : Brief) (made : Option Name) → made ≡ Some (name.Upload upload) → upload_at (after state (entry_of (Create key) answer true made)) upload ≡ Some (record { key = key; parts = map.empty })
creates-entry upload state key answer made makes = subst (λ (m : Option Name). upload_at (with_upload state key m) upload ≡ Some (record { key = key; parts = map.empty })) (sym makes) (get-same state.uploads upload _)

pub creates : (upload : ℕ) (state : BucketState) (key : List ℕ) (logged : Logged) → logged.entry.call ≡ Create key → logged.entry.took ≡ true → logged.made ≡ Some (name.Upload upload) → upload_at (after state logged) upload ≡ Some (record { key = key; parts = map.empty })
creates upload state key logged calls took makes =
    subst (λ (t : Bool). upload_at (after state (entry_of logged.entry.call logged.entry.answer t logged.made)) upload ≡ Some (record { key = key; parts = map.empty })) (sym took)
    (subst (λ (c : Call). upload_at (after state (entry_of c logged.entry.answer true logged.made)) upload ≡ Some (record { key = key; parts = map.empty })) (sym calls)
    (creates-entry upload state key logged.entry.answer logged.made makes))

-- a part is there, unless a fault kept it off

abbrev with_bytes : Staged → ℕ → List ℕ → Staged
with_bytes staged number bytes = record { key = staged.key; parts = map.insert staged.parts number bytes }

-- the upload that is there before and behind an entry that sends a part
pub data Stored (before : Staged) (number : ℕ) (bytes : List ℕ) (took : Bool) (behind : Option Staged) : Type 0 where
  IsThere : took ≡ true → behind ≡ Some (record { key = before.key; parts = map.insert before.parts number bytes }) → Stored before number bytes took behind
  IsLost : took ≡ false → behind ≡ Some before → Stored before number bytes took behind

stores-entry : (upload : ℕ) (state : BucketState) (number : ℕ) (bytes : List ℕ) (answer : Brief) (took : Bool) (made : Option Name) (staged : Staged) → upload_at state upload ≡ Some staged → Stored staged number bytes took (upload_at (after state (entry_of (Part upload number bytes) answer took made)) upload)
stores-entry upload state number bytes answer false made staged there = IsLost refl there
stores-entry upload state number bytes answer true made staged there =
    IsThere refl (subst (λ (o : Option Staged). upload_at (with_part state upload number bytes o) upload ≡ Some (with_bytes staged number bytes)) (sym there) (get-same state.uploads upload _))

pub stores : (upload : ℕ) (state : BucketState) (number : ℕ) (bytes : List ℕ) (logged : Logged) (staged : Staged) → logged.entry.call ≡ Part upload number bytes → upload_at state upload ≡ Some staged → Stored staged number bytes logged.entry.took (upload_at (after state logged) upload)
stores upload state number bytes logged staged calls there =
    subst (λ (c : Call). Stored staged number bytes logged.entry.took (upload_at (after state (entry_of c logged.entry.answer logged.entry.took logged.made)) upload)) (sym calls)
    (stores-entry upload state number bytes logged.entry.answer logged.entry.took logged.made staged there)
