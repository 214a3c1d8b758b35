-- What one call of a bucket in memory does to its log.
use Rattle.std.specs.Prelude.{◌≡◌, ℕ, ◌+◌, List, [], ◌∷◌, ◌++◌, length, nat_eq, nat_le, ◌&&◌, Bool, true, false, if◌then◌else◌, Option, Some, None, IsSome}
use Rattle.std.specs.BTreeMap as tree
use Rattle.std.specs.Cmp.Lexicographic.{slice_cmp, pointwise}
use Rattle.std.specs.Fmt.{decimal}
use Rattle.std.specs.List.{filter_map, starts_with, slice_range}
use Rattle.std.specs.Ordering.{nat_cmp}
use Rattle.bucket_model.specs.declared.call.Call.{Call}
use Rattle.bucket_model.specs.declared.answer.Answer.{Answer}
use Rattle.bucket_model.specs.declared.answer.Answer.TheVariants as answer
use Rattle.bucket_model.specs.declared.answer.Brief.{Brief}
use Rattle.bucket_model.specs.declared.answer.Brief.TheVariants.{Yes, No, Made, Upload, Fault, NoMemory}
use Rattle.bucket_model.specs.declared.history.Name.{Name}
use Rattle.bucket_model.specs.declared.history.Name.TheVariants as name
use Rattle.bucket_model.specs.declared.history.Logged.{Logged}
use Rattle.bucket_model.specs.declared.history.Object.{Object}
use Rattle.bucket_model.specs.Answers.{entry_after}
use Rattle.bucket_model.specs.Bucket.{IsAnswer}
use Rattle.bucket_model.specs.History.{History, replay, versions_of, IsLegalHistory}

-- `v` and the number
abbrev pub etag_of_version : ℕ → List ℕ
etag_of_version number = 118 ∷ decimal number

-- the entry of an answered call
abbrev pub entry_of : Call → Brief → Logged
entry_of asked answer = entry_after asked answer answer

-- what is told of a log
abbrev pub history_of : List Logged → History
history_of log = record { log = log; versions = versions_of log }

-- whether some key of the map begins so
abbrev pub Finds : tree.BTreeMap (List ℕ) Object → List ℕ → Bool → Type 0
Finds objects start true = (key : List ℕ) × IsSome (tree.get (slice_cmp nat_cmp) objects key) × (starts_with nat_eq key start ≡ true)
Finds objects start false = (key : List ℕ) → IsSome (tree.get (slice_cmp nat_cmp) objects key) → starts_with nat_eq key start ≡ true → ⊥

-- the answer of a probe that found such a key, or none
abbrev pub probe_of : Bool → Brief
probe_of true = Yes
probe_of false = No

-- the answer of a get of the object, with the bytes that it brings
abbrev pub answer_of_get : List ℕ → ℕ → ℕ → Option Object → Answer
answer_of_get etag from to None = answer.Missing
answer_of_get etag from to (Some object) = if pointwise nat_eq object.etag etag && nat_le to (length object.bytes) then answer.Bytes (slice_range object.bytes from to) else answer.Changed

-- the id in a name
abbrev pub upload_in : Option Name → Option ℕ
upload_in (Some (name.Upload upload)) = Some upload
upload_in other = None

-- the ids of all uploads made, in order
abbrev pub uploads_made : List Logged → List ℕ
uploads_made log = filter_map (λ logged. upload_in logged.made) log

-- the answer is one that the log before it has, and the entry is added
abbrev pub IsLogged : Call → List Logged → List Logged → Brief → Type 0
IsLogged asked old new answer = IsAnswer (replay old) asked answer × (new ≡ old ++ entry_of asked answer ∷ [])

-- want of memory leaves no entry, a fault never comes, and what is made has the next number
abbrev pub Serves : Call → List Logged → List Logged → Brief → Type 0
Serves asked old new NoMemory = new ≡ old
Serves asked old new Fault = ⊥
Serves asked old new (Made etag) = IsLogged asked old new (Made etag) × (etag ≡ etag_of_version (length (versions_of old) + 1))
Serves asked old new (Upload upload) = IsLogged asked old new (Upload upload) × (upload ≡ length (uploads_made old) + 1)
Serves asked old new other = IsLogged asked old new other

-- the call's answer is the one that the log before it has, and its entry stands at this place
pub record IsServed (asked : Call) (old new : List Logged) (place : ℕ) (answer : Brief) : Type 0 where
  pub at_end : place ≡ length old
  pub served : Serves asked old new answer
  pub legal : IsLegalHistory new
