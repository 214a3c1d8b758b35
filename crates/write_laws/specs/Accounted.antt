-- What the jobs of a run have to do with the bucket's history and with the bytes that were written.
use Rattle.std.specs.Prelude.{◌≡◌, ℕ, ◌+◌, ◌<◌, ◌≤◌, List, [], ◌∷◌, ◌++◌, length, slice_get, true, false, if◌then◌else◌, Option, Some, None, ◌⊎◌}
use Rattle.std.specs.FinMap as table
use Rattle.mp_types.specs.declared.options.Opts.{Opts}
use Rattle.mp_types.specs.HandleName.{HandleName}
use Rattle.bucket_model.specs.declared.call.Call.{Call}
use Rattle.bucket_model.specs.declared.call.Call.TheVariants as call
use Rattle.bucket_model.specs.declared.answer.Brief.TheVariants as answer
use Rattle.bucket_model.specs.declared.history.Logged.{Logged}
use Rattle.bucket_model.specs.Answers.{is_counted, upload_in}
use Rattle.bucket_model.specs.History.{HasEntry}
use Rattle.upload_history.specs.Entries.{IsCreatedAt, IsNumbered}
use Rattle.upload_rules.specs.declared.upload.UpState.TheVariants as state
use Rattle.upload_rules.specs.declared.upload.Created.{Created}
use Rattle.upload_rules.specs.declared.upload.Created.TheVariants.{Known, GivenUp}
use Rattle.upload_rules.specs.Upload.{Upload}
use Rattle.upload_rules.specs.Run.{joined}
use Rattle.mount_model.specs.declared.handle.Handle.TheVariants.{Writing}
use Rattle.mount_model.specs.declared.request.Line.{Line}
use Rattle.mount_model.specs.declared.event.Event.{Event}
use Rattle.mount_model.specs.declared.event.Event.TheVariants.{Done}
use Rattle.mount_model.specs.declared.event.Owner.TheVariants as owner
use Rattle.mount_model.specs.Step.{Step}
use Rattle.mount_model.specs.Handles.{Writer}
use Rattle.mount_model.specs.Writers.{has_failed}
use Rattle.mount_model.specs.State.{ClientState, Job, JobPhase, Out, Gone, job_at}
use Rattle.mount_model.specs.Run.{is_among}
use Rattle.mount_model.specs.Written.{accepted}
use Rattle.run_laws.specs.Writers.{HasReply}

-- the answer to a job stands at this position of the history
pub record Place : Type 0 where
  pub job : ℕ
  pub position : ℕ

abbrev pub StandsAt : ℕ → ℕ → List Place → Type 0
StandsAt job position [] = ⊥
StandsAt job position (place ∷ places) = ((place.job ≡ job) × (place.position ≡ position)) ⊎ StandsAt job position places

-- the places of the answers so far, the last one first
abbrev pub with_place : List Place → Event → List Place
with_place places (Done job position answer) = if is_counted answer then record { job = job; position = position } ∷ places else places
with_place places other = places

-- a job is behind a position: it was taken behind it, and so was answered behind it
pub record IsBehind (places : List Place) (position number : ℕ) (phase : JobPhase) : Type 0 where
  pub out : (from : ℕ) → phase ≡ Out from → position < from
  pub done : (place : ℕ) → StandsAt number place places → position < place

-- the entry of an answer makes the job's call, and the job is gone
pub record IsAnswered (log : List Logged) (start number position : ℕ) (jobs : List Job) : Type 0 where
  pub job : Job
  pub stands : job_at number jobs ≡ Some job
  pub gone : job.phase ≡ Gone
  pub late : start ≤ position
  pub logged : Logged
  pub entry : slice_get log position ≡ Some logged
  pub calls : logged.entry.call ≡ job.call

-- a job of the line's writer created the upload, and was told so
pub record HasCreated (log : List Logged) (places : List Place) (jobs : List Job) (opened upload : ℕ) (key : List ℕ) : Type 0 where
  pub number : ℕ
  pub job : Job
  pub stands : job_at number jobs ≡ Some job
  pub owned : job.owner ≡ owner.Writer opened
  pub position : ℕ
  pub place : StandsAt number position places
  pub creates : IsCreatedAt log position upload key
  pub told : HasEntry log position (call.Create key) (answer.Upload upload)

-- a job that names an upload is of the writer that created it, and behind that
pub record IsOfUpload (log : List Logged) (places : List Place) (jobs : List Job) (upload number : ℕ) (job : Job) : Type 0 where
  pub opened : ℕ
  pub owned : job.owner ≡ owner.Writer opened
  pub key : List ℕ
  pub created : HasCreated log places jobs opened upload key
  pub behind : IsBehind places created.position number job.phase

-- a part was stored behind the upload's creation, and this job is behind that
pub record IsStoredBefore (log : List Logged) (places : List Place) (upload first number : ℕ) (bytes : List ℕ) (last : ℕ) (phase : JobPhase) : Type 0 where
  pub other : ℕ
  pub position : ℕ
  pub place : StandsAt other position places
  pub behind_first : first < position
  pub entry : HasEntry log position (call.Part upload number bytes) answer.Stored
  pub before_last : IsBehind places position last phase

-- a job that completes an upload: the parts are all bytes that the writer accepted, and each was stored before
pub record IsWholeJob (log : List Logged) (stood : ℕ → List ℕ → Type 0) (taken : ℕ → List ℕ) (places : List Place) (jobs : List Job) (upload count number : ℕ) (job : Job) : Type 0 where
  pub opened : ℕ
  pub owned : job.owner ≡ owner.Writer opened
  pub key : List ℕ
  pub stands : stood opened key
  pub created : HasCreated log places jobs opened upload key
  pub parts : List (List ℕ)
  pub bytes : joined parts ≡ taken opened
  pub count_is : count ≡ length parts
  pub each : (index : ℕ) (some : List ℕ) → slice_get parts index ≡ Some some → IsStoredBefore log places upload created.position (index + 1) some number job.phase
  pub only : (at : ℕ) (other : Job) (named which : ℕ) (some : List ℕ) → job_at at jobs ≡ Some other → other.owner ≡ owner.Writer opened → other.call ≡ call.Part named which some → IsNumbered parts which some

-- What holds of all jobs. Each answer has one job, and each job one answer. An abort is behind a completion of its writer.
pub record AreAccounted (log : List Logged) (start : ℕ) (stood : ℕ → List ℕ → Type 0) (taken : ℕ → List ℕ) (places : List Place) (jobs : List Job) : Type 0 where
  pub answered : (number position : ℕ) → StandsAt number position places → IsAnswered log start number position jobs
  pub one_place : (number position other : ℕ) → StandsAt number position places → StandsAt number other places → position ≡ other
  pub one_job : (number other position : ℕ) → StandsAt number position places → StandsAt other position places → number ≡ other
  pub out : (number : ℕ) (job : Job) (from : ℕ) → job_at number jobs ≡ Some job → job.phase ≡ Out from → start ≤ from
  pub uploads : (number : ℕ) (job : Job) (upload : ℕ) → job_at number jobs ≡ Some job → upload_in job.call ≡ Some upload → IsOfUpload log places jobs upload number job
  pub whole : (number : ℕ) (job : Job) (upload count : ℕ) → job_at number jobs ≡ Some job → job.call ≡ call.Complete upload count → IsWholeJob log stood taken places jobs upload count number job
  pub aborts : (number : ℕ) (job : Job) (at : ℕ) (other : Job) (opened upload named count : ℕ) → job_at number jobs ≡ Some job → job.owner ≡ owner.Writer opened → job.call ≡ call.Abort upload → job_at at jobs ≡ Some other → other.owner ≡ owner.Writer opened → other.call ≡ call.Complete named count → (other.phase ≡ Gone) × ((position : ℕ) → StandsAt at position places → IsBehind places position number job.phase)

-- the job of a part, and where it is gone the part is stored
pub record HasPart (log : List Logged) (places : List Place) (jobs : List Job) (opened number : ℕ) (bytes : List ℕ) : Type 0 where
  pub at : ℕ
  pub job : Job
  pub stands : job_at at jobs ≡ Some job
  pub owned : job.owner ≡ owner.Writer opened
  pub upload : ℕ
  pub calls : job.call ≡ call.Part upload number bytes
  pub stored : job.phase ≡ Gone → (position : ℕ) × StandsAt at position places × HasEntry log position (call.Part upload number bytes) answer.Stored

-- the object was made, as it was told
pub record HasMade (log : List Logged) (places : List Place) (jobs : List Job) (opened : ℕ) (key : List ℕ) : Type 0 where
  pub at : ℕ
  pub job : Job
  pub stands : job_at at jobs ≡ Some job
  pub owned : job.owner ≡ owner.Writer opened
  pub upload : ℕ
  pub count : ℕ
  pub calls : job.call ≡ call.Complete upload count
  pub created : HasCreated log places jobs opened upload key
  pub position : ℕ
  pub place : StandsAt at position places
  pub etag : List ℕ
  pub entry : HasEntry log position (call.Complete upload count) (answer.Made etag)

-- the jobs of one writer: its parts, its upload, and its key
pub record AreOfWriter (log : List Logged) (places : List Place) (jobs : List Job) (opened : ℕ) (key : List ℕ) (parts : List (List ℕ)) (by : Created) : Type 0 where
  pub numbered : (at : ℕ) (job : Job) (named which : ℕ) (some : List ℕ) → job_at at jobs ≡ Some job → job.owner ≡ owner.Writer opened → job.call ≡ call.Part named which some → IsNumbered parts which some
  pub known : (upload : ℕ) → by ≡ Known upload → HasCreated log places jobs opened upload key
  pub named : (at : ℕ) (job : Job) (upload : ℕ) → job_at at jobs ≡ Some job → job.owner ≡ owner.Writer opened → upload_in job.call ≡ Some upload → (by ≡ Known upload) ⊎ (by ≡ GivenUp)
  pub keys : (at : ℕ) (job : Job) (other : List ℕ) → job_at at jobs ≡ Some job → job.owner ≡ owner.Writer opened → job.call ≡ call.Create other → other ≡ key

-- The writer of this line: while it hasn't failed, its parts and what is left behind them are all bytes that it accepted.
pub record IsFilled (log : List Logged) (places : List Place) (jobs : List Job) (opened : ℕ) (key taken : List ℕ) (u : Upload) : Type 0 where
  pub parts : List (List ℕ)
  pub count : length parts ≡ u.asked
  pub bytes : has_failed u ≡ false → joined parts ++ u.rest ≡ taken
  pub jobs_are : AreOfWriter log places jobs opened key parts u.created
  pub found : has_failed u ≡ false → (index : ℕ) (some : List ℕ) → slice_get parts index ≡ Some some → HasPart log places jobs opened (index + 1) some
  pub made : u.state ≡ state.Done → HasMade log places jobs opened key

-- What holds of a state, where these writers have stood and their bytes were taken.
pub record IsAccounted (log : List Logged) (start : ℕ) (stood : ℕ → List ℕ → Type 0) (taken : ℕ → List ℕ) (places : List Place) (now : ClientState) : Type 0 where
  pub jobs : AreAccounted log start stood taken places now.jobs
  pub placed : (position : ℕ) → is_among position now.positions ≡ true → (number : ℕ) × StandsAt number position places
  pub seen : (number position : ℕ) → StandsAt number position places → is_among position now.positions ≡ true
  pub fresh : (number : ℕ) → (taken number ≡ []) ⊎ HasReply now.lines number
  pub writers : (name : HandleName) (writer : Writer) → table.get now.shared.handles name ≡ Some (Writing writer) → IsFilled log places now.jobs writer.line writer.key (taken writer.line) writer.upload

abbrev pub taken_in : Opts → List Line → List Step → ℕ → List ℕ
taken_in options script steps opened = accepted opened options script steps
