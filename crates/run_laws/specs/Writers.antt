-- The writers of the live handles: who opened them, who waits for them, and which jobs are theirs.
use Rattle.std.specs.Prelude.{◌≡◌, ◌≢◌, ℕ, ◌+◌, ◌<◌, ◌≤◌, List, [], ◌∷◌, length, Bool, true, false, Option, Some, None}
use Rattle.mp_types.specs.HandleName.{HandleName}
use Rattle.upload_rules.specs.declared.upload.UpState.TheVariants.{Open}
use Rattle.mount_model.specs.declared.handle.Handle.TheVariants.{Writing}
use Rattle.mount_model.specs.declared.handle.Waiter.{Waiter}
use Rattle.mount_model.specs.declared.handle.Waiter.TheVariants as waiter
use Rattle.mount_model.specs.declared.request.Request.{Request}
use Rattle.mount_model.specs.declared.request.Request.TheVariants.{OpenWrite, OpenTruncate, Sync, Close}
use Rattle.mount_model.specs.declared.request.Line.{Line}
use Rattle.mount_model.specs.declared.standing.Heard.{Heard}
use Rattle.mount_model.specs.declared.standing.Phase.TheVariants.{Begun, Replied}
use Rattle.mount_model.specs.declared.standing.Standing.{Standing}
use Rattle.mount_model.specs.Handles.{Handle, Writer}
use Rattle.mount_model.specs.Writers.{has_failed}
use Rattle.mount_model.specs.State.{Job, line_at, handle_name}
use Rattle.run_laws.specs.Counts.{any_call, is_create, is_part, is_complete, is_abort, is_no_abort, calls_made, calls_out, calls_ready, parts_made}
use Rattle.run_laws.specs.Uploads.{IsUpload, Tally, IsTallied}

-- the calls of a writer, by the line that opened it
abbrev pub tally : ℕ → List Job → Tally
tally opened jobs = record {
  creates = calls_made is_create opened jobs;
  parts = calls_made is_part opened jobs;
  completes = calls_made is_complete opened jobs;
  aborts = calls_made is_abort opened jobs;
  creates_out = calls_out is_create opened jobs;
  parts_out = calls_out is_part opened jobs;
  completes_out = calls_out is_complete opened jobs;
  aborts_out = calls_out is_abort opened jobs;
}

abbrev pub opens_file : Request → Bool
opens_file (OpenWrite name path) = true
opens_file (OpenTruncate name path) = true
opens_file other = false

-- an fsync or a close, which may have to wait for a writer
abbrev pub awaits_writer : Request → Bool
awaits_writer (Sync name) = true
awaits_writer (Close name) = true
awaits_writer other = false

abbrev pub waiting_line : Waiter → Option ℕ
waiting_line waiter.Nobody = None
waiting_line (waiter.Sync line) = Some line
waiting_line (waiter.Close line) = Some line

abbrev pub is_close : Waiter → Bool
is_close (waiter.Close line) = true
is_close other = false

-- the line of this number stands begun, an fsync or a close of the handle of this name
pub record IsWaiting (lines : List Standing) (name : HandleName) (number : ℕ) : Type 0 where
  pub line : Line
  pub heard : Heard
  pub stands : line_at number lines ≡ Some (record { line = line; phase = Begun heard })
  pub named : handle_name line ≡ name
  pub awaits : awaits_writer line.request ≡ true

-- the writer that stands under a name: the line that opened it has its reply, who waits for it stands begun, and its
-- upload has asked for just its jobs
pub record IsWriter (lines : List Standing) (jobs : List Job) (name : HandleName) (w : Writer) : Type 0 where
  pub opener : Line
  pub stands : line_at w.line lines ≡ Some (record { line = opener; phase = Replied })
  pub opens : opens_file opener.request ≡ true
  pub named : handle_name opener ≡ name
  pub waits : (number : ℕ) → waiting_line w.waiter ≡ Some number → IsWaiting lines name number
  pub ended : (number : ℕ) → waiting_line w.waiter ≡ Some number → w.upload.state ≢ Open
  pub closing : w.upload.closing ≡ is_close w.waiter
  pub pending : w.upload.pending ≡ calls_out any_call w.line jobs
  pub upload : IsUpload w.upload
  pub tallied : IsTallied w.upload (tally w.line jobs)

-- the line's writer is live
pub record HasWriter (handle_at : HandleName → Option Handle) (opened : ℕ) : Type 0 where
  pub name : HandleName
  pub writer : Writer
  pub stands : handle_at name ≡ Some (Writing writer)
  pub opened_by : writer.line ≡ opened

-- the line of this number has its reply
pub record HasReply (lines : List Standing) (number : ℕ) : Type 0 where
  pub line : Line
  pub stands : line_at number lines ≡ Some (record { line = line; phase = Replied })

-- the line of this number waits for the writer of the handle that it names
pub record WaitsForWriter (handle_at : HandleName → Option Handle) (number : ℕ) (line : Line) : Type 0 where
  pub writer : Writer
  pub stands : handle_at (handle_name line) ≡ Some (Writing writer)
  pub waits : waiting_line writer.waiter ≡ Some number

abbrev pub CountsFrom : ℕ → List ℕ → Type 0
CountsFrom number [] = Unit {0}
CountsFrom number (n ∷ more) = (n ≡ number) × CountsFrom (number + 1) more

-- a writer has asked at most once for its upload, for its object and for its end; its parts are numbered from 1 on
pub record AsksOnce (opened : ℕ) (jobs : List Job) : Type 0 where
  pub creates : calls_made is_create opened jobs ≤ 1
  pub completes : calls_made is_complete opened jobs ≤ 1
  pub aborts : calls_made is_abort opened jobs ≤ 1
  pub parts : CountsFrom 1 (parts_made opened jobs)
  pub all : calls_made any_call opened jobs ≡ calls_made is_create opened jobs + length (parts_made opened jobs) + calls_made is_complete opened jobs + calls_made is_abort opened jobs

-- Each writer that stands under a name is as it has to be. A job that is ready or out has its writer, and each
-- job's writer was opened by a line that has its reply. An fsync or a close that stands begun waits for its writer.
pub record HasWriters (lines : List Standing) (jobs : List Job) (handle_at : HandleName → Option Handle) : Type 0 where
  pub each : (name : HandleName) (w : Writer) → handle_at name ≡ Some (Writing w) → IsWriter lines jobs name w
  pub owned : (opened : ℕ) → 1 ≤ calls_out any_call opened jobs → HasWriter handle_at opened
  pub opened : (opened : ℕ) → 1 ≤ calls_made any_call opened jobs → HasReply lines opened
  pub once : (opened : ℕ) → AsksOnce opened jobs
  pub waited : (number : ℕ) (line : Line) (heard : Heard) → line_at number lines ≡ Some (record { line = line; phase = Begun heard }) → awaits_writer line.request ≡ true → WaitsForWriter handle_at number line

-- where somebody waits for a writer, some call of it isn't back; where it has failed, none of its jobs is ready but an abort
pub record IsAtWork (jobs : List Job) (w : Writer) : Type 0 where
  pub busy : (number : ℕ) → waiting_line w.waiter ≡ Some number → 0 < w.upload.pending
  pub idle : has_failed w.upload ≡ true → calls_ready is_no_abort w.line jobs ≡ 0

-- so is each writer between two steps
abbrev pub AreAtWork : List Job → (HandleName → Option Handle) → Type 0
AreAtWork jobs handle_at = (name : HandleName) (w : Writer) → handle_at name ≡ Some (Writing w) → IsAtWork jobs w
