-- Which objects writers make: each whole, of all the bytes that its writer accepted.
use Rattle.std.specs.Prelude.{◌≡◌, ℕ, ◌<◌, ◌≤◌, List, [], ◌∷◌, ◌++◌, take, Contains, slice_get, Bool, true, false, ◌&&◌, ◌==◌, if◌then◌else◌, Option, Some, None}
use Rattle.std.specs.List.{AllByRecursion}
use Rattle.mp_types.specs.declared.options.Opts.{Opts}
use Rattle.mp_types.specs.Content.{bytes_of}
use Rattle.bucket_model.specs.declared.call.Call.{Call}
use Rattle.bucket_model.specs.declared.call.Call.TheVariants as call
use Rattle.bucket_model.specs.declared.history.Logged.{Logged}
use Rattle.bucket_model.specs.Bucket.{version_made}
use Rattle.bucket_model.specs.History.{History, replay}
use Rattle.mount_model.specs.declared.handle.Handle.TheVariants.{Writing}
use Rattle.mount_model.specs.declared.request.Request.{Request}
use Rattle.mount_model.specs.declared.request.Request.TheVariants as request
use Rattle.mount_model.specs.declared.request.Reply.{Reply}
use Rattle.mount_model.specs.declared.request.Reply.TheVariants as reply
use Rattle.mount_model.specs.declared.request.Line.{Line}
use Rattle.mount_model.specs.declared.event.Event.{Event}
use Rattle.mount_model.specs.declared.event.Event.TheVariants.{Take}
use Rattle.mount_model.specs.Step.{Step}
use Rattle.mount_model.specs.Conversation.{Writes}
use Rattle.mount_model.specs.Handles.{Writer, handle_of}
use Rattle.mount_model.specs.Run.{is_among}
use Rattle.mount_model.specs.State.{ClientState, Turn, TurnOf, opening, after, state_after, turn_at, reply_in}

abbrev pub content_in : Request → List ℕ
content_in (request.Write name offset content) = bytes_of content
content_in other = []

abbrev pub is_wrote : Option Reply → Bool
is_wrote (Some (reply.Wrote length)) = true
is_wrote other = false

-- the bytes that the writer of the handle which this line opened accepts in a step
abbrev pub accepted_in : ℕ → Step → Turn → List ℕ
accepted_in opened step (TurnOf line owner (Writes count writer)) = if writer.line == opened && is_wrote (reply_in line.number step.replies) then content_in line.request else []
accepted_in opened step other = []

-- and in all these steps, in order
abbrev pub accepted_from : ℕ → ClientState → List Step → List ℕ
accepted_from opened state [] = []
accepted_from opened state (step ∷ steps) = accepted_in opened step (turn_at state step.event) ++ accepted_from opened (after state step) steps

abbrev pub accepted : ℕ → Opts → List Line → List Step → List ℕ
accepted opened options script steps = accepted_from opened (opening options script) steps

abbrev pub IsCompletion : Call → Type 0
IsCompletion (call.Complete upload parts) = Unit {0}
IsCompletion other = ⊥

-- at this position of the history an upload's object was made: this one
pub record IsMadeAt (log : List Logged) (position : ℕ) (key bytes : List ℕ) : Type 0 where
  pub logged : Logged
  pub stands : slice_get log position ≡ Some logged
  pub completes : IsCompletion logged.entry.call
  pub etag : List ℕ
  pub makes : version_made (replay (take position log)) logged ≡ Some (record { key = key; etag = etag; bytes = bytes })

-- the writer that line `opened` opened was live at some time, for this key
pub record HasStood (options : Opts) (script : List Line) (steps : List Step) (opened : ℕ) (key : List ℕ) : Type 0 where
  pub before : List Step
  pub later : List Step
  pub are : steps ≡ before ++ later
  pub line : Line
  pub writer : Writer
  pub holds : handle_of line (state_after options script before).shared.handles ≡ Some (Writing writer)
  pub of_key : writer.key ≡ key
  pub of_line : writer.line ≡ opened

-- some writer made it: it opened a file of this key, and these are all the bytes that it accepted
pub record IsOfWriter (options : Opts) (script : List Line) (steps : List Step) (key bytes : List ℕ) : Type 0 where
  pub opened : ℕ
  pub stood : HasStood options script steps opened key
  pub of_bytes : accepted opened options script steps ≡ bytes

-- each call of these steps is made behind this position
abbrev pub IsTakenBehind : ℕ → Event → Type 0
IsTakenBehind position (Take job time from) = position < from
IsTakenBehind position other = Unit {0}

-- an fsync or a close was answered ok in this step: the object stands in the history, before all calls that are made later
pub record IsThere (options : Opts) (script : List Line) (log : List Logged) (before later : List Step) (step : Step) (writer : Writer) : Type 0 where
  pub position : ℕ
  pub made : IsMadeAt log position writer.key (accepted writer.line options script (before ++ step ∷ []))
  pub behind : AllByRecursion (λ (s : Step). IsTakenBehind position s.event) later

-- What was written appears whole or not at all, also where the answer was lost, and is there once close or fsync has
-- succeeded. An object that a call of the record made is its writer's, whatever others write beside it.
pub record AreWritten (options : Opts) (script : List Line) (log : List Logged) (steps : List Step) : Type 0 where
  pub whole : (position : ℕ) (key bytes : List ℕ) → is_among position (state_after options script steps).positions ≡ true
      → IsMadeAt log position key bytes → IsOfWriter options script steps key bytes
  pub there : (before later : List Step) (step : Step) (line : Line) (writer : Writer) → steps ≡ before ++ step ∷ later
      → Contains script line → reply_in line.number step.replies ≡ Some reply.Success
      → handle_of line (state_after options script before).shared.handles ≡ Some (Writing writer)
      → IsThere options script log before later step writer

-- as far as the store tells its history
abbrev pub WrittenOver : Option History → Opts → List Line → List Step → Type 0
WrittenOver None options script steps = Unit {0}
WrittenOver (Some told) options script steps = AreWritten options script told.log steps
