-- Which bytes a read gives: those of the version that its handle opened.
use Rattle.std.specs.Prelude.{◌≡◌, ℕ, List, [], Option, Some, None}
use Rattle.std.specs.List.{AllByRecursion}
use Rattle.mp_types.specs.declared.options.Opts.{Opts}
use Rattle.bucket_model.specs.Along.{Along}
use Rattle.bucket_model.specs.Bucket.{ObjectVersion, slice_at}
use Rattle.bucket_model.specs.History.{History}
use Rattle.mount_model.specs.declared.handle.Handle.TheVariants.{Reading}
use Rattle.mount_model.specs.declared.handle.Version.{Version}
use Rattle.mount_model.specs.declared.request.Request.{Request}
use Rattle.mount_model.specs.declared.request.Request.TheVariants as request
use Rattle.mount_model.specs.declared.request.Reply.{Reply}
use Rattle.mount_model.specs.declared.request.Reply.TheVariants as reply
use Rattle.mount_model.specs.declared.request.Line.{Line}
use Rattle.mount_model.specs.declared.event.Answered.{Answered}
use Rattle.mount_model.specs.declared.standing.Standing.{Standing}
use Rattle.mount_model.specs.Step.{Step}
use Rattle.mount_model.specs.Conversation.{Range, range_in}
use Rattle.mount_model.specs.Handles.{Handle, Handles, handle_of}
use Rattle.mount_model.specs.State.{ClientState, opening, after, line_at}

-- the bytes of this range of this version; no range has no bytes
abbrev pub IsRangeOf : List ObjectVersion → Version → Option Range → List ℕ → Type 0
IsRangeOf versions version None bytes = bytes ≡ []
IsRangeOf versions version (Some range) bytes = slice_at versions version.key version.etag range.from range.to ≡ Some bytes

-- what a read of a handle gives: the part of the version that stands in the range that it asks for
abbrev pub IsReadOf : List ObjectVersion → Option Handle → ℕ → ℕ → List ℕ → Type 0
IsReadOf versions (Some (Reading line version)) offset count bytes = IsRangeOf versions version (range_in offset count version.size) bytes
IsReadOf versions other offset count bytes = ⊥

-- data answer a read, and nothing else
abbrev pub IsDataFor : List ObjectVersion → Request → Option Handle → List ℕ → Type 0
IsDataFor versions (request.Read name offset count) handle bytes = IsReadOf versions handle offset count bytes
IsDataFor versions other handle bytes = ⊥

abbrev pub IsDataAt : List ObjectVersion → Handles → Option Standing → List ℕ → Type 0
IsDataAt versions handles None bytes = ⊥
IsDataAt versions handles (Some s) bytes = IsDataFor versions s.line.request (handle_of s.line handles) bytes

-- a reply with data, over the versions, where these handles are live
abbrev pub IsReadReply : List ObjectVersion → ClientState → Answered → Type 0
IsReadReply versions state answered = by_reply answered.reply
  where
    by_reply : Reply → Type 0
    by_reply (reply.Data bytes) = IsDataAt versions state.shared.handles (line_at answered.line state.lines) bytes
    by_reply other = Unit {0}

-- the data that replies give are these bytes
abbrev pub GivesOnly : List ℕ → Answered → Type 0
GivesOnly bytes answered = by_reply answered.reply
  where
    by_reply : Reply → Type 0
    by_reply (reply.Data given) = given ≡ bytes
    by_reply other = Unit {0}

-- each read in these steps gives bytes of the version that its handle opened
abbrev pub AreReads : List ObjectVersion → Opts → List Line → List Step → Type 0
AreReads versions options script steps = Along (λ state (step : Step). AllByRecursion (IsReadReply versions state) step.replies) after (opening options script) steps

-- as far as the store tells its versions
abbrev pub ReadsOver : Option History → Opts → List Line → List Step → Type 0
ReadsOver None options script steps = Unit {0}
ReadsOver (Some told) options script steps = AreReads told.versions options script steps
