-- What was read over some versions is read so over more.
use Rattle.std.proofs.Common.{◌≡◌, ℕ, List, [], ◌∷◌, ◌++◌, find, Option, Some, None, option_map, slice_range, refl}
use Rattle.mp_types.specs.declared.options.Opts.{Opts}
use Rattle.std.specs.List.{AllByRecursion}
use Rattle.std.proofs.lemmas.List.Folds.{find-append}
use Rattle.bucket_model.specs.declared.call.Call.{Call}
use Rattle.bucket_model.specs.declared.call.Call.TheVariants as call
use Rattle.bucket_model.specs.declared.answer.Answer.{Answer}
use Rattle.bucket_model.specs.declared.answer.Answer.TheVariants as answer
use Rattle.bucket_model.specs.Along.{Along}
use Rattle.bucket_model.specs.Bucket.{ObjectVersion, IsSlice, is_version, slice_at}
use Rattle.mount_model.specs.declared.handle.Handle.TheVariants.{Reading, Writing}
use Rattle.mount_model.specs.declared.handle.Version.{Version}
use Rattle.mount_model.specs.declared.request.Request.{Request}
use Rattle.mount_model.specs.declared.request.Request.TheVariants as request
use Rattle.mount_model.specs.declared.request.Reply.{Reply}
use Rattle.mount_model.specs.declared.request.Reply.TheVariants as reply
use Rattle.mount_model.specs.declared.request.Line.{Line}
use Rattle.mount_model.specs.declared.event.Answered.{Answered}
use Rattle.mount_model.specs.declared.standing.Standing.{Standing}
use Rattle.mount_model.specs.Step.{Step}
use Rattle.mount_model.specs.Conversation.{Range, range_in}
use Rattle.mount_model.specs.Handles.{Handle, Handles, handle_of}
use Rattle.mount_model.specs.State.{ClientState, opening, after, line_at}
use Rattle.mount_model.specs.Reads.{AreReads, IsDataAt, IsDataFor, IsRangeOf, IsReadOf, IsReadReply}
use Rattle.run_laws.proofs.Keyed.{all-more}

-- what is fine of each item, where what is fine grows
pub Along-more : {S E : Type 0} (Fine More : S → E → Type 0) (next : S → E → S) → ((state : S) (item : E) → Fine state item → More state item) → (state : S) (items : List E) → Along Fine next state items → Along More next state items
Along-more Fine More next grows state [] run = tt
Along-more Fine More next grows state (item ∷ items) run = (grows state item run.0, Along-more Fine More next grows (next state item) items run.1)

module _ (versions more : List ObjectVersion) where
  slice_at-more : (key etag : List ℕ) (from to : ℕ) (bytes : List ℕ) → slice_at versions key etag from to ≡ Some bytes → slice_at (versions ++ more) key etag from to ≡ Some bytes
  slice_at-more key etag from to bytes is = by_find (find (is_version key etag) versions) refl is
    where
      by_find : (o : Option ObjectVersion) → find (is_version key etag) versions ≡ o → option_map (λ bytes. slice_range bytes from to) (option_map (λ (v : ObjectVersion). v.bytes) o) ≡ Some bytes → slice_at (versions ++ more) key etag from to ≡ Some bytes
      by_find None found is = absurd (cc)
      by_find (Some v) found is = rw (find-append, found) is

  -- bytes that an answer brings
  pub IsSlice-more : (called : Call) (said : Answer) → IsSlice versions called said → IsSlice (versions ++ more) called said
  IsSlice-more (call.Get key etag from to) (answer.Bytes bytes) is = slice_at-more key etag from to bytes is
  IsSlice-more (call.Get key etag from to) (answer.Found found size) is = tt
  IsSlice-more (call.Get key etag from to) answer.Missing is = tt
  IsSlice-more (call.Get key etag from to) answer.Yes is = tt
  IsSlice-more (call.Get key etag from to) answer.No is = tt
  IsSlice-more (call.Get key etag from to) (answer.Page page) is = tt
  IsSlice-more (call.Get key etag from to) answer.Changed is = tt
  IsSlice-more (call.Get key etag from to) answer.Gone is = tt
  IsSlice-more (call.Get key etag from to) (answer.Made made) is = tt
  IsSlice-more (call.Get key etag from to) (answer.Upload upload) is = tt
  IsSlice-more (call.Get key etag from to) answer.Stored is = tt
  IsSlice-more (call.Get key etag from to) answer.NoUpload is = tt
  IsSlice-more (call.Get key etag from to) answer.Fault is = tt
  IsSlice-more (call.Get key etag from to) answer.NoMemory is = tt
  IsSlice-more (call.Head key) said is = tt
  IsSlice-more (call.Probe key) said is = tt
  IsSlice-more (call.List prefix after max) said is = tt
  IsSlice-more (call.Delete key) said is = tt
  IsSlice-more (call.Put key bytes) said is = tt
  IsSlice-more (call.Create key) said is = tt
  IsSlice-more (call.Part upload number bytes) said is = tt
  IsSlice-more (call.Complete upload parts) said is = tt
  IsSlice-more (call.Abort upload) said is = tt

  -- bytes that a read gives

  range-more : (version : Version) (range : Option Range) (bytes : List ℕ) → IsRangeOf versions version range bytes → IsRangeOf (versions ++ more) version range bytes
  range-more version None bytes is = is
  range-more version (Some range) bytes is = slice_at-more version.key version.etag range.from range.to bytes is

  read-more : (handle : Option Handle) (offset count : ℕ) (bytes : List ℕ) → IsReadOf versions handle offset count bytes → IsReadOf (versions ++ more) handle offset count bytes
  read-more None offset count bytes is = is
  read-more (Some (Reading line version)) offset count bytes is = range-more version (range_in offset count version.size) bytes is
  read-more (Some (Writing writer)) offset count bytes is = is

  data-more : (request : Request) (handle : Option Handle) (bytes : List ℕ) → IsDataFor versions request handle bytes → IsDataFor (versions ++ more) request handle bytes
  data-more (request.Read name offset count) handle bytes is = read-more handle offset count bytes is
  data-more (request.Put key content) handle bytes is = is
  data-more request.Await handle bytes is = is
  data-more (request.Stat path) handle bytes is = is
  data-more (request.OpenRead name path) handle bytes is = is
  data-more (request.Close name) handle bytes is = is
  data-more (request.Delete key) handle bytes is = is
  data-more (request.MakeDir path) handle bytes is = is
  data-more (request.RemoveDir path) handle bytes is = is
  data-more (request.List path) handle bytes is = is
  data-more (request.Unlink path) handle bytes is = is
  data-more (request.OpenWrite name path) handle bytes is = is
  data-more (request.OpenTruncate name path) handle bytes is = is
  data-more (request.Write name offset content) handle bytes is = is
  data-more (request.Sync name) handle bytes is = is

  data_at-more : (handles : Handles) (o : Option Standing) (bytes : List ℕ) → IsDataAt versions handles o bytes → IsDataAt (versions ++ more) handles o bytes
  data_at-more handles None bytes is = is
  data_at-more handles (Some s) bytes is = data-more s.line.request (handle_of s.line handles) bytes is

  reply-more : (state : ClientState) (answered : Answered) → IsReadReply versions state answered → IsReadReply (versions ++ more) state answered
  reply-more state answered is = by_reply answered.line answered.reply is
    where
      by_reply : (line : ℕ) (said : Reply) → IsReadReply versions state (record { line = line; reply = said }) → IsReadReply (versions ++ more) state (record { line = line; reply = said })
      by_reply line (reply.Data bytes) is = data_at-more state.shared.handles (line_at line state.lines) bytes is
      by_reply line (reply.Made etag) is = tt
      by_reply line reply.Success is = tt
      by_reply line reply.Directory is = tt
      by_reply line (reply.File size) is = tt
      by_reply line (reply.Open size) is = tt
      by_reply line reply.Gone is = tt
      by_reply line (reply.Failed errno) is = tt
      by_reply line (reply.Listed entries) is = tt
      by_reply line (reply.Writing size) is = tt
      by_reply line (reply.Wrote length) is = tt

  pub AreReads-more : (options : Opts) (script : List Line) (steps : List Step) → AreReads versions options script steps → AreReads (versions ++ more) options script steps
  AreReads-more options script steps reads =
      Along-more (λ state (step : Step). AllByRecursion (IsReadReply versions state) step.replies) (λ state (step : Step). AllByRecursion (IsReadReply (versions ++ more) state) step.replies) after (λ state step all. all-more (IsReadReply versions state) (IsReadReply (versions ++ more) state) (reply-more state) step.replies all) (opening options script) steps reads
