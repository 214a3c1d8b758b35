-- The turn of a writer: what it asks for, what it drops, and whom it answers.
use Rattle.std.specs.Prelude.{ℕ, zero, suc, ◌==◌, List, [], ◌∷◌, Bool, true, false, if◌then◌else◌, Option, Some, None}
use Rattle.mp_types.specs.declared.errno.Errno.TheVariants.{Enomem}
use Rattle.bucket_model.specs.declared.call.Call.{Call}
use Rattle.bucket_model.specs.declared.call.Call.TheVariants as call
use Rattle.bucket_model.specs.declared.answer.Brief.{Brief}
use Rattle.bucket_model.specs.declared.answer.Brief.TheVariants as answer
use Rattle.upload_rules.specs.declared.upload.UpState.{UpState}
use Rattle.upload_rules.specs.declared.upload.UpState.TheVariants as state
use Rattle.upload_rules.specs.declared.upload.Created.{Created}
use Rattle.upload_rules.specs.declared.upload.Created.TheVariants as created
use Rattle.upload_rules.specs.declared.upload.UpAsk.{UpAsk}
use Rattle.upload_rules.specs.declared.upload.UpAsk.TheVariants.{Create, Part, Complete, Abort}
use Rattle.upload_rules.specs.Upload.{Upload, due, next_part, with_id, with_stored, completed, given_up, with_failure, fails_with, with_back, with_due}
use Rattle.mount_model.specs.declared.event.AskedCall.{AskedCall}
use Rattle.mount_model.specs.declared.event.AskedCall.TheVariants as asked
use Rattle.mount_model.specs.declared.event.Answered.{Answered}
use Rattle.mount_model.specs.declared.handle.Waiter.{Waiter}
use Rattle.mount_model.specs.declared.handle.Waiter.TheVariants as waiter
use Rattle.mount_model.specs.declared.request.Reply.TheVariants as reply
use Rattle.mount_model.specs.Conversation.{errno_of}

-- a call, and how the record tells it
pub record Asking : Type 0 where
  pub call : Call
  pub told : AskedCall

abbrev pub id_in : Created → ℕ
id_in (created.Known upload) = upload
id_in other = 0

-- an upload's ask as a call: a part carries its bytes, and the record tells which of all that were written these are
abbrev pub asking_for : List ℕ → Upload → UpAsk → Asking
asking_for key u Create = record { call = call.Create key; told = asked.Create key }
asking_for key u (Part number from to) = record { call = call.Part (id_in u.created) number (next_part u); told = asked.Part (id_in u.created) number from to }
asking_for key u (Complete parts) = record { call = call.Complete (id_in u.created) parts; told = asked.Complete (id_in u.created) parts }
asking_for key u Abort = record { call = call.Abort (id_in u.created); told = asked.Abort (id_in u.created) }

-- the upload behind so many asks
abbrev pub ask_times : ℕ → Upload → Upload
ask_times zero u = u
ask_times (suc more) u = ask_times more (with_due (due u) u)

abbrev pub with_asking : List ℕ → Upload → Option UpAsk → List Asking → List Asking
with_asking key u None more = []
with_asking key u (Some ask) more = asking_for key u ask ∷ more

-- the first asks that are due, one behind the other
abbrev pub first_asks : ℕ → List ℕ → Upload → List Asking
first_asks zero key u = []
first_asks (suc more) key u = with_asking key u (due u) (first_asks more key (with_due (due u) u))

-- what the answer to a writer's call changes
abbrev pub hears_answer : Call → Brief → Upload → Upload
hears_answer (call.Create key) (answer.Upload upload) u = with_id upload u
hears_answer (call.Part upload number bytes) answer.Stored u = with_stored u
hears_answer (call.Complete upload parts) (answer.Made etag) u = completed u
hears_answer (call.Abort upload) said u = given_up u
hears_answer called said u = with_failure (errno_of said) u

abbrev pub has_failed : Upload → Bool
has_failed u = by_state u.state
  where
    by_state : UpState → Bool
    by_state (state.Failed errno) = true
    by_state other = false

-- it takes bytes, or waits for its object
abbrev pub is_under_way : UpState → Bool
is_under_way state.Open = true
is_under_way state.Finished = true
is_under_way other = false

-- Where an ask is still due, there was no memory for it, and the writer has failed. An abort is passed over.
abbrev pub lacking : Option UpAsk → Upload → Upload
lacking None u = u
lacking (Some Abort) u = u
lacking (Some ask) u = fails_with Enomem u

abbrev pub settled : Upload → Upload
settled u = lacking (due u) u

-- so many of its jobs were dropped
abbrev pub back_times : ℕ → Upload → Upload
back_times zero u = u
back_times (suc more) u = back_times more (with_back u)

abbrev pub sync_answer : ℕ → UpState → List Answered
sync_answer line state.Done = record { line = line; reply = reply.Success } ∷ []
sync_answer line (state.Failed errno) = record { line = line; reply = reply.Failed errno } ∷ []
sync_answer line other = []

-- a close of a failed writer waits until its calls are back
abbrev pub close_answer : ℕ → ℕ → UpState → List Answered
close_answer line pending state.Done = record { line = line; reply = reply.Success } ∷ []
close_answer line pending (state.Failed errno) = if pending == 0 then record { line = line; reply = reply.Failed errno } ∷ [] else []
close_answer line pending other = []

-- the reply to the fsync or close that waits for the writer, once it can be told
abbrev pub answer_to : Waiter → Upload → List Answered
answer_to waiter.Nobody u = []
answer_to (waiter.Sync line) u = sync_answer line u.state
answer_to (waiter.Close line) u = close_answer line u.pending u.state
