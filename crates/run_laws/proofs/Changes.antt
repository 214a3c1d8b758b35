-- A relation between an upload and itself behind a change: what it takes to hold of all changes but asks.
use Rattle.std.proofs.Common.{◌≡◌, ◌≢◌, ℕ, zero, suc, Bool, List, [], Option, Some, None, refl}
use Rattle.mp_types.specs.declared.errno.Errno.{Errno}
use Rattle.mp_types.specs.declared.errno.Errno.TheVariants.{Enomem}
use Rattle.bucket_model.specs.declared.call.Call.{Call}
use Rattle.bucket_model.specs.declared.call.Call.TheVariants as call
use Rattle.bucket_model.specs.declared.answer.Brief.{Brief}
use Rattle.bucket_model.specs.declared.answer.Brief.TheVariants as answer
use Rattle.upload_rules.specs.declared.upload.UpState.{UpState}
use Rattle.upload_rules.specs.declared.upload.UpState.TheVariants.{Open, Finished, Done, Failed}
use Rattle.upload_rules.specs.declared.upload.Created.{Created}
use Rattle.upload_rules.specs.declared.upload.UpAsk.{UpAsk}
use Rattle.upload_rules.specs.declared.upload.UpAsk.TheVariants.{Create, Part, Complete, Abort}
use Rattle.upload_rules.specs.Upload.{Upload, finished, with_back, with_id, with_stored, completed, fails_with, with_failure, given_up}
use Rattle.upload_rules.proofs.Due.{upload}
use Rattle.mount_model.specs.Conversation.{errno_of, ended}
use Rattle.mount_model.specs.Writers.{hears_answer, lacking, back_times}

-- the first failure: what no part was asked for is let go
abbrev pub failed : Errno → Upload → Upload
failed errno u = upload u.part (Failed errno) u.created u.asked u.sent u.stored [] u.pending u.closing

module _ (R : Upload → Upload → Type 0) where
  -- a failure, which may be the first one
  pub fails-by : ((u : Upload) → R u u) → ((errno : Errno) (u : Upload) → R u (failed errno u)) → (errno : Errno) (u : Upload) → R u (fails_with errno u)
  fails-by same first errno u = by_state u.part u.state u.created u.asked u.sent u.stored u.rest u.pending u.closing
    where
      by_state : (part : ℕ) (state : UpState) (created : Created) (asked sent stored : ℕ) (rest : List ℕ) (pending : ℕ) (closing : Bool) → R (upload part state created asked sent stored rest pending closing) (fails_with errno (upload part state created asked sent stored rest pending closing))
      by_state part Open created asked sent stored rest pending closing = first errno (upload part Open created asked sent stored rest pending closing)
      by_state part Finished created asked sent stored rest pending closing = first errno (upload part Finished created asked sent stored rest pending closing)
      by_state part Done created asked sent stored rest pending closing = same (upload part Done created asked sent stored rest pending closing)
      by_state part (Failed errno) created asked sent stored rest pending closing = same (upload part (Failed errno) created asked sent stored rest pending closing)

  -- no more bytes come
  pub ended-by : ((u : Upload) → u.state ≢ Open → R u u) → ((u : Upload) → u.state ≡ Open → R u (finished u)) → (u : Upload) → R u (ended u)
  ended-by same finishes u = by_state u.part u.state u.created u.asked u.sent u.stored u.rest u.pending u.closing
    where
      by_state : (part : ℕ) (state : UpState) (created : Created) (asked sent stored : ℕ) (rest : List ℕ) (pending : ℕ) (closing : Bool) → R (upload part state created asked sent stored rest pending closing) (ended (upload part state created asked sent stored rest pending closing))
      by_state part Open created asked sent stored rest pending closing = finishes (upload part Open created asked sent stored rest pending closing) refl
      by_state part Finished created asked sent stored rest pending closing = same (upload part Finished created asked sent stored rest pending closing) (λ e. absurd (cc))
      by_state part Done created asked sent stored rest pending closing = same (upload part Done created asked sent stored rest pending closing) (λ e. absurd (cc))
      by_state part (Failed errno) created asked sent stored rest pending closing = same (upload part (Failed errno) created asked sent stored rest pending closing) (λ e. absurd (cc))

  -- an ask that finds no memory
  pub lacking-by : ((u : Upload) → R u u) → ((errno : Errno) (u : Upload) → R u (fails_with errno u)) → (u : Upload) (o : Option UpAsk) → R u (lacking o u)
  lacking-by same fails u None = same u
  lacking-by same fails u (Some Create) = fails Enomem u
  lacking-by same fails u (Some (Part number from to)) = fails Enomem u
  lacking-by same fails u (Some (Complete parts)) = fails Enomem u
  lacking-by same fails u (Some Abort) = same u

  -- jobs that are dropped
  pub backs-by : ((u : Upload) → R u u) → ((u v w : Upload) → R u v → R v w → R u w) → ((u : Upload) → R u (with_back u)) → (drops : ℕ) (u : Upload) → R u (back_times drops u)
  backs-by same then back zero u = same u
  backs-by same then back (suc drops) u = then u (with_back u) (back_times drops (with_back u)) (back u) (backs-by same then back drops (with_back u))

  -- the answer to a call
  pub hears-by : ((errno : Errno) (u : Upload) → R u (with_failure errno u)) → ((id : ℕ) (u : Upload) → R u (with_id id u)) → ((u : Upload) → R u (with_stored u)) → ((u : Upload) → R u (completed u)) → ((u : Upload) → R u (given_up u)) → (called : Call) (said : Brief) (u : Upload) → R u (hears_answer called said u)
  hears-by fails known stored made given (call.Create key) (answer.Upload id) u = known id u
  hears-by fails known stored made given (call.Create key) other u = fails (errno_of other) u
  hears-by fails known stored made given (call.Part id number bytes) answer.Stored u = stored u
  hears-by fails known stored made given (call.Part id number bytes) other u = fails (errno_of other) u
  hears-by fails known stored made given (call.Complete id parts) (answer.Made etag) u = made u
  hears-by fails known stored made given (call.Complete id parts) other u = fails (errno_of other) u
  hears-by fails known stored made given (call.Abort id) said u = given u
  hears-by fails known stored made given (call.Head key) said u = fails (errno_of said) u
  hears-by fails known stored made given (call.Probe key) said u = fails (errno_of said) u
  hears-by fails known stored made given (call.List prefix after max) said u = fails (errno_of said) u
  hears-by fails known stored made given (call.Get key etag from to) said u = fails (errno_of said) u
  hears-by fails known stored made given (call.Delete key) said u = fails (errno_of said) u
  hears-by fails known stored made given (call.Put key bytes) said u = fails (errno_of said) u
