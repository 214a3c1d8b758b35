-- While an upload is under way, neither what it asks for nor what it hears changes how many bytes were written.
use Rattle.std.proofs.Common.{◌≡◌, ℕ, zero, suc, ◌+◌, ◌-◌, Bool, true, false, length, drop, if◌then◌else◌, Option, Some, None, refl, sym, ap, ◌∙◌, arith}
use Rattle.std.proofs.lemmas.List.{length-take, length-drop}
use Rattle.mp_types.specs.declared.errno.Errno.{Errno}
use Rattle.bucket_model.specs.declared.call.Call.{Call}
use Rattle.bucket_model.specs.declared.answer.Brief.{Brief}
use Rattle.upload_rules.specs.declared.upload.UpAsk.{UpAsk}
use Rattle.upload_rules.specs.declared.upload.UpAsk.TheVariants.{Create, Part, Complete, Abort}
use Rattle.upload_rules.specs.Upload.{Upload, due, written, with_ask, with_back, with_id, with_stored, fails_with, with_failure, given_up, with_due}
use Rattle.upload_rules.proofs.Due.{IsPartDue, due-is}
use Rattle.mount_model.specs.declared.handle.Waiter.{Waiter}
use Rattle.mount_model.specs.declared.handle.Waiter.TheVariants as waiter
use Rattle.mount_model.specs.Step.{Step}
use Rattle.mount_model.specs.Conversation.{ended}
use Rattle.mount_model.specs.Writers.{ask_times, hears_answer, is_under_way, lacking, back_times}
use Rattle.mount_model.specs.State.{calls_in, gives_up, behind_asks, behind_drops, behind_step}
use Rattle.run_laws.proofs.Changes.{fails-by, ended-by, lacking-by, backs-by, hears-by}
use Rattle.run_laws.proofs.Conversation.{ends_as}

-- where it is still under way, it was before, with as many bytes
pub record GoesOn (u now : Upload) : Type 0 where
  pub was : is_under_way now.state ≡ true → is_under_way u.state ≡ true
  pub same : is_under_way now.state ≡ true → written now ≡ written u

pub goes-same : (u : Upload) → GoesOn u u
goes-same u = record { was = λ way. way; same = λ way. refl }

pub goes-then : (u mid now : Upload) → GoesOn u mid → GoesOn mid now → GoesOn u now
goes-then u mid now first second = record { was = λ way. first.was (second.was way); same = λ way. second.same way ∙ first.same (second.was way) }

-- its state and its bytes stay
goes-alike : (u now : Upload) → now.state ≡ u.state → written now ≡ written u → GoesOn u now
goes-alike u now state_is bytes_are = record { was = λ way. let same : is_under_way u.state ≡ is_under_way now.state = ap is_under_way (sym state_is) in same ∙ way; same = λ way. bytes_are }

goes-back : (u : Upload) → GoesOn u (with_back u)
goes-back u = goes-alike u (with_back u) refl refl

part-bytes : (u : Upload) (number from to : ℕ) → IsPartDue u number from to → to + length (drop (to - from) u.rest) ≡ u.sent + length u.rest
part-bytes u number from to d =
    let next_len = length-take u.part u.rest in
    let rest_len = length-drop (to - from) u.rest in
    let from_is = d.from_is in
    let to_is = d.to_is in
    omega arith

goes-ask : (u : Upload) (ask : UpAsk) → due u ≡ Some ask → GoesOn u (with_ask ask u)
goes-ask u Create is = goes-alike u (with_ask Create u) refl refl
goes-ask u (Part number from to) is = goes-alike u (with_ask (Part number from to) u) refl (part-bytes u number from to (due-is u (Part number from to) is))
goes-ask u (Complete parts) is = goes-alike u (with_ask (Complete parts) u) refl refl
goes-ask u Abort is = goes-alike u (with_ask Abort u) refl refl

goes-due : (u : Upload) (o : Option UpAsk) → due u ≡ o → GoesOn u (with_due o u)
goes-due u None is = goes-same u
goes-due u (Some ask) is = goes-ask u ask is

goes-asks : (calls : ℕ) (u : Upload) → GoesOn u (ask_times calls u)
goes-asks zero u = goes-same u
goes-asks (suc calls) u =
    let next : Upload = with_due (due u) u in
    goes-then u next (ask_times calls next) (goes-due u (due u) refl) (goes-asks calls next)

goes-fails : (errno : Errno) (u : Upload) → GoesOn u (fails_with errno u)
goes-fails = fails-by GoesOn goes-same (λ errno u. record { was = λ way. absurd (cc); same = λ way. absurd (cc) })

goes-failure : (errno : Errno) (u : Upload) → GoesOn u (with_failure errno u)
goes-failure errno u = goes-then u (with_back u) (with_failure errno u) (goes-back u) (goes-fails errno (with_back u))

goes-lacking : (u : Upload) (o : Option UpAsk) → GoesOn u (lacking o u)
goes-lacking = lacking-by GoesOn goes-same goes-fails

goes-drops : (drops : ℕ) (u : Upload) → GoesOn u (back_times drops u)
goes-drops = backs-by GoesOn goes-same goes-then goes-back

-- behind a turn of its writer
pub goes-step : (step : Step) (u : Upload) → GoesOn u (behind_step step u)
goes-step step u =
    let asked : Upload = ask_times (calls_in step.asks) u in
    let behind : Upload = behind_asks (calls_in step.asks) u in
    let dropped : Upload = behind_drops (calls_in step.asks) (length step.drops) u in
    goes-then u dropped (behind_step step u)
    (goes-then u behind dropped (goes-then u asked behind (goes-asks (calls_in step.asks) u) (goes-lacking asked (due asked))) (goes-drops (length step.drops) behind))
    (by_end (gives_up step.asks) dropped)
  where
    by_end : (ends : Bool) (dropped : Upload) → GoesOn dropped (if ends then with_ask Abort dropped else dropped)
    by_end true dropped = goes-alike dropped (with_ask Abort dropped) refl refl
    by_end false dropped = goes-same dropped

-- with the answer to one of its calls
pub goes-hears : (called : Call) (said : Brief) (u : Upload) → GoesOn u (hears_answer called said u)
goes-hears = hears-by GoesOn goes-failure
    (λ id u. goes-alike u (with_id id u) refl refl)
    (λ u. goes-alike u (with_stored u) refl refl)
    (λ u. record { was = λ way. absurd (cc); same = λ way. absurd (cc) })
    (λ u. goes-alike u (given_up u) refl refl)

-- no more bytes come
goes-ended : (u : Upload) → GoesOn u (ended u)
goes-ended = ended-by GoesOn (λ u closed. goes-same u) (λ u opened. record { was = λ way. ap is_under_way opened; same = λ way. refl })

pub goes-ends : (who : Waiter) (u : Upload) → GoesOn u (ends_as who u)
goes-ends (waiter.Close line) u = goes-then u (ended u) (ends_as (waiter.Close line) u) (goes-ended u) (goes-alike (ended u) (ends_as (waiter.Close line) u) refl refl)
goes-ends other u = goes-ended u
