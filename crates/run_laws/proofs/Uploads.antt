-- What an upload asks for and hears keeps its calls in their count.
use Rattle.std.proofs.Common.{◌≡◌, ◌≢◌, ℕ, zero, suc, ◌+◌, ◌-◌, ◌<◌, ◌≤◌, List, [], length, Bool, true, false, ◌&&◌, ◌==◌, nat_le, if◌then◌else◌, Option, Some, None, ◌⊎◌, inl, inr, refl, sym, ap, ◌∙◌, subst, arith, eqb-true}
use Rattle.std.proofs.lemmas.Bool.{eqb-false, and_parts}
use Rattle.mp_types.specs.declared.errno.Errno.{Errno}
use Rattle.mp_types.specs.declared.errno.Errno.TheVariants.{Enomem}
use Rattle.bucket_model.specs.declared.call.Call.{Call}
use Rattle.bucket_model.specs.declared.call.Call.TheVariants as call
use Rattle.bucket_model.specs.declared.answer.Brief.{Brief}
use Rattle.bucket_model.specs.declared.answer.Brief.TheVariants as answer
use Rattle.upload_rules.specs.declared.upload.UpState.{UpState}
use Rattle.upload_rules.specs.declared.upload.UpState.TheVariants.{Open, Finished, Done, Failed}
use Rattle.upload_rules.specs.declared.upload.Created.{Created}
use Rattle.upload_rules.specs.declared.upload.Created.TheVariants.{NotAsked, Asked, Known, GivenUp}
use Rattle.upload_rules.specs.declared.upload.UpAsk.{UpAsk}
use Rattle.upload_rules.specs.declared.upload.UpAsk.TheVariants.{Create, Part, Complete, Abort}
use Rattle.upload_rules.specs.Upload.{Upload, new_upload, due, has_part, is_full, ask_part, with_ask, with_bytes, with_closing, finished, fails_with, with_failure, with_id, with_stored, completed, given_up}
use Rattle.upload_rules.proofs.Due.{upload, part-left, no-part-left, due-is, chosen, chosen-of-two}
use Rattle.mount_model.specs.Conversation.{errno_of, ended}
use Rattle.mount_model.specs.Writers.{asking_for, hears_answer, has_failed, lacking, settled, back_times}
use Rattle.run_laws.specs.Counts.{is_create, is_part, is_complete, is_abort}
use Rattle.run_laws.specs.Uploads.{Tally, IsGoing, IsCompleting, IsGivenUp, IsSpent, IsBroken, IsTalliedIn, IsTallied, if_asked, if_awaited, MayHaveParts}

-- one more call was asked for
pub record Adds (called : Call) (t now : Tally) : Type 0 where
  pub creates : now.creates ≡ t.creates + is_create called
  pub parts : now.parts ≡ t.parts + is_part called
  pub completes : now.completes ≡ t.completes + is_complete called
  pub aborts : now.aborts ≡ t.aborts + is_abort called
  pub creates_out : now.creates_out ≡ t.creates_out + is_create called
  pub parts_out : now.parts_out ≡ t.parts_out + is_part called
  pub completes_out : now.completes_out ≡ t.completes_out + is_complete called
  pub aborts_out : now.aborts_out ≡ t.aborts_out + is_abort called

-- so many calls are back, or were dropped
pub record Backs (creates parts completes aborts : ℕ) (t now : Tally) : Type 0 where
  pub creates_made : now.creates ≡ t.creates
  pub parts_made : now.parts ≡ t.parts
  pub completes_made : now.completes ≡ t.completes
  pub aborts_made : now.aborts ≡ t.aborts
  pub creates_out : now.creates_out + creates ≡ t.creates_out
  pub parts_out : now.parts_out + parts ≡ t.parts_out
  pub completes_out : now.completes_out + completes ≡ t.completes_out
  pub aborts_out : now.aborts_out + aborts ≡ t.aborts_out

abbrev pub BacksCall : Call → Tally → Tally → Type 0
BacksCall called t now = Backs (is_create called) (is_part called) (is_complete called) (is_abort called) t now

-- what the parts that are left say

-- where the object was asked for, no part is left and a call isn't back
completing-none : (u : Upload) (t : Tally) → IsCompleting u t → (has_part u ≡ true → ⊥)
completing-none u t completing has =
    let none = completing.none_left in
    let some = completing.some_part in
    elim (part-left (length u.rest) u.asked has) [
      | inl left ↦ absurd (omega arith)
      | inr first ↦ absurd (omega arith)
    ]

-- asks

abbrev AskKeeps : Upload → Tally → Tally → UpAsk → Type 0
AskKeeps u t now ask = Adds (asking_for [] u ask).call t now → IsTallied (with_ask ask u) now

ask-at : (part : ℕ) (state : UpState) (created : Created) (asked sent stored : ℕ) (rest : List ℕ) (pending : ℕ) (closing : Bool) (t now : Tally) (ask : UpAsk) → due (upload part state created asked sent stored rest pending closing) ≡ Some ask → IsTallied (upload part state created asked sent stored rest pending closing) t → AskKeeps (upload part state created asked sent stored rest pending closing) t now ask
ask-at part Open NotAsked asked sent stored rest pending closing t now ask is tallied =
    let u : Upload = upload part Open NotAsked asked sent stored rest pending closing in
    let going : IsGoing u t = tallied.by_state.0 in
    let none : t.completes ≡ 0 = tallied.by_state.1 in
    chosen (AskKeeps u t now) (is_full u) Create ask is (λ full adds. record {
      parts = omega arith;
      pending = omega arith;
      by_state = (record { first = going.first; kept = λ given. absurd (cc); creates = omega arith; creates_out = omega arith; parts_out = omega arith; completes_out = omega arith; aborts = omega arith; aborts_out = omega arith }, omega arith);
    })
ask-at part Open Asked asked sent stored rest pending closing t now ask is tallied = absurd (cc)
ask-at part Open GivenUp asked sent stored rest pending closing t now ask is tallied = absurd (cc)
ask-at part Open (Known id) asked sent stored rest pending closing t now ask is tallied =
    let u : Upload = upload part Open (Known id) asked sent stored rest pending closing in
    let going : IsGoing u t = tallied.by_state.0 in
    let none : t.completes ≡ 0 = tallied.by_state.1 in
    chosen (AskKeeps u t now) (is_full u) (ask_part u) ask is (λ full adds. record {
      parts = omega arith;
      pending = omega arith;
      by_state = (record { first = tt; kept = λ given. absurd (cc); creates = omega arith; creates_out = omega arith; parts_out = omega arith; completes_out = omega arith; aborts = omega arith; aborts_out = omega arith }, omega arith);
    })
ask-at part Finished NotAsked asked sent stored rest pending closing t now ask is tallied =
    let u : Upload = upload part Finished NotAsked asked sent stored rest pending closing in
    let going : IsGoing u t = tallied.by_state.0 in
    let none : t.completes ≡ 0 = elim tallied.by_state.1 [ inl none ↦ none | inr completing ↦ (let asked_for = completing.asked_for in absurd (omega arith)) ] in
    subst (AskKeeps u t now) (let same : Create ≡ ask = cc in same) (λ adds. record {
      parts = omega arith;
      pending = omega arith;
      by_state = (record { first = going.first; kept = λ given. absurd (cc); creates = omega arith; creates_out = omega arith; parts_out = omega arith; completes_out = omega arith; aborts = omega arith; aborts_out = omega arith }, inl (omega arith));
    })
ask-at part Finished Asked asked sent stored rest pending closing t now ask is tallied = absurd (cc)
ask-at part Finished GivenUp asked sent stored rest pending closing t now ask is tallied = absurd (cc)
ask-at part Finished (Known id) asked sent stored rest pending closing t now ask is tallied =
    let u : Upload = upload part Finished (Known id) asked sent stored rest pending closing in
    let going : IsGoing u t = tallied.by_state.0 in
    chosen-of-two (AskKeeps u t now) (has_part u) (stored == asked && pending == 0) (ask_part u) (Complete asked) ask is
    (λ has adds.
    let none : t.completes ≡ 0 = elim tallied.by_state.1 [ inl none ↦ none | inr completing ↦ absurd (completing-none u t completing has) ] in
    record {
      parts = omega arith;
      pending = omega arith;
      by_state = (record { first = tt; kept = λ given. absurd (cc); creates = omega arith; creates_out = omega arith; parts_out = omega arith; completes_out = omega arith; aborts = omega arith; aborts_out = omega arith }, inl (omega arith));
    })
    (λ has all adds.
    let left = no-part-left (length rest) asked has in
    let stored_is : stored ≡ asked = eqb-true stored asked (and_parts (stored == asked) (pending == 0) all).0 in
    let none_out : pending ≡ 0 = eqb-true pending 0 (and_parts (stored == asked) (pending == 0) all).1 in
    record {
      parts = omega arith;
      pending = omega arith;
      by_state = (record { first = tt; kept = λ given. absurd (cc); creates = omega arith; creates_out = omega arith; parts_out = omega arith; completes_out = omega arith; aborts = omega arith; aborts_out = omega arith }, inr (record { completes = omega arith; asked_for = refl; created = refl; stored = stored_is; none_left = left.0; some_part = left.1 }));
    })
ask-at part Done created asked sent stored rest pending closing t now ask is tallied = absurd (cc)
ask-at part (Failed errno) NotAsked asked sent stored rest pending closing t now ask is tallied = absurd (cc)
ask-at part (Failed errno) Asked asked sent stored rest pending closing t now ask is tallied = absurd (cc)
ask-at part (Failed errno) GivenUp asked sent stored rest pending closing t now ask is tallied = absurd (cc)
ask-at part (Failed errno) (Known id) asked sent stored rest pending closing t now ask is tallied =
    let u : Upload = upload part (Failed errno) (Known id) asked sent stored rest pending closing in
    let broken : IsBroken u t = tallied.by_state in
    chosen (AskKeeps u t now) (closing && pending == 0) Abort ask is (λ all adds.
    let none_out : pending ≡ 0 = eqb-true pending 0 (and_parts closing (pending == 0) all).1 in
    let none : (t.aborts ≡ 0) × (t.aborts_out ≡ 0) = elim broken.aborts [ inl none ↦ none | inr given ↦ elim given.back [ inl out ↦ absurd (omega arith) | inr back ↦ absurd (let given_up : Known id ≡ GivenUp = back.2 in cc) ] ] in
    record {
      parts = omega arith;
      pending = omega arith;
      by_state = record { creates = omega arith; creates_out = omega arith; stored = omega arith; completes = omega arith; completes_out = omega arith; aborts = inr (record { aborts = omega arith; closing = (and_parts closing (pending == 0) all).0; back = inl (omega arith, omega arith) }) };
    })

-- what is due keeps the calls in their count, once it is asked for
pub ask-tallied : (u : Upload) (t now : Tally) (ask : UpAsk) → due u ≡ Some ask → IsTallied u t → Adds (asking_for [] u ask).call t now → IsTallied (with_ask ask u) now
ask-tallied u t now ask is tallied adds = ask-at u.part u.state u.created u.asked u.sent u.stored u.rest u.pending u.closing t now ask is tallied adds

-- answers

asked-most : (created : Created) → if_asked created ≤ 1
asked-most NotAsked = omega arith
asked-most other = omega arith

awaited-most : (created : Created) → if_awaited created ≤ 1
awaited-most Asked = omega arith
awaited-most NotAsked = omega arith
awaited-most (Known id) = omega arith
awaited-most GivenUp = omega arith

-- an id that is awaited has no parts
unawaited : (created : Created) (asked : ℕ) → MayHaveParts created asked → (asked ≡ 0) ⊎ (if_awaited created ≡ 0)
unawaited NotAsked asked first = inl first
unawaited Asked asked first = inl first
unawaited (Known id) asked first = inr refl
unawaited GivenUp asked first = inr refl

-- no call is out of an upload that is given up, but the abort
given-none : (u : Upload) (t now : Tally) (creates parts completes : ℕ) → IsTallied u t → IsGivenUp u t → Backs creates parts completes 0 t now → creates + parts + completes ≡ 1 → ⊥
given-none u t now creates parts completes tallied given backs one = elim given.back [ inl out ↦ absurd (let a = out.0 in let p = out.1 in omega arith) | inr back ↦ absurd (let p = back.1 in omega arith) ]

-- where the object was asked for, that call alone is out
completing-out : (u : Upload) (t : Tally) → IsTallied u t → IsGoing u t → IsCompleting u t → (t.creates_out ≡ 0) × (t.parts_out ≡ 0) × (t.completes_out ≡ 1) × (u.pending ≡ 1)
completing-out u t tallied going completing = (omega arith, omega arith, omega arith, omega arith)

abbrev Behind : Upload → ℕ → ℕ → ℕ → ℕ → Tally → Tally → Type 0
Behind u creates parts completes aborts t now = Backs creates parts completes aborts t now → IsTallied u now

-- a call that failed, and is no abort
fail-at : (errno : Errno) (part : ℕ) (state : UpState) (created : Created) (asked sent stored : ℕ) (rest : List ℕ) (pending : ℕ) (closing : Bool) (t now : Tally) (creates parts completes : ℕ) → creates + parts + completes ≡ 1 → IsTallied (upload part state created asked sent stored rest pending closing) t → Behind (with_failure errno (upload part state created asked sent stored rest pending closing)) creates parts completes 0 t now
fail-at errno part Open created asked sent stored rest pending closing t now creates parts completes one tallied backs =
    let u : Upload = upload part Open created asked sent stored rest pending closing in
    let going : IsGoing u t = tallied.by_state.0 in
    let none : t.completes ≡ 0 = tallied.by_state.1 in
    let most = asked-most created in
    let one_awaited = awaited-most created in
    let back : now.creates_out ≡ 0 = elim (unawaited created asked going.first) [ inl first ↦ omega arith | inr known ↦ omega arith ] in
    record {
      parts = omega arith;
      pending = omega arith;
      by_state = record { creates = omega arith; creates_out = back; stored = omega arith; completes = omega arith; completes_out = omega arith; aborts = inl (omega arith, omega arith) };
    }
fail-at errno part Finished created asked sent stored rest pending closing t now creates parts completes one tallied backs =
    let u : Upload = upload part Finished created asked sent stored rest pending closing in
    let going : IsGoing u t = tallied.by_state.0 in
    let most = asked-most created in
    let one_awaited = awaited-most created in
    let back : now.creates_out ≡ 0 = elim (unawaited created asked going.first) [
      | inl first ↦ elim tallied.by_state.1 [ inl none ↦ omega arith | inr completing ↦ (let awaited = completing.created in omega arith) ]
      | inr known ↦ omega arith
    ] in
    let few : (now.completes ≤ 1) × (now.completes_out ≡ 0) = elim tallied.by_state.1 [ inl none ↦ (omega arith, omega arith) | inr completing ↦ (let out = completing-out u t tallied going completing in let c = out.0 in let p = out.1 in let k = out.2 in let n = completing.completes in (omega arith, omega arith)) ] in
    record {
      parts = omega arith;
      pending = omega arith;
      by_state = record { creates = omega arith; creates_out = back; stored = omega arith; completes = few.0; completes_out = few.1; aborts = inl (omega arith, omega arith) };
    }
fail-at errno part Done created asked sent stored rest pending closing t now creates parts completes one tallied backs =
    let spent : IsSpent (upload part Done created asked sent stored rest pending closing) t = tallied.by_state in
    absurd (omega arith)
fail-at errno part (Failed first) created asked sent stored rest pending closing t now creates parts completes one tallied backs =
    let u : Upload = upload part (Failed first) created asked sent stored rest pending closing in
    let broken : IsBroken u t = tallied.by_state in
    let none : (t.aborts ≡ 0) × (t.aborts_out ≡ 0) = elim broken.aborts [ inl none ↦ none | inr given ↦ absurd (given-none u t now creates parts completes tallied given backs one) ] in
    record {
      parts = omega arith;
      pending = omega arith;
      by_state = record { creates = omega arith; creates_out = omega arith; stored = omega arith; completes = omega arith; completes_out = omega arith; aborts = inl (omega arith, omega arith) };
    }

-- the upload's id has come
id-going : (part : ℕ) (state : UpState) (id : ℕ) (created : Created) (asked sent stored : ℕ) (rest : List ℕ) (pending : ℕ) (closing : Bool) (t now : Tally) → IsGoing (upload part state created asked sent stored rest pending closing) t → Backs 1 0 0 0 t now → IsGoing (with_id id (upload part state created asked sent stored rest pending closing)) now
id-going part state id Asked asked sent stored rest pending closing t now going backs = record { first = tt; kept = λ given. absurd (cc); creates = omega arith; creates_out = omega arith; parts_out = omega arith; completes_out = omega arith; aborts = omega arith; aborts_out = omega arith }
id-going part state id other asked sent stored rest pending closing t now going backs = absurd (omega arith)

id-at : (id part : ℕ) (state : UpState) (created : Created) (asked sent stored : ℕ) (rest : List ℕ) (pending : ℕ) (closing : Bool) (t now : Tally) → IsTallied (upload part state created asked sent stored rest pending closing) t → Behind (with_id id (upload part state created asked sent stored rest pending closing)) 1 0 0 0 t now
id-at id part Open created asked sent stored rest pending closing t now tallied backs =
    let none : t.completes ≡ 0 = tallied.by_state.1 in
    record { parts = omega arith; pending = omega arith; by_state = (id-going part Open id created asked sent stored rest pending closing t now tallied.by_state.0 backs, omega arith) }
id-at id part Finished created asked sent stored rest pending closing t now tallied backs =
    let u : Upload = upload part Finished created asked sent stored rest pending closing in
    let going : IsGoing u t = tallied.by_state.0 in
    let none : t.completes ≡ 0 = elim tallied.by_state.1 [ inl none ↦ none | inr completing ↦ absurd (let out = completing-out u t tallied going completing in let c = out.0 in omega arith) ] in
    record { parts = omega arith; pending = omega arith; by_state = (id-going part Finished id created asked sent stored rest pending closing t now going backs, inl (omega arith)) }
id-at id part Done created asked sent stored rest pending closing t now tallied backs =
    let spent : IsSpent (upload part Done created asked sent stored rest pending closing) t = tallied.by_state in
    absurd (omega arith)
id-at id part (Failed first) created asked sent stored rest pending closing t now tallied backs =
    let u : Upload = upload part (Failed first) created asked sent stored rest pending closing in
    let broken : IsBroken u t = tallied.by_state in
    let none : (t.aborts ≡ 0) × (t.aborts_out ≡ 0) = elim broken.aborts [ inl none ↦ none | inr given ↦ absurd (given-none u t now 1 0 0 tallied given backs refl) ] in
    record { parts = omega arith; pending = omega arith; by_state = record { creates = omega arith; creates_out = omega arith; stored = omega arith; completes = omega arith; completes_out = omega arith; aborts = inl (omega arith, omega arith) } }

-- a part is stored
stored-at : (part : ℕ) (state : UpState) (created : Created) (asked sent stored : ℕ) (rest : List ℕ) (pending : ℕ) (closing : Bool) (t now : Tally) → IsTallied (upload part state created asked sent stored rest pending closing) t → Behind (with_stored (upload part state created asked sent stored rest pending closing)) 0 1 0 0 t now
stored-at part Open created asked sent stored rest pending closing t now tallied backs =
    let going : IsGoing (upload part Open created asked sent stored rest pending closing) t = tallied.by_state.0 in
    let none : t.completes ≡ 0 = tallied.by_state.1 in
    record { parts = omega arith; pending = omega arith; by_state = (record { first = going.first; kept = going.kept; creates = omega arith; creates_out = omega arith; parts_out = omega arith; completes_out = omega arith; aborts = omega arith; aborts_out = omega arith }, omega arith) }
stored-at part Finished created asked sent stored rest pending closing t now tallied backs =
    let u : Upload = upload part Finished created asked sent stored rest pending closing in
    let going : IsGoing u t = tallied.by_state.0 in
    let none : t.completes ≡ 0 = elim tallied.by_state.1 [ inl none ↦ none | inr completing ↦ absurd (let out = completing-out u t tallied going completing in let c = out.1 in omega arith) ] in
    record { parts = omega arith; pending = omega arith; by_state = (record { first = going.first; kept = going.kept; creates = omega arith; creates_out = omega arith; parts_out = omega arith; completes_out = omega arith; aborts = omega arith; aborts_out = omega arith }, inl (omega arith)) }
stored-at part Done created asked sent stored rest pending closing t now tallied backs =
    let spent : IsSpent (upload part Done created asked sent stored rest pending closing) t = tallied.by_state in
    absurd (omega arith)
stored-at part (Failed first) created asked sent stored rest pending closing t now tallied backs =
    let u : Upload = upload part (Failed first) created asked sent stored rest pending closing in
    let broken : IsBroken u t = tallied.by_state in
    let none : (t.aborts ≡ 0) × (t.aborts_out ≡ 0) = elim broken.aborts [ inl none ↦ none | inr given ↦ absurd (given-none u t now 0 1 0 tallied given backs refl) ] in
    record { parts = omega arith; pending = omega arith; by_state = record { creates = omega arith; creates_out = omega arith; stored = omega arith; completes = omega arith; completes_out = omega arith; aborts = inl (omega arith, omega arith) } }

-- the object was made
completed-at : (part : ℕ) (state : UpState) (created : Created) (asked sent stored : ℕ) (rest : List ℕ) (pending : ℕ) (closing : Bool) (t now : Tally) → IsTallied (upload part state created asked sent stored rest pending closing) t → Behind (completed (upload part state created asked sent stored rest pending closing)) 0 0 1 0 t now
completed-at part Open created asked sent stored rest pending closing t now tallied backs =
    let going : IsGoing (upload part Open created asked sent stored rest pending closing) t = tallied.by_state.0 in
    let none : t.completes ≡ 0 = tallied.by_state.1 in
    absurd (omega arith)
completed-at part Finished created asked sent stored rest pending closing t now tallied backs =
    let u : Upload = upload part Finished created asked sent stored rest pending closing in
    let going : IsGoing u t = tallied.by_state.0 in
    let most = asked-most created in
    elim tallied.by_state.1 [
      | inl none ↦ absurd (omega arith)
      | inr completing ↦ (let out = completing-out u t tallied going completing in let p = out.3 in let n = completing.completes in record { parts = omega arith; pending = omega arith; by_state = record { creates = omega arith; completes = omega arith; aborts = omega arith; pending = omega arith } })
    ]
completed-at part Done created asked sent stored rest pending closing t now tallied backs =
    let spent : IsSpent (upload part Done created asked sent stored rest pending closing) t = tallied.by_state in
    absurd (omega arith)
completed-at part (Failed first) created asked sent stored rest pending closing t now tallied backs =
    let broken : IsBroken (upload part (Failed first) created asked sent stored rest pending closing) t = tallied.by_state in
    absurd (omega arith)

-- the abort is back
given-at : (part : ℕ) (state : UpState) (created : Created) (asked sent stored : ℕ) (rest : List ℕ) (pending : ℕ) (closing : Bool) (t now : Tally) → IsTallied (upload part state created asked sent stored rest pending closing) t → Behind (given_up (upload part state created asked sent stored rest pending closing)) 0 0 0 1 t now
given-at part Open created asked sent stored rest pending closing t now tallied backs =
    let going : IsGoing (upload part Open created asked sent stored rest pending closing) t = tallied.by_state.0 in
    absurd (omega arith)
given-at part Finished created asked sent stored rest pending closing t now tallied backs =
    let going : IsGoing (upload part Finished created asked sent stored rest pending closing) t = tallied.by_state.0 in
    absurd (omega arith)
given-at part Done created asked sent stored rest pending closing t now tallied backs =
    let spent : IsSpent (upload part Done created asked sent stored rest pending closing) t = tallied.by_state in
    absurd (omega arith)
given-at part (Failed first) created asked sent stored rest pending closing t now tallied backs =
    let u : Upload = upload part (Failed first) created asked sent stored rest pending closing in
    let broken : IsBroken u t = tallied.by_state in
    elim broken.aborts [
      | inl none ↦ absurd (let out = none.1 in omega arith)
      | inr given ↦ elim given.back [
        | inl out ↦ (let a = out.0 in let p = out.1 in let n = given.aborts in record { parts = omega arith; pending = omega arith; by_state = record { creates = omega arith; creates_out = omega arith; stored = omega arith; completes = omega arith; completes_out = omega arith; aborts = inr (record { aborts = omega arith; closing = given.closing; back = inr (omega arith, omega arith, refl) }) } })
        | inr back ↦ absurd (let a = back.0 in omega arith)
      ]
    ]

failed-tallied : (errno : Errno) (u : Upload) (t now : Tally) (creates parts completes : ℕ) → creates + parts + completes ≡ 1 → IsTallied u t → Backs creates parts completes 0 t now → IsTallied (with_failure errno u) now
failed-tallied errno u t now creates parts completes one tallied backs = fail-at errno u.part u.state u.created u.asked u.sent u.stored u.rest u.pending u.closing t now creates parts completes one tallied backs

-- a writer's calls are of these kinds
abbrev pub kinds : Call → ℕ
kinds called = is_create called + is_part called + is_complete called + is_abort called

-- an answer keeps the calls in their count
pub hears-tallied : (called : Call) (said : Brief) (u : Upload) (t now : Tally) → kinds called ≡ 1 → IsTallied u t → BacksCall called t now → IsTallied (hears_answer called said u) now
hears-tallied (call.Create key) (answer.Upload id) u t now one tallied backs = id-at id u.part u.state u.created u.asked u.sent u.stored u.rest u.pending u.closing t now tallied backs
hears-tallied (call.Create key) other u t now one tallied backs = failed-tallied (errno_of other) u t now 1 0 0 refl tallied backs
hears-tallied (call.Part id number bytes) answer.Stored u t now one tallied backs = stored-at u.part u.state u.created u.asked u.sent u.stored u.rest u.pending u.closing t now tallied backs
hears-tallied (call.Part id number bytes) other u t now one tallied backs = failed-tallied (errno_of other) u t now 0 1 0 refl tallied backs
hears-tallied (call.Complete id parts) (answer.Made etag) u t now one tallied backs = completed-at u.part u.state u.created u.asked u.sent u.stored u.rest u.pending u.closing t now tallied backs
hears-tallied (call.Complete id parts) other u t now one tallied backs = failed-tallied (errno_of other) u t now 0 0 1 refl tallied backs
hears-tallied (call.Abort id) said u t now one tallied backs = given-at u.part u.state u.created u.asked u.sent u.stored u.rest u.pending u.closing t now tallied backs
hears-tallied other said u t now one tallied backs = absurd (omega arith)

-- want of memory

completing-due : (u : Upload) (t : Tally) (ask : UpAsk) → u.state ≡ Finished → u.pending ≡ 1 → IsCompleting u t → due u ≡ Some ask → ⊥
completing-due u t Create finished out completing is = let none : if_asked u.created ≡ 0 = ap if_asked (due-is u Create is) in let asked = completing.asked_for in absurd (omega arith)
completing-due u t (Part number from to) finished out completing is = elim (due-is u (Part number from to) is).grows [
  | inl opened ↦ absurd (let same : Open ≡ Finished = sym opened ∙ finished in cc)
  | inr has ↦ completing-none u t completing has
]
completing-due u t (Complete parts) finished out completing is = let none = (due-is u (Complete parts) is).none_out in absurd (omega arith)
completing-due u t Abort finished out completing is = let none = (due-is u Abort is).none_out in absurd (omega arith)

-- where a call is due, none is awaited that gives the upload its id
due-unawaited : (part : ℕ) (state : UpState) (created : Created) (asked sent stored : ℕ) (rest : List ℕ) (pending : ℕ) (closing : Bool) (ask : UpAsk) → due (upload part state created asked sent stored rest pending closing) ≡ Some ask → if_awaited created ≡ 0
due-unawaited part state NotAsked asked sent stored rest pending closing ask is = refl
due-unawaited part state (Known id) asked sent stored rest pending closing ask is = refl
due-unawaited part state GivenUp asked sent stored rest pending closing ask is = refl
due-unawaited part Open Asked asked sent stored rest pending closing ask is = absurd (cc)
due-unawaited part Finished Asked asked sent stored rest pending closing ask is = absurd (cc)
due-unawaited part Done Asked asked sent stored rest pending closing ask is = absurd (cc)
due-unawaited part (Failed errno) Asked asked sent stored rest pending closing ask is = absurd (cc)

lacks-at : (part : ℕ) (state : UpState) (created : Created) (asked sent stored : ℕ) (rest : List ℕ) (pending : ℕ) (closing : Bool) (t : Tally) (ask : UpAsk) → due (upload part state created asked sent stored rest pending closing) ≡ Some ask → IsTallied (upload part state created asked sent stored rest pending closing) t → IsTallied (fails_with Enomem (upload part state created asked sent stored rest pending closing)) t
lacks-at part Open created asked sent stored rest pending closing t ask is tallied =
    let going : IsGoing (upload part Open created asked sent stored rest pending closing) t = tallied.by_state.0 in
    let none : t.completes ≡ 0 = tallied.by_state.1 in
    let most = asked-most created in
    let unawaited_now = due-unawaited part Open created asked sent stored rest pending closing ask is in
    record { parts = tallied.parts; pending = tallied.pending; by_state = record { creates = omega arith; creates_out = omega arith; stored = omega arith; completes = omega arith; completes_out = omega arith; aborts = inl (omega arith, omega arith) } }
lacks-at part Finished created asked sent stored rest pending closing t ask is tallied =
    let u : Upload = upload part Finished created asked sent stored rest pending closing in
    let going : IsGoing u t = tallied.by_state.0 in
    let most = asked-most created in
    let none : t.completes ≡ 0 = elim tallied.by_state.1 [ inl none ↦ none | inr completing ↦ absurd (completing-due u t ask refl (completing-out u t tallied going completing).3 completing is) ] in
    let unawaited_now = due-unawaited part Finished created asked sent stored rest pending closing ask is in
    record { parts = tallied.parts; pending = tallied.pending; by_state = record { creates = omega arith; creates_out = omega arith; stored = omega arith; completes = omega arith; completes_out = omega arith; aborts = inl (omega arith, omega arith) } }
lacks-at part Done created asked sent stored rest pending closing t ask is tallied = tallied
lacks-at part (Failed first) created asked sent stored rest pending closing t ask is tallied = tallied

lacks-tallied : (u : Upload) (t : Tally) (ask : UpAsk) → due u ≡ Some ask → IsTallied u t → IsTallied (fails_with Enomem u) t
lacks-tallied u t ask is tallied = lacks-at u.part u.state u.created u.asked u.sent u.stored u.rest u.pending u.closing t ask is tallied

pub settled-tallied : (u : Upload) (t : Tally) → IsTallied u t → IsTallied (settled u) t
settled-tallied u t tallied = go (due u) refl
  where
    go : (o : Option UpAsk) → due u ≡ o → IsTallied (lacking o u) t
    go None is = tallied
    go (Some Create) is = lacks-tallied u t Create is tallied
    go (Some (Part number from to)) is = lacks-tallied u t (Part number from to) is tallied
    go (Some (Complete parts)) is = lacks-tallied u t (Complete parts) is tallied
    go (Some Abort) is = tallied

-- behind that nothing is due, but an abort of a failed upload

open-no-abort : (u : Upload) (created : Created) → u.created ≡ created → u.state ≡ Open → due u ≢ Some Abort
open-no-abort u created at opened is = go u.part u.state created u.asked u.sent u.stored u.rest u.pending u.closing opened (subst (λ (c : Created). due (upload u.part u.state c u.asked u.sent u.stored u.rest u.pending u.closing) ≡ Some Abort) at is)
  where
    go : (part : ℕ) (state : UpState) (created : Created) (asked sent stored : ℕ) (rest : List ℕ) (pending : ℕ) (closing : Bool) → state ≡ Open → due (upload part state created asked sent stored rest pending closing) ≡ Some Abort → ⊥
    go part Open NotAsked asked sent stored rest pending closing opened is = chosen (λ ask. ask ≡ Abort → ⊥) (nat_le part (length rest)) Create Abort is (λ full e. absurd (cc)) refl
    go part Open (Known id) asked sent stored rest pending closing opened is = let u : Upload = upload part Open (Known id) asked sent stored rest pending closing in chosen (λ ask. ask ≡ Abort → ⊥) (nat_le part (length rest)) (ask_part u) Abort is (λ full e. absurd (cc)) refl
    go part Open other asked sent stored rest pending closing opened is = absurd (cc)
    go part state created asked sent stored rest pending closing opened is = absurd (cc)

finished-no-abort : (part : ℕ) (created : Created) (asked sent stored : ℕ) (rest : List ℕ) (pending : ℕ) (closing : Bool) → due (upload part Finished created asked sent stored rest pending closing) ≢ Some Abort
finished-no-abort part (Known id) asked sent stored rest pending closing is =
    let u : Upload = upload part Finished (Known id) asked sent stored rest pending closing in
    chosen-of-two (λ ask. ask ≡ Abort → ⊥) (has_part u) (stored == asked && pending == 0) (ask_part u) (Complete asked) Abort is (λ has e. absurd (cc)) (λ has all e. absurd (cc)) refl
finished-no-abort part other asked sent stored rest pending closing is = absurd (cc)

failed-stays : (errno : Errno) (part : ℕ) (created : Created) (asked sent stored : ℕ) (rest : List ℕ) (pending : ℕ) (closing : Bool) (o : Option UpAsk) → has_failed (lacking o (upload part (Failed errno) created asked sent stored rest pending closing)) ≡ true
failed-stays errno part created asked sent stored rest pending closing None = refl
failed-stays errno part created asked sent stored rest pending closing (Some Create) = refl
failed-stays errno part created asked sent stored rest pending closing (Some (Part number from to)) = refl
failed-stays errno part created asked sent stored rest pending closing (Some (Complete parts)) = refl
failed-stays errno part created asked sent stored rest pending closing (Some Abort) = refl

none-at : (part : ℕ) (state : UpState) (created : Created) (asked sent stored : ℕ) (rest : List ℕ) (pending : ℕ) (closing : Bool) (o : Option UpAsk) → due (upload part state created asked sent stored rest pending closing) ≡ o → has_failed (lacking o (upload part state created asked sent stored rest pending closing)) ≡ false → due (lacking o (upload part state created asked sent stored rest pending closing)) ≡ None
none-at part (Failed errno) created asked sent stored rest pending closing o is alive = absurd (let failed = failed-stays errno part created asked sent stored rest pending closing o in cc)
none-at part state created asked sent stored rest pending closing None is alive = is
none-at part Open created asked sent stored rest pending closing (Some Abort) is alive = absurd (open-no-abort (upload part Open created asked sent stored rest pending closing) created refl refl is)
none-at part Open created asked sent stored rest pending closing (Some Create) is alive = absurd (cc)
none-at part Open created asked sent stored rest pending closing (Some (Part number from to)) is alive = absurd (cc)
none-at part Open created asked sent stored rest pending closing (Some (Complete parts)) is alive = absurd (cc)
none-at part Finished created asked sent stored rest pending closing (Some Abort) is alive = absurd (finished-no-abort part created asked sent stored rest pending closing is)
none-at part Finished created asked sent stored rest pending closing (Some Create) is alive = absurd (cc)
none-at part Finished created asked sent stored rest pending closing (Some (Part number from to)) is alive = absurd (cc)
none-at part Finished created asked sent stored rest pending closing (Some (Complete parts)) is alive = absurd (cc)
none-at part Done created asked sent stored rest pending closing (Some ask) is alive = absurd (cc)

pub settled-none : (u : Upload) → has_failed (settled u) ≡ false → due (settled u) ≡ None
settled-none u alive = none-at u.part u.state u.created u.asked u.sent u.stored u.rest u.pending u.closing (due u) refl alive

-- a finished upload that asks for nothing has a call out

busy-known : (id part asked sent stored : ℕ) (rest : List ℕ) (pending : ℕ) (closing : Bool) (t : Tally) → IsTallied (upload part Finished (Known id) asked sent stored rest pending closing) t → due (upload part Finished (Known id) asked sent stored rest pending closing) ≡ None → 0 < pending
busy-known id part asked sent stored rest pending closing t tallied none = go (has_part u) (stored == asked) (pending == 0) refl refl refl none
  where
    u : Upload
    u = upload part Finished (Known id) asked sent stored rest pending closing

    go : (a b c : Bool) → has_part u ≡ a → (stored == asked) ≡ b → (pending == 0) ≡ c → (if a then Some (ask_part u) else (if b && c then Some (Complete asked) else None)) ≡ None → 0 < pending
    go true b c has same zero_is none = absurd (cc)
    go false true true has same zero_is none = absurd (cc)
    go false false c has same zero_is none = let apart = eqb-false stored asked same in let going : IsGoing u t = tallied.by_state.0 in omega arith
    go false true false has same zero_is none = let some = eqb-false pending 0 zero_is in omega arith

busy-at : (part : ℕ) (state : UpState) (created : Created) (asked sent stored : ℕ) (rest : List ℕ) (pending : ℕ) (closing : Bool) (t : Tally) → state ≡ Finished → IsTallied (upload part state created asked sent stored rest pending closing) t → due (upload part state created asked sent stored rest pending closing) ≡ None → 0 < pending
busy-at part Finished NotAsked asked sent stored rest pending closing t is tallied none = absurd (cc)
busy-at part Finished Asked asked sent stored rest pending closing t is tallied none = let going : IsGoing (upload part Finished Asked asked sent stored rest pending closing) t = tallied.by_state.0 in omega arith
busy-at part Finished GivenUp asked sent stored rest pending closing t is tallied none = let going : IsGoing (upload part Finished GivenUp asked sent stored rest pending closing) t = tallied.by_state.0 in absurd (going.kept refl)
busy-at part Finished (Known id) asked sent stored rest pending closing t is tallied none = busy-known id part asked sent stored rest pending closing t tallied none
busy-at part state created asked sent stored rest pending closing t is tallied none = absurd (cc)

pub finished-busy : (u : Upload) (t : Tally) → u.state ≡ Finished → IsTallied u t → due u ≡ None → 0 < u.pending
finished-busy u t is tallied none = busy-at u.part u.state u.created u.asked u.sent u.stored u.rest u.pending u.closing t is tallied none

-- drops

pub back-is : (drops part : ℕ) (state : UpState) (created : Created) (asked sent stored : ℕ) (rest : List ℕ) (pending : ℕ) (closing : Bool) → back_times drops (upload part state created asked sent stored rest pending closing) ≡ upload part state created asked sent stored rest (pending - drops) closing
back-is zero part state created asked sent stored rest pending closing = ap (λ (p : ℕ). upload part state created asked sent stored rest p closing) (let same : pending ≡ pending - 0 = omega arith in same)
back-is (suc drops) part state created asked sent stored rest pending closing = back-is drops part state created asked sent stored rest (pending - 1) closing ∙ ap (λ (p : ℕ). upload part state created asked sent stored rest p closing) (let same : pending - 1 - drops ≡ pending - suc drops = omega arith in same)

drop-at : (drops part : ℕ) (state : UpState) (created : Created) (asked sent stored : ℕ) (rest : List ℕ) (pending : ℕ) (closing : Bool) (t now : Tally) (creates parts completes : ℕ) → has_failed (upload part state created asked sent stored rest pending closing) ≡ true → creates + parts + completes ≡ drops → t.aborts_out ≡ 0 → IsTallied (upload part state created asked sent stored rest pending closing) t → Backs creates parts completes 0 t now → IsTallied (upload part state created asked sent stored rest (pending - drops) closing) now
drop-at drops part (Failed errno) created asked sent stored rest pending closing t now creates parts completes is sum no_abort tallied backs =
    let u : Upload = upload part (Failed errno) created asked sent stored rest pending closing in
    let behind : Upload = upload part (Failed errno) created asked sent stored rest (pending - drops) closing in
    let broken : IsBroken u t = tallied.by_state in
    let aborts : ((now.aborts ≡ 0) × (now.aborts_out ≡ 0)) ⊎ IsGivenUp behind now = elim broken.aborts [
      | inl none ↦ inl (omega arith, omega arith)
      | inr given ↦ elim given.back [
        | inl out ↦ absurd (let a = out.0 in omega arith)
        | inr back ↦ inr (let p = back.1 in let n = given.aborts in record { aborts = omega arith; closing = given.closing; back = inr (omega arith, omega arith, back.2) })
      ]
    ] in
    record { parts = omega arith; pending = omega arith; by_state = record { creates = omega arith; creates_out = omega arith; stored = omega arith; completes = omega arith; completes_out = omega arith; aborts = aborts } }
drop-at drops part other created asked sent stored rest pending closing t now creates parts completes is sum no_abort tallied backs = absurd (cc)

pub drops-tallied : (drops : ℕ) (u : Upload) (t now : Tally) (creates parts completes : ℕ) → has_failed u ≡ true → creates + parts + completes ≡ drops → t.aborts_out ≡ 0 → IsTallied u t → Backs creates parts completes 0 t now → IsTallied (back_times drops u) now
drops-tallied drops u t now creates parts completes failed sum no_abort tallied backs =
    subst (λ (v : Upload). IsTallied v now) (sym (back-is drops u.part u.state u.created u.asked u.sent u.stored u.rest u.pending u.closing))
    (drop-at drops u.part u.state u.created u.asked u.sent u.stored u.rest u.pending u.closing t now creates parts completes failed sum no_abort tallied backs)

-- each call is asked for at most once, but for parts

pub record IsOnce (t : Tally) : Type 0 where
  pub creates : t.creates ≤ 1
  pub completes : t.completes ≤ 1
  pub aborts : t.aborts ≤ 1

once-at : (state : UpState) (u : Upload) (t : Tally) → IsTalliedIn state u t → IsOnce t
once-at Open u t by_state = let going : IsGoing u t = by_state.0 in let none = by_state.1 in let most = asked-most u.created in record { creates = omega arith; completes = omega arith; aborts = omega arith }
once-at Finished u t by_state =
    let going : IsGoing u t = by_state.0 in
    let most = asked-most u.created in
    let few : t.completes ≤ 1 = elim by_state.1 [ inl none ↦ omega arith | inr completing ↦ (let n = completing.completes in omega arith) ] in
    record { creates = omega arith; completes = few; aborts = omega arith }
once-at Done u t by_state = let spent : IsSpent u t = by_state in record { creates = omega arith; completes = omega arith; aborts = omega arith }
once-at (Failed errno) u t by_state =
    let broken : IsBroken u t = by_state in
    let few : t.aborts ≤ 1 = elim broken.aborts [ inl none ↦ (let n = none.0 in omega arith) | inr given ↦ (let n = given.aborts in omega arith) ] in
    record { creates = omega arith; completes = omega arith; aborts = few }

pub tallied-once : (u : Upload) (t : Tally) → IsTallied u t → IsOnce t
tallied-once u t tallied = once-at u.state u t tallied.by_state

-- behind an answer no abort is out
back-at : (state : UpState) (u : Upload) (t now : Tally) (called : Call) → kinds called ≡ 1 → IsTalliedIn state u t → u.pending ≡ t.creates_out + t.parts_out + t.completes_out + t.aborts_out → BacksCall called t now → now.aborts_out ≡ 0
back-at Open u t now called one by_state pending backs = let going : IsGoing u t = by_state.0 in omega arith
back-at Finished u t now called one by_state pending backs = let going : IsGoing u t = by_state.0 in omega arith
back-at Done u t now called one by_state pending backs = let spent : IsSpent u t = by_state in absurd (omega arith)
back-at (Failed errno) u t now called one by_state pending backs =
    let broken : IsBroken u t = by_state in
    elim broken.aborts [
      | inl none ↦ (let out = none.1 in omega arith)
      | inr given ↦ elim given.back [ inl out ↦ (let a = out.0 in let p = out.1 in omega arith) | inr back ↦ absurd (let p = back.1 in omega arith) ]
    ]

pub back-no-abort : (u : Upload) (t now : Tally) (called : Call) → kinds called ≡ 1 → IsTallied u t → BacksCall called t now → now.aborts_out ≡ 0
back-no-abort u t now called one tallied backs = back-at u.state u t now called one tallied.by_state tallied.pending backs

-- nor is one out before a close
unclosed-at : (state : UpState) (u : Upload) (t : Tally) → u.closing ≡ false → u.pending ≡ t.creates_out + t.parts_out + t.completes_out + t.aborts_out → IsTalliedIn state u t → t.aborts_out ≡ 0
unclosed-at Open u t unclosed pending by_state = let going : IsGoing u t = by_state.0 in going.aborts_out
unclosed-at Finished u t unclosed pending by_state = let going : IsGoing u t = by_state.0 in going.aborts_out
unclosed-at Done u t unclosed pending by_state = let spent : IsSpent u t = by_state in omega arith
unclosed-at (Failed errno) u t unclosed pending by_state =
    let broken : IsBroken u t = by_state in
    elim broken.aborts [ inl none ↦ none.1 | inr given ↦ absurd (let closing = given.closing in cc) ]

pub unclosed-no-abort : (u : Upload) (t : Tally) → u.closing ≡ false → IsTallied u t → t.aborts_out ≡ 0
unclosed-no-abort u t unclosed tallied = unclosed-at u.state u t unclosed tallied.pending tallied.by_state

-- bytes, the end, and a close leave the calls in their count

pub bytes-tallied : (u : Upload) (t : Tally) (bytes : List ℕ) → u.state ≡ Open → IsTallied u t → IsTallied (with_bytes bytes u) t
bytes-tallied u t bytes opened tallied = bytes-at u.part u.state u.created u.asked u.sent u.stored u.rest u.pending u.closing t bytes opened tallied
  where
    bytes-at : (part : ℕ) (state : UpState) (created : Created) (asked sent stored : ℕ) (rest : List ℕ) (pending : ℕ) (closing : Bool) (t : Tally) (bytes : List ℕ) → state ≡ Open → IsTallied (upload part state created asked sent stored rest pending closing) t → IsTallied (with_bytes bytes (upload part state created asked sent stored rest pending closing)) t
    bytes-at part Open created asked sent stored rest pending closing t bytes opened tallied =
        let going : IsGoing (upload part Open created asked sent stored rest pending closing) t = tallied.by_state.0 in
        record { parts = tallied.parts; pending = tallied.pending; by_state = (record { first = going.first; kept = going.kept; creates = going.creates; creates_out = going.creates_out; parts_out = going.parts_out; completes_out = going.completes_out; aborts = going.aborts; aborts_out = going.aborts_out }, tallied.by_state.1) }
    bytes-at part other created asked sent stored rest pending closing t bytes opened tallied = absurd (cc)

ended-tallied-at : (part : ℕ) (state : UpState) (created : Created) (asked sent stored : ℕ) (rest : List ℕ) (pending : ℕ) (closing : Bool) (t : Tally) → IsTallied (upload part state created asked sent stored rest pending closing) t → IsTallied (ended (upload part state created asked sent stored rest pending closing)) t
ended-tallied-at part Open created asked sent stored rest pending closing t tallied =
    let going : IsGoing (upload part Open created asked sent stored rest pending closing) t = tallied.by_state.0 in
    record { parts = tallied.parts; pending = tallied.pending; by_state = (record { first = going.first; kept = going.kept; creates = going.creates; creates_out = going.creates_out; parts_out = going.parts_out; completes_out = going.completes_out; aborts = going.aborts; aborts_out = going.aborts_out }, inl tallied.by_state.1) }
ended-tallied-at part Finished created asked sent stored rest pending closing t tallied = tallied
ended-tallied-at part Done created asked sent stored rest pending closing t tallied = tallied
ended-tallied-at part (Failed first) created asked sent stored rest pending closing t tallied = tallied

pub ended-tallied : (u : Upload) (t : Tally) → IsTallied u t → IsTallied (ended u) t
ended-tallied u t tallied = ended-tallied-at u.part u.state u.created u.asked u.sent u.stored u.rest u.pending u.closing t tallied

closing-at : (part : ℕ) (state : UpState) (created : Created) (asked sent stored : ℕ) (rest : List ℕ) (pending : ℕ) (closing : Bool) (t : Tally) → IsTallied (upload part state created asked sent stored rest pending closing) t → IsTallied (with_closing (upload part state created asked sent stored rest pending closing)) t
closing-at part Open created asked sent stored rest pending closing t tallied =
    let going : IsGoing (upload part Open created asked sent stored rest pending closing) t = tallied.by_state.0 in
    record { parts = tallied.parts; pending = tallied.pending; by_state = (record { first = going.first; kept = going.kept; creates = going.creates; creates_out = going.creates_out; parts_out = going.parts_out; completes_out = going.completes_out; aborts = going.aborts; aborts_out = going.aborts_out }, tallied.by_state.1) }
closing-at part Finished created asked sent stored rest pending closing t tallied =
    let u : Upload = upload part Finished created asked sent stored rest pending closing in
    let going : IsGoing u t = tallied.by_state.0 in
    let stays : (t.completes ≡ 0) ⊎ IsCompleting (with_closing u) t = elim tallied.by_state.1 [ inl none ↦ inl none | inr c ↦ inr (record { completes = c.completes; asked_for = c.asked_for; created = c.created; stored = c.stored; none_left = c.none_left; some_part = c.some_part }) ] in
    record { parts = tallied.parts; pending = tallied.pending; by_state = (record { first = going.first; kept = going.kept; creates = going.creates; creates_out = going.creates_out; parts_out = going.parts_out; completes_out = going.completes_out; aborts = going.aborts; aborts_out = going.aborts_out }, stays) }
closing-at part Done created asked sent stored rest pending closing t tallied =
    let spent : IsSpent (upload part Done created asked sent stored rest pending closing) t = tallied.by_state in
    record { parts = tallied.parts; pending = tallied.pending; by_state = record { creates = spent.creates; completes = spent.completes; aborts = spent.aborts; pending = spent.pending } }
closing-at part (Failed first) created asked sent stored rest pending closing t tallied =
    let u : Upload = upload part (Failed first) created asked sent stored rest pending closing in
    let broken : IsBroken u t = tallied.by_state in
    let stays : ((t.aborts ≡ 0) × (t.aborts_out ≡ 0)) ⊎ IsGivenUp (with_closing u) t = elim broken.aborts [ inl none ↦ inl none | inr given ↦ inr (record { aborts = given.aborts; closing = refl; back = given.back }) ] in
    record { parts = tallied.parts; pending = tallied.pending; by_state = record { creates = broken.creates; creates_out = broken.creates_out; stored = broken.stored; completes = broken.completes; completes_out = broken.completes_out; aborts = stays } }

pub closing-tallied : (u : Upload) (t : Tally) → IsTallied u t → IsTallied (with_closing u) t
closing-tallied u t tallied = closing-at u.part u.state u.created u.asked u.sent u.stored u.rest u.pending u.closing t tallied

-- an upload that has asked for nothing yet
pub new-tallied : (part : ℕ) (t : Tally) → t.creates ≡ 0 → t.parts ≡ 0 → t.completes ≡ 0 → t.aborts ≡ 0 → t.creates_out ≡ 0 → t.parts_out ≡ 0 → t.completes_out ≡ 0 → t.aborts_out ≡ 0 → IsTallied (new_upload part) t
new-tallied part t a b c d e f g h = record { parts = b; pending = omega arith; by_state = (record { first = refl; kept = λ given. absurd (cc); creates = a; creates_out = e; parts_out = omega arith; completes_out = omega arith; aborts = d; aborts_out = h }, c) }
