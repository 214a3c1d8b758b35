-- What an upload asks for stays within its limit, and leaves fewer calls to ask for.
use Rattle.std.proofs.Common.{◌≡◌, ◌≢◌, ℕ, ◌+◌, ◌-◌, ◌*◌, ◌≤◌, List, [], length, drop, Bool, true, false, ◌==◌, if◌then◌else◌, Some, ◌⊎◌, inl, inr, refl, sym, ap, ◌∙◌, arith, ne_eqb}
use Rattle.std.proofs.lemmas.List.{length-append, length-take, length-drop}
use Rattle.mp_types.specs.declared.errno.Errno.{Errno}
use Rattle.bucket_model.specs.declared.call.Call.{Call}
use Rattle.bucket_model.specs.declared.answer.Brief.{Brief}
use Rattle.bucket_model.specs.Answers.{max_parts, MayBeMade}
use Rattle.upload_rules.specs.declared.upload.UpState.TheVariants.{Open, Finished}
use Rattle.upload_rules.specs.declared.upload.UpAsk.{UpAsk}
use Rattle.upload_rules.specs.declared.upload.UpAsk.TheVariants.{Create, Part, Complete, Abort}
use Rattle.upload_rules.specs.Upload.{Upload, new_upload, due, with_ask, with_bytes, with_back, with_closing, fails_with, with_failure}
use Rattle.upload_rules.proofs.Due.{IsPartDue, due-is}
use Rattle.upload_rules.proofs.Place.{few}
use Rattle.mount_model.specs.Conversation.{ended}
use Rattle.mount_model.specs.Writers.{asking_for, hears_answer, settled, back_times}
use Rattle.run_laws.specs.Uploads.{IsUpload, Tally, IsTallied, calls_left_of}
use Rattle.run_laws.proofs.Changes.{fails-by, ended-by, lacking-by, backs-by, hears-by}
use Rattle.run_laws.proofs.Uploads.{Adds, tallied-once, ask-tallied, back-is}

-- what stays

-- whether a close waits, and that no more bytes come
pub record Stays (u now : Upload) : Type 0 where
  pub closing : now.closing ≡ u.closing
  pub not_open : u.state ≢ Open → now.state ≢ Open

pub stays-same : (u : Upload) → Stays u u
stays-same u = record { closing = refl; not_open = λ e. e }

pub stays-then : (u mid now : Upload) → Stays u mid → Stays mid now → Stays u now
stays-then u mid now first second = record { closing = second.closing ∙ first.closing; not_open = λ e. second.not_open (first.not_open e) }

pub stays-ask : (u : Upload) (ask : UpAsk) → Stays u (with_ask ask u)
stays-ask u Create = record { closing = refl; not_open = λ e. e }
stays-ask u (Part number from to) = record { closing = refl; not_open = λ e. e }
stays-ask u (Complete parts) = record { closing = refl; not_open = λ e. e }
stays-ask u Abort = record { closing = refl; not_open = λ e. e }

stays-fails : (errno : Errno) (u : Upload) → Stays u (fails_with errno u)
stays-fails = fails-by Stays stays-same (λ errno u. record { closing = refl; not_open = λ e is. absurd (cc) })

stays-failure : (errno : Errno) (u : Upload) → Stays u (with_failure errno u)
stays-failure errno u = stays-then u (with_back u) (with_failure errno u) (record { closing = refl; not_open = λ e. e }) (stays-fails errno (with_back u))

pub stays-settled : (u : Upload) → Stays u (settled u)
stays-settled u = lacking-by Stays stays-same stays-fails u (due u)

pub stays-back : (drops : ℕ) (u : Upload) → Stays u (back_times drops u)
stays-back = backs-by Stays stays-same stays-then (λ u. record { closing = refl; not_open = λ e. e })

pub stays-hears : (called : Call) (said : Brief) (u : Upload) → Stays u (hears_answer called said u)
stays-hears = hears-by Stays stays-failure
    (λ id u. record { closing = refl; not_open = λ e. e })
    (λ u. record { closing = refl; not_open = λ e. e })
    (λ u. record { closing = refl; not_open = λ e is. absurd (cc) })
    (λ u. record { closing = refl; not_open = λ e. e })

-- how many calls aren't back

pending-fails : (errno : Errno) (u : Upload) → (fails_with errno u).pending ≡ u.pending
pending-fails = fails-by (λ u now. now.pending ≡ u.pending) (λ u. refl) (λ errno u. refl)

pub pending-settled : (u : Upload) → (settled u).pending ≡ u.pending
pending-settled u = lacking-by (λ u now. now.pending ≡ u.pending) (λ u. refl) pending-fails u (due u)

pub pending-back : (drops : ℕ) (u : Upload) → (back_times drops u).pending ≡ u.pending - drops
pending-back drops u = ap (λ (v : Upload). v.pending) (back-is drops u.part u.state u.created u.asked u.sent u.stored u.rest u.pending u.closing)

pub pending-ask : (ask : UpAsk) (u : Upload) → (with_ask ask u).pending ≡ u.pending + 1
pending-ask Create u = refl
pending-ask (Part number from to) u = refl
pending-ask (Complete parts) u = refl
pending-ask Abort u = refl

pub pending-hears : (called : Call) (said : Brief) (u : Upload) → (hears_answer called said u).pending ≡ u.pending - 1
pending-hears = hears-by (λ u now. now.pending ≡ u.pending - 1) (λ errno u. pending-fails errno (with_back u)) (λ id u. refl) (λ u. refl) (λ u. refl) (λ u. refl)

-- the limit

pub new-upload : (part : ℕ) → 1 ≤ part → IsUpload (new_upload part)
new-upload part some = record { part_low = some; fits = omega arith; place = λ grows. omega arith }

pub upload-bytes : (u : Upload) (bytes : List ℕ) → u.state ≡ Open → u.sent + length u.rest + length bytes ≤ u.part * max_parts → IsUpload u → IsUpload (with_bytes bytes u)
upload-bytes u bytes opened fits h = record { part_low = h.part_low; fits = let sum = length-append u.rest bytes in omega arith; place = λ grows. h.place (inl opened) }

pub upload-ended : (u : Upload) → IsUpload u → IsUpload (ended u)
upload-ended = ended-by (λ u now. IsUpload u → IsUpload now) (λ u closed h. h) (λ u opened h. record { part_low = h.part_low; fits = h.fits; place = λ grows. h.place (inl opened) })

pub upload-closing : (u : Upload) → IsUpload u → IsUpload (with_closing u)
upload-closing u h = record { part_low = h.part_low; fits = h.fits; place = h.place }

upload-fails : (errno : Errno) (u : Upload) → IsUpload u → IsUpload (fails_with errno u)
upload-fails = fails-by (λ u now. IsUpload u → IsUpload now) (λ u h. h) (λ errno u h. record { part_low = h.part_low; fits = let fits = h.fits in omega arith; place = λ grows. elim grows [ inl opened ↦ absurd (cc) | inr some ↦ absurd (omega arith) ] })

upload-failure : (errno : Errno) (u : Upload) → IsUpload u → IsUpload (with_failure errno u)
upload-failure errno u h = upload-fails errno (with_back u) (record { part_low = h.part_low; fits = h.fits; place = h.place })

pub upload-settled : (u : Upload) → IsUpload u → IsUpload (settled u)
upload-settled u = lacking-by (λ u now. IsUpload u → IsUpload now) (λ u h. h) upload-fails u (due u)

pub upload-back : (drops : ℕ) (u : Upload) → IsUpload u → IsUpload (back_times drops u)
upload-back = backs-by (λ u now. IsUpload u → IsUpload now) (λ u h. h) (λ u v w first second h. second (first h)) (λ u h. record { part_low = h.part_low; fits = h.fits; place = h.place })

pub upload-hears : (called : Call) (said : Brief) (u : Upload) → IsUpload u → IsUpload (hears_answer called said u)
upload-hears = hears-by (λ u now. IsUpload u → IsUpload now) upload-failure
    (λ id u h. record { part_low = h.part_low; fits = h.fits; place = h.place })
    (λ u h. record { part_low = h.part_low; fits = h.fits; place = h.place })
    (λ u h. record { part_low = h.part_low; fits = h.fits; place = λ grows. elim grows [ inl opened ↦ absurd (cc) | inr some ↦ h.place (inr some) ] })
    (λ u h. record { part_low = h.part_low; fits = h.fits; place = h.place })

-- where a part is asked for and more may come behind it, it is full
full-part : (u : Upload) (number from to : ℕ) → IsPartDue u number from to → (u.state ≡ Open) ⊎ (1 ≤ length (drop (to - from) u.rest)) → u.part ≤ length u.rest
full-part u number from to d grows =
    let next_len = length-take u.part u.rest in
    let rest_len = length-drop (to - from) u.rest in
    let from_is = d.from_is in
    let to_is = d.to_is in
    elim d.full_or_last [
      | inl full ↦ full
      | inr last ↦ elim grows [
        | inl opened ↦ absurd (let same : Open ≡ Finished = sym opened ∙ last.0 in cc)
        | inr some ↦ omega arith
      ]
    ]

part-upload : (u : Upload) (number from to : ℕ) → IsPartDue u number from to → IsUpload u → IsUpload (with_ask (Part number from to) u)
part-upload u number from to d h =
    let next_len = length-take u.part u.rest in
    let rest_len = length-drop (to - from) u.rest in
    let from_is = d.from_is in
    let to_is = d.to_is in
    let some = h.part_low in
    let fits = h.fits in
    record {
      part_low = some;
      fits = omega arith;
      place = λ grows.
          let full = full-part u number from to d grows in
          let before : u.sent ≡ u.asked * u.part = h.place (inr (omega arith)) in
          omega arith;
    }

pub upload-ask : (u : Upload) (ask : UpAsk) → due u ≡ Some ask → IsUpload u → IsUpload (with_ask ask u)
upload-ask u Create is h = record { part_low = h.part_low; fits = h.fits; place = h.place }
upload-ask u (Part number from to) is h = part-upload u number from to (due-is u (Part number from to) is) h
upload-ask u (Complete parts) is h = record { part_low = h.part_low; fits = h.fits; place = h.place }
upload-ask u Abort is h = record { part_low = h.part_low; fits = h.fits; place = h.place }

-- so that each call may be made

part-few : (u : Upload) (number from to : ℕ) → IsPartDue u number from to → IsUpload u → u.asked + 1 ≤ max_parts
part-few u number from to d h =
    let some = h.part_low in
    let by_rest : 1 ≤ length u.rest → u.asked + 1 ≤ max_parts = λ left. few u.part max_parts u.asked (length u.rest) (u.sent + length u.rest) left (let before = h.place (inr left) in omega arith) h.fits in
    elim d.full_or_last [
      | inl full ↦ by_rest (omega arith)
      | inr last ↦ elim last.1 [
        | inl left ↦ by_rest left
        | inr none ↦ omega arith
      ]
    ]

pub ask-made : (key : List ℕ) (u : Upload) (ask : UpAsk) → due u ≡ Some ask → IsUpload u → MayBeMade (asking_for key u ask).call
ask-made key u Create is h = tt
ask-made key u (Part number from to) is h =
    let d = due-is u (Part number from to) is in
    let number_is : number ≡ u.asked + 1 = d.number_is in
    let most = part-few u number from to d h in
    (omega arith, omega arith)
ask-made key u (Complete parts) is h =
    let d = due-is u (Complete parts) is in
    let parts_is : parts ≡ u.asked = d.parts_is in
    let some = d.none_left.1 in
    omega arith
ask-made key u Abort is h = tt

-- and that fewer are left

-- one part of no bytes is left of an upload that has none
abbrev first_part : ℕ → ℕ
first_part asked = if asked == 0 then 1 else 0

first-most : (asked : ℕ) → first_part asked ≤ 1
first-most asked = go (asked == 0)
  where
    go : (b : Bool) → (if b then 1 else 0) ≤ 1
    go true = omega arith
    go false = omega arith

first-none : (asked : ℕ) → first_part (asked + 1) ≡ 0
first-none asked = let other : (asked + 1 == 0) ≡ false = ne_eqb (asked + 1) 0 (λ e. absurd (omega arith)) in rw other refl

part-fewer : (u : Upload) (t now : Tally) (number from to : ℕ) → IsPartDue u number from to → 1 ≤ u.part → Adds (asking_for [] u (Part number from to)).call t now → calls_left_of (with_ask (Part number from to) u) now + 1 ≤ calls_left_of u t
part-fewer u t now number from to d some adds =
    let next_len = length-take u.part u.rest in
    let rest_len = length-drop (to - from) u.rest in
    let from_is = d.from_is in
    let to_is = d.to_is in
    let none = first-none u.asked in
    let most = first-most u.asked in
    elim d.full_or_last [
      | inl full ↦ omega arith
      | inr last ↦ elim last.1 [
        | inl left ↦ omega arith
        | inr first ↦ (let one : first_part u.asked ≡ 1 = ap first_part first in omega arith)
      ]
    ]

pub ask-fewer : (u : Upload) (t now : Tally) (ask : UpAsk) → due u ≡ Some ask → 1 ≤ u.part → IsTallied u t → Adds (asking_for [] u ask).call t now → calls_left_of (with_ask ask u) now + 1 ≤ calls_left_of u t
ask-fewer u t now Create is some tallied adds = let once = tallied-once (with_ask Create u) now (ask-tallied u t now Create is tallied adds) in omega arith
ask-fewer u t now (Part number from to) is some tallied adds = part-fewer u t now number from to (due-is u (Part number from to) is) some adds
ask-fewer u t now (Complete parts) is some tallied adds = let once = tallied-once (with_ask (Complete parts) u) now (ask-tallied u t now (Complete parts) is tallied adds) in omega arith
ask-fewer u t now Abort is some tallied adds = let once = tallied-once (with_ask Abort u) now (ask-tallied u t now Abort is tallied adds) in omega arith

-- what else happens leaves no more bytes
pub record Shrinks (u now : Upload) : Type 0 where
  pub rest : length now.rest ≤ length u.rest
  pub asked : now.asked ≡ u.asked

shrinks-same : (u : Upload) → Shrinks u u
shrinks-same u = record { rest = omega arith; asked = refl }

shrinks-then : (u mid now : Upload) → Shrinks u mid → Shrinks mid now → Shrinks u now
shrinks-then u mid now first second = record { rest = let less = first.rest in let fewer = second.rest in omega arith; asked = second.asked ∙ first.asked }

shrinks-fails : (errno : Errno) (u : Upload) → Shrinks u (fails_with errno u)
shrinks-fails = fails-by Shrinks shrinks-same (λ errno u. record { rest = omega arith; asked = refl })

shrinks-failure : (errno : Errno) (u : Upload) → Shrinks u (with_failure errno u)
shrinks-failure errno u = let fails = shrinks-fails errno (with_back u) in record { rest = fails.rest; asked = fails.asked }

pub shrinks-settled : (u : Upload) → Shrinks u (settled u)
shrinks-settled u = lacking-by Shrinks shrinks-same shrinks-fails u (due u)

pub shrinks-back : (drops : ℕ) (u : Upload) → Shrinks u (back_times drops u)
shrinks-back = backs-by Shrinks shrinks-same shrinks-then (λ u. record { rest = omega arith; asked = refl })

pub shrinks-hears : (called : Call) (said : Brief) (u : Upload) → Shrinks u (hears_answer called said u)
shrinks-hears = hears-by Shrinks shrinks-failure (λ id u. record { rest = omega arith; asked = refl }) (λ u. record { rest = omega arith; asked = refl }) (λ u. record { rest = omega arith; asked = refl }) (λ u. record { rest = omega arith; asked = refl })

pub shrinks-ended : (u : Upload) → Shrinks u (ended u)
shrinks-ended = ended-by Shrinks (λ u closed. shrinks-same u) (λ u opened. record { rest = omega arith; asked = refl })

pub shrinks-left : (u now : Upload) (t : Tally) → Shrinks u now → calls_left_of now t ≤ calls_left_of u t
shrinks-left u now t s = let first : first_part now.asked ≡ first_part u.asked = ap first_part s.asked in let rest = s.rest in omega arith

-- an upload that goes to its end
pub record IsEnded (u now : Upload) : Type 0 where
  pub not_open : now.state ≢ Open
  pub closing : now.closing ≡ u.closing
  pub pending : now.pending ≡ u.pending

pub is-ended : (u : Upload) → IsEnded u (ended u)
is-ended = ended-by IsEnded (λ u closed. record { not_open = closed; closing = refl; pending = refl }) (λ u opened. record { not_open = λ e. absurd (cc); closing = refl; pending = refl })
