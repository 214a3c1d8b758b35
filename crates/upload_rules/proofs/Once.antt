-- What was asked for isn't asked for again.
use Rattle.std.proofs.Common.{◌≡◌, ◌≢◌, ℕ, List, [], ◌∷◌, ◌++◌, fold, Bool, Some, refl, sym, subst, arith}
use Rattle.mp_types.specs.declared.errno.Errno.{Errno}
use Rattle.mp_types.specs.declared.errno.Errno.TheVariants.{Enomem}
use Rattle.upload_rules.specs.declared.upload.UpState.{UpState}
use Rattle.upload_rules.specs.declared.upload.UpState.TheVariants.{Open, Finished, Done, Failed}
use Rattle.upload_rules.specs.declared.upload.Created.{Created}
use Rattle.upload_rules.specs.declared.upload.Created.TheVariants.{NotAsked}
use Rattle.upload_rules.specs.declared.upload.UpAsk.{UpAsk}
use Rattle.upload_rules.specs.declared.upload.UpAsk.TheVariants.{Create, Part, Complete, Abort}
use Rattle.upload_rules.specs.Upload.{Upload, new_upload, due, with_ask, with_back, fails_with}
use Rattle.upload_rules.specs.Run.{Happening, Takes, Finishes, Closes, Asks, Creates, Stores, Completes, Fails, Lacks, Drops, GivesUp, after, upload_after}
use Rattle.upload_rules.proofs.Due.{upload, due-is}

-- while a call is out, neither the object nor an abort is due

ask-pending : (ask : UpAsk) (u : Upload) → (with_ask ask u).pending ≢ 0
ask-pending Create u none = absurd (omega arith)
ask-pending (Part number from to) u none = absurd (omega arith)
ask-pending (Complete parts) u none = absurd (omega arith)
ask-pending Abort u none = absurd (omega arith)

pub no-complete : (u : Upload) (ask : UpAsk) (parts : ℕ) → due (with_ask ask u) ≢ Some (Complete parts)
no-complete u ask parts is = ask-pending ask u (due-is (with_ask ask u) (Complete parts) is).none_out

pub no-abort : (u : Upload) (ask : UpAsk) → due (with_ask ask u) ≢ Some Abort
no-abort u ask is = ask-pending ask u (due-is (with_ask ask u) Abort is).none_out

-- once a new upload was asked for, none is due

abbrev WasAsked : Upload → Type 0
WasAsked u = u.created ≢ NotAsked

not-due : (u : Upload) → WasAsked u → due u ≢ Some Create
not-due u asked is = asked (due-is u Create is)

failed-at : (part : ℕ) (state : UpState) (created : Created) (asked sent stored : ℕ) (rest : List ℕ) (pending : ℕ) (closing : Bool) (errno : Errno) → (fails_with errno (upload part state created asked sent stored rest pending closing)).created ≡ created
failed-at part Open created asked sent stored rest pending closing errno = refl
failed-at part Finished created asked sent stored rest pending closing errno = refl
failed-at part Done created asked sent stored rest pending closing errno = refl
failed-at part (Failed first) created asked sent stored rest pending closing errno = refl

failed : (u : Upload) (errno : Errno) → WasAsked u → WasAsked (fails_with errno u)
failed u errno was = subst (λ (created : Created). created ≢ NotAsked) (sym (failed-at u.part u.state u.created u.asked u.sent u.stored u.rest u.pending u.closing errno)) was

asked-step : (u : Upload) (happening : Happening) → WasAsked u → WasAsked (after u happening)
asked-step u (Takes bytes) was = was
asked-step u Finishes was = was
asked-step u Closes was = was
asked-step u (Asks Create) was = λ none. absurd (cc)
asked-step u (Asks (Part number from to)) was = was
asked-step u (Asks (Complete parts)) was = was
asked-step u (Asks Abort) was = was
asked-step u (Creates id) was = λ none. absurd (cc)
asked-step u Stores was = was
asked-step u Completes was = was
asked-step u (Fails errno) was = failed (with_back u) errno was
asked-step u Lacks was = failed u Enomem was
asked-step u Drops was = was
asked-step u GivesUp was = λ none. absurd (cc)

asked-along : (u : Upload) (happenings : List Happening) → WasAsked u → WasAsked (fold after u happenings)
asked-along u [] was = was
asked-along u (happening ∷ happenings) was = asked-along (after u happening) happenings (asked-step u happening was)

create-along : (u : Upload) (before behind : List Happening) → WasAsked (fold after u (before ++ Asks Create ∷ behind))
create-along u [] behind = asked-along (with_ask Create u) behind (λ none. absurd (cc))
create-along u (happening ∷ before) behind = create-along (after u happening) before behind

pub create-once : (part : ℕ) (before behind : List Happening) → due (upload_after part (before ++ Asks Create ∷ behind)) ≢ Some Create
create-once part before behind = not-due (upload_after part (before ++ Asks Create ∷ behind)) (create-along (new_upload part) before behind)

asked-for : (u : Upload) (ask : UpAsk) → due u ≡ Some ask → WasAsked (with_ask ask u)
asked-for u Create is = λ none. absurd (cc)
asked-for u (Part number from to) is = (due-is u (Part number from to) is).asked_for
asked-for u (Complete parts) is = (due-is u (Complete parts) is).asked_for
asked-for u Abort is = (due-is u Abort is).asked_for

pub no-create : (u : Upload) (ask : UpAsk) → due u ≡ Some ask → due (with_ask ask u) ≢ Some Create
no-create u ask is = not-due (with_ask ask u) (asked-for u ask is)
