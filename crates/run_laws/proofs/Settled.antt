-- The lines once all awaits that are due have their replies.
use Rattle.std.proofs.Common.{◌≡◌, ◌≢◌, ℕ, ◌<◌, ◌≤◌, List, [], ◌∷◌, Bool, true, false, ◌==◌, Some, refl, sym, ap, ◌∙◌, arith, eq-eqb, ne_eqb}
use Rattle.mount_model.specs.declared.request.Request.{Request}
use Rattle.mount_model.specs.declared.request.Request.TheVariants.{Await}
use Rattle.mount_model.specs.declared.request.Reply.TheVariants as reply
use Rattle.mount_model.specs.declared.request.Line.{Line}
use Rattle.mount_model.specs.declared.event.Answered.{Answered as Reply}
use Rattle.mount_model.specs.declared.standing.Heard.{Heard}
use Rattle.mount_model.specs.declared.standing.Phase.{Phase}
use Rattle.mount_model.specs.declared.standing.Phase.TheVariants.{Waiting, Begun, Replied}
use Rattle.mount_model.specs.declared.standing.Standing.{Standing}
use Rattle.mount_model.specs.State.{line_at, change_line, with_answered, with_replies}
use Rattle.mount_model.specs.Run.{due_awaits}
use Rattle.run_laws.specs.Alive.{jobs_at_once, jobs_wanted}
use Rattle.run_laws.specs.Order.{reply_line}
use Rattle.run_laws.proofs.Keyed.{Rises, Rises-below, change_at-none}
use Rattle.run_laws.proofs.Lines.{number_of, changed}

-- a standing of these parts
abbrev pub standing : ℕ → ℕ → Request → Phase → Standing
standing number actor request phase = record { line = record { number = number; actor = actor; request = request }; phase = phase }

abbrev pub settled : List Standing → List Standing
settled [] = []
settled (s ∷ lines) = by_phase s.phase (settled lines)
  where
    by_phase : Phase → List Standing → List Standing
    by_phase Waiting more = s ∷ lines
    by_phase (Begun heard) more = by_request s.line.request
      where
        by_request : Request → List Standing
        by_request Await = record { line = s.line; phase = Replied } ∷ more
        by_request other = s ∷ lines
    by_phase Replied more = s ∷ more

-- at the first line the awaits that are due end, or it is one of them, or it has its reply
pub data First (s : Standing) (lines : List Standing) : Type 0 where
  Stops : due_awaits (s ∷ lines) ≡ [] → settled (s ∷ lines) ≡ s ∷ lines → First s lines
  Answers : (heard : Heard) → s.phase ≡ Begun heard → s.line.request ≡ Await → due_awaits (s ∷ lines) ≡ record { line = s.line.number; reply = reply.Success } ∷ due_awaits lines → settled (s ∷ lines) ≡ record { line = s.line; phase = Replied } ∷ settled lines → First s lines
  Passes : s.phase ≡ Replied → due_awaits (s ∷ lines) ≡ due_awaits lines → settled (s ∷ lines) ≡ s ∷ settled lines → First s lines

first-of : (number actor : ℕ) (request : Request) (phase : Phase) (lines : List Standing) → First (standing number actor request phase) lines
first-of number actor request Waiting lines = Stops refl refl
first-of number actor request Replied lines = Passes refl refl refl
first-of number actor Await (Begun heard) lines = Answers heard refl refl refl refl
first-of number actor other (Begun heard) lines = Stops refl refl

pub first : (s : Standing) (lines : List Standing) → First s lines
first s lines = first-of s.line.number s.line.actor s.line.request s.phase lines

-- the awaits that are due stand in order
pub due-rise : (above : ℕ) (lines : List Standing) → Rises number_of above lines → Rises reply_line above (due_awaits lines)
due-rise above [] r = tt
due-rise above (s ∷ lines) r = go (first s lines) (due-rise s.line.number lines r.1)
  where
    go : First s lines → Rises reply_line s.line.number (due_awaits lines) → Rises reply_line above (due_awaits (s ∷ lines))
    go (Stops due same) more = rw due tt
    go (Answers heard begun awaits due same) more = rw due (r.0, more)
    go (Passes replied due same) more = rw due (let here : above < s.line.number = r.0 in Rises-below reply_line above s.line.number (due_awaits lines) (omega arith) more)

-- replies to lines further down leave the first one
pub replies-past : (above : ℕ) (s : Standing) (lines : List Standing) (replies : List Reply) → s.line.number ≤ above → Rises reply_line above replies → with_replies (s ∷ lines) replies ≡ s ∷ with_replies lines replies
replies-past above s lines [] h r = refl
replies-past above s lines (reply ∷ replies) h r =
    let first : above < reply.line = r.0 in
    let other : (s.line.number == reply.line) ≡ false = ne_eqb s.line.number reply.line (omega arith) in
    let kept : with_answered (s ∷ lines) reply ≡ s ∷ with_answered lines reply = rw other refl in
    ap (λ t. with_replies t replies) kept ∙ replies-past reply.line s (with_answered lines reply) replies (omega arith) r.1

-- so answered, the lines are these
pub settled-is : (above : ℕ) (lines : List Standing) → Rises number_of above lines → with_replies lines (due_awaits lines) ≡ settled lines
settled-is above [] r = refl
settled-is above (s ∷ lines) r = go (first s lines) (settled-is s.line.number lines r.1)
  where
    dues : Rises reply_line s.line.number (due_awaits lines)
    dues = due-rise s.line.number lines r.1

    now : Standing
    now = record { line = s.line; phase = Replied }

    go : First s lines → with_replies lines (due_awaits lines) ≡ settled lines → with_replies (s ∷ lines) (due_awaits (s ∷ lines)) ≡ settled (s ∷ lines)
    go (Stops due same) e = ap (with_replies (s ∷ lines)) due ∙ sym same
    go (Answers heard begun awaits due same) e =
        let own : (s.line.number == s.line.number) ≡ true = eq-eqb s.line.number s.line.number refl in
        let below : change_line s.line.number (λ phase. Replied) lines ≡ lines = change_at-none number_of (changed (λ phase. Replied)) s.line.number s.line.number lines (omega arith) r.1 in
        let answered : change_line s.line.number (λ phase. Replied) (s ∷ lines) ≡ now ∷ lines = rw own (ap (λ t. now ∷ t) below) in
        ap (with_replies (s ∷ lines)) due ∙ ap (λ t. with_replies t (due_awaits lines)) answered ∙ replies-past s.line.number now lines (due_awaits lines) (omega arith) dues ∙ ap (λ t. now ∷ t) e ∙ sym same
    go (Passes replied due same) e = ap (with_replies (s ∷ lines)) due ∙ replies-past s.line.number s lines (due_awaits lines) (omega arith) dues ∙ ap (λ t. s ∷ t) e ∙ sym same

-- and no more awaits are due
pub due-replied : (s : Standing) (lines : List Standing) → s.phase ≡ Replied → due_awaits (s ∷ lines) ≡ due_awaits lines
due-replied s lines replied = ap (λ (p : Phase). due_awaits (record { line = s.line; phase = p } ∷ lines)) replied

pub settled-due : (lines : List Standing) → due_awaits (settled lines) ≡ []
settled-due [] = refl
settled-due (s ∷ lines) = go (first s lines) (settled-due lines)
  where
    go : First s lines → due_awaits (settled lines) ≡ [] → due_awaits (settled (s ∷ lines)) ≡ []
    go (Stops due same) e = ap due_awaits same ∙ due
    go (Answers heard begun awaits due same) e = ap due_awaits same ∙ e
    go (Passes replied due same) e = ap due_awaits same ∙ due-replied s (settled lines) replied ∙ e

-- how a line stands then: as before, or it was an await that is answered
pub data Settles (n : ℕ) (lines : List Standing) : Type 0 where
  Same : line_at n (settled lines) ≡ line_at n lines → Settles n lines
  Answered : (line : Line) (heard : Heard) → line.request ≡ Await → line_at n lines ≡ Some (record { line = line; phase = Begun heard }) → line_at n (settled lines) ≡ Some (record { line = line; phase = Replied }) → Settles n lines

pub settles : (n : ℕ) (lines : List Standing) → Settles n lines
settles n [] = Same refl
settles n (s ∷ lines) = go (first s lines) (s.line.number == n) refl (settles n lines)
  where
    later : line_at n (settled (s ∷ lines)) ≡ line_at n (settled lines) → (s.line.number == n) ≡ false → Settles n lines → Settles n (s ∷ lines)
    later here is (Same e) = Same (here ∙ e ∙ sym (rw is refl))
    later here is (Answered line heard awaits before behind) = Answered line heard awaits (rw is before) (here ∙ behind)

    go : First s lines → (b : Bool) → (s.line.number == n) ≡ b → Settles n lines → Settles n (s ∷ lines)
    go (Stops due same) b is more = Same (ap (line_at n) same)
    go (Answers heard begun awaits due same) true is more = Answered s.line heard awaits (rw is (ap (λ (p : Phase). Some (record { line = s.line; phase = p })) begun)) (ap (line_at n) same ∙ rw is refl)
    go (Answers heard begun awaits due same) false is more = later (ap (line_at n) same ∙ rw is refl) is more
    go (Passes replied due same) true is more = Same (ap (line_at n) same ∙ rw is refl)
    go (Passes replied due same) false is more = later (ap (line_at n) same ∙ rw is refl) is more

-- an await wants no job, neither before its reply nor behind it
pub settled-wanted : (n : ℕ) (lines : List Standing) → jobs_wanted (line_at n (settled lines)) ≡ jobs_wanted (line_at n lines)
settled-wanted n lines = go (settles n lines)
  where
    go : Settles n lines → jobs_wanted (line_at n (settled lines)) ≡ jobs_wanted (line_at n lines)
    go (Same e) = ap jobs_wanted e
    go (Answered line heard awaits before behind) = ap jobs_wanted behind ∙ sym (ap jobs_wanted before ∙ ap jobs_at_once awaits)

-- an await that has begun at the head is due
pub answered-due : (s : Standing) (lines : List Standing) (heard : Heard) → s.phase ≡ Begun heard → s.line.request ≡ Await → due_awaits (s ∷ lines) ≢ []
answered-due s lines heard begun awaits none =
    let first_is : due_awaits (s ∷ lines) ≡ record { line = s.line.number; reply = reply.Success } ∷ due_awaits lines =
    ap (λ (p : Phase). due_awaits (record { line = s.line; phase = p } ∷ lines)) begun
    ∙ ap (λ (r : Request). due_awaits (record { line = record { number = s.line.number; actor = s.line.actor; request = r }; phase = Begun heard } ∷ lines)) awaits in
    let clash = sym first_is ∙ none in
    cc
