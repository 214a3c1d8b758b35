-- Whom a step answers before the awaits: nobody, or one line that stands begun and is no await.
use Rattle.std.proofs.Common.{◌≡◌, ◌≢◌, ℕ, List, [], ◌∷◌, length, true, false, Some, refl, sym, ap, ◌∙◌, subst}
use Rattle.std.specs.FinMap as table
use Rattle.mount_model.specs.declared.handle.Handle.TheVariants.{Writing}
use Rattle.mount_model.specs.declared.request.Request.{Request}
use Rattle.mount_model.specs.declared.request.Request.TheVariants.{Await}
use Rattle.mount_model.specs.declared.request.Reply.{Reply}
use Rattle.mount_model.specs.declared.request.Reply.TheVariants as reply
use Rattle.mount_model.specs.declared.request.Line.{Line}
use Rattle.mount_model.specs.declared.event.Event.{Event}
use Rattle.mount_model.specs.declared.event.Answered.{Answered}
use Rattle.mount_model.specs.declared.standing.Heard.{Heard}
use Rattle.mount_model.specs.declared.standing.Phase.TheVariants.{Begun, Replied}
use Rattle.mount_model.specs.declared.standing.Standing.{Standing}
use Rattle.mount_model.specs.Step.{Step}
use Rattle.mount_model.specs.Handles.{Writer}
use Rattle.mount_model.specs.Conversation.{Next, Gives, Waits, View, next_of}
use Rattle.mount_model.specs.State.{ClientState, line_at, change_line, lines_at, view_of, handle_name, behind_step}
use Rattle.mount_model.specs.Run.{TakesTurnOfWriter, IsLegalStep}
use Rattle.run_laws.specs.Alive.{IsAlive}
use Rattle.run_laws.specs.Writers.{awaits_writer}
use Rattle.run_laws.proofs.Handles.{at-same}
use Rattle.run_laws.proofs.Writers.{stands_as}
use Rattle.run_laws.proofs.Conversation.{IsPlain, writes-so, ends-so, replies-plain}
use Rattle.run_laws.proofs.Turn.{Ending, AsksOne, RepliesOne, WritesOn, EndsIt, Rests, SaysSo, ByItself, MakesDir, RemovesDir, OpensHandle, CreatesFile, ListsEntries, GivesData, HasNoMemory, MayLack}
use Rattle.run_laws.proofs.Opened.{IsOpened, IsHeard}
use Rattle.run_laws.proofs.Left.{AnswerIs, NoAnswer, OneAnswer, answer-is}
use Rattle.run_laws.proofs.Steps.{next_now, heard_now, alone-begun, StepIs, LineStep, WriterStep, TakeStep, step-is, IsReadyFor, heard-ready, ends-ready, writes-ready}
use Rattle.run_laws.proofs.Effects.{replied-lines}
use Rattle.run_laws.proofs.Alive.{writes-unanswered}

-- what is said: no data, or what a line gives that has its turn
pub data IsSaid (state : ClientState) (event : Event) (n : ℕ) (said : Reply) : Type 0 where
  SaysPlain : IsPlain said → IsSaid state event n said
  SaysData : (opened : IsOpened state event) (count : ℕ) (bytes : List ℕ) → n ≡ opened.n → next_now state event opened ≡ Gives count → said ≡ reply.Data bytes → IsSaid state event n said

-- whom: the line whose turn it is, or one that awaits a writer
pub data IsWhose (state : ClientState) (event : Event) (n : ℕ) (line : Line) : Type 0 where
  WhoseTurn : (opened : IsOpened state event) → n ≡ opened.n → IsWhose state event n line
  WhoAwaits : awaits_writer line.request ≡ true → IsWhose state event n line

pub data OwnIs (state : ClientState) (event : Event) (own : List Answered) : Type 0 where
  NoOwn : own ≡ [] → OwnIs state event own
  OneOwn : (n : ℕ) (line : Line) (heard : Heard) (said : Reply) → own ≡ record { line = n; reply = said } ∷ [] → line_at n (lines_at state.lines state.jobs event) ≡ stands_as line (Begun heard) → line.request ≢ Await → change_line n (λ phase. Replied) (lines_at state.lines state.jobs event) ≡ change_line n (λ phase. Replied) state.lines → IsSaid state event n said → IsWhose state event n line → OwnIs state event own

await-next : (view : View) (request : Request) (heard : Heard) → request ≡ Await → next_of view request heard ≡ Waits
await-next view request heard awaits = ap (λ (r : Request). next_of view r heard) awaits

says-on : (next : Next) (said : Reply) → SaysSo next said → next ≢ Waits
says-on next said (ByItself own) is = absurd (cc)
says-on next said (MakesDir key) is = absurd (cc)
says-on next said (RemovesDir key) is = absurd (cc)
says-on next said (OpensHandle version) is = absurd (cc)
says-on next said (CreatesFile key) is = absurd (cc)
says-on next said (ListsEntries entries) is = absurd (cc)
says-on next said (GivesData count bytes) is = absurd (cc)
says-on next said (HasNoMemory lacked may) is = subst MayLack is may

awaits-on : (line : Line) → awaits_writer line.request ≡ true → line.request ≢ Await
awaits-on line awaits is = let none : awaits_writer line.request ≡ false = ap awaits_writer is in cc

is-said : (state : ClientState) (event : Event) (opened : IsOpened state event) (next : Next) (said : Reply) → next_now state event opened ≡ next → SaysSo next said → IsSaid state event opened.line.number said
is-said state event opened next said is (ByItself own) = SaysPlain (replies-plain (view_of state.shared opened.line) opened.line.request opened.heard said is)
is-said state event opened next said is (MakesDir key) = SaysPlain tt
is-said state event opened next said is (RemovesDir key) = SaysPlain tt
is-said state event opened next said is (OpensHandle version) = SaysPlain tt
is-said state event opened next said is (CreatesFile key) = SaysPlain tt
is-said state event opened next said is (ListsEntries entries) = SaysPlain tt
is-said state event opened next said is (GivesData count bytes) = SaysData opened count bytes opened.number_is is refl
is-said state event opened next said is (HasNoMemory lacked may) = SaysPlain tt

pub line-own : (state : ClientState) (step : Step) (own : List Answered) (opened : IsOpened state step.event) → IsAlive state → Ending state step opened.line opened.who (next_now state step.event opened) own → OwnIs state step.event own
line-own state step own opened alive ended = go ended
  where
    lines : List Standing
    lines = lines_at state.lines state.jobs step.event

    next : Next
    next = next_now state step.event opened

    stands : line_at opened.line.number lines ≡ stands_as opened.line (Begun opened.heard)
    stands = ap (λ (k : ℕ). line_at k lines) opened.number_is ∙ opened.now.stands

    same : change_line opened.line.number (λ phase. Replied) lines ≡ change_line opened.line.number (λ phase. Replied) state.lines
    same = ap (λ (k : ℕ). change_line k (λ phase. Replied) lines) opened.number_is ∙ replied-lines state step.event opened ∙ ap (λ (k : ℕ). change_line k (λ phase. Replied) state.lines) (sym opened.number_is)

    go : Ending state step opened.line opened.who next own → OwnIs state step.event own
    go (AsksOne called is asks none no_drops) = NoOwn none
    go (RepliesOne said says no_asks one no_drops) = OneOwn opened.line.number opened.line opened.heard said one stands (λ awaits. says-on next said says (await-next (view_of state.shared opened.line) opened.line.request opened.heard awaits)) same (is-said state step.event opened next said refl says) (WhoseTurn opened opened.number_is)
    go (WritesOn count w answers is takes one) =
        let so = writes-so (view_of state.shared opened.line) opened.line.request opened.heard count w is in
        let ready = writes-ready state step.event opened count w alive so in
        let none = writes-unanswered state step opened count (length so.bytes) w answers so ready takes in
        OneOwn opened.line.number opened.line opened.heard (reply.Wrote count) (one ∙ ap (λ (t : List Answered). record { line = opened.line.number; reply = reply.Wrote count } ∷ t) none) stands (λ awaits. absurd (let waits : next ≡ Waits = await-next (view_of state.shared opened.line) opened.line.request opened.heard awaits in cc)) same (SaysPlain tt) (WhoseTurn opened opened.number_is)
    go (EndsIt w is takes) =
        let so = ends-so (view_of state.shared opened.line) opened.line.request opened.heard w is in
        let ready = ends-ready state step.event opened w alive so in
        ends_own w takes ready (answer-is w.waiter (behind_step step w.upload))
      where
        ends_own : (w : Writer) → TakesTurnOfWriter state step w own → IsReadyFor state step.event (handle_name opened.line) w 0 → AnswerIs w.waiter (behind_step step w.upload) → OwnIs state step.event own
        ends_own w takes ready (NoAnswer none) = NoOwn (takes.answers ∙ none)
        ends_own w takes ready (OneAnswer line said waits one plain) =
            let waiting = (ready.writers.each (handle_name opened.line) w (at-same (handle_name opened.line) (Some (Writing w)) (table.get state.shared.handles))).waits line waits in
            let number_is = alone-begun state step.event opened line waiting.line waiting.heard waiting.stands waiting.named in
            let same_line : change_line line (λ phase. Replied) lines ≡ change_line line (λ phase. Replied) state.lines = ap (λ (k : ℕ). change_line k (λ phase. Replied) lines) number_is ∙ replied-lines state step.event opened ∙ ap (λ (k : ℕ). change_line k (λ phase. Replied) state.lines) (sym number_is) in
            OneOwn line waiting.line waiting.heard said (takes.answers ∙ one) waiting.stands (awaits-on waiting.line waiting.awaits) same_line (SaysPlain plain) (WhoAwaits waiting.awaits)
    go (Rests is no_asks none no_drops) = NoOwn none

pub heard-own : (state : ClientState) (step : Step) (own : List Answered) (heard : IsHeard state step.event) → IsAlive state → TakesTurnOfWriter state step (heard_now state step.event heard) own → OwnIs state step.event own
heard-own state step own heard alive takes = go (answer-is w.waiter (behind_step step w.upload))
  where
    w : Writer
    w = heard_now state step.event heard

    ready : IsReadyFor state step.event heard.name w 0
    ready = heard-ready state step.event alive heard

    go : AnswerIs w.waiter (behind_step step w.upload) → OwnIs state step.event own
    go (NoAnswer none) = NoOwn (takes.answers ∙ none)
    go (OneAnswer line said waits one plain) =
        let waiting = (ready.writers.each heard.name w (at-same heard.name (Some (Writing w)) (table.get state.shared.handles))).waits line waits in
        OneOwn line waiting.line waiting.heard said (takes.answers ∙ one) waiting.stands (awaits-on waiting.line waiting.awaits) (ap (change_line line (λ phase. Replied)) heard.lines_are) (SaysPlain plain) (WhoAwaits waiting.awaits)

pub own-is : (state : ClientState) (step : Step) → IsAlive state → (legal : IsLegalStep state step) → OwnIs state step.event legal.own
own-is state step alive legal = go (step-is state step alive legal)
  where
    go : StepIs state step legal.own → OwnIs state step.event legal.own
    go (LineStep opened ended) = line-own state step legal.own opened alive ended
    go (WriterStep heard takes) = heard-own state step legal.own heard alive takes
    go (TakeStep number time from is found no_asks no_own no_drops) = NoOwn no_own
