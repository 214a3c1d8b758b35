-- Where an fsync or a close is answered ok, it is the turn of its writer, whose object is made.
use Rattle.std.proofs.Common.{◌≡◌, ◌≢◌, ℕ, zero, suc, List, [], ◌∷◌, ◌++◌, map, find, length, slice_get, cond, Bool, true, false, ◌==◌, if◌then◌else◌, Option, Some, None, option_map, ◌⊎◌, inl, inr, refl, sym, ap, ◌∙◌, subst, eqb-true}
use Rattle.std.proofs.lemmas.Option.{slice_get-get_or}
use Rattle.std.specs.List.{Contains}
use Rattle.std.specs.FinMap as table
use Rattle.mp_types.specs.HandleName.{HandleName}
use Rattle.mp_types.specs.declared.errno.Errno.{Errno}
use Rattle.bucket_model.specs.declared.history.Logged.{Logged}
use Rattle.upload_rules.specs.declared.upload.UpState.{UpState}
use Rattle.upload_rules.specs.declared.upload.UpState.TheVariants.{Open, Finished, Done, Failed}
use Rattle.upload_rules.specs.Upload.{Upload}
use Rattle.mount_model.specs.declared.handle.Handle.TheVariants.{Writing}
use Rattle.mount_model.specs.declared.handle.Waiter.{Waiter}
use Rattle.mount_model.specs.declared.handle.Waiter.TheVariants as waiter
use Rattle.mount_model.specs.declared.request.Request.{Request}
use Rattle.mount_model.specs.declared.request.Request.TheVariants.{Await}
use Rattle.mount_model.specs.declared.request.Reply.{Reply}
use Rattle.mount_model.specs.declared.request.Reply.TheVariants as reply
use Rattle.mount_model.specs.declared.request.Line.{Line}
use Rattle.mount_model.specs.declared.event.Answered.{Answered}
use Rattle.mount_model.specs.declared.standing.Phase.{Phase}
use Rattle.mount_model.specs.declared.standing.Phase.TheVariants.{Begun}
use Rattle.mount_model.specs.declared.standing.Standing.{Standing}
use Rattle.mount_model.specs.Step.{Step}
use Rattle.mount_model.specs.Handles.{Handle, Handles, Writer, name_in, handle_named, handle_of}
use Rattle.mount_model.specs.Writers.{sync_answer, close_answer, answer_to}
use Rattle.mount_model.specs.Conversation.{Next, Replies, Makes, Removes}
use Rattle.mount_model.specs.State.{ClientState, line_at, lines_at, view_of, handle_name, behind_step, reply_in}
use Rattle.mount_model.specs.Run.{AreRising, due_awaits, TakesTurnOfWriter}
use Rattle.run_laws.specs.Writers.{waiting_line}
use Rattle.run_laws.proofs.Keyed.{Rises, item_at-first, item_at-later}
use Rattle.run_laws.proofs.Lines.{number_of, line_in, Rises-lines, lines-event, lines-replies}
use Rattle.run_laws.proofs.Settled.{First, Stops, Answers, Passes, first}
use Rattle.run_laws.proofs.Handles.{handle-at, some-writer}
use Rattle.run_laws.proofs.Writers.{stands_as, phases-apart}
use Rattle.run_laws.proofs.Conversation.{EndsSo, writes-so, ends-so}
use Rattle.run_laws.proofs.Turn.{Ending, AsksOne, RepliesOne, WritesOn, EndsIt, Rests, SaysSo, ByItself, MakesDir, RemovesDir, OpensHandle, CreatesFile, ListsEntries, GivesData, HasNoMemory}
use Rattle.run_laws.proofs.Opened.{IsOpened, IsHeard}
use Rattle.run_laws.proofs.Left.{AnswerIs, NoAnswer, OneAnswer, answer-is}
use Rattle.run_laws.proofs.Steps.{next_now, heard_now, StepIs, LineStep, WriterStep, TakeStep, step-is, writes-ready}
use Rattle.run_laws.proofs.Alive.{lines_behind, writes-unanswered}
use Rattle.write_laws.specs.Accounted.{Place}
use Rattle.write_laws.proofs.Named.{NamedNext, FailsSo, WritesMore, HasEnd, named-next}
use Rattle.write_laws.proofs.Turns.{IsBefore, HasHand, heard-hand, ends-hand}

-- lines of a script

find-line : (above : ℕ) (lines : List Standing) (k : ℕ) (line : Line) → Rises number_of above lines → slice_get (map line_in lines) k ≡ Some line → (phase : Phase) × (line_at line.number lines ≡ stands_as line phase)
find-line above [] k line rises is = absurd (cc)
find-line above (s ∷ lines) zero line rises is =
    let same : s.line ≡ line = cc in
    (s.phase, ap (λ (n : ℕ). line_at n (s ∷ lines)) (ap (λ (l : Line). l.number) (sym same)) ∙ item_at-first number_of s lines ∙ ap (λ (l : Line). stands_as l s.phase) same)
find-line above (s ∷ lines) (suc k) line rises is = let found = find-line s.line.number lines k line rises.1 is in (found.0, item_at-later number_of above line.number s lines (record { line = line; phase = found.0 }) rises found.1)

script-line : (script : List Line) (lines : List Standing) (line : Line) → AreRising 0 script → map line_in lines ≡ script → Contains script line → (phase : Phase) × (line_at line.number lines ≡ stands_as line phase)
script-line script lines line rising same contains =
    let listed : slice_get script contains.0 ≡ Some line = slice_get-get_or script contains.0 line contains.1 ∙ ap (λ (l : Line). Some l) contains.2 in
    find-line 0 lines contains.0 line (Rises-lines 0 lines (subst (AreRising 0) (sym same) rising)) (ap (λ (t : List Line). slice_get t contains.0) same ∙ listed)

-- replies

-- who is answered by the awaits that are due stands there, an await
due-await : (above : ℕ) (lines : List Standing) (n : ℕ) (said : Reply) → Rises number_of above lines → reply_in n (due_awaits lines) ≡ Some said → (line : Line) × (phase : Phase) × (line_at n lines ≡ stands_as line phase) × (line.request ≡ Await)
due-await above [] n said rises is = absurd (cc)
due-await above (s ∷ lines) n said rises is = go (first s lines) (due-await s.line.number lines n said rises.1)
  where
    later : ((line : Line) × (phase : Phase) × (line_at n lines ≡ stands_as line phase) × (line.request ≡ Await)) → (line : Line) × (phase : Phase) × (line_at n (s ∷ lines) ≡ stands_as line phase) × (line.request ≡ Await)
    later found = (found.0, found.1, item_at-later number_of above n s lines (record { line = found.0; phase = found.1 }) rises found.2, found.3)

    go : First s lines → (reply_in n (due_awaits lines) ≡ Some said → (line : Line) × (phase : Phase) × (line_at n lines ≡ stands_as line phase) × (line.request ≡ Await)) → (line : Line) × (phase : Phase) × (line_at n (s ∷ lines) ≡ stands_as line phase) × (line.request ≡ Await)
    go (Stops due same) ih = absurd (let none : None ≡ Some said = sym (ap (reply_in n) due) ∙ is in cc)
    go (Answers heard begun awaits due same) ih = here (s.line.number == n) refl (sym (ap (reply_in n) due) ∙ is)
      where
        here : (b : Bool) → (s.line.number == n) ≡ b → option_map (λ (a : Answered). a.reply) (cond b (Some (record { line = s.line.number; reply = reply.Success })) (find (λ (a : Answered). a.line == n) (due_awaits lines))) ≡ Some said → (line : Line) × (phase : Phase) × (line_at n (s ∷ lines) ≡ stands_as line phase) × (line.request ≡ Await)
        here true at told = (s.line, s.phase, rw at refl, awaits)
        here false at told = later (ih told)
    go (Passes replied due same) ih = later (ih (sym (ap (reply_in n) due) ∙ is))

-- a reply is one's own, or that to an await
own-or_due : (n line : ℕ) (said told : Reply) (more : List Answered) → reply_in n (record { line = line; reply = said } ∷ more) ≡ Some told → ((line ≡ n) × (said ≡ told)) ⊎ (reply_in n more ≡ Some told)
own-or_due n line said told more is = go (line == n) refl is
  where
    go : (b : Bool) → (line == n) ≡ b → option_map (λ (a : Answered). a.reply) (cond b (Some (record { line = line; reply = said })) (find (λ (a : Answered). a.line == n) more)) ≡ Some told → ((line ≡ n) × (said ≡ told)) ⊎ (reply_in n more ≡ Some told)
    go true at is = inl (eqb-true line n at, let e : said ≡ told = cc in e)
    go false at is = inr is

-- what says Success

data SaysSuccess (next : Next) : Type 0 where
  ItReplies : next ≡ Replies reply.Success → SaysSuccess next
  ItMakes : (key : List ℕ) → next ≡ Makes key → SaysSuccess next
  ItRemoves : (key : List ℕ) → next ≡ Removes key → SaysSuccess next

says-success : (next : Next) (said : Reply) → SaysSo next said → said ≡ reply.Success → SaysSuccess next
says-success next said (ByItself own) is = ItReplies (ap Replies is)
says-success next said (MakesDir key) is = ItMakes key refl
says-success next said (RemovesDir key) is = ItRemoves key refl
says-success next said (OpensHandle version) is = absurd (cc)
says-success next said (CreatesFile key) is = absurd (cc)
says-success next said (ListsEntries entries) is = absurd (cc)
says-success next said (GivesData count bytes) is = absurd (cc)
says-success next said (HasNoMemory lacked may) is = absurd (cc)

-- a line that names a writer's handle isn't answered so by itself
named-success : (line : ℕ) (request : Request) (w : Writer) (next : Next) → NamedNext line request w next → SaysSuccess next → ⊥
named-success line request w next (FailsSo errno is) (ItReplies says) = let both : Replies (reply.Failed errno) ≡ Replies reply.Success = sym is ∙ says in absurd (cc)
named-success line request w next (FailsSo errno is) (ItMakes key says) = let both : Replies (reply.Failed errno) ≡ Makes key = sym is ∙ says in absurd (cc)
named-success line request w next (FailsSo errno is) (ItRemoves key says) = let both : Replies (reply.Failed errno) ≡ Removes key = sym is ∙ says in absurd (cc)
named-success line request w next (WritesMore count opened is) (ItReplies says) = let both = sym is ∙ says in absurd (cc)
named-success line request w next (WritesMore count opened is) (ItMakes key says) = let both = sym is ∙ says in absurd (cc)
named-success line request w next (WritesMore count opened is) (ItRemoves key says) = let both = sym is ∙ says in absurd (cc)
named-success line request w next (HasEnd who waits is) (ItReplies says) = let both = sym is ∙ says in absurd (cc)
named-success line request w next (HasEnd who waits is) (ItMakes key says) = let both = sym is ∙ says in absurd (cc)
named-success line request w next (HasEnd who waits is) (ItRemoves key says) = let both = sym is ∙ says in absurd (cc)

-- who waits is answered so where the object is made

abbrev one_answer : ℕ → Reply → List Answered
one_answer line said = record { line = line; reply = said } ∷ []

unfailed : (line n : ℕ) (errno : Errno) → one_answer line (reply.Failed errno) ≡ one_answer n reply.Success → ⊥
unfailed line n errno is = let replies : Some (reply.Failed errno) ≡ Some reply.Success = ap first_reply is in absurd (cc)
  where
    first_reply : List Answered → Option Reply
    first_reply [] = None
    first_reply (a ∷ more) = Some a.reply

done-if : (who : Waiter) (state : UpState) (u : Upload) (n : ℕ) → u.state ≡ state → answer_to who u ≡ record { line = n; reply = reply.Success } ∷ [] → u.state ≡ Done
done-if waiter.Nobody state u n at is = absurd (cc)
done-if who Done u n at is = at
done-if (waiter.Sync line) Open u n at is = absurd (let said : sync_answer line Open ≡ record { line = n; reply = reply.Success } ∷ [] = ap (sync_answer line) (sym at) ∙ is in cc)
done-if (waiter.Sync line) Finished u n at is = absurd (let said : sync_answer line Finished ≡ record { line = n; reply = reply.Success } ∷ [] = ap (sync_answer line) (sym at) ∙ is in cc)
done-if (waiter.Sync line) (Failed errno) u n at is = absurd (unfailed line n errno (ap (sync_answer line) (sym at) ∙ is))
done-if (waiter.Close line) Open u n at is = absurd (let said : close_answer line u.pending Open ≡ record { line = n; reply = reply.Success } ∷ [] = ap (close_answer line u.pending) (sym at) ∙ is in cc)
done-if (waiter.Close line) Finished u n at is = absurd (let said : close_answer line u.pending Finished ≡ record { line = n; reply = reply.Success } ∷ [] = ap (close_answer line u.pending) (sym at) ∙ is in cc)
done-if (waiter.Close line) (Failed errno) u n at is = go (u.pending == 0) (ap (close_answer line u.pending) (sym at) ∙ is)
  where
    go : (b : Bool) → if◌then◌else◌ {A = List Answered} b (record { line = line; reply = reply.Failed errno } ∷ []) [] ≡ record { line = n; reply = reply.Success } ∷ [] → u.state ≡ Done
    go true is = absurd (unfailed line n errno is)
    go false is = absurd (cc)

named-of : (line : Line) (handles : Handles) (handle : Handle) → handle_of line handles ≡ Some handle → (name : ℕ) × (name_in line.request ≡ Some name)
named-of line handles handle is = go (name_in line.request) refl
  where
    go : (o : Option ℕ) → name_in line.request ≡ o → (name : ℕ) × (name_in line.request ≡ Some name)
    go (Some name) at = (name, at)
    go None at = absurd (let none : None ≡ Some handle = sym (ap (λ (o : Option ℕ). handle_named line.actor o handles) at) ∙ is in cc)

no-await : (request : Request) (name : ℕ) → name_in request ≡ Some name → request ≢ Await
no-await request name names is = let none : name_in request ≡ None = ap name_in is in absurd (cc)

-- the turn that answers it

pub record HasSuccess (log : List Logged) (start : ℕ) (later : ℕ → List ℕ → Type 0) (now : ℕ → List ℕ) (places : List Place) (state : ClientState) (step : Step) (writer : Writer) : Type 0 where
  pub name : HandleName
  pub w : Writer
  pub more : ℕ
  pub own : List Answered
  pub has : HasHand log start later now places state step name w more own
  pub line_is : w.line ≡ writer.line
  pub key_is : w.key ≡ writer.key
  pub done : (behind_step step w.upload).state ≡ Done

module _ (log : List Logged) (start : ℕ) (stood later : ℕ → List ℕ → Type 0) (taken now : ℕ → List ℕ) (places : List Place) (state : ClientState) (step : Step) (b : IsBefore log start stood later taken now places state step) where
  pub success-hand : (script : List Line) (line : Line) (writer : Writer) → AreRising 0 script → map line_in state.lines ≡ script → Contains script line → reply_in line.number step.replies ≡ Some reply.Success → handle_of line state.shared.handles ≡ Some (Writing writer) → HasSuccess log start later now places state step writer
  success-hand script line writer rising lines_are contains told live = go (step-is state step b.alive b.legal)
    where
      own : List Answered
      own = b.legal.own

      named : (name : ℕ) × (name_in line.request ≡ Some name)
      named = named-of line state.shared.handles (Writing writer) live

      behind : List Standing
      behind = lines_behind state step own

      at : (phase : Phase) × (line_at line.number state.lines ≡ stands_as line phase)
      at = script-line script state.lines line rising lines_are contains

      behind_are : map line_in behind ≡ script
      behind_are = lines-replies (lines_at state.lines state.jobs step.event) own ∙ lines-event state.lines state.jobs step.event ∙ lines_are

      stands : table.get state.shared.handles (handle_name line) ≡ Some (Writing writer)
      stands = sym (handle-at line named.0 state.shared.handles named.1) ∙ live

      -- it is no await, so that it isn't answered as one
      not_due : reply_in line.number (due_awaits behind) ≡ Some reply.Success → ⊥
      not_due is =
          let due = due-await 0 behind line.number reply.Success (Rises-lines 0 behind (subst (AreRising 0) (sym behind_are) rising)) is in
          let there = script-line script behind line rising behind_are contains in
          let both = phases-apart (line_at line.number behind) line due.0 there.0 due.1 there.1 due.2 in
          no-await line.request named.0 named.1 (ap (λ (l : Line). l.request) both.0 ∙ due.3)

      none_own : own ≡ [] → ⊥
      none_own is = not_due (sym (ap (reply_in line.number) (b.legal.replies ∙ ap (λ (t : List Answered). t ++ due_awaits behind) is)) ∙ told)

      one_own : (n : ℕ) (said : Reply) → own ≡ record { line = n; reply = said } ∷ [] → (n ≡ line.number) × (said ≡ reply.Success)
      one_own n said is = elim (own-or_due line.number n said reply.Success (due_awaits behind) (sym (ap (reply_in line.number) (b.legal.replies ∙ ap (λ (t : List Answered). t ++ due_awaits behind) is)) ∙ told)) [
        | inl here ↦ here
        | inr due ↦ absurd (not_due due)
      ]

      -- the line whose turn it is
      line_is : (opened : IsOpened state step.event) → opened.line.number ≡ line.number → opened.line ≡ line
      line_is opened same =
          let n_is : opened.n ≡ line.number = sym opened.number_is ∙ same in
          (phases-apart (line_at line.number state.lines) opened.line line opened.old at.0 (ap (λ (k : ℕ). line_at k state.lines) (sym n_is) ∙ opened.found) at.1).0

      line_step : (opened : IsOpened state step.event) → Ending state step opened.line opened.who (next_now state step.event opened) own → HasSuccess log start later now places state step writer
      line_step opened (AsksOne called is asks none no_drops) = absurd (none_own none)
      line_step opened (Rests is no_asks none no_drops) = absurd (none_own none)
      line_step opened (RepliesOne said says no_asks one no_drops) =
          let same = one_own opened.line.number said one in
          let is = line_is opened same.0 in
          let live_too : handle_of opened.line state.shared.handles ≡ Some (Writing writer) = ap (λ (l : Line). handle_of l state.shared.handles) is ∙ live in
          let names : name_in opened.line.request ≡ Some named.0 = ap (λ (l : Line). name_in l.request) is ∙ named.1 in
          absurd (named-success opened.line.number opened.line.request writer (next_now state step.event opened) (named-next (view_of state.shared opened.line) opened.line.request opened.heard named.0 writer names live_too) (says-success (next_now state step.event opened) said says same.1))
      line_step opened (WritesOn count w answers is takes one) =
          let so = writes-so (view_of state.shared opened.line) opened.line.request opened.heard count w is in
          let none = writes-unanswered state step opened count (length so.bytes) w answers so (writes-ready state step.event opened count w b.alive so) takes in
          let same = one_own opened.line.number (reply.Wrote count) (one ∙ ap (λ (t : List Answered). record { line = opened.line.number; reply = reply.Wrote count } ∷ t) none) in
          let said = same.1 in
          absurd (cc)
      line_step opened (EndsIt w is takes) =
          let so = ends-so (view_of state.shared opened.line) opened.line.request opened.heard w is in
          by_answer so (answer-is w.waiter (behind_step step w.upload))
        where
          by_answer : EndsSo (view_of state.shared opened.line) opened.line.request w → AnswerIs w.waiter (behind_step step w.upload) → HasSuccess log start later now places state step writer
          by_answer so (NoAnswer none) = absurd (none_own (takes.answers ∙ none))
          by_answer so (OneAnswer n said waits one plain) =
              let same = one_own n said (takes.answers ∙ one) in
              let who_is : w.waiter ≡ so.who = ap (λ (v : Writer). v.waiter) so.now_is in
              let both : Some n ≡ Some opened.line.number = sym waits ∙ ap waiting_line who_is ∙ so.waits in
              let n_is : n ≡ opened.line.number = cc in
              let is_line = line_is opened (sym n_is ∙ same.0) in
              let live_too : Some (Writing so.before) ≡ Some (Writing writer) = sym so.live ∙ ap (λ (l : Line). handle_of l state.shared.handles) is_line ∙ live in
              let writer_is = some-writer so.before writer live_too in
              record {
                name = handle_name opened.line;
                w = w;
                more = 0;
                own = own;
                has = ends-hand log start stood later taken now places state step b own opened w is so takes;
                line_is = ap (λ (v : Writer). v.line) so.now_is ∙ ap (λ (v : Writer). v.line) writer_is;
                key_is = ap (λ (v : Writer). v.key) so.now_is ∙ ap (λ (v : Writer). v.key) writer_is;
                done = done-if w.waiter (behind_step step w.upload).state (behind_step step w.upload) n refl (one ∙ ap (λ (r : Reply). record { line = n; reply = r } ∷ []) same.1);
              }

      heard_step : (heard : IsHeard state step.event) → TakesTurnOfWriter state step (heard_now state step.event heard) own → AnswerIs heard.before.waiter (behind_step step (heard_now state step.event heard).upload) → HasSuccess log start later now places state step writer
      heard_step heard takes (NoAnswer none) = absurd (none_own (takes.answers ∙ none))
      heard_step heard takes (OneAnswer n said waits one plain) =
          let same = one_own n said (takes.answers ∙ one) in
          let waiting = (b.alive.writers.each heard.name heard.before heard.stands).waits n waits in
          let lines_same = phases-apart (line_at line.number state.lines) waiting.line line (Begun waiting.heard) at.0 (ap (λ (k : ℕ). line_at k state.lines) (sym same.0) ∙ waiting.stands) at.1 in
          let name_is : handle_name line ≡ heard.name = ap handle_name (sym lines_same.0) ∙ waiting.named in
          let writer_is = some-writer heard.before writer (sym heard.stands ∙ ap (table.get state.shared.handles) (sym name_is) ∙ stands) in
          record {
            name = heard.name;
            w = heard_now state step.event heard;
            more = 0;
            own = own;
            has = heard-hand log start stood later taken now places state step b own heard takes;
            line_is = ap (λ (v : Writer). v.line) writer_is;
            key_is = ap (λ (v : Writer). v.key) writer_is;
            done = done-if heard.before.waiter (behind_step step (heard_now state step.event heard).upload).state (behind_step step (heard_now state step.event heard).upload) n refl (one ∙ ap (λ (r : Reply). record { line = n; reply = r } ∷ []) same.1);
          }

      go : StepIs state step own → HasSuccess log start later now places state step writer
      go (LineStep opened ended) = line_step opened ended
      go (WriterStep heard takes) = heard_step heard takes (answer-is heard.before.waiter (behind_step step (heard_now state step.event heard).upload))
      go (TakeStep number time from is found no_asks no_own no_drops) = absurd (none_own no_own)
