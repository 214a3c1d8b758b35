-- What a legal step is: the turn of a line, of a writer, or of none.
use Rattle.std.proofs.Common.{◌≡◌, ◌≢◌, ℕ, ◌+◌, ◌≤◌, List, [], length, true, false, Some, inl, inr, refl, sym, ap, ◌∙◌, subst, arith}
use Rattle.std.proofs.lemmas.Bool.{cases_eq}
use Rattle.std.proofs.lemmas.List.{length-append}
use Rattle.std.specs.FinMap as table
use Rattle.mp_types.specs.HandleName.{HandleName}
use Rattle.bucket_model.specs.declared.call.Call.{Call}
use Rattle.upload_rules.specs.declared.upload.UpState.TheVariants.{Open}
use Rattle.upload_rules.specs.Upload.{Upload, with_bytes}
use Rattle.mount_model.specs.declared.handle.Handle.TheVariants.{Writing}
use Rattle.mount_model.specs.declared.handle.Waiter.{Waiter}
use Rattle.mount_model.specs.declared.handle.Waiter.TheVariants as waiter
use Rattle.mount_model.specs.declared.request.Line.{Line}
use Rattle.mount_model.specs.declared.event.Event.{Event}
use Rattle.mount_model.specs.declared.event.Event.TheVariants.{Begin, Take, Done}
use Rattle.mount_model.specs.declared.event.Ask.{Ask}
use Rattle.mount_model.specs.declared.event.Answered.{Answered}
use Rattle.mount_model.specs.declared.standing.Heard.{Heard}
use Rattle.mount_model.specs.declared.standing.Phase.TheVariants.{Begun}
use Rattle.mount_model.specs.declared.standing.Standing.{Standing}
use Rattle.mount_model.specs.Step.{Step}
use Rattle.mount_model.specs.Handles.{Writer}
use Rattle.mount_model.specs.Writers.{hears_answer}
use Rattle.mount_model.specs.Conversation.{Next, next_of, with_upload, waited_for, ended}
use Rattle.mount_model.specs.State.{ClientState, Job, line_at, lines_at, jobs_at, handle_name, view_of, Turn}
use Rattle.mount_model.specs.Run.{TakesTurn, TakesTurnOfWriter, IsLegalStep}
use Rattle.run_laws.specs.Alive.{IsAlive}
use Rattle.run_laws.specs.Counts.{any_call, is_abort, calls_out, calls_ready}
use Rattle.run_laws.specs.Uploads.{Tally, IsTallied, calls_left_of}
use Rattle.run_laws.specs.Writers.{tally, awaits_writer, waiting_line, is_close, IsWaiting, IsWriter, HasWriters}
use Rattle.run_laws.proofs.Orderly.{orderly-apart}
use Rattle.run_laws.proofs.Jobs.{IsReady, Rises-jobs, ready-found}
use Rattle.run_laws.proofs.Uploads.{unclosed-no-abort, bytes-tallied, ended-tallied, closing-tallied}
use Rattle.run_laws.proofs.Places.{stays-hears, upload-bytes, upload-ended, upload-closing, is-ended, shrinks-ended, shrinks-left}
use Rattle.run_laws.proofs.Asked.{IsInTurn}
use Rattle.run_laws.proofs.Handles.{Look, with_at, at-same, handle-at, name-actor, some-writer}
use Rattle.run_laws.proofs.Writers.{stands_as, LinesKeep, keep-same, SameFor, tally-same, once-same, only-others, writers-apart, one-changes, phases-apart}
use Rattle.run_laws.proofs.Conversation.{WritesSo, EndsSo, ends_as}
use Rattle.run_laws.proofs.Turn.{Ending, ending}
use Rattle.run_laws.proofs.Opened.{IsOpened, begin-opens, done-opens, IsHeard, hears-opens, no-waiter, OwnerIs, OfWriter, OfLine, owner-is}

-- what a line does next once it has its turn
abbrev pub next_now : (state : ClientState) (event : Event) → IsOpened state event → Next
next_now state event opened = next_of (view_of state.shared opened.line) opened.line.request opened.heard

-- the writer that has heard an answer
abbrev pub heard_now : (state : ClientState) (event : Event) → IsHeard state event → Writer
heard_now state event heard = with_upload (hears_answer heard.called heard.said heard.before.upload) heard.before

pub data StepIs (state : ClientState) (step : Step) (own : List Answered) : Type 0 where
  LineStep : (opened : IsOpened state step.event) → Ending state step opened.line opened.who (next_now state step.event opened) own → StepIs state step own
  WriterStep : (heard : IsHeard state step.event) → TakesTurnOfWriter state step (heard_now state step.event heard) own → StepIs state step own
  TakeStep : (number time from : ℕ) → step.event ≡ Take number time from → IsReady number state.jobs → step.asks ≡ [] → own ≡ [] → step.drops ≡ [] → StepIs state step own

event-is : (state : ClientState) (event : Event) (drops : List ℕ) (asks : List Ask) (replies : List Answered) → IsAlive state → (legal : IsLegalStep state (record { event = event; drops = drops; asks = asks; replies = replies })) → StepIs state (record { event = event; drops = drops; asks = asks; replies = replies }) legal.own
event-is state (Begin n time) drops asks replies alive legal =
    let step : Step = record { event = Begin n time; drops = drops; asks = asks; replies = replies } in
    let opened = begin-opens state n time alive legal.may_come.1 in
    LineStep opened (ending state step opened.line opened.who (next_now state step.event opened) legal.own (subst (λ (t : Turn). TakesTurn state step t legal.own) opened.turn legal.turn))
event-is state (Take number time from) drops asks replies alive legal = TakeStep number time from refl (ready-found 0 number state.jobs (Rises-jobs 0 state.jobs alive.numbered) legal.may_come.1) legal.turn.0 legal.turn.1 legal.turn.2
event-is state (Done number position answer) drops asks replies alive legal = go (owner-is legal.may_come.job.owner)
  where
    step : Step
    step = record { event = Done number position answer; drops = drops; asks = asks; replies = replies }

    go : OwnerIs legal.may_come.job.owner → StepIs state (record { event = Done number position answer; drops = drops; asks = asks; replies = replies }) legal.own
    go (OfWriter opened owned) =
        let heard = hears-opens state number position opened answer alive legal.may_come owned in
        WriterStep heard (subst (λ (t : Turn). TakesTurn state step t legal.own) heard.turn legal.turn)
    go (OfLine of_line) =
        let opened = done-opens state number position answer alive legal.may_come of_line in
        LineStep opened (ending state step opened.line opened.who (next_now state step.event opened) legal.own (subst (λ (t : Turn). TakesTurn state step t legal.own) opened.turn legal.turn))

pub step-is : (state : ClientState) (step : Step) → IsAlive state → (legal : IsLegalStep state step) → StepIs state step legal.own
step-is state step alive legal = event-is state step.event step.drops step.asks step.replies alive legal

-- A writer that has its turn: all writers are as they have to be, with this one in the place of the one before.
pub record IsReadyFor (state : ClientState) (event : Event) (name : HandleName) (now : Writer) (more : ℕ) : Type 0 where
  pub before : Writer
  pub stands : table.get state.shared.handles name ≡ Some (Writing before)
  pub same_line : now.line ≡ before.line
  pub writers : HasWriters (lines_at state.lines state.jobs event) (jobs_at state.jobs event) (with_at name (Some (Writing now)) (table.get state.shared.handles))
  pub in_turn : IsInTurn now.line now.upload (jobs_at state.jobs event)
  pub no_abort : calls_out is_abort now.line (jobs_at state.jobs event) ≡ 0
  pub not_open : (number : ℕ) → waiting_line now.waiter ≡ Some number → now.upload.state ≢ Open
  pub jobs_keep : (m : ℕ) → (now.line ≡ m → ⊥) → SameFor m state.jobs (jobs_at state.jobs event)
  pub ready : (kind : Call → ℕ) (m : ℕ) → (now.line ≡ m → ⊥) → calls_ready kind m (jobs_at state.jobs event) ≡ calls_ready kind m state.jobs
  pub same_length : length (jobs_at state.jobs event) ≡ length state.jobs
  pub left : calls_left_of now.upload (tally now.line (jobs_at state.jobs event)) ≤ calls_left_of before.upload (tally before.line state.jobs) + more

ready-writers : (lines now : List Standing) (jobs behind : List Job) (look : Look) (name : HandleName) (before w : Writer) → HasWriters lines jobs look → look name ≡ Some (Writing before) → w.line ≡ before.line → LinesKeep name lines now → ((m : ℕ) → (w.line ≡ m → ⊥) → SameFor m jobs behind) → IsInTurn w.line w.upload behind → w.upload.closing ≡ is_close w.waiter → ((number : ℕ) → waiting_line w.waiter ≡ Some number → w.upload.state ≢ Open) → ((number : ℕ) → waiting_line w.waiter ≡ Some number → IsWaiting now name number) → ((number : ℕ) (line : Line) (heard : Heard) → line_at number now ≡ stands_as line (Begun heard) → awaits_writer line.request ≡ true → handle_name line ≡ name → waiting_line w.waiter ≡ Some number) → HasWriters now behind (with_at name (Some (Writing w)) look)
ready-writers lines now jobs behind look name before w has stands same keep jobs_keep turn closing not_open waits alone =
    let is = has.each name before stands in
    let opener_stands = keep.replied w.line is.opener (ap (λ (k : ℕ). line_at k lines) same ∙ is.stands) in
    one-changes lines now jobs behind look w.line name (Some (Writing w)) (record {
      lines_keep = keep;
      jobs_keep = jobs_keep;
      before = λ v here. ap (λ (x : Writer). x.line) (sym (some-writer before v (sym stands ∙ here))) ∙ sym same;
      others = λ q v here apart e. apart (writers-apart lines jobs q name v before (has.each q v here) is (e ∙ same));
      writer = λ v here. subst (IsWriter now behind name) (some-writer w v here) (record {
        opener = is.opener;
        stands = opener_stands;
        opens = is.opens;
        named = is.named;
        waits = waits;
        ended = not_open;
        closing = closing;
        pending = turn.pending;
        upload = turn.upload;
        tallied = turn.tallied;
      });
      owned = λ some. record { name = name; writer = w; stands = at-same name (Some (Writing w)) look; opened_by = refl };
      opened_by = λ some. record { line = is.opener; stands = opener_stands };
      once = turn.once;
      waited = λ number line heard begun awaits named. record { writer = w; stands = ap (with_at name (Some (Writing w)) look) named ∙ at-same name (Some (Writing w)) look; waits = alone number line heard begun awaits named };
    }) has

-- one that has heard an answer
pub heard-ready : (state : ClientState) (event : Event) → IsAlive state → (heard : IsHeard state event) → IsReadyFor state event heard.name (heard_now state event heard) 0
heard-ready state event alive heard =
    let w : Writer = heard_now state event heard in
    let look : Look = table.get state.shared.handles in
    let lines : List Standing = lines_at state.lines state.jobs event in
    let is = alive.writers.each heard.name heard.before heard.stands in
    let stays = stays-hears heard.called heard.said heard.before.upload in
    let not_open : (number : ℕ) → waiting_line w.waiter ≡ Some number → w.upload.state ≢ Open = λ number waits. stays.not_open (is.ended number waits) in
    let keep : LinesKeep heard.name state.lines lines = subst (LinesKeep heard.name state.lines) (sym heard.lines_are) (keep-same state.lines heard.name) in
    let jobs_keep : (m : ℕ) → (w.line ≡ m → ⊥) → SameFor m state.jobs (jobs_at state.jobs event) = λ m apart. only-others heard.before.line m state.jobs (jobs_at state.jobs event) heard.only apart in
    record {
      before = heard.before;
      stands = heard.stands;
      same_line = refl;
      writers = ready-writers state.lines lines state.jobs (jobs_at state.jobs event) look heard.name heard.before w alive.writers heard.stands refl keep jobs_keep heard.in_turn (stays.closing ∙ is.closing) not_open
          (λ number waits. subst (λ (t : List Standing). IsWaiting t heard.name number) (sym heard.lines_are) (is.waits number waits))
          (λ number line before begun awaits named.
          let old = alive.writers.waited number line before (ap (line_at number) (sym heard.lines_are) ∙ begun) awaits in
          let same : heard.before ≡ old.writer = some-writer heard.before old.writer (sym heard.stands ∙ ap look (sym named) ∙ old.stands) in
          ap (λ (x : Writer). waiting_line x.waiter) same ∙ old.waits);
      in_turn = heard.in_turn;
      no_abort = heard.no_abort;
      not_open = not_open;
      jobs_keep = jobs_keep;
      ready = λ kind m apart. heard.only.ready kind m apart;
      same_length = heard.same_length;
      left = let left = heard.left in omega arith;
    }

-- the writer that a line names, before the line's turn

nobody-closes : (who : Waiter) → ((number : ℕ) → waiting_line who ≡ Some number → ⊥) → is_close who ≡ false
nobody-closes waiter.Nobody none = refl
nobody-closes (waiter.Sync line) none = refl
nobody-closes (waiter.Close line) none = absurd (none line refl)

before-turn : (state : ClientState) (event : Event) (opened : IsOpened state event) (name : HandleName) (w : Writer) → IsAlive state → IsWriter state.lines state.jobs name w → IsInTurn w.line w.upload (jobs_at state.jobs event)
before-turn state event opened name w alive is =
    let same = opened.same w.line in
    record {
      numbers = opened.now.numbered;
      upload = is.upload;
      tallied = subst (IsTallied w.upload) (tally-same w.line state.jobs (jobs_at state.jobs event) same) is.tallied;
      pending = is.pending ∙ sym (same.out any_call);
      once = once-same w.line state.jobs (jobs_at state.jobs event) same (alive.writers.once w.line);
    }

-- no other line that names it stands begun
pub alone-begun : (state : ClientState) (event : Event) (opened : IsOpened state event) (number : ℕ) (line : Line) (heard : Heard) → line_at number (lines_at state.lines state.jobs event) ≡ stands_as line (Begun heard) → handle_name line ≡ handle_name opened.line → number ≡ opened.n
alone-begun state event opened number line heard begun named = elim (cases_eq number opened.n) [
  | inl same ↦ same
  | inr apart ↦ absurd (orderly-apart [] opened.n number (lines_at state.lines state.jobs event) (record { line = opened.line; phase = Begun opened.heard }) (record { line = line; phase = Begun heard }) opened.heard heard (λ e. apart (sym e)) opened.now.orderly opened.now.stands refl begun refl (sym (name-actor opened.line) ∙ ap (λ (q : HandleName). q.0) (sym named) ∙ name-actor line))
]

ends-waiter : (who : Waiter) (line : ℕ) (u : Upload) → waiting_line who ≡ Some line → u.closing ≡ false → (ends_as who u).closing ≡ is_close who
ends-waiter (waiter.Close closer) line u waits unclosed = refl
ends-waiter (waiter.Sync syncer) line u waits unclosed = (is-ended u).closing ∙ unclosed
ends-waiter waiter.Nobody line u waits unclosed = absurd (cc)

ends-not-open : (who : Waiter) (u : Upload) → (ends_as who u).state ≢ Open
ends-not-open (waiter.Close closer) u = (is-ended u).not_open
ends-not-open other u = (is-ended u).not_open

ends-turn : (who : Waiter) (opened : ℕ) (u : Upload) (jobs : List Job) → IsInTurn opened u jobs → IsInTurn opened (ends_as who u) jobs
ends-turn who opened u jobs turn = go who
  where
    ended_turn : IsInTurn opened (ended u) jobs
    ended_turn = record { numbers = turn.numbers; upload = upload-ended u turn.upload; tallied = ended-tallied u (tally opened jobs) turn.tallied; pending = (is-ended u).pending ∙ turn.pending; once = turn.once }

    go : (who : Waiter) → IsInTurn opened (ends_as who u) jobs
    go (waiter.Close line) = record { numbers = turn.numbers; upload = upload-closing (ended u) ended_turn.upload; tallied = closing-tallied (ended u) (tally opened jobs) ended_turn.tallied; pending = ended_turn.pending; once = turn.once }
    go other = ended_turn

ends-left : (who : Waiter) (u : Upload) (t : Tally) → calls_left_of (ends_as who u) t ≤ calls_left_of u t
ends-left (waiter.Close line) u t = shrinks-left u (ended u) t (shrinks-ended u)
ends-left other u t = shrinks-left u (ended u) t (shrinks-ended u)

pub ends-ready : (state : ClientState) (event : Event) (opened : IsOpened state event) (w : Writer) → IsAlive state → EndsSo (view_of state.shared opened.line) opened.line.request w → IsReadyFor state event (handle_name opened.line) w 0
ends-ready state event opened w alive so =
    subst (λ (x : Writer). IsReadyFor state event name x 0) (sym so.now_is) (record {
      before = so.before;
      stands = live;
      same_line = refl;
      writers = ready-writers state.lines lines state.jobs jobs look name so.before now alive.writers live refl (opened.keeps name (λ awaits. refl)) (λ m apart. opened.same m) turn closing not_open waiting alone;
      in_turn = turn;
      no_abort = unclosed-no-abort so.before.upload (tally so.before.line jobs) unclosed before_turn.tallied;
      not_open = not_open;
      jobs_keep = λ m apart. opened.same m;
      ready = λ kind m apart. opened.ready kind m;
      same_length = opened.same_length;
      left =
          let fewer = ends-left so.who so.before.upload (tally so.before.line jobs) in
          let same : calls_left_of so.before.upload (tally so.before.line jobs) ≡ calls_left_of so.before.upload (tally so.before.line state.jobs) = ap (calls_left_of so.before.upload) (sym (tally-same so.before.line state.jobs jobs (opened.same so.before.line))) in
          omega arith;
    })
  where
    name : HandleName
    name = handle_name opened.line

    look : Look
    look = table.get state.shared.handles

    lines : List Standing
    lines = lines_at state.lines state.jobs event

    jobs : List Job
    jobs = jobs_at state.jobs event

    now : Writer
    now = waited_for so.who (ends_as so.who so.before.upload) so.before

    live : look name ≡ Some (Writing so.before)
    live = sym (handle-at opened.line so.name state.shared.handles so.names) ∙ so.live

    is : IsWriter state.lines state.jobs name so.before
    is = alive.writers.each name so.before live

    before_turn : IsInTurn so.before.line so.before.upload jobs
    before_turn = before-turn state event opened name so.before alive is

    turn : IsInTurn so.before.line (ends_as so.who so.before.upload) jobs
    turn = ends-turn so.who so.before.line so.before.upload jobs before_turn

    unclosed : so.before.upload.closing ≡ false
    unclosed = is.closing ∙ nobody-closes so.before.waiter (no-waiter state event opened name so.before alive live refl)

    closing : (ends_as so.who so.before.upload).closing ≡ is_close so.who
    closing = ends-waiter so.who opened.line.number so.before.upload so.waits unclosed

    not_open : (number : ℕ) → waiting_line so.who ≡ Some number → (ends_as so.who so.before.upload).state ≢ Open
    not_open number waits = ends-not-open so.who so.before.upload

    is_n : (number : ℕ) → waiting_line so.who ≡ Some number → number ≡ opened.n
    is_n number waits = let both : Some number ≡ Some opened.line.number = sym waits ∙ so.waits in let same : number ≡ opened.line.number = cc in same ∙ opened.number_is

    waiting : (number : ℕ) → waiting_line so.who ≡ Some number → IsWaiting lines name number
    waiting number waits = record { line = opened.line; heard = opened.heard; stands = ap (λ (k : ℕ). line_at k lines) (is_n number waits) ∙ opened.now.stands; named = refl; awaits = so.awaits }

    alone : (number : ℕ) (line : Line) (heard : Heard) → line_at number lines ≡ stands_as line (Begun heard) → awaits_writer line.request ≡ true → handle_name line ≡ name → waiting_line so.who ≡ Some number
    alone number line heard begun awaits named = so.waits ∙ ap (λ (k : ℕ). Some k) (opened.number_is ∙ sym (alone-begun state event opened number line heard begun named))

-- and one that a line writes to
pub writes-ready : (state : ClientState) (event : Event) (opened : IsOpened state event) (count : ℕ) (w : Writer) → IsAlive state → (so : WritesSo (view_of state.shared opened.line) opened.line.request count w) → IsReadyFor state event (handle_name opened.line) w (length so.bytes)
writes-ready state event opened count w alive so =
    subst (λ (x : Writer). IsReadyFor state event name x (length so.bytes)) (sym so.now_is) (record {
      before = so.before;
      stands = live;
      same_line = refl;
      writers = ready-writers state.lines lines state.jobs jobs look name so.before now alive.writers live refl (opened.keeps name (λ awaits. refl)) (λ m apart. opened.same m) turn is.closing (λ number waits. absurd (none number waits)) (λ number waits. absurd (none number waits)) alone;
      in_turn = turn;
      no_abort = unclosed-no-abort so.before.upload (tally so.before.line jobs) unclosed before_turn.tallied;
      not_open = λ number waits. absurd (none number waits);
      jobs_keep = λ m apart. opened.same m;
      ready = λ kind m apart. opened.ready kind m;
      same_length = opened.same_length;
      left =
          let same : calls_left_of so.before.upload (tally so.before.line jobs) ≡ calls_left_of so.before.upload (tally so.before.line state.jobs) = ap (calls_left_of so.before.upload) (sym (tally-same so.before.line state.jobs jobs (opened.same so.before.line))) in
          let sum = length-append so.before.upload.rest so.bytes in
          omega arith;
    })
  where
    name : HandleName
    name = handle_name opened.line

    look : Look
    look = table.get state.shared.handles

    lines : List Standing
    lines = lines_at state.lines state.jobs event

    jobs : List Job
    jobs = jobs_at state.jobs event

    now : Writer
    now = with_upload (with_bytes so.bytes so.before.upload) so.before

    live : look name ≡ Some (Writing so.before)
    live = sym (handle-at opened.line so.name state.shared.handles so.names) ∙ so.live

    is : IsWriter state.lines state.jobs name so.before
    is = alive.writers.each name so.before live

    before_turn : IsInTurn so.before.line so.before.upload jobs
    before_turn = before-turn state event opened name so.before alive is

    turn : IsInTurn so.before.line (with_bytes so.bytes so.before.upload) jobs
    turn = record { numbers = before_turn.numbers; upload = upload-bytes so.before.upload so.bytes so.opened so.fits before_turn.upload; tallied = bytes-tallied so.before.upload (tally so.before.line jobs) so.bytes so.opened before_turn.tallied; pending = before_turn.pending; once = before_turn.once }

    none : (number : ℕ) → waiting_line so.before.waiter ≡ Some number → ⊥
    none = no-waiter state event opened name so.before alive live refl

    unclosed : so.before.upload.closing ≡ false
    unclosed = is.closing ∙ nobody-closes so.before.waiter none

    alone : (number : ℕ) (line : Line) (heard : Heard) → line_at number lines ≡ stands_as line (Begun heard) → awaits_writer line.request ≡ true → handle_name line ≡ name → waiting_line so.before.waiter ≡ Some number
    alone number line heard begun awaits named =
        let same = alone-begun state event opened number line heard begun named in
        let both = phases-apart (line_at opened.n lines) line opened.line (Begun heard) (Begun opened.heard) (ap (λ (k : ℕ). line_at k lines) (sym same) ∙ begun) opened.now.stands in
        let awaited : awaits_writer opened.line.request ≡ true = sym (ap (λ (l : Line). awaits_writer l.request) both.0) ∙ awaits in
        let not_awaited = so.no_wait in
        absurd (cc)
