-- Each legal step leaves an alive state alive.
use Rattle.std.proofs.Common.{◌≡◌, ◌≢◌, ℕ, ◌+◌, ◌<◌, ◌≤◌, List, [], ◌∷◌, ◌++◌, fold, length, cond, Bool, true, false, ◌==◌, Option, Some, None, inl, inr, refl, sym, ap, ◌∙◌, subst, arith, append-nil}
use Rattle.std.proofs.lemmas.Grind.{flat_map-append}
use Rattle.std.specs.FinMap as table
use Rattle.mp_types.specs.HandleName.{HandleName, name_cmp}
use Rattle.mp_types.specs.declared.options.Opts.{Opts}
use Rattle.mp_types.specs.Options.{AreWithin}
use Rattle.bucket_model.specs.Along.{Along}
use Rattle.bucket_model.specs.declared.call.Call.{Call}
use Rattle.mp_rules.specs.Local.{with_file}
use Rattle.upload_rules.specs.Upload.{Upload, written}
use Rattle.mount_model.specs.declared.handle.Handle.TheVariants.{Reading, Writing}
use Rattle.mount_model.specs.declared.handle.Waiter.{Waiter}
use Rattle.mount_model.specs.declared.handle.Waiter.TheVariants as waiter
use Rattle.mount_model.specs.declared.request.Request.{Request}
use Rattle.mount_model.specs.declared.request.Request.TheVariants.{Sync, Close}
use Rattle.mount_model.specs.declared.request.Reply.{Reply}
use Rattle.mount_model.specs.declared.request.Reply.TheVariants as reply
use Rattle.mount_model.specs.declared.request.Line.{Line}
use Rattle.mount_model.specs.declared.event.Event.{Event}
use Rattle.mount_model.specs.declared.event.Event.TheVariants.{Take}
use Rattle.mount_model.specs.declared.event.Owner.{Owner}
use Rattle.mount_model.specs.declared.event.Owner.TheVariants as owner
use Rattle.mount_model.specs.declared.event.Ask.{Ask}
use Rattle.mount_model.specs.declared.event.Answered.{Answered}
use Rattle.mount_model.specs.declared.standing.Phase.{Phase}
use Rattle.mount_model.specs.declared.standing.Phase.TheVariants.{Waiting, Begun, Replied}
use Rattle.mount_model.specs.declared.standing.Standing.{Standing}
use Rattle.mount_model.specs.Step.{Step}
use Rattle.mount_model.specs.Handles.{Handle, Handles, Writer}
use Rattle.mount_model.specs.Writers.{answer_to}
use Rattle.mount_model.specs.Conversation.{Next, Asks, Writes, Ends, Waits}
use Rattle.mount_model.specs.State.{Shared, ClientState, Job, Out, line_at, change_line, change_job, lines_at, jobs_at, with_replies, view_of, handle_name, Turn, NoTurn, turn_at, calls_of, askings_of, jobs_made, jobs_of_writer, jobs_of_line, jobs_after, with_names, writes_first, writer_left, behind_step, is_answered, by_reply, reply_in, shared_after, time_after, positions_after, opening, after, state_after}
use Rattle.mount_model.specs.Run.{AreRising, TakesTurnOfWriter, due_awaits, IsLegalStep, IsRunSoFar, asked_of}
use Rattle.mount_model.proofs.Numbered.{numbered-change}
use Rattle.run_laws.specs.Counts.{is_no_abort, made_job, out_job, ready_job, calls_ready, if_of_writer, part_in, parts_made}
use Rattle.run_laws.specs.Alive.{jobs_at_once, jobs_wanted, AreOrderly, IsAlive}
use Rattle.run_laws.specs.Served.{IsOfLine}
use Rattle.run_laws.specs.Writers.{waiting_line, awaits_writer, HasWriters, IsAtWork, AreAtWork}
use Rattle.run_laws.proofs.Keyed.{total-append}
use Rattle.run_laws.proofs.Lines.{Rises-lines, lines-opening, lines-replies, with_replies-append}
use Rattle.run_laws.proofs.Settled.{settled, settled-is, settled-due, settled-wanted}
use Rattle.run_laws.proofs.Orderly.{orderly-settled}
use Rattle.run_laws.proofs.Jobs.{IsReady, Rises-jobs, live-taken, out-taken, ready-taken, made-change, parts-change}
use Rattle.run_laws.proofs.Handles.{Look, with_at, at-same, at-other, names}
use Rattle.run_laws.proofs.Dropped.{drop_one}
use Rattle.run_laws.proofs.WriterTurn.{HasTurned, writer-turns}
use Rattle.run_laws.proofs.Writers.{stands_as, AllKeep, keep-same, keep-replied, keep-settled, SameFor, same-jobs, same-then, writers-apart, writers-keep, writers-look, phases-apart}
use Rattle.run_laws.proofs.Conversation.{WritesSo, asks-one, one-no-wait, only_await_waits, writes-so, ends-so}
use Rattle.run_laws.proofs.Turn.{Ending, AsksOne, RepliesOne, WritesOn, EndsIt, Rests, SaysSo, IsClosed, line_job, close-asks, close-reply, close-wait, reply-closed, closed-jobs}
use Rattle.run_laws.proofs.Opened.{IsOpened, IsHeard, line-made}
use Rattle.run_laws.proofs.Left.{left_under, left-look, left-options, AnswerIs, NoAnswer, OneAnswer, answer-is, writers-left}
use Rattle.run_laws.proofs.Steps.{next_now, heard_now, alone-begun, StepIs, LineStep, WriterStep, TakeStep, step-is, IsReadyFor, heard-ready, ends-ready, writes-ready}
use Rattle.run_laws.proofs.Effects.{reply-first, asks-shared, waits-shared, Effect, Keeps, OpensOne, CreatesOne, ClosesOne, reply-effect, reply-options, replied-writers}

-- a line's own job counts for no writer

line-parts : (m : ℕ) (who : Owner) (numbers : List ℕ) → IsOfLine who → if_of_writer m who numbers ≡ []
line-parts m (owner.Writer line) numbers own = absurd own
line-parts m other numbers own = refl

pub line-same : (m number : ℕ) (who : Owner) (line : ℕ) (called : Call) (jobs : List Job) → IsOfLine who → SameFor m jobs (jobs ++ line_job number who line called ∷ [])
line-same m number who line called jobs of_line = record {
  out = λ kind. let sum = total-append (out_job kind m) jobs (line_job number who line called ∷ []) in let none = line-made m who (kind called) of_line in omega arith;
  made = λ kind. let sum = total-append (made_job kind m) jobs (line_job number who line called ∷ []) in let none = line-made m who (kind called) of_line in omega arith;
  parts = flat_map-append (λ (job : Job). if_of_writer m job.owner (part_in job.call)) jobs (line_job number who line called ∷ []) ∙ ap (λ t. parts_made m jobs ++ (t ++ [])) (line-parts m who (part_in called) of_line) ∙ append-nil (parts_made m jobs);
}

pub line-ready : (kind : Call → ℕ) (m number : ℕ) (who : Owner) (line : ℕ) (called : Call) (jobs : List Job) → IsOfLine who → calls_ready kind m (jobs ++ line_job number who line called ∷ []) ≡ calls_ready kind m jobs
line-ready kind m number who line called jobs of_line = let sum = total-append (ready_job kind m) jobs (line_job number who line called ∷ []) in let none = line-made m who (kind called) of_line in omega arith

-- what a step leaves before the awaits that are due have their replies
pub record IsStepped (state : ClientState) (lines : List Standing) (jobs : List Job) (now : Shared) : Type 0 where
  pub closed : IsClosed lines jobs
  pub writers : HasWriters lines jobs (table.get now.handles)
  pub at_work : AreAtWork jobs (table.get now.handles)
  pub options : now.options ≡ state.shared.options

-- a writer that is as it was is at work
at-work : (jobs now : List Job) (w : Writer) → calls_ready is_no_abort w.line now ≤ calls_ready is_no_abort w.line jobs → IsAtWork jobs w → IsAtWork now w
at-work jobs now w fewer is = record { busy = is.busy; idle = λ failed. let none = is.idle failed in omega arith }

-- what the jobs and the handles are behind a line's turn

pub no-asks : (step : Step) (line : Line) (next : Next) → step.asks ≡ [] → jobs_of_line step line next ≡ []
no-asks step line (Asks called) none = ap (λ (asks : List Ask). jobs_made line.number asks (called ∷ [])) none
no-asks step line (Writes count w) none = ap (λ (asks : List Ask). jobs_made w.line asks (calls_of (askings_of step w))) none
no-asks step line (Ends w) none = ap (λ (asks : List Ask). jobs_made w.line asks (calls_of (askings_of step w))) none
no-asks step line other none = refl

-- a turn without asks and drops leaves the jobs of the event
pub quiet-jobs : (state : ClientState) (step : Step) (opened : IsOpened state step.event) → step.asks ≡ [] → step.drops ≡ [] → jobs_after state.jobs step (turn_at state step.event) ≡ jobs_at state.jobs step.event
quiet-jobs state step opened no_asks no_drops =
    ap (jobs_after state.jobs step) opened.turn
    ∙ ap (λ (more : List Job). fold drop_one (jobs_at state.jobs step.event ++ more) step.drops) (no-asks step opened.line (next_now state step.event opened) no_asks)
    ∙ ap (fold drop_one (jobs_at state.jobs step.event ++ [])) no_drops
    ∙ append-nil (jobs_at state.jobs step.event)

-- the line asks for a call
pub asks-jobs : (state : ClientState) (step : Step) (opened : IsOpened state step.event) (called : Call) → next_now state step.event opened ≡ Asks called → step.asks ≡ record { job = length state.jobs + 1; owner = opened.who; call = asked_of called } ∷ [] → step.drops ≡ [] → jobs_after state.jobs step (turn_at state step.event) ≡ jobs_at state.jobs step.event ++ line_job (length state.jobs + 1) opened.who opened.n called ∷ []
asks-jobs state step opened called next asks no_drops =
    ap (jobs_after state.jobs step) opened.turn
    ∙ ap (λ (x : Next). fold drop_one (jobs_at state.jobs step.event ++ jobs_of_line step opened.line x) step.drops) next
    ∙ ap (λ (more : List Job). fold drop_one (jobs_at state.jobs step.event ++ more) step.drops) (ap (λ (x : List Ask). jobs_made opened.line.number x (called ∷ [])) asks ∙ ap (λ (k : ℕ). line_job (length state.jobs + 1) opened.who k called ∷ []) opened.number_is)
    ∙ ap (fold drop_one (jobs_at state.jobs step.event ++ line_job (length state.jobs + 1) opened.who opened.n called ∷ [])) no_drops

stepped-asks : (state : ClientState) (step : Step) (opened : IsOpened state step.event) (called : Call) → IsAlive state → next_now state step.event opened ≡ Asks called → IsStepped state (lines_at state.lines state.jobs step.event) (jobs_at state.jobs step.event ++ line_job (length state.jobs + 1) opened.who opened.n called ∷ []) state.shared
stepped-asks state step opened called alive next =
    let number : ℕ = length state.jobs + 1 in
    let before : List Job = jobs_at state.jobs step.event in
    let jobs : List Job = before ++ line_job number opened.who opened.n called ∷ [] in
    let one = asks-one (view_of state.shared opened.line) opened.line.request opened.heard called next in
    let same_length = opened.same_length in
    let keep : AllKeep state.lines (lines_at state.lines state.jobs step.event) = λ name. opened.keeps name (λ awaits. absurd (let none = one-no-wait opened.line.request one in cc)) in
    let same : (m : ℕ) → SameFor m state.jobs jobs = λ m. same-then m state.jobs before jobs (opened.same m) (line-same m number opened.who opened.n called before opened.of_line) in
    record {
      closed = close-asks opened.n number opened.who opened.line opened.heard (lines_at state.lines state.jobs step.event) before called opened.of_line opened.now one (let is : number ≡ length before + 1 = omega arith in is);
      writers = writers-keep state.lines (lines_at state.lines state.jobs step.event) state.jobs jobs (table.get state.shared.handles) keep same alive.writers;
      at_work = λ q v stands. at-work state.jobs jobs v (let first = opened.ready is_no_abort v.line in let second = line-ready is_no_abort v.line number opened.who opened.n called before opened.of_line in omega arith) (alive.at_work q v stands);
      options = refl;
    }

-- the line waits for others
stepped-rests : (state : ClientState) (step : Step) (opened : IsOpened state step.event) → IsAlive state → next_now state step.event opened ≡ Waits → IsStepped state (lines_at state.lines state.jobs step.event) (jobs_at state.jobs step.event) state.shared
stepped-rests state step opened alive next =
    let awaits = only_await_waits (view_of state.shared opened.line) opened.line.request opened.heard next in
    let keep : AllKeep state.lines (lines_at state.lines state.jobs step.event) = λ name. opened.keeps name (λ waits. absurd (let none : awaits_writer opened.line.request ≡ false = ap awaits_writer awaits in cc)) in
    record {
      closed = close-wait opened.n opened.line opened.heard (lines_at state.lines state.jobs step.event) (jobs_at state.jobs step.event) opened.now (ap jobs_at_once awaits);
      writers = writers-keep state.lines (lines_at state.lines state.jobs step.event) state.jobs (jobs_at state.jobs step.event) (table.get state.shared.handles) keep opened.same alive.writers;
      at_work = λ q v stands. at-work state.jobs (jobs_at state.jobs step.event) v (let first = opened.ready is_no_abort v.line in omega arith) (alive.at_work q v stands);
      options = refl;
    }

-- the line is answered

effect-works : (state : ClientState) (event : Event) (opened : IsOpened state event) (now : Shared) → IsAlive state → Effect state.shared opened.line (next_now state event opened) now → AreAtWork (jobs_at state.jobs event) (table.get now.handles)
effect-works state event opened now alive effect = go effect
  where
    jobs : List Job
    jobs = jobs_at state.jobs event

    look : Look
    look = table.get state.shared.handles

    old : (q : HandleName) (v : Writer) → look q ≡ Some (Writing v) → IsAtWork jobs v
    old q v stands = at-work state.jobs jobs v (let first = opened.ready is_no_abort v.line in omega arith) (alive.at_work q v stands)

    by : (o : Option Handle) → ((q : HandleName) → table.get now.handles q ≡ with_at (handle_name opened.line) o look q) → ((v : Writer) → o ≡ Some (Writing v) → IsAtWork jobs v) → AreAtWork jobs (table.get now.handles)
    by o same new q v stands = elim (names q (handle_name opened.line)) [
      | inl here ↦ new v (sym (same q ∙ ap (with_at (handle_name opened.line) o look) here ∙ at-same (handle_name opened.line) o look) ∙ stands)
      | inr apart ↦ old q v (sym (same q ∙ at-other (handle_name opened.line) o look q apart) ∙ stands)
    ]

    go : Effect state.shared opened.line (next_now state event opened) now → AreAtWork jobs (table.get now.handles)
    go (Keeps same) = λ q v stands. old q v (same q ∙ stands)
    go (OpensOne version next same) = by (Some (Reading opened.line.number version)) same (λ v stands. absurd (cc))
    go (ClosesOne said next awaits same) = by None same (λ v stands. absurd (cc))
    go (CreatesOne key next same) = by (Some (Writing (writes_first opened.line key state.shared))) same (λ v stands. subst (IsAtWork jobs) (let is : writes_first opened.line key state.shared ≡ v = cc in is) (record { busy = λ number waits. absurd (cc); idle = λ failed. absurd (cc) }))

stepped-replies : (state : ClientState) (step : Step) (opened : IsOpened state step.event) (said : Reply) → IsAlive state → SaysSo (next_now state step.event opened) said → IsStepped state (change_line opened.n (λ phase. Replied) (lines_at state.lines state.jobs step.event)) (jobs_at state.jobs step.event) (by_reply (next_now state step.event opened) opened.line step state.shared (Some said))
stepped-replies state step opened said alive says =
    let now : Shared = by_reply (next_now state step.event opened) opened.line step state.shared (Some said) in
    let effect = reply-effect (next_now state step.event opened) said opened.line step state.shared says in
    record {
      closed = close-reply opened.n opened.line opened.heard (lines_at state.lines state.jobs step.event) (jobs_at state.jobs step.event) opened.now;
      writers = replied-writers state step.event opened now alive effect;
      at_work = effect-works state step.event opened now alive effect;
      options = reply-options (next_now state step.event opened) said opened.line step state.shared says;
    }

-- a writer has its turn

-- what its turn does
pub turned : (state : ClientState) (step : Step) (name : HandleName) (w : Writer) (more : ℕ) (own : List Answered) → IsReadyFor state step.event name w more → TakesTurnOfWriter state step w own → HasTurned w.line w.upload w.waiter (jobs_at state.jobs step.event) (behind_step step w.upload) (fold drop_one (jobs_at state.jobs step.event ++ jobs_of_writer step w) step.drops) step.drops own
turned state step name w more own ready takes = writer-turns state step w own takes ready.same_length ready.in_turn ready.no_abort ready.not_open

writer-works : (state : ClientState) (step : Step) (name : HandleName) (w : Writer) (more : ℕ) (own : List Answered) → IsAlive state → IsReadyFor state step.event name w more → TakesTurnOfWriter state step w own → AreAtWork (fold drop_one (jobs_at state.jobs step.event ++ jobs_of_writer step w) step.drops) (with_at name (left_under (is_answered own) w.waiter w (behind_step step w.upload)) (table.get state.shared.handles))
writer-works state step name w more own alive ready takes q v stands = elim (names q name) [
  | inl here ↦ own_works w.waiter refl (sym (ap (with_at name left look) here ∙ at-same name left look) ∙ stands)
  | inr apart ↦ (let old : look q ≡ Some (Writing v) = sym (at-other name left look q apart) ∙ stands in
      let differ : w.line ≢ v.line = λ e. apart (writers-apart state.lines state.jobs q name v ready.before (alive.writers.each q v old) (alive.writers.each name ready.before ready.stands) (sym e ∙ ready.same_line)) in
      let first = ready.ready is_no_abort v.line differ in
      let second = turn.turns.only.ready is_no_abort v.line differ in
      at-work state.jobs jobs v (omega arith) (alive.at_work q v old))
]
  where
    look : Look
    look = table.get state.shared.handles

    final : Upload
    final = behind_step step w.upload

    jobs : List Job
    jobs = fold drop_one (jobs_at state.jobs step.event ++ jobs_of_writer step w) step.drops

    turn : HasTurned w.line w.upload w.waiter (jobs_at state.jobs step.event) final jobs step.drops own
    turn = turned state step name w more own ready takes

    left : Option Handle
    left = left_under (is_answered own) w.waiter w final

    by : (who : Waiter) → ((number : ℕ) → waiting_line who ≡ Some number → 0 < final.pending) → left_under (is_answered own) w.waiter w final ≡ Some (Writing (record { line = w.line; key = w.key; upload = final; waiter = who })) → left_under (is_answered own) w.waiter w final ≡ Some (Writing v) → IsAtWork jobs v
    by who busy left_is stands =
        let left_writer : Writer = record { line = w.line; key = w.key; upload = final; waiter = who } in
        let both : Some (Writing left_writer) ≡ Some (Writing v) = sym left_is ∙ stands in
        subst (IsAtWork jobs) (let is : left_writer ≡ v = cc in is) (record { busy = busy; idle = turn.idle })

    own_works : (who : Waiter) → w.waiter ≡ who → left_under (is_answered own) w.waiter w final ≡ Some (Writing v) → IsAtWork jobs v
    own_works who at stands = go (answer-is w.waiter final)
      where
        go : AnswerIs w.waiter final → IsAtWork jobs v
        go (NoAnswer none) =
            let own_is : own ≡ [] = turn.answers ∙ none in
            by w.waiter (λ number waits. turn.busy number waits own_is) (ap (λ (t : List Answered). left_under (is_answered t) w.waiter w final) own_is) stands
        go (OneAnswer line said waits one plain) =
            let own_is : own ≡ record { line = line; reply = said } ∷ [] = turn.answers ∙ one in
            by_who who at (ap (λ (t : List Answered). left_under (is_answered t) w.waiter w final) own_is)
          where
            by_who : (who : Waiter) → w.waiter ≡ who → left_under (is_answered own) w.waiter w final ≡ left_under true w.waiter w final → IsAtWork jobs v
            by_who (waiter.Close closer) at is = absurd (let none : left_under (is_answered own) w.waiter w final ≡ None = is ∙ ap (λ (x : Waiter). left_under true x w final) at in cc)
            by_who (waiter.Sync syncer) at is = by waiter.Nobody (λ number none. absurd (cc)) (is ∙ ap (λ (x : Waiter). left_under true x w final) at) stands
            by_who waiter.Nobody at is = by waiter.Nobody (λ number none. absurd (cc)) (is ∙ ap (λ (x : Waiter). left_under true x w final) at) stands

-- an fsync or a close has no job of its own
awaits-none : (line : Line) → awaits_writer line.request ≡ true → jobs_at_once line.request ≡ 0
awaits-none line awaits = go line.request awaits
  where
    go : (request : Request) → awaits_writer request ≡ true → jobs_at_once request ≡ 0
    go (Sync name) awaits = refl
    go (Close name) awaits = refl
    go other awaits = absurd (cc)

writer-closed : (state : ClientState) (step : Step) (name : HandleName) (w : Writer) (more : ℕ) (own : List Answered) → IsReadyFor state step.event name w more → TakesTurnOfWriter state step w own → IsClosed (lines_at state.lines state.jobs step.event) (jobs_at state.jobs step.event) → IsClosed (with_replies (lines_at state.lines state.jobs step.event) own) (fold drop_one (jobs_at state.jobs step.event ++ jobs_of_writer step w) step.drops)
writer-closed state step name w more own ready takes closed = go (answer-is w.waiter (behind_step step w.upload))
  where
    lines : List Standing
    lines = lines_at state.lines state.jobs step.event

    behind : List Job
    behind = fold drop_one (jobs_at state.jobs step.event ++ jobs_of_writer step w) step.drops

    turn : HasTurned w.line w.upload w.waiter (jobs_at state.jobs step.event) (behind_step step w.upload) behind step.drops own
    turn = turned state step name w more own ready takes

    now : IsClosed lines behind
    now = closed-jobs lines (jobs_at state.jobs step.event) behind turn.turn.numbers turn.turns.only.live closed

    go : AnswerIs w.waiter (behind_step step w.upload) → IsClosed (with_replies lines own) behind
    go (NoAnswer none) = subst (λ (t : List Answered). IsClosed (with_replies lines t) behind) (sym (turn.answers ∙ none)) now
    go (OneAnswer line said waits one plain) =
        let waiting = (ready.writers.each name w (at-same name (Some (Writing w)) (table.get state.shared.handles))).waits line waits in
        subst (λ (t : List Answered). IsClosed (with_replies lines t) behind) (sym (turn.answers ∙ one)) (reply-closed line waiting.line waiting.heard lines behind now waiting.stands (awaits-none waiting.line waiting.awaits))

-- what is left under the names then
pub turn-look : (state : ClientState) (step : Step) (name : HandleName) (w : Writer) (more : ℕ) (own : List Answered) (shared : Shared) → IsReadyFor state step.event name w more → TakesTurnOfWriter state step w own → shared.handles ≡ state.shared.handles → (q : HandleName) → with_at name (left_under (is_answered own) w.waiter w (behind_step step w.upload)) (table.get state.shared.handles) q ≡ table.get (writer_left name w step shared).handles q
turn-look state step name w more own shared ready takes same q =
    let turn = turned state step name w more own ready takes in
    ap (λ (t : List Answered). with_at name (left_under (is_answered t) w.waiter w (behind_step step w.upload)) (table.get state.shared.handles) q) turn.answers
    ∙ ap (λ (handles : Handles). with_at name (left_under (is_answered (answer_to w.waiter (behind_step step w.upload))) w.waiter w (behind_step step w.upload)) (table.get handles) q) (sym same)
    ∙ sym (left-look name w step shared q)

stepped-writer : (state : ClientState) (step : Step) (name : HandleName) (w : Writer) (more : ℕ) (own : List Answered) (shared : Shared) → IsAlive state → IsReadyFor state step.event name w more → TakesTurnOfWriter state step w own → shared.handles ≡ state.shared.handles → shared.options ≡ state.shared.options → IsClosed (lines_at state.lines state.jobs step.event) (jobs_at state.jobs step.event) → IsStepped state (with_replies (lines_at state.lines state.jobs step.event) own) (fold drop_one (jobs_at state.jobs step.event ++ jobs_of_writer step w) step.drops) (writer_left name w step shared)
stepped-writer state step name w more own shared alive ready takes handles options closed =
    let lines : List Standing = lines_at state.lines state.jobs step.event in
    let behind : List Job = fold drop_one (jobs_at state.jobs step.event ++ jobs_of_writer step w) step.drops in
    let look : Look = table.get state.shared.handles in
    let final : Upload = behind_step step w.upload in
    let left : Look = with_at name (left_under (is_answered own) w.waiter w final) look in
    let same = turn-look state step name w more own shared ready takes handles in
    let turn = turned state step name w more own ready takes in
    record {
      closed = writer-closed state step name w more own ready takes closed;
      writers = writers-look (with_replies lines own) behind left (table.get (writer_left name w step shared).handles) same (writers-left lines (jobs_at state.jobs step.event) behind look name w final step.drops own ready.writers turn);
      at_work = λ q v stands. writer-works state step name w more own alive ready takes q v (same q ∙ stands);
      options = left-options name w step shared ∙ options;
    }

-- a write answers nobody but its own line
pub writes-unanswered : (state : ClientState) (step : Step) (opened : IsOpened state step.event) (count more : ℕ) (w : Writer) (own : List Answered) → WritesSo (view_of state.shared opened.line) opened.line.request count w → IsReadyFor state step.event (handle_name opened.line) w more → TakesTurnOfWriter state step w own → own ≡ []
writes-unanswered state step opened count more w own so ready takes = go (answer-is w.waiter (behind_step step w.upload))
  where
    name : HandleName
    name = handle_name opened.line

    go : AnswerIs w.waiter (behind_step step w.upload) → own ≡ []
    go (NoAnswer none) = takes.answers ∙ none
    go (OneAnswer line said waits one plain) =
        let waiting = (ready.writers.each name w (at-same name (Some (Writing w)) (table.get state.shared.handles))).waits line waits in
        let number_is = alone-begun state step.event opened line waiting.line waiting.heard waiting.stands waiting.named in
        let both = phases-apart (line_at opened.n (lines_at state.lines state.jobs step.event)) waiting.line opened.line (Begun waiting.heard) (Begun opened.heard) (ap (λ (k : ℕ). line_at k (lines_at state.lines state.jobs step.event)) (sym number_is) ∙ waiting.stands) opened.now.stands in
        let awaited : awaits_writer opened.line.request ≡ true = sym (ap (λ (l : Line). awaits_writer l.request) both.0) ∙ waiting.awaits in
        let not_awaited = so.no_wait in
        absurd (cc)

stepped-writes : (state : ClientState) (step : Step) (opened : IsOpened state step.event) (count : ℕ) (w : Writer) (answers : List Answered) (shared : Shared) → IsAlive state → next_now state step.event opened ≡ Writes count w → TakesTurnOfWriter state step w answers → shared.handles ≡ state.shared.handles → shared.options ≡ state.shared.options → IsStepped state (with_replies (change_line opened.n (λ phase. Replied) (lines_at state.lines state.jobs step.event)) answers) (fold drop_one (jobs_at state.jobs step.event ++ jobs_of_writer step w) step.drops) (writer_left (handle_name opened.line) w step shared)
stepped-writes state step opened count w answers shared alive next takes handles options =
    let so = writes-so (view_of state.shared opened.line) opened.line.request opened.heard count w next in
    let name : HandleName = handle_name opened.line in
    let more : ℕ = length so.bytes in
    let ready = writes-ready state step.event opened count w alive so in
    let none = writes-unanswered state step opened count more w answers so ready takes in
    let lines : List Standing = lines_at state.lines state.jobs step.event in
    let replied : List Standing = change_line opened.n (λ phase. Replied) lines in
    let behind : List Job = fold drop_one (jobs_at state.jobs step.event ++ jobs_of_writer step w) step.drops in
    let look : Look = table.get state.shared.handles in
    let final : Upload = behind_step step w.upload in
    let left : Look = with_at name (left_under (is_answered answers) w.waiter w final) look in
    let same = turn-look state step name w more answers shared ready takes handles in
    let turn = turned state step name w more answers ready takes in
    let keep : AllKeep lines replied = λ q. keep-replied q opened.n lines (λ line heard stands awaits. absurd (let both = phases-apart (line_at opened.n lines) line opened.line (Begun heard) (Begun opened.heard) stands opened.now.stands in let awaited : awaits_writer opened.line.request ≡ true = sym (ap (λ (l : Line). awaits_writer l.request) both.0) ∙ awaits in let not_awaited = so.no_wait in cc)) in
    let all : HasWriters lines behind left = subst (λ (t : List Answered). HasWriters (with_replies lines t) behind left) none (writers-left lines (jobs_at state.jobs step.event) behind look name w final step.drops answers ready.writers turn) in
    subst (λ (t : List Answered). IsStepped state (with_replies replied t) behind (writer_left name w step shared)) (sym none) (record {
      closed = closed-jobs replied (jobs_at state.jobs step.event) behind turn.turn.numbers turn.turns.only.live (close-reply opened.n opened.line opened.heard lines (jobs_at state.jobs step.event) opened.now);
      writers = writers-look replied behind left (table.get (writer_left name w step shared).handles) same (writers-keep lines replied behind behind left keep (λ m. same-jobs m behind) all);
      at_work = λ q v stands. writer-works state step name w more answers alive ready takes q v (same q ∙ stands);
      options = left-options name w step shared ∙ options;
    })

-- no turn

take-stepped : (state : ClientState) (number time from : ℕ) (drops : List ℕ) (asks : List Ask) (replies : List Answered) → IsAlive state → IsReady number state.jobs → drops ≡ [] → IsStepped state state.lines (jobs_after state.jobs (record { event = Take number time from; drops = drops; asks = asks; replies = replies }) NoTurn) state.shared
take-stepped state number time from drops asks replies alive found no_drops =
    let rises = Rises-jobs 0 state.jobs alive.numbered in
    let jobs : List Job = change_job number (Out from) state.jobs in
    let same : (m : ℕ) → SameFor m state.jobs jobs = λ m. record { out = λ kind. out-taken 0 number from kind m state.jobs found.job rises found.stands found.phase; made = λ kind. made-change number (Out from) kind m state.jobs; parts = parts-change number (Out from) m state.jobs } in
    let jobs_are : fold drop_one (jobs ++ []) drops ≡ jobs = ap (fold drop_one (jobs ++ [])) no_drops ∙ append-nil jobs in
    subst (λ (t : List Job). IsStepped state state.lines t state.shared) (sym jobs_are) (record {
      closed = record {
        rising = alive.rising;
        numbered = numbered-change 1 number (Out from) state.jobs alive.numbered;
        orderly = alive.orderly;
        balanced = λ m. live-taken 0 number m from state.jobs found.job rises found.stands found.phase ∙ alive.balanced m;
      };
      writers = writers-keep state.lines state.lines state.jobs jobs (table.get state.shared.handles) (keep-same state.lines) same alive.writers;
      at_work = λ q v stands. at-work state.jobs jobs v (ready-taken 0 number from is_no_abort v.line state.jobs found.job rises found.stands) (alive.at_work q v stands);
      options = refl;
    })

-- a step before the awaits

abbrev pub lines_behind : ClientState → Step → List Answered → List Standing
lines_behind state step own = with_replies (lines_at state.lines state.jobs step.event) own

abbrev pub jobs_behind : ClientState → Step → List Job
jobs_behind state step = jobs_after state.jobs step (turn_at state step.event)

abbrev pub shared_behind : ClientState → Step → Shared
shared_behind state step = shared_after (turn_at state step.event) step state.shared

-- the reply to the line whose turn it was
pub own-reply : (n : ℕ) (step : Step) (said : Reply) (own more rest : List Answered) → step.replies ≡ own ++ more → own ≡ record { line = n; reply = said } ∷ rest → reply_in n step.replies ≡ Some said
own-reply n step said own more rest replies own_is = ap (reply_in n) (replies ∙ ap (λ (t : List Answered). t ++ more) own_is) ∙ reply-first n said (rest ++ more)

line-stepped : (state : ClientState) (step : Step) (own more : List Answered) (opened : IsOpened state step.event) → IsAlive state → step.replies ≡ own ++ more → Ending state step opened.line opened.who (next_now state step.event opened) own → IsStepped state (lines_behind state step own) (jobs_behind state step) (shared_behind state step)
line-stepped state step own more opened alive replies ended = go ended
  where
    lines : List Standing
    lines = lines_at state.lines state.jobs step.event

    next : Next
    next = next_now state step.event opened

    by : (replied : List Answered) (jobs : List Job) (now : Shared) → own ≡ replied → jobs_behind state step ≡ jobs → shared_behind state step ≡ now → IsStepped state (with_replies lines replied) jobs now → IsStepped state (lines_behind state step own) (jobs_behind state step) (shared_behind state step)
    by replied jobs now own_is jobs_are shared_is stepped =
        subst (λ (t : List Answered). IsStepped state (with_replies lines t) (jobs_behind state step) (shared_behind state step)) (sym own_is)
        (subst (λ (t : List Job). IsStepped state (with_replies lines replied) t (shared_behind state step)) (sym jobs_are)
        (subst (λ (t : Shared). IsStepped state (with_replies lines replied) jobs t) (sym shared_is) stepped))

    shared-is : shared_behind state step ≡ by_reply next opened.line step state.shared (reply_in opened.line.number step.replies)
    shared-is = ap (λ (t : Turn). shared_after t step state.shared) opened.turn

    answered-line : (said : Reply) (rest : List Answered) → with_replies lines (record { line = opened.line.number; reply = said } ∷ rest) ≡ with_replies (change_line opened.n (λ phase. Replied) lines) rest
    answered-line said rest = ap (λ (k : ℕ). with_replies (change_line k (λ phase. Replied) lines) rest) opened.number_is

    go : Ending state step opened.line opened.who next own → IsStepped state (lines_behind state step own) (jobs_behind state step) (shared_behind state step)
    go (AsksOne called is asks none no_drops) =
        by [] _ state.shared none (asks-jobs state step opened called is asks no_drops) (shared-is ∙ ap (λ (x : Next). by_reply x opened.line step state.shared (reply_in opened.line.number step.replies)) is ∙ asks-shared called opened.line step state.shared (reply_in opened.line.number step.replies)) (stepped-asks state step opened called alive is)
    go (RepliesOne said says no_asks one no_drops) =
        by (record { line = opened.line.number; reply = said } ∷ []) (jobs_at state.jobs step.event) (by_reply next opened.line step state.shared (Some said)) one (quiet-jobs state step opened no_asks no_drops) (shared-is ∙ ap (by_reply next opened.line step state.shared) (own-reply opened.line.number step said own more [] replies one))
        (subst (λ (t : List Standing). IsStepped state t (jobs_at state.jobs step.event) (by_reply next opened.line step state.shared (Some said))) (sym (answered-line said [])) (stepped-replies state step opened said alive says))
    go (WritesOn count w answers is takes one) =
        by (record { line = opened.line.number; reply = reply.Wrote count } ∷ answers) (fold drop_one (jobs_at state.jobs step.event ++ jobs_of_writer step w) step.drops) (writer_left (handle_name opened.line) w step (with_names (with_file w.key (written w.upload) state.shared.names) state.shared)) one
        (ap (jobs_after state.jobs step) opened.turn ∙ ap (λ (x : Next). fold drop_one (jobs_at state.jobs step.event ++ jobs_of_line step opened.line x) step.drops) is)
        (shared-is ∙ ap (λ (x : Next). by_reply x opened.line step state.shared (reply_in opened.line.number step.replies)) is ∙ ap (by_reply (Writes count w) opened.line step state.shared) (own-reply opened.line.number step (reply.Wrote count) own more answers replies one))
        (subst (λ (t : List Standing). IsStepped state t (fold drop_one (jobs_at state.jobs step.event ++ jobs_of_writer step w) step.drops) (writer_left (handle_name opened.line) w step (with_names (with_file w.key (written w.upload) state.shared.names) state.shared))) (sym (answered-line (reply.Wrote count) answers)) (stepped-writes state step opened count w answers (with_names (with_file w.key (written w.upload) state.shared.names) state.shared) alive is takes refl refl))
    go (EndsIt w is takes) =
        let so = ends-so (view_of state.shared opened.line) opened.line.request opened.heard w is in
        by own (fold drop_one (jobs_at state.jobs step.event ++ jobs_of_writer step w) step.drops) (writer_left (handle_name opened.line) w step state.shared) refl
        (ap (jobs_after state.jobs step) opened.turn ∙ ap (λ (x : Next). fold drop_one (jobs_at state.jobs step.event ++ jobs_of_line step opened.line x) step.drops) is)
        (shared-is ∙ ap (λ (x : Next). by_reply x opened.line step state.shared (reply_in opened.line.number step.replies)) is)
        (stepped-writer state step (handle_name opened.line) w 0 own state.shared alive (ends-ready state step.event opened w alive so) takes refl refl (close-wait opened.n opened.line opened.heard lines (jobs_at state.jobs step.event) opened.now (awaits-none opened.line so.awaits)))
    go (Rests is no_asks none no_drops) =
        by [] (jobs_at state.jobs step.event) state.shared none (quiet-jobs state step opened no_asks no_drops) (shared-is ∙ ap (λ (x : Next). by_reply x opened.line step state.shared (reply_in opened.line.number step.replies)) is ∙ waits-shared opened.line step state.shared (reply_in opened.line.number step.replies)) (stepped-rests state step opened alive is)

heard-stepped : (state : ClientState) (step : Step) (own : List Answered) (heard : IsHeard state step.event) → IsAlive state → TakesTurnOfWriter state step (heard_now state step.event heard) own → IsStepped state (lines_behind state step own) (jobs_behind state step) (shared_behind state step)
heard-stepped state step own heard alive takes =
    let w : Writer = heard_now state step.event heard in
    let behind : List Job = fold drop_one (jobs_at state.jobs step.event ++ jobs_of_writer step w) step.drops in
    let closed : IsClosed (lines_at state.lines state.jobs step.event) (jobs_at state.jobs step.event) = subst (λ (t : List Standing). IsClosed t (jobs_at state.jobs step.event)) (sym heard.lines_are) (closed-jobs state.lines state.jobs (jobs_at state.jobs step.event) heard.in_turn.numbers heard.only.live (record { rising = alive.rising; numbered = alive.numbered; orderly = alive.orderly; balanced = alive.balanced })) in
    let stepped = stepped-writer state step heard.name w 0 own state.shared alive (heard-ready state step.event alive heard) takes refl refl closed in
    subst (λ (t : List Job). IsStepped state (lines_behind state step own) t (shared_behind state step)) (sym (ap (jobs_after state.jobs step) heard.turn))
    (subst (λ (t : Shared). IsStepped state (lines_behind state step own) behind t) (sym (ap (λ (t : Turn). shared_after t step state.shared) heard.turn)) stepped)

taken-stepped : (state : ClientState) (event : Event) (drops : List ℕ) (asks : List Ask) (replies own : List Answered) (number time from : ℕ) → IsAlive state → event ≡ Take number time from → IsReady number state.jobs → own ≡ [] → drops ≡ [] → IsStepped state (lines_behind state (record { event = event; drops = drops; asks = asks; replies = replies }) own) (jobs_behind state (record { event = event; drops = drops; asks = asks; replies = replies })) (shared_behind state (record { event = event; drops = drops; asks = asks; replies = replies }))
taken-stepped state event drops asks replies own number time from alive is found no_own no_drops =
    subst (λ (e : Event). IsStepped state (lines_behind state (record { event = e; drops = drops; asks = asks; replies = replies }) own) (jobs_behind state (record { event = e; drops = drops; asks = asks; replies = replies })) (shared_behind state (record { event = e; drops = drops; asks = asks; replies = replies }))) (sym is)
    (subst (λ (t : List Answered). IsStepped state (with_replies state.lines t) (jobs_after state.jobs (record { event = Take number time from; drops = drops; asks = asks; replies = replies }) NoTurn) state.shared) (sym no_own) (take-stepped state number time from drops asks replies alive found no_drops))

pub stepped : (state : ClientState) (step : Step) → IsAlive state → (legal : IsLegalStep state step) → IsStepped state (lines_behind state step legal.own) (jobs_behind state step) (shared_behind state step)
stepped state step alive legal = go (step-is state step alive legal)
  where
    go : StepIs state step legal.own → IsStepped state (lines_behind state step legal.own) (jobs_behind state step) (shared_behind state step)
    go (LineStep opened ended) = line-stepped state step legal.own (due_awaits (lines_behind state step legal.own)) opened alive legal.replies ended
    go (WriterStep heard takes) = heard-stepped state step legal.own heard alive takes
    go (TakeStep number time from is found no_asks no_own no_drops) = taken-stepped state step.event step.drops step.asks step.replies legal.own number time from alive is found no_own no_drops

-- and the awaits that are due have their replies
pub settle : (state : ClientState) (time : ℕ) (lines : List Standing) (jobs : List Job) (positions : List ℕ) (shared : Shared) → IsAlive state → IsStepped state lines jobs shared → IsAlive (record { time = time; lines = with_replies lines (due_awaits lines); jobs = jobs; positions = positions; shared = shared })
settle state time lines jobs positions shared alive step =
    let closed = step.closed in
    let same : with_replies lines (due_awaits lines) ≡ settled lines = settled-is 0 lines (Rises-lines 0 lines closed.rising) in
    record {
      rising = rw (lines-replies lines (due_awaits lines)) closed.rising;
      numbered = closed.numbered;
      balanced = λ m. closed.balanced m ∙ sym (ap (λ (t : List Standing). jobs_wanted (line_at m t)) same ∙ settled-wanted m lines);
      no_due = ap due_awaits same ∙ settled-due lines;
      orderly = subst (λ (t : List Standing). AreOrderly [] t) (sym same) (orderly-settled lines [] closed.orderly);
      part_low = subst (λ (o : Opts). 1 ≤ o.part) (sym step.options) alive.part_low;
      writers = subst (λ (t : List Standing). HasWriters t jobs (table.get shared.handles)) (sym same) (writers-keep lines (settled lines) jobs jobs (table.get shared.handles) (keep-settled lines) (λ m. same-jobs m jobs) step.writers);
      at_work = step.at_work;
    }

-- a legal step leaves an alive state alive
pub alive-step : (state : ClientState) (step : Step) → IsAlive state → IsLegalStep state step → IsAlive (after state step)
alive-step state step alive legal =
    let lines : List Standing = lines_behind state step legal.own in
    let jobs : List Job = jobs_behind state step in
    let shared : Shared = shared_behind state step in
    let same : with_replies (lines_at state.lines state.jobs step.event) step.replies ≡ with_replies lines (due_awaits lines) = ap (with_replies (lines_at state.lines state.jobs step.event)) legal.replies ∙ with_replies-append (lines_at state.lines state.jobs step.event) legal.own (due_awaits lines) in
    subst (λ (t : List Standing). IsAlive (record { time = time_after state.time step.event; lines = t; jobs = jobs; positions = positions_after state.positions step.event; shared = shared })) (sym same)
    (settle state (time_after state.time step.event) lines jobs (positions_after state.positions step.event) shared alive (stepped state step alive legal))

pub alive-steps : (state : ClientState) (steps : List Step) → IsAlive state → Along IsLegalStep after state steps → IsAlive (fold after state steps)
alive-steps state [] alive run = alive
alive-steps state (step ∷ steps) alive run = alive-steps (after state step) steps (alive-step state step alive run.0) run.1

-- before the first step

opening-at : (n : ℕ) (options : Opts) (script : List Line) (line : Line) (phase : Phase) → line_at n (opening options script).lines ≡ stands_as line phase → phase ≡ Waiting
opening-at n options [] line phase is = absurd (cc)
opening-at n options (first ∷ script) line phase is = go (first.number == n) is (opening-at n options script line phase)
  where
    go : (b : Bool) → cond b (stands_as first Waiting) (line_at n (opening options script).lines) ≡ stands_as line phase → (line_at n (opening options script).lines ≡ stands_as line phase → phase ≡ Waiting) → phase ≡ Waiting
    go true is ih = let same : record { line = first; phase = Waiting } ≡ record { line = line; phase = phase } = cc in sym (ap (λ (s : Standing). s.phase) same)
    go false is ih = ih is

opening-wanted : (n : ℕ) (options : Opts) (script : List Line) → 0 ≡ jobs_wanted (line_at n (opening options script).lines)
opening-wanted n options [] = refl
opening-wanted n options (line ∷ script) = go (line.number == n) (opening-wanted n options script)
  where
    go : (b : Bool) → 0 ≡ jobs_wanted (line_at n (opening options script).lines) → 0 ≡ jobs_wanted (cond b (Some (record { line = line; phase = Waiting })) (line_at n (opening options script).lines))
    go true e = refl
    go false e = e

opening-due : (options : Opts) (script : List Line) → due_awaits (opening options script).lines ≡ []
opening-due options [] = refl
opening-due options (line ∷ script) = refl

opening-orderly : (busy : List ℕ) (options : Opts) (script : List Line) → AreOrderly busy (opening options script).lines
opening-orderly busy options [] = tt
opening-orderly busy options (line ∷ script) = opening-orderly (line.actor ∷ busy) options script

pub no-handle : (q : HandleName) → table.get (table.empty {X = Handle} {R = name_cmp}) q ≡ None
no-handle q = table.get-empty name_cmp q

pub opening-alive : (options : Opts) (script : List Line) → AreWithin options → AreRising 0 script → IsAlive (opening options script)
opening-alive options script within rising = record {
  rising = rw (lines-opening options script) rising;
  numbered = tt;
  balanced = λ n. opening-wanted n options script;
  no_due = opening-due options script;
  orderly = opening-orderly [] options script;
  part_low = within.part_low;
  writers = record {
    each = λ q w stands. absurd (let none = no-handle q in cc);
    owned = λ m some. absurd (omega arith);
    opened = λ m some. absurd (omega arith);
    once = λ m. record { creates = omega arith; completes = omega arith; aborts = omega arith; parts = tt; all = refl };
    waited = λ number line heard stands awaits. absurd (let begun : Begun heard ≡ Waiting = opening-at number options script line (Begun heard) stands in cc);
  };
  at_work = λ q w stands. absurd (let none = no-handle q in cc);
}

pub alive : (options : Opts) (script : List Line) (steps : List Step) → AreWithin options → AreRising 0 script → IsRunSoFar options script steps → IsAlive (state_after options script steps)
alive options script steps within rising run = alive-steps (opening options script) steps (opening-alive options script within rising) run
