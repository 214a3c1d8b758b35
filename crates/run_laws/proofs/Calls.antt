-- A line asks for no more jobs of its own than its request has calls.
use Rattle.std.proofs.Common.{◌≡◌, ℕ, ◌+◌, ◌-◌, ◌≤◌, List, [], ◌∷◌, ◌++◌, fold, length, true, false, ◌==◌, Some, append-nil, refl, sym, ap, ◌∙◌, subst, arith, eq-eqb, ne_eqb}
use Rattle.std.specs.List.{AllByRecursion}
use Rattle.mp_types.specs.declared.options.Opts.{Opts}
use Rattle.mp_types.specs.Options.{AreWithin}
use Rattle.bucket_model.specs.Along.{Along}
use Rattle.bucket_model.specs.declared.call.Call.{Call}
use Rattle.mount_model.specs.declared.request.Line.{Line}
use Rattle.mount_model.specs.declared.event.Event.{Event}
use Rattle.mount_model.specs.declared.event.Event.TheVariants.{Begin, Take, Done}
use Rattle.mount_model.specs.declared.event.Owner.{Owner}
use Rattle.mount_model.specs.declared.event.Ask.{Ask}
use Rattle.mount_model.specs.declared.event.Answered.{Answered}
use Rattle.mount_model.specs.declared.standing.Heard.{Heard}
use Rattle.mount_model.specs.declared.standing.Phase.{Phase}
use Rattle.mount_model.specs.declared.standing.Phase.TheVariants.{Waiting, Begun, Replied}
use Rattle.mount_model.specs.declared.standing.Standing.{Standing}
use Rattle.mount_model.specs.Heard.{nothing_heard}
use Rattle.mount_model.specs.Step.{Step}
use Rattle.mount_model.specs.Handles.{Writer}
use Rattle.mount_model.specs.Conversation.{Next, Asks}
use Rattle.mount_model.specs.State.{ClientState, Job, Out, Gone, line_at, change_line, change_job, lines_at, jobs_at, with_replies, view_of, handle_name, jobs_of_writer, jobs_of_line, jobs_after, opening, after, state_after}
use Rattle.mount_model.specs.Run.{AreRising, due_awaits, TakesTurnOfWriter, IsLegalStep, IsRunSoFar}
use Rattle.run_laws.specs.Counts.{if_line}
use Rattle.run_laws.specs.Alive.{IsAlive}
use Rattle.run_laws.specs.Faithful.{IsFaithful}
use Rattle.run_laws.specs.Calls.{job_for, jobs_of, may_ask, line_may_ask}
use Rattle.run_laws.specs.Served.{IsOfLine}
use Rattle.run_laws.specs.Work.{calls_left}
use Rattle.run_laws.proofs.Keyed.{item_at-key, total-append, all-found}
use Rattle.run_laws.proofs.Lines.{number_of, Rises-lines, line_at-same, line_at-other, with_replies-append, lines-opening, each-line, each-map}
use Rattle.run_laws.proofs.Settled.{settled, settled-is, Settles, Same, Answered as IsAnswered, settles}
use Rattle.run_laws.proofs.Dropped.{drop_one}
use Rattle.run_laws.proofs.Writers.{stands_as}
use Rattle.run_laws.proofs.Conversation.{asks-left, writes-so, ends-so}
use Rattle.run_laws.proofs.Turn.{by_number, of-line, Ending, AsksOne, RepliesOne, WritesOn, EndsIt, Rests, line_job}
use Rattle.run_laws.proofs.Opened.{IsOpened, IsHeard, gone-jobs_of}
use Rattle.run_laws.proofs.Steps.{next_now, heard_now, StepIs, LineStep, WriterStep, TakeStep, step-is, IsReadyFor, heard-ready, ends-ready, writes-ready}
use Rattle.run_laws.proofs.Alive.{turned, quiet-jobs, asks-jobs, lines_behind, jobs_behind, stepped, alive-step, opening-alive}
use Rattle.run_laws.proofs.Own.{OwnIs, NoOwn, OneOwn, own-is}
use Rattle.run_laws.proofs.Faithful.{faithful-step, opening-faithful}

-- what a line has asked for it may no more ask for
record Spends (m : ℕ) (before behind : List Standing) (jobs asked : List Job) : Type 0 where
  spent : jobs_of m asked + line_may_ask (line_at m behind) ≤ jobs_of m jobs + line_may_ask (line_at m before)

-- the event

-- jobs stay where they come further
jobs_of-event : (m : ℕ) (jobs : List Job) (event : Event) → jobs_of m (jobs_at jobs event) ≡ jobs_of m jobs
jobs_of-event m jobs (Begin line time) = refl
jobs_of-event m jobs (Take number time from) = gone-jobs_of m number (Out from) jobs
jobs_of-event m jobs (Done number position answer) = gone-jobs_of m number Gone jobs

-- a line that hears may ask for no more than before, and what it asks for next is among that
opened-may : (state : ClientState) (event : Event) → IsFaithful state → (opened : IsOpened state event) → (m : ℕ) → line_may_ask (line_at m (lines_at state.lines state.jobs event)) ≤ line_may_ask (line_at m state.lines)
opened-may state event faithful opened = by_number opened.n (λ m. line_may_ask (line_at m (lines_at state.lines state.jobs event)) ≤ line_may_ask (line_at m state.lines))
    (let old : line_may_ask (line_at opened.n state.lines) ≡ may_ask opened.old opened.line.request = ap line_may_ask opened.found in
    let now : line_may_ask (line_at opened.n (lines_at state.lines state.jobs event)) ≡ calls_left opened.line.request opened.heard - 1 = ap line_may_ask opened.now.stands in
    let calls = opened.calls faithful in
    omega arith)
    (λ m apart. let same : line_may_ask (line_at m (lines_at state.lines state.jobs event)) ≡ line_may_ask (line_at m state.lines) = ap line_may_ask (ap (line_at m) opened.lines_are ∙ line_at-other opened.n m opened.goes state.lines apart) in omega arith)

-- a reply leaves nothing to ask for
replied-may : (n : ℕ) (line : Line) (heard : Heard) (lines : List Standing) → line_at n lines ≡ stands_as line (Begun heard) → (m : ℕ) → line_may_ask (line_at m (change_line n (λ phase. Replied) lines)) ≤ line_may_ask (line_at m lines)
replied-may n line heard lines stands = by_number n (λ m. line_may_ask (line_at m (change_line n (λ phase. Replied) lines)) ≤ line_may_ask (line_at m lines))
    (let done : line_may_ask (line_at n (change_line n (λ phase. Replied) lines)) ≡ 0 = ap line_may_ask (line_at-same n (λ phase. Replied) lines (record { line = line; phase = Begun heard }) stands) in omega arith)
    (λ m apart. let same : line_may_ask (line_at m (change_line n (λ phase. Replied) lines)) ≡ line_may_ask (line_at m lines) = ap line_may_ask (line_at-other n m (λ phase. Replied) lines apart) in omega arith)

own-may : (state : ClientState) (event : Event) (own : List Answered) (m : ℕ) → OwnIs state event own → line_may_ask (line_at m (with_replies (lines_at state.lines state.jobs event) own)) ≤ line_may_ask (line_at m (lines_at state.lines state.jobs event))
own-may state event own m (NoOwn none) = let same : line_may_ask (line_at m (with_replies (lines_at state.lines state.jobs event) own)) ≡ line_may_ask (line_at m (lines_at state.lines state.jobs event)) = ap (λ (t : List Answered). line_may_ask (line_at m (with_replies (lines_at state.lines state.jobs event) t))) none in omega arith
own-may state event own m (OneOwn n line heard said one stands no_await same is_said whose) =
    let is : line_may_ask (line_at m (with_replies (lines_at state.lines state.jobs event) own)) ≡ line_may_ask (line_at m (change_line n (λ phase. Replied) (lines_at state.lines state.jobs event))) = ap (λ (t : List Answered). line_may_ask (line_at m (with_replies (lines_at state.lines state.jobs event) t))) one in
    let less = replied-may n line heard (lines_at state.lines state.jobs event) stands m in
    omega arith

settled-may : (m : ℕ) (lines : List Standing) → line_may_ask (line_at m (settled lines)) ≤ line_may_ask (line_at m lines)
settled-may m lines = go (settles m lines)
  where
    go : Settles m lines → line_may_ask (line_at m (settled lines)) ≤ line_may_ask (line_at m lines)
    go (Same e) = let same : line_may_ask (line_at m (settled lines)) ≡ line_may_ask (line_at m lines) = ap line_may_ask e in omega arith
    go (IsAnswered line heard awaits before behind) = let none : line_may_ask (line_at m (settled lines)) ≡ 0 = ap line_may_ask behind in omega arith

-- how many jobs a turn adds to a line

-- a line's job
asked-jobs : (m n number : ℕ) (who : Owner) (called : Call) (jobs : List Job) → IsOfLine who → jobs_of m (jobs ++ line_job number who n called ∷ []) ≡ jobs_of m jobs + if_line m n
asked-jobs m n number who called jobs of_line = let sum = total-append (job_for m) jobs (line_job number who n called ∷ []) in let own = of-line who (if_line m n) of_line in omega arith

-- the line's own number, where it asks
asks-spend : (state : ClientState) (step : Step) (own : List Answered) (opened : IsOpened state step.event) (called : Call) → IsFaithful state → next_now state step.event opened ≡ Asks called → own ≡ [] → jobs_behind state step ≡ jobs_at state.jobs step.event ++ line_job (length state.jobs + 1) opened.who opened.n called ∷ [] → (m : ℕ) → Spends m state.lines (lines_behind state step own) state.jobs (jobs_behind state step)
asks-spend state step own opened called faithful is none jobs_are =
    by_number opened.n (λ m. Spends m state.lines (lines_behind state step own) state.jobs (jobs_behind state step))
    (let some = asks-left (view_of state.shared opened.line) opened.line.request opened.heard called is in
    let same : (opened.n == opened.n) ≡ true = eq-eqb opened.n opened.n refl in
    let one : if_line opened.n opened.n ≡ 1 = rw same refl in
    let added = asked-jobs opened.n opened.n (length state.jobs + 1) opened.who called (jobs_at state.jobs step.event) opened.of_line in
    let jobs : jobs_of opened.n (jobs_behind state step) ≡ jobs_of opened.n (jobs_at state.jobs step.event ++ line_job (length state.jobs + 1) opened.who opened.n called ∷ []) = ap (jobs_of opened.n) jobs_are in
    let event = jobs_of-event opened.n state.jobs step.event in
    let old : line_may_ask (line_at opened.n state.lines) ≡ may_ask opened.old opened.line.request = ap line_may_ask opened.found in
    let now : line_may_ask (line_at opened.n (lines_behind state step own)) ≡ calls_left opened.line.request opened.heard - 1 = ap (λ (t : List Answered). line_may_ask (line_at opened.n (lines_behind state step t))) none ∙ ap line_may_ask opened.now.stands in
    let calls = opened.calls faithful in
    record { spent = omega arith })
    (λ m apart.
    let other : (opened.n == m) ≡ false = ne_eqb opened.n m (λ e. apart (sym e)) in
    let zero_is : if_line m opened.n ≡ 0 = rw other refl in
    let added = asked-jobs m opened.n (length state.jobs + 1) opened.who called (jobs_at state.jobs step.event) opened.of_line in
    let jobs : jobs_of m (jobs_behind state step) ≡ jobs_of m (jobs_at state.jobs step.event ++ line_job (length state.jobs + 1) opened.who opened.n called ∷ []) = ap (jobs_of m) jobs_are in
    let event = jobs_of-event m state.jobs step.event in
    let may = opened-may state step.event faithful opened m in
    let lines : line_may_ask (line_at m (lines_behind state step own)) ≡ line_may_ask (line_at m (lines_at state.lines state.jobs step.event)) = ap (λ (t : List Answered). line_may_ask (line_at m (lines_behind state step t))) none in
    record { spent = omega arith })

-- a turn that asks for no job of a line
quiet-spend : (state : ClientState) (step : Step) (own : List Answered) (m : ℕ) → OwnIs state step.event own → line_may_ask (line_at m (lines_at state.lines state.jobs step.event)) ≤ line_may_ask (line_at m state.lines) → jobs_of m (jobs_behind state step) ≡ jobs_of m (jobs_at state.jobs step.event) → Spends m state.lines (lines_behind state step own) state.jobs (jobs_behind state step)
quiet-spend state step own m owned may jobs =
    let event = jobs_of-event m state.jobs step.event in
    let less = own-may state step.event own m owned in
    record { spent = omega arith }

line-spends : (state : ClientState) (step : Step) (own : List Answered) (m : ℕ) (opened : IsOpened state step.event) → IsAlive state → IsFaithful state → OwnIs state step.event own → Ending state step opened.line opened.who (next_now state step.event opened) own → Spends m state.lines (lines_behind state step own) state.jobs (jobs_behind state step)
line-spends state step own m opened alive faithful owned ended = go ended
  where
    by : jobs_of m (jobs_behind state step) ≡ jobs_of m (jobs_at state.jobs step.event) → Spends m state.lines (lines_behind state step own) state.jobs (jobs_behind state step)
    by jobs = quiet-spend state step own m owned (opened-may state step.event faithful opened m) jobs

    turned-by : (w : Writer) (more : ℕ) (answers : List Answered) → IsReadyFor state step.event (handle_name opened.line) w more → TakesTurnOfWriter state step w answers → jobs_behind state step ≡ fold drop_one (jobs_at state.jobs step.event ++ jobs_of_writer step w) step.drops → Spends m state.lines (lines_behind state step own) state.jobs (jobs_behind state step)
    turned-by w more answers ready takes jobs_are = by (ap (jobs_of m) jobs_are ∙ (turned state step (handle_name opened.line) w more answers ready takes).turns.only.of_lines m)

    go : Ending state step opened.line opened.who (next_now state step.event opened) own → Spends m state.lines (lines_behind state step own) state.jobs (jobs_behind state step)
    go (AsksOne called is asks none no_drops) = asks-spend state step own opened called faithful is none (asks-jobs state step opened called is asks no_drops) m
    go (RepliesOne said says no_asks one no_drops) = by (ap (jobs_of m) (quiet-jobs state step opened no_asks no_drops))
    go (WritesOn count w answers is takes one) =
        let so = writes-so (view_of state.shared opened.line) opened.line.request opened.heard count w is in
        turned-by w (length so.bytes) answers (writes-ready state step.event opened count w alive so) takes (ap (jobs_after state.jobs step) opened.turn ∙ ap (λ (x : Next). fold drop_one (jobs_at state.jobs step.event ++ jobs_of_line step opened.line x) step.drops) is)
    go (EndsIt w is takes) =
        let so = ends-so (view_of state.shared opened.line) opened.line.request opened.heard w is in
        turned-by w 0 own (ends-ready state step.event opened w alive so) takes (ap (jobs_after state.jobs step) opened.turn ∙ ap (λ (x : Next). fold drop_one (jobs_at state.jobs step.event ++ jobs_of_line step opened.line x) step.drops) is)
    go (Rests is no_asks none no_drops) = by (ap (jobs_of m) (quiet-jobs state step opened no_asks no_drops))

heard-spends : (state : ClientState) (step : Step) (own : List Answered) (m : ℕ) (heard : IsHeard state step.event) → IsAlive state → OwnIs state step.event own → TakesTurnOfWriter state step (heard_now state step.event heard) own → Spends m state.lines (lines_behind state step own) state.jobs (jobs_behind state step)
heard-spends state step own m heard alive owned takes =
    let same : line_may_ask (line_at m (lines_at state.lines state.jobs step.event)) ≡ line_may_ask (line_at m state.lines) = ap (λ (t : List Standing). line_may_ask (line_at m t)) heard.lines_are in
    quiet-spend state step own m owned (omega arith) (ap (jobs_of m) (ap (jobs_after state.jobs step) heard.turn) ∙ (turned state step heard.name (heard_now state step.event heard) 0 own (heard-ready state step.event alive heard) takes).turns.only.of_lines m)

taken-spends : (state : ClientState) (event : Event) (drops : List ℕ) (asks : List Ask) (replies own : List Answered) (number time from m : ℕ) → OwnIs state event own → event ≡ Take number time from → drops ≡ [] → Spends m state.lines (lines_behind state (record { event = event; drops = drops; asks = asks; replies = replies }) own) state.jobs (jobs_behind state (record { event = event; drops = drops; asks = asks; replies = replies }))
taken-spends state event drops asks replies own number time from m owned is no_drops =
    let step : Event → Step = λ (e : Event). record { event = e; drops = drops; asks = asks; replies = replies } in
    let jobs : List Job = change_job number (Out from) state.jobs in
    let here : jobs_behind state (step event) ≡ jobs = ap (λ (e : Event). jobs_behind state (step e)) is ∙ ap (fold drop_one (jobs ++ [])) no_drops ∙ append-nil jobs in
    let at_event : jobs_at state.jobs event ≡ jobs = ap (jobs_at state.jobs) is in
    let same : line_may_ask (line_at m (lines_at state.lines state.jobs event)) ≡ line_may_ask (line_at m state.lines) = ap (λ (e : Event). line_may_ask (line_at m (lines_at state.lines state.jobs e))) is in
    quiet-spend state (step event) own m owned (omega arith) (ap (jobs_of m) (here ∙ sym at_event))

-- a step, and a run

step-spends : (state : ClientState) (step : Step) (m : ℕ) → IsAlive state → IsFaithful state → IsLegalStep state step → Spends m state.lines (after state step).lines state.jobs (after state step).jobs
step-spends state step m alive faithful legal =
    let event_lines : List Standing = lines_at state.lines state.jobs step.event in
    let lines : List Standing = lines_behind state step legal.own in
    let closed = (stepped state step alive legal).closed in
    let same : with_replies event_lines step.replies ≡ settled lines = ap (with_replies event_lines) legal.replies ∙ with_replies-append event_lines legal.own (due_awaits lines) ∙ settled-is 0 lines (Rises-lines 0 lines closed.rising) in
    let is : line_may_ask (line_at m (with_replies event_lines step.replies)) ≡ line_may_ask (line_at m (settled lines)) = ap (λ (t : List Standing). line_may_ask (line_at m t)) same in
    let less = settled-may m lines in
    let first = (go (own-is state step alive legal) (step-is state step alive legal)).spent in
    record { spent = omega arith }
  where
    go : OwnIs state step.event legal.own → StepIs state step legal.own → Spends m state.lines (lines_behind state step legal.own) state.jobs (jobs_behind state step)
    go owned (LineStep opened ended) = line-spends state step legal.own m opened alive faithful owned ended
    go owned (WriterStep heard takes) = heard-spends state step legal.own m heard alive owned takes
    go owned (TakeStep number time from is found no_asks no_own no_drops) = taken-spends state step.event step.drops step.asks step.replies legal.own number time from m owned is no_drops

steps-spend : (state : ClientState) (steps : List Step) (m : ℕ) → IsAlive state → IsFaithful state → Along IsLegalStep after state steps → Spends m state.lines (fold after state steps).lines state.jobs (fold after state steps).jobs
steps-spend state [] m alive faithful run = record { spent = omega arith }
steps-spend state (step ∷ steps) m alive faithful run =
    let first = (step-spends state step m alive faithful run.0).spent in
    let more = (steps-spend (after state step) steps m (alive-step state step alive run.0) (faithful-step state step alive faithful run.0) run.1).spent in
    record { spent = omega arith }

opening-waits : (options : Opts) (script : List Line) → AllByRecursion (λ s. s.phase ≡ Waiting) (opening options script).lines
opening-waits options [] = tt
opening-waits options (line ∷ script) = (refl, opening-waits options script)

pub calls_bound : (options : Opts) (script : List Line) (steps : List Step) → AreWithin options → AreRising 0 script → IsRunSoFar options script steps → AllByRecursion (λ line. jobs_of line.number (state_after options script steps).jobs ≤ calls_left line.request nothing_heard) script
calls_bound options script steps within rising run =
    let lines : List Standing = (opening options script).lines in
    let jobs : List Job = (state_after options script steps).jobs in
    let is_alive = opening-alive options script within rising in
    let one : (n : ℕ) (s : Standing) → line_at n lines ≡ Some s → jobs_of s.line.number jobs ≤ calls_left s.line.request nothing_heard = λ n s e.
    let number : s.line.number ≡ n = item_at-key number_of n lines s e in
    let waits : s.phase ≡ Waiting = all-found number_of (λ s. s.phase ≡ Waiting) n lines s (opening-waits options script) e in
    let spent = (steps-spend (opening options script) steps n is_alive (opening-faithful options script) run).spent in
    let all : line_may_ask (line_at n lines) ≡ calls_left s.line.request nothing_heard = ap line_may_ask e ∙ ap (λ (p : Phase). may_ask p s.line.request) waits in
    let count : jobs_of s.line.number jobs ≡ jobs_of n jobs = ap (λ (k : ℕ). jobs_of k jobs) number in
    omega arith in
    subst (λ (t : List Line). AllByRecursion (λ line. jobs_of line.number jobs ≤ calls_left line.request nothing_heard) t) (lines-opening options script)
    (each-map (λ line. jobs_of line.number jobs ≤ calls_left line.request nothing_heard) lines (each-line (λ s. jobs_of s.line.number jobs ≤ calls_left s.line.request nothing_heard) 0 lines (Rises-lines 0 lines is_alive.rising) one))
