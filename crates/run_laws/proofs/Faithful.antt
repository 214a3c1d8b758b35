-- What a line's own job that is ready or out has to do with its line: a read's makes the call that its line does next, each
-- answer leaves fewer calls, and one that lists is of a line that lists, which has heard nothing but pages.
use Rattle.std.proofs.Common.{◌≡◌, ◌≢◌, ℕ, ◌+◌, ◌<◌, List, [], ◌∷◌, ◌++◌, fold, length, cond, Bool, true, false, ◌==◌, Some, None, ◌⊎◌, inl, inr, refl, sym, ap, ◌∙◌, subst, subst₂, arith, append-nil, eqb-true}
use Rattle.std.proofs.lemmas.Bool.{eqb-false}
use Rattle.std.specs.FinMap as table
use Rattle.mp_types.specs.HandleName.{HandleName}
use Rattle.mp_types.specs.declared.options.Opts.{Opts}
use Rattle.mp_types.specs.Options.{AreWithin}
use Rattle.mp_rules.specs.Local.{with_file}
use Rattle.bucket_model.specs.Along.{Along}
use Rattle.bucket_model.specs.declared.call.Call.{Call}
use Rattle.bucket_model.specs.declared.answer.Brief.{Brief}
use Rattle.upload_rules.specs.Upload.{written}
use Rattle.mount_model.specs.declared.request.Request.{Request}
use Rattle.mount_model.specs.declared.request.Request.TheVariants.{Read}
use Rattle.mount_model.specs.declared.request.Reply.TheVariants as reply
use Rattle.mount_model.specs.declared.request.Line.{Line}
use Rattle.mount_model.specs.declared.event.Event.{Event}
use Rattle.mount_model.specs.declared.event.Event.TheVariants.{Begin, Take, Done}
use Rattle.mount_model.specs.declared.event.Ask.{Ask}
use Rattle.mount_model.specs.declared.event.Answered.{Answered}
use Rattle.mount_model.specs.declared.standing.Heard.{Heard}
use Rattle.mount_model.specs.declared.standing.Phase.TheVariants.{Begun, Replied}
use Rattle.mount_model.specs.declared.standing.Standing.{Standing}
use Rattle.mount_model.specs.Heard.{with_told, question_of, told_by}
use Rattle.mount_model.specs.Step.{Step}
use Rattle.mount_model.specs.Handles.{Writer, name_in, handle_of}
use Rattle.mount_model.specs.Conversation.{Next, Asks, Writes, View, next_of}
use Rattle.mount_model.specs.State.{Shared, ClientState, Job, JobPhase, Ready, Out, Gone, line_at, job_at, change_job, in_phase, lines_at, jobs_at, with_replies, view_of, next_in, handle_name, Turn, jobs_of_writer, jobs_of_line, jobs_after, with_names, writer_left, by_reply, reply_in, shared_after, opening, after, state_after}
use Rattle.mount_model.specs.Run.{AreRising, MayCome, due_awaits, TakesTurnOfWriter, IsLegalStep, IsRunSoFar}
use Rattle.run_laws.specs.Alive.{live_job, jobs_at_once, IsAlive}
use Rattle.run_laws.specs.Faithful.{IsRead, MakesRead, LeavesFewer, MakesListing, IsFaithful}
use Rattle.run_laws.specs.Listings.{MayList, AsksItself, HeardPages}
use Rattle.run_laws.specs.Served.{IsOfLine}
use Rattle.run_laws.specs.Work.{calls_left}
use Rattle.run_laws.specs.Writers.{awaits_writer}
use Rattle.run_laws.proofs.Keyed.{total-at}
use Rattle.run_laws.proofs.Lines.{Rises-lines, line_at-other, with_replies-append}
use Rattle.run_laws.proofs.Settled.{settled, settled-is, Settles, Same as Stays, Answered as IsAnswered, settles}
use Rattle.run_laws.proofs.Orderly.{orderly-apart}
use Rattle.run_laws.proofs.Jobs.{job_number, Rises-jobs, ready-found, found-of-two}
use Rattle.run_laws.proofs.Dropped.{drop_one}
use Rattle.run_laws.proofs.Handles.{at-other, handle-at, name-actor}
use Rattle.run_laws.proofs.Writers.{stands_as, phases-apart}
use Rattle.run_laws.proofs.Conversation.{asks-one, calls_left_fall, asks_listed, one-no-wait, one-no-await, read_next_same, read-reads, writes-so, ends-so}
use Rattle.run_laws.proofs.Pages.{asks-pages}
use Rattle.run_laws.proofs.Turn.{Ending, AsksOne, RepliesOne, WritesOn, EndsIt, Rests, line_job}
use Rattle.run_laws.proofs.Opened.{owner-itself, owner-due, live-own, IsOpened, IsHeard}
use Rattle.run_laws.proofs.Left.{left-look}
use Rattle.run_laws.proofs.Steps.{next_now, heard_now, StepIs, LineStep, WriterStep, TakeStep, step-is, IsReadyFor, heard-ready, ends-ready, writes-ready}
use Rattle.run_laws.proofs.Effects.{asks-shared, waits-shared, Effect, Keeps, OpensOne, CreatesOne, ClosesOne, reply-effect}
use Rattle.run_laws.proofs.Alive.{turned, quiet-jobs, asks-jobs, own-reply, lines_behind, jobs_behind, shared_behind, stepped, alive-step, opening-alive}
use Rattle.run_laws.proofs.Own.{IsWhose, WhoseTurn, WhoAwaits, OwnIs, NoOwn, OneOwn, own-is}

-- the jobs behind an event

-- a job where one has changed its phase
data Changed (k n : ℕ) (phase : JobPhase) (jobs : List Job) (job : Job) : Type 0 where
  Same : k ≢ n → job_at k jobs ≡ Some job → Changed k n phase jobs job
  Moved : (old : Job) → k ≡ n → job_at k jobs ≡ Some old → in_phase phase old ≡ job → Changed k n phase jobs job

changed-found : (k n : ℕ) (phase : JobPhase) (jobs : List Job) (job : Job) → job_at k (change_job n phase jobs) ≡ Some job → Changed k n phase jobs job
changed-found k n phase [] job is = absurd (cc)
changed-found k n phase (first ∷ jobs) job is = go (first.number == n) (first.number == k) refl refl is (changed-found k n phase jobs job)
  where
    later : (first.number == k) ≡ false → Changed k n phase jobs job → Changed k n phase (first ∷ jobs) job
    later other (Same apart stands) = Same apart (rw other stands)
    later other (Moved old here stands moved) = Moved old here (rw other stands) moved

    go : (c d : Bool) → (first.number == n) ≡ c → (first.number == k) ≡ d → job_at k (cond c (in_phase phase first) first ∷ change_job n phase jobs) ≡ Some job → (job_at k (change_job n phase jobs) ≡ Some job → Changed k n phase jobs job) → Changed k n phase (first ∷ jobs) job
    go true true at_n at_k is ih =
        let found : Some (in_phase phase first) ≡ Some job = sym (rw at_k refl) ∙ is in
        Moved first (sym (eqb-true first.number k at_k) ∙ eqb-true first.number n at_n) (rw at_k refl) cc
    go true false at_n at_k is ih = later at_k (ih (sym (rw at_k refl) ∙ is))
    go false true at_n at_k is ih = Same (λ e. eqb-false first.number n at_n (eqb-true first.number k at_k ∙ e)) (rw at_k (sym (rw at_k refl) ∙ is))
    go false false at_n at_k is ih = later at_k (ih (sym (rw at_k refl) ∙ is))

-- a job that is ready or out behind an event was so before
pub record WasLive (state : ClientState) (k : ℕ) (job : Job) : Type 0 where
  pub phase : JobPhase
  pub stands : job_at k state.jobs ≡ Some (in_phase phase job)
  pub live : phase ≢ Gone

pub was-live : (state : ClientState) (event : Event) (k : ℕ) (job : Job) → IsAlive state → MayCome state event → job_at k (jobs_at state.jobs event) ≡ Some job → job.phase ≢ Gone → WasLive state k job
was-live state (Begin n time) k job alive may stands live = record { phase = job.phase; stands = stands; live = live }
was-live state (Take number time from) k job alive may stands live = go (changed-found k number (Out from) state.jobs job stands)
  where
    go : Changed k number (Out from) state.jobs job → WasLive state k job
    go (Same apart here) = record { phase = job.phase; stands = here; live = live }
    go (Moved old same here moved) =
        let found = ready-found 0 number state.jobs (Rises-jobs 0 state.jobs alive.numbered) may.1 in
        let both : Some old ≡ Some found.job = sym here ∙ ap (λ (x : ℕ). job_at x state.jobs) same ∙ found.stands in
        let is : old ≡ found.job = cc in
        let ready_is : old.phase ≡ Ready = ap (λ (j : Job). j.phase) is ∙ found.phase in
        record { phase = old.phase; stands = here ∙ ap (λ (j : Job). Some (in_phase old.phase j)) moved; live = λ gone. absurd (cc) }
was-live state (Done number position answer) k job alive may stands live = go (changed-found k number Gone state.jobs job stands)
  where
    go : Changed k number Gone state.jobs job → WasLive state k job
    go (Same apart here) = record { phase = job.phase; stands = here; live = live }
    go (Moved old same here moved) = absurd (live (sym (ap (λ (j : Job). j.phase) moved)))

-- the line whose turn it is has none
turn-apart : (state : ClientState) (event : Event) (k : ℕ) (job : Job) → (opened : IsOpened state event) → job_at k (jobs_at state.jobs event) ≡ Some job → IsOfLine job.owner → job.phase ≢ Gone → job.line ≢ opened.n
turn-apart state event k job opened stands of_line live same =
    let least = total-at job_number (live_job opened.n) k (jobs_at state.jobs event) job stands in
    let one = live-own opened.n job of_line same live in
    let none = opened.now.none in
    absurd (omega arith)

-- the jobs of lines behind a step

pub data JobIs (state : ClientState) (step : Step) (own : List Answered) (k : ℕ) (job : Job) : Type 0 where
  OldJob : job_at k (jobs_at state.jobs step.event) ≡ Some job → JobIs state step own k job
  NewJob : (opened : IsOpened state step.event) → next_now state step.event opened ≡ Asks job.call → job.line ≡ opened.n → job.owner ≡ opened.who → own ≡ [] → shared_behind state step ≡ state.shared → JobIs state step own k job

single-found : (k : ℕ) (first job : Job) → job_at k (first ∷ []) ≡ Some job → first ≡ job
single-found k first job is = go (first.number == k) is
  where
    go : (b : Bool) → cond b (Some first) None ≡ Some job → first ≡ job
    go true is = cc
    go false is = absurd (cc)

turned-job : (state : ClientState) (step : Step) (name : HandleName) (w : Writer) (more : ℕ) (answers own : List Answered) (k : ℕ) (job : Job) → IsReadyFor state step.event name w more → TakesTurnOfWriter state step w answers → jobs_behind state step ≡ fold drop_one (jobs_at state.jobs step.event ++ jobs_of_writer step w) step.drops → job_at k (jobs_behind state step) ≡ Some job → IsOfLine job.owner → job.phase ≢ Gone → JobIs state step own k job
turned-job state step name w more answers own k job ready takes jobs_are stands of_line live =
    let turn = turned state step name w more answers ready takes in
    elim (turn.found k job (ap (job_at k) (sym jobs_are) ∙ stands) live) [
      | inl old ↦ OldJob old
      | inr owned ↦ absurd (subst IsOfLine owned of_line)
    ]

shared-is : (state : ClientState) (step : Step) (opened : IsOpened state step.event) → shared_behind state step ≡ by_reply (next_now state step.event opened) opened.line step state.shared (reply_in opened.line.number step.replies)
shared-is state step opened = ap (λ (t : Turn). shared_after t step state.shared) opened.turn

line-job-is : (state : ClientState) (step : Step) (own : List Answered) (k : ℕ) (job : Job) (opened : IsOpened state step.event) → IsAlive state → Ending state step opened.line opened.who (next_now state step.event opened) own → job_at k (jobs_behind state step) ≡ Some job → IsOfLine job.owner → job.phase ≢ Gone → JobIs state step own k job
line-job-is state step own k job opened alive ended stands of_line live = go ended
  where
    quiet : step.asks ≡ [] → step.drops ≡ [] → JobIs state step own k job
    quiet no_asks no_drops = OldJob (ap (job_at k) (sym (quiet-jobs state step opened no_asks no_drops)) ∙ stands)

    go : Ending state step opened.line opened.who (next_now state step.event opened) own → JobIs state step own k job
    go (AsksOne called is asks none no_drops) =
        elim (found-of-two k (jobs_at state.jobs step.event) (line_job (length state.jobs + 1) opened.who opened.n called ∷ []) job (ap (job_at k) (sym (asks-jobs state step opened called is asks no_drops)) ∙ stands)) [
          | inl old ↦ OldJob old
          | inr new ↦ (let same = single-found k (line_job (length state.jobs + 1) opened.who opened.n called) job new in
              NewJob opened (is ∙ ap (λ (j : Job). Asks j.call) same) (sym (ap (λ (j : Job). j.line) same)) (sym (ap (λ (j : Job). j.owner) same)) none (shared-is state step opened ∙ ap (λ (x : Next). by_reply x opened.line step state.shared (reply_in opened.line.number step.replies)) is ∙ asks-shared called opened.line step state.shared (reply_in opened.line.number step.replies)))
        ]
    go (RepliesOne said says no_asks one no_drops) = quiet no_asks no_drops
    go (WritesOn count w answers is takes one) =
        let so = writes-so (view_of state.shared opened.line) opened.line.request opened.heard count w is in
        turned-job state step (handle_name opened.line) w (length so.bytes) answers own k job (writes-ready state step.event opened count w alive so) takes (ap (jobs_after state.jobs step) opened.turn ∙ ap (λ (x : Next). fold drop_one (jobs_at state.jobs step.event ++ jobs_of_line step opened.line x) step.drops) is) stands of_line live
    go (EndsIt w is takes) =
        let so = ends-so (view_of state.shared opened.line) opened.line.request opened.heard w is in
        turned-job state step (handle_name opened.line) w 0 own own k job (ends-ready state step.event opened w alive so) takes (ap (jobs_after state.jobs step) opened.turn ∙ ap (λ (x : Next). fold drop_one (jobs_at state.jobs step.event ++ jobs_of_line step opened.line x) step.drops) is) stands of_line live
    go (Rests is no_asks none no_drops) = quiet no_asks no_drops

taken-job-is : (state : ClientState) (event : Event) (drops : List ℕ) (asks : List Ask) (replies own : List Answered) (number time from k : ℕ) (job : Job) → event ≡ Take number time from → drops ≡ [] → job_at k (jobs_behind state (record { event = event; drops = drops; asks = asks; replies = replies })) ≡ Some job → job_at k (jobs_at state.jobs event) ≡ Some job
taken-job-is state event drops asks replies own number time from k job is no_drops stands =
    let step : Event → Step = λ (e : Event). record { event = e; drops = drops; asks = asks; replies = replies } in
    let here : jobs_behind state (step event) ≡ change_job number (Out from) state.jobs = ap (λ (e : Event). jobs_behind state (step e)) is ∙ ap (fold drop_one (change_job number (Out from) state.jobs ++ [])) no_drops ∙ append-nil (change_job number (Out from) state.jobs) in
    ap (λ (e : Event). job_at k (jobs_at state.jobs e)) is ∙ ap (job_at k) (sym here) ∙ stands

pub job-is : (state : ClientState) (step : Step) (own : List Answered) (k : ℕ) (job : Job) → IsAlive state → StepIs state step own → job_at k (jobs_behind state step) ≡ Some job → IsOfLine job.owner → job.phase ≢ Gone → JobIs state step own k job
job-is state step own k job alive (LineStep opened ended) stands of_line live = line-job-is state step own k job opened alive ended stands of_line live
job-is state step own k job alive (WriterStep heard takes) stands of_line live = turned-job state step heard.name (heard_now state step.event heard) 0 own own k job (heard-ready state step.event alive heard) takes (ap (jobs_after state.jobs step) heard.turn) stands of_line live
job-is state step own k job alive (TakeStep number time from is found no_asks no_own no_drops) stands of_line live = OldJob (taken-job-is state step.event step.drops step.asks step.replies own number time from k job is no_drops stands)

-- what a step leaves of a line that has a job

-- the line stands as it did
stays-begun : (state : ClientState) (step : Step) (m : ℕ) (line : Line) (heard : Heard) → IsAlive state → (legal : IsLegalStep state step) → line_at m (lines_at state.lines state.jobs step.event) ≡ stands_as line (Begun heard) → jobs_at_once line.request ≡ 1 → ((opened : IsOpened state step.event) → m ≢ opened.n) ⊎ (legal.own ≡ []) → line_at m (after state step).lines ≡ stands_as line (Begun heard)
stays-begun state step m line heard alive legal stands one apart = ap (line_at m) same ∙ settled-stays (settles m lines)
  where
    event_lines : List Standing
    event_lines = lines_at state.lines state.jobs step.event

    lines : List Standing
    lines = lines_behind state step legal.own

    same : with_replies event_lines step.replies ≡ settled lines
    same = ap (with_replies event_lines) legal.replies ∙ with_replies-append event_lines legal.own (due_awaits lines) ∙ settled-is 0 lines (Rises-lines 0 lines (stepped state step alive legal).closed.rising)

    own-stays : OwnIs state step.event legal.own → line_at m lines ≡ stands_as line (Begun heard)
    own-stays (NoOwn none) = ap (λ (t : List Answered). line_at m (with_replies event_lines t)) none ∙ stands
    own-stays (OneOwn n other other_heard said is begun no_await same is_said whose) = ap (λ (t : List Answered). line_at m (with_replies event_lines t)) is ∙ line_at-other n m (λ phase. Replied) event_lines (differ whose) ∙ stands
      where
        answered : legal.own ≢ []
        answered none = absurd (let clash = sym is ∙ none in cc)

        differ : IsWhose state step.event n other → m ≢ n
        differ (WhoseTurn opened here) e = elim apart [ inl all ↦ all opened (e ∙ here) | inr none ↦ answered none ]
        differ (WhoAwaits awaits) e =
            let both = phases-apart (line_at n event_lines) other line (Begun other_heard) (Begun heard) begun (ap (λ (k : ℕ). line_at k event_lines) (sym e) ∙ stands) in
            let awaited : awaits_writer line.request ≡ true = sym (ap (λ (l : Line). awaits_writer l.request) both.0) ∙ awaits in
            let none = one-no-wait line.request one in
            cc

    settled-stays : Settles m lines → line_at m (settled lines) ≡ stands_as line (Begun heard)
    settled-stays (Stays e) = e ∙ own-stays (own-is state step alive legal)
    settled-stays (IsAnswered other other_heard awaits before behind) =
        let both = phases-apart (line_at m lines) other line (Begun other_heard) (Begun heard) before (own-stays (own-is state step alive legal)) in
        absurd (one-no-await line.request one (sym (ap (λ (l : Line). l.request) both.0) ∙ awaits))

-- and so does what a read sees of its handle

-- a step changes the handle under one name
record ChangesAt (state : ClientState) (step : Step) (name : HandleName) : Type 0 where
  same : (q : HandleName) → q ≢ name → table.get (shared_behind state step).handles q ≡ table.get state.shared.handles q

effect-at : (shared : Shared) (line : Line) (next : Next) (now : Shared) → Effect shared line next now → (q : HandleName) → q ≢ handle_name line → table.get now.handles q ≡ table.get shared.handles q
effect-at shared line next now (Keeps same) q apart = sym (same q)
effect-at shared line next now (OpensOne version is same) q apart = same q ∙ at-other (handle_name line) _ (table.get shared.handles) q apart
effect-at shared line next now (CreatesOne key is same) q apart = same q ∙ at-other (handle_name line) _ (table.get shared.handles) q apart
effect-at shared line next now (ClosesOne said is awaits same) q apart = same q ∙ at-other (handle_name line) _ (table.get shared.handles) q apart

line-changes : (state : ClientState) (step : Step) (own more : List Answered) (opened : IsOpened state step.event) → IsAlive state → step.replies ≡ own ++ more → Ending state step opened.line opened.who (next_now state step.event opened) own → ChangesAt state step (handle_name opened.line)
line-changes state step own more opened alive replies ended = go ended
  where
    next : Next
    next = next_now state step.event opened

    by : (now : Shared) → shared_behind state step ≡ now → ((q : HandleName) → q ≢ handle_name opened.line → table.get now.handles q ≡ table.get state.shared.handles q) → ChangesAt state step (handle_name opened.line)
    by now is all = record { same = λ q apart. ap (λ (t : Shared). table.get t.handles q) is ∙ all q apart }

    is : shared_behind state step ≡ by_reply next opened.line step state.shared (reply_in opened.line.number step.replies)
    is = shared-is state step opened

    go : Ending state step opened.line opened.who next own → ChangesAt state step (handle_name opened.line)
    go (AsksOne called asks asked none no_drops) = by state.shared (is ∙ ap (λ (x : Next). by_reply x opened.line step state.shared (reply_in opened.line.number step.replies)) asks ∙ asks-shared called opened.line step state.shared (reply_in opened.line.number step.replies)) (λ q apart. refl)
    go (RepliesOne said says no_asks one no_drops) = by (by_reply next opened.line step state.shared (Some said)) (is ∙ ap (by_reply next opened.line step state.shared) (own-reply opened.line.number step said own more [] replies one)) (effect-at state.shared opened.line next (by_reply next opened.line step state.shared (Some said)) (reply-effect next said opened.line step state.shared says))
    go (WritesOn count w answers writes takes one) =
        by (writer_left (handle_name opened.line) w step (with_names (with_file w.key (written w.upload) state.shared.names) state.shared))
        (is ∙ ap (λ (x : Next). by_reply x opened.line step state.shared (reply_in opened.line.number step.replies)) writes ∙ ap (by_reply (Writes count w) opened.line step state.shared) (own-reply opened.line.number step (reply.Wrote count) own more answers replies one))
        (λ q apart. left-look (handle_name opened.line) w step (with_names (with_file w.key (written w.upload) state.shared.names) state.shared) q ∙ at-other (handle_name opened.line) _ (table.get state.shared.handles) q apart)
    go (EndsIt w ends takes) =
        by (writer_left (handle_name opened.line) w step state.shared) (is ∙ ap (λ (x : Next). by_reply x opened.line step state.shared (reply_in opened.line.number step.replies)) ends)
        (λ q apart. left-look (handle_name opened.line) w step state.shared q ∙ at-other (handle_name opened.line) _ (table.get state.shared.handles) q apart)
    go (Rests waits no_asks none no_drops) = by state.shared (is ∙ ap (λ (x : Next). by_reply x opened.line step state.shared (reply_in opened.line.number step.replies)) waits ∙ waits-shared opened.line step state.shared (reply_in opened.line.number step.replies)) (λ q apart. refl)

heard-changes : (state : ClientState) (step : Step) (heard : IsHeard state step.event) → ChangesAt state step heard.name
heard-changes state step heard = record { same = λ q apart. ap (λ (t : Turn). table.get (shared_after t step state.shared).handles q) heard.turn ∙ left-look heard.name (heard_now state step.event heard) step state.shared q ∙ at-other heard.name _ (table.get state.shared.handles) q apart }

taken-changes : (state : ClientState) (event : Event) (drops : List ℕ) (asks : List Ask) (replies : List Answered) (number time from : ℕ) → event ≡ Take number time from → (q : HandleName) → table.get (shared_behind state (record { event = event; drops = drops; asks = asks; replies = replies })).handles q ≡ table.get state.shared.handles q
taken-changes state event drops asks replies number time from is q = ap (λ (e : Event). table.get (shared_behind state (record { event = e; drops = drops; asks = asks; replies = replies })).handles q) is

-- a read's handle isn't touched by another turn
read-kept : (state : ClientState) (step : Step) (m : ℕ) (line : Line) (heard : Heard) (called : Call) → IsAlive state → (legal : IsLegalStep state step) → line_at m (lines_at state.lines state.jobs step.event) ≡ stands_as line (Begun heard) → ((opened : IsOpened state step.event) → m ≢ opened.n) → IsRead line.request → next_of (view_of state.shared line) line.request heard ≡ Asks called → handle_of line (shared_behind state step).handles ≡ handle_of line state.shared.handles
read-kept state step m line heard called alive legal stands apart read asks = handle-at line named.0 (shared_behind state step).handles named.1 ∙ go (step-is state step alive legal) ∙ sym (handle-at line named.0 state.shared.handles named.1)
  where
    read-name : (request : Request) → IsRead request → (name : ℕ) × (name_in request ≡ Some name)
    read-name (Read name offset count) read = (name, refl)
    read-name other read = absurd read

    named : (name : ℕ) × (name_in line.request ≡ Some name)
    named = read-name line.request read

    go : StepIs state step legal.own → table.get (shared_behind state step).handles (handle_name line) ≡ table.get state.shared.handles (handle_name line)
    go (LineStep opened ended) =
        let actors = orderly-apart [] opened.n m (lines_at state.lines state.jobs step.event) (record { line = opened.line; phase = Begun opened.heard }) (record { line = line; phase = Begun heard }) opened.heard heard (λ e. apart opened (sym e)) opened.now.orderly opened.now.stands refl stands refl in
        (line-changes state step legal.own (due_awaits (lines_behind state step legal.own)) opened alive legal.replies ended).same (handle_name line) (λ e. actors (sym (name-actor opened.line) ∙ ap (λ (q : HandleName). q.0) (sym e) ∙ name-actor line))
    go (WriterStep writer takes) = (heard-changes state step writer).same (handle_name line) (λ e. read-reads (view_of state.shared line) line.request heard called writer.before read asks (handle-at line named.0 state.shared.handles named.1 ∙ ap (table.get state.shared.handles) e ∙ writer.stands))
    go (TakeStep number time from is found no_asks no_own no_drops) = taken-changes state step.event step.drops step.asks step.replies number time from is (handle_name line)

-- an event leaves the lines whose turn it doesn't make
event-stays : (state : ClientState) (step : Step) (own : List Answered) (m : ℕ) (line : Line) (heard : Heard) → StepIs state step own → ((opened : IsOpened state step.event) → m ≢ opened.n) → line_at m state.lines ≡ stands_as line (Begun heard) → line_at m (lines_at state.lines state.jobs step.event) ≡ stands_as line (Begun heard)
event-stays state step own m line heard (LineStep opened ended) apart stands = ap (line_at m) opened.lines_are ∙ line_at-other opened.n m opened.goes state.lines (apart opened) ∙ stands
event-stays state step own m line heard (WriterStep writer takes) apart stands = ap (line_at m) writer.lines_are ∙ stands
event-stays state step own m line heard (TakeStep number time from is found no_asks no_own no_drops) apart stands = ap (λ (e : Event). line_at m (lines_at state.lines state.jobs e)) is ∙ stands

-- what holds of each such job

record Fits (state : ClientState) (job : Job) : Type 0 where
  reads : MakesRead state job
  falls : LeavesFewer state job
  lists : MakesListing state job

-- it holds where its line stands so, with the handle that its read sees
left-fits : (shared : Shared) (behind : ClientState) (job : Job) (line : Line) (heard : Heard) → line_at job.line behind.lines ≡ stands_as line (Begun heard) → (IsRead line.request → handle_of line behind.shared.handles ≡ handle_of line shared.handles) → (IsRead line.request → next_of (view_of shared line) line.request heard ≡ Asks job.call) → ((answer : Brief) → calls_left line.request (with_told (told_by (question_of job.call) answer) heard) < calls_left line.request heard) → MayList job.call line.request × AsksItself line.request job.owner job.line × HeardPages line.request heard.answers → Fits behind job
left-fits shared behind job line heard stands handle reads falls lists = record {
  reads = λ standing there read.
      let same : record { line = line; phase = Begun heard } ≡ standing = is_same standing there in
      let here : IsRead line.request = subst (λ (s : Standing). IsRead s.line.request) (sym same) read in
      ap (next_in behind.shared) (sym same) ∙ read_next_same (view_of behind.shared line) (view_of shared line) line.request heard here (handle here) ∙ reads here;
  falls = λ standing now answer there begun.
      subst₂ (λ (l : Line) (h : Heard). calls_left l.request (with_told (told_by (question_of job.call) answer) h) < calls_left l.request h) (ap (λ (s : Standing). s.line) (is_same standing there)) (is_heard standing now there begun) (falls answer);
  lists = λ standing now there begun. subst₂ (λ (l : Line) (h : Heard). MayList job.call l.request × AsksItself l.request job.owner job.line × HeardPages l.request h.answers) (ap (λ (s : Standing). s.line) (is_same standing there)) (is_heard standing now there begun) lists;
}
  where
    is_same : (standing : Standing) → line_at job.line behind.lines ≡ Some standing → record { line = line; phase = Begun heard } ≡ standing
    is_same standing there = let both : stands_as line (Begun heard) ≡ Some standing = sym stands ∙ there in cc

    is_heard : (standing : Standing) (now : Heard) → line_at job.line behind.lines ≡ Some standing → standing.phase ≡ Begun now → heard ≡ now
    is_heard standing now there begun = let phases : Begun heard ≡ Begun now = ap (λ (s : Standing). s.phase) (is_same standing there) ∙ begun in cc

-- so of a job that was ready or out before
old-fits : (state : ClientState) (step : Step) (k : ℕ) (job : Job) → IsAlive state → IsFaithful state → (legal : IsLegalStep state step) → job_at k (jobs_at state.jobs step.event) ≡ Some job → IsOfLine job.owner → job.phase ≢ Gone → Fits (after state step) job
old-fits state step k job alive faithful legal stands of_line live =
    let was = was-live state step.event k job alive legal.may_come stands live in
    let old : Job = in_phase was.phase job in
    let due = owner-due state k job.line old alive was.stands of_line refl was.live in
    let apart : (opened : IsOpened state step.event) → job.line ≢ opened.n = λ opened. turn-apart state step.event k job opened stands of_line live in
    let here : line_at job.line (lines_at state.lines state.jobs step.event) ≡ stands_as due.line (Begun due.heard) = event-stays state step legal.own job.line due.line due.heard (step-is state step alive legal) apart due.stands in
    let standing : Standing = record { line = due.line; phase = Begun due.heard } in
    let reads : IsRead due.line.request → next_of (view_of state.shared due.line) due.line.request due.heard ≡ Asks job.call = λ read. faithful.reads k old was.stands of_line was.live standing due.stands read in
    left-fits state.shared (after state step) job due.line due.heard (stays-begun state step job.line due.line due.heard alive legal here due.wants (inl apart))
    (λ read. read-kept state step job.line due.line due.heard job.call alive legal here apart read (reads read))
    reads
    (λ answer. faithful.falls k old was.stands of_line was.live standing due.heard answer due.stands refl)
    (faithful.lists k old was.stands of_line was.live standing due.heard due.stands refl)

-- and the job that is asked for makes the call that its line does next
new-fits : (state : ClientState) (step : Step) (job : Job) → IsAlive state → IsFaithful state → (legal : IsLegalStep state step) → (opened : IsOpened state step.event) → next_now state step.event opened ≡ Asks job.call → job.line ≡ opened.n → job.owner ≡ opened.who → legal.own ≡ [] → shared_behind state step ≡ state.shared → Fits (after state step) job
new-fits state step job alive faithful legal opened asks line owned none shared_same =
    let view : View = view_of state.shared opened.line in
    let one = asks-one view opened.line.request opened.heard job.call asks in
    let stands = stays-begun state step opened.n opened.line opened.heard alive legal opened.now.stands one (inr none) in
    let itself : AsksItself opened.line.request job.owner job.line =
    subst₂ (AsksItself opened.line.request) (sym (owned ∙ opened.owner_is)) (opened.number_is ∙ sym line)
    (owner-itself opened.line.number opened.line.request (handle_of opened.line state.shared.handles)) in
    left-fits state.shared (after state step) job opened.line opened.heard (ap (λ (k : ℕ). line_at k (after state step).lines) line ∙ stands)
    (λ read. ap (λ (t : Shared). handle_of opened.line t.handles) shared_same)
    (λ read. asks)
    (λ answer. calls_left_fall view opened.line.request opened.heard job.call answer asks)
    (asks_listed view opened.line.request opened.heard job.call asks, itself, asks-pages view opened.line.request opened.heard job.call (opened.hears faithful) asks)

each-fits : (state : ClientState) → ((k : ℕ) (job : Job) → job_at k state.jobs ≡ Some job → IsOfLine job.owner → job.phase ≢ Gone → Fits state job) → IsFaithful state
each-fits state fits = record { reads = λ k job stands of_line live. (fits k job stands of_line live).reads; falls = λ k job stands of_line live. (fits k job stands of_line live).falls; lists = λ k job stands of_line live. (fits k job stands of_line live).lists }

-- a legal step leaves a faithful state faithful
pub faithful-step : (state : ClientState) (step : Step) → IsAlive state → IsFaithful state → IsLegalStep state step → IsFaithful (after state step)
faithful-step state step alive faithful legal = each-fits (after state step) (λ k job stands of_line live. go k job of_line live (job-is state step legal.own k job alive (step-is state step alive legal) stands of_line live))
  where
    go : (k : ℕ) (job : Job) → IsOfLine job.owner → job.phase ≢ Gone → JobIs state step legal.own k job → Fits (after state step) job
    go k job of_line live (OldJob stands) = old-fits state step k job alive faithful legal stands of_line live
    go k job of_line live (NewJob opened asks line owned none shared_same) = new-fits state step job alive faithful legal opened asks line owned none shared_same

pub faithful-steps : (state : ClientState) (steps : List Step) → IsAlive state → IsFaithful state → Along IsLegalStep after state steps → IsFaithful (fold after state steps)
faithful-steps state [] alive faithful run = faithful
faithful-steps state (step ∷ steps) alive faithful run = faithful-steps (after state step) steps (alive-step state step alive run.0) (faithful-step state step alive faithful run.0) run.1

pub opening-faithful : (options : Opts) (script : List Line) → IsFaithful (opening options script)
opening-faithful options script = each-fits (opening options script) (λ number job stands of_line live. absurd (cc))

pub faithful : (options : Opts) (script : List Line) (steps : List Step) → AreWithin options → AreRising 0 script → IsRunSoFar options script steps → IsFaithful (state_after options script steps)
faithful options script steps within rising run = faithful-steps (opening options script) steps (opening-alive options script within rising) (opening-faithful options script) run

pub job_makes_call : (options : Opts) (script : List Line) (steps : List Step) (number : ℕ) (job : Job) (standing : Standing) → AreWithin options → AreRising 0 script → IsRunSoFar options script steps → job_at number (state_after options script steps).jobs ≡ Some job → IsOfLine job.owner → job.phase ≢ Gone → line_at job.line (state_after options script steps).lines ≡ Some standing → IsRead standing.line.request → next_in (state_after options script steps).shared standing ≡ Asks job.call
job_makes_call options script steps number job standing within rising run stands of_line live there read = (faithful options script steps within rising run).reads number job stands of_line live standing there read

pub answer_leaves_fewer : (options : Opts) (script : List Line) (steps : List Step) (number : ℕ) (job : Job) (standing : Standing) (heard : Heard) (answer : Brief) → AreWithin options → AreRising 0 script → IsRunSoFar options script steps → job_at number (state_after options script steps).jobs ≡ Some job → IsOfLine job.owner → job.phase ≢ Gone → line_at job.line (state_after options script steps).lines ≡ Some standing → standing.phase ≡ Begun heard → calls_left standing.line.request (with_told (told_by (question_of job.call) answer) heard) < calls_left standing.line.request heard
answer_leaves_fewer options script steps number job standing heard answer within rising run stands of_line live there begun = (faithful options script steps within rising run).falls number job stands of_line live standing heard answer there begun
