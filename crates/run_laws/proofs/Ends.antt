-- Each legal step leaves less to do, so that a run has no more steps than its script allows.
use Rattle.std.proofs.Common.{◌≡◌, ℕ, ◌+◌, ◌*◌, ◌<◌, ◌≤◌, List, [], ◌∷◌, ◌++◌, map, fold, length, Bool, true, false, Option, Some, None, refl, sym, ap, ◌∙◌, subst, arith, append-nil}
use Rattle.std.specs.FinMap as table
use Rattle.mp_types.specs.HandleName.{HandleName}
use Rattle.mp_rules.specs.Local.{with_file}
use Rattle.upload_rules.specs.Upload.{Upload, written}
use Rattle.mp_types.specs.declared.options.Opts.{Opts}
use Rattle.mp_types.specs.Options.{AreWithin}
use Rattle.bucket_model.specs.Along.{Along}
use Rattle.mount_model.specs.declared.handle.Handle.TheVariants.{Reading, Writing}
use Rattle.mount_model.specs.declared.handle.Waiter.{Waiter}
use Rattle.mount_model.specs.declared.handle.Waiter.TheVariants as waiter
use Rattle.mount_model.specs.declared.request.Reply.{Reply}
use Rattle.mount_model.specs.declared.request.Reply.TheVariants as reply
use Rattle.mount_model.specs.declared.request.Line.{Line}
use Rattle.mount_model.specs.declared.event.Event.{Event}
use Rattle.mount_model.specs.declared.event.Event.TheVariants.{Take}
use Rattle.mount_model.specs.declared.event.Ask.{Ask}
use Rattle.mount_model.specs.declared.event.Answered.{Answered}
use Rattle.mount_model.specs.declared.standing.Phase.TheVariants.{Replied}
use Rattle.mount_model.specs.declared.standing.Standing.{Standing}
use Rattle.mount_model.specs.Step.{Step}
use Rattle.mount_model.specs.Handles.{Handle, Writer}
use Rattle.mount_model.specs.Conversation.{Next, Writes}
use Rattle.mount_model.specs.State.{Shared, ClientState, Job, Out, change_job, line_at, change_line, lines_at, jobs_at, with_replies, view_of, handle_name, Turn, NoTurn, jobs_of_writer, jobs_of_line, jobs_after, with_names, writes_first, writer_left, behind_step, is_answered, by_reply, reply_in, shared_after, opening, after, state_after}
use Rattle.mount_model.specs.Run.{AreRising, due_awaits, TakesTurnOfWriter, IsLegalStep, IsRunSoFar}
use Rattle.run_laws.specs.Counts.{total}
use Rattle.run_laws.specs.Alive.{IsAlive}
use Rattle.run_laws.specs.Faithful.{IsFaithful}
use Rattle.run_laws.specs.Uploads.{calls_left_of}
use Rattle.run_laws.specs.Work.{calls_left, writer_calls, line_work, job_work, work_left, handle_calls}
use Rattle.run_laws.specs.Writers.{tally}
use Rattle.run_laws.proofs.Keyed.{total-append, item_at-key}
use Rattle.run_laws.proofs.Lines.{line_in, number_of, Rises-lines, lines-after, with_replies-append}
use Rattle.run_laws.proofs.Settled.{settled, settled-is}
use Rattle.run_laws.proofs.Jobs.{IsReady, Rises-jobs, out-taken, made-change, parts-change}
use Rattle.run_laws.proofs.Handles.{Look, with_at, at-same, handle-at, some-writer}
use Rattle.run_laws.proofs.Dropped.{drop_one}
use Rattle.run_laws.proofs.Writers.{stands_as, SameFor, only-others, same-then}
use Rattle.run_laws.proofs.Conversation.{opens-free, creates-free, replies-unwritten, awaits-name, opens-calls, writes-so, ends-so}
use Rattle.run_laws.proofs.Work.{replied-work, settled-work, taken-work, writers_work, writers_work-lines, writers_work-look, writers_work-jobs, writers_work-one, calls-own}
use Rattle.run_laws.proofs.Turn.{Ending, AsksOne, RepliesOne, WritesOn, EndsIt, Rests, line_job}
use Rattle.run_laws.proofs.Opened.{IsOpened, IsHeard}
use Rattle.run_laws.proofs.Left.{left_under}
use Rattle.run_laws.proofs.Steps.{next_now, heard_now, StepIs, LineStep, WriterStep, TakeStep, step-is, IsReadyFor, heard-ready, ends-ready, writes-ready}
use Rattle.run_laws.proofs.Effects.{asks-shared, waits-shared, Effect, Keeps, OpensOne, CreatesOne, ClosesOne, reply-effect, free-unwritten}
use Rattle.run_laws.proofs.Alive.{turned, line-same, quiet-jobs, asks-jobs, writes-unanswered, turn-look, own-reply, lines_behind, jobs_behind, shared_behind, stepped, alive-step, opening-alive}
use Rattle.run_laws.proofs.Own.{OwnIs, NoOwn, OneOwn, line-own, heard-own}
use Rattle.run_laws.proofs.Faithful.{faithful-step, opening-faithful}

-- a writer's turn

-- what is left under a name is the same line's writer
left-line : (answered : Bool) (who : Waiter) (w : Writer) (u : Upload) (v : Writer) → left_under answered who w u ≡ Some (Writing v) → v.line ≡ w.line
left-line true (waiter.Close line) w u v is = absurd (cc)
left-line true waiter.Nobody w u v is = let same = some-writer (record { line = w.line; key = w.key; upload = u; waiter = waiter.Nobody }) v is in sym (ap (λ (x : Writer). x.line) same)
left-line true (waiter.Sync line) w u v is = let same = some-writer (record { line = w.line; key = w.key; upload = u; waiter = waiter.Nobody }) v is in sym (ap (λ (x : Writer). x.line) same)
left-line false who w u v is = let same = some-writer (record { line = w.line; key = w.key; upload = u; waiter = who }) v is in sym (ap (λ (x : Writer). x.line) same)

-- and counts no more than its upload
left-calls : (answered : Bool) (who : Waiter) (w : Writer) (u : Upload) (n : ℕ) (jobs : List Job) → w.line ≡ n → handle_calls n jobs (left_under answered who w u) ≤ calls_left_of u (tally n jobs)
left-calls true (waiter.Close line) w u n jobs is = omega arith
left-calls true waiter.Nobody w u n jobs is = let own = calls-own jobs (record { line = w.line; key = w.key; upload = u; waiter = waiter.Nobody }) n is in omega arith
left-calls true (waiter.Sync line) w u n jobs is = let own = calls-own jobs (record { line = w.line; key = w.key; upload = u; waiter = waiter.Nobody }) n is in omega arith
left-calls false who w u n jobs is = let own = calls-own jobs (record { line = w.line; key = w.key; upload = u; waiter = who }) n is in omega arith

-- the jobs and the writers, behind a writer's turn
writer-work-left : (state : ClientState) (step : Step) (name : HandleName) (w : Writer) (more : ℕ) (own : List Answered) → IsAlive state → IsReadyFor state step.event name w more → TakesTurnOfWriter state step w own
    → total job_work (fold drop_one (jobs_at state.jobs step.event ++ jobs_of_writer step w) step.drops) + writers_work (fold drop_one (jobs_at state.jobs step.event ++ jobs_of_writer step w) step.drops) (with_at name (left_under (is_answered own) w.waiter w (behind_step step w.upload)) (table.get state.shared.handles)) state.lines
    ≤ total job_work (jobs_at state.jobs step.event) + writers_work state.jobs (table.get state.shared.handles) state.lines + 2 * more
writer-work-left state step name w more own alive ready takes =
    let look : Look = table.get state.shared.handles in
    let jobs : List Job = jobs_at state.jobs step.event in
    let behind : List Job = fold drop_one (jobs ++ jobs_of_writer step w) step.drops in
    let final : Upload = behind_step step w.upload in
    let o : Option Handle = left_under (is_answered own) w.waiter w final in
    let turn = turned state step name w more own ready takes in
    let is = alive.writers.each name ready.before ready.stands in
    let stands : line_at w.line state.lines ≡ stands_as is.opener Replied = ap (λ (k : ℕ). line_at k state.lines) ready.same_line ∙ is.stands in
    let same : (m : ℕ) → (w.line ≡ m → ⊥) → SameFor m state.jobs behind = λ m apart. same-then m state.jobs jobs behind (ready.jobs_keep m apart) (only-others w.line m jobs behind turn.turns.only apart) in
    let moved = writers_work-one state.lines state.jobs behind look w.line name o (record { line = is.opener; phase = Replied }) (Rises-lines 0 state.lines alive.rising) stands same (λ v here. ap (λ (x : Writer). x.line) (sym (some-writer ready.before v (sym ready.stands ∙ here))) ∙ sym ready.same_line) (λ v here. left-line (is_answered own) w.waiter w final v here) in
    let number_is : is.opener.number ≡ w.line = item_at-key number_of w.line state.lines (record { line = is.opener; phase = Replied }) stands in
    let old : handle_calls is.opener.number state.jobs (look (handle_name is.opener)) ≡ calls_left_of ready.before.upload (tally ready.before.line state.jobs) = ap (λ (k : ℕ). handle_calls k state.jobs (look (handle_name is.opener))) (number_is ∙ ready.same_line) ∙ ap (λ (q : HandleName). handle_calls ready.before.line state.jobs (look q)) is.named ∙ ap (handle_calls ready.before.line state.jobs) ready.stands ∙ calls-own state.jobs ready.before ready.before.line refl in
    let new : handle_calls is.opener.number behind (with_at name o look (handle_name is.opener)) ≡ handle_calls w.line behind o = ap (λ (k : ℕ). handle_calls k behind (with_at name o look (handle_name is.opener))) number_is ∙ ap (λ (q : HandleName). handle_calls w.line behind (with_at name o look q)) is.named ∙ ap (handle_calls w.line behind) (at-same name o look) in
    let most = left-calls (is_answered own) w.waiter w final w.line behind refl in
    let work = turn.turns.work in
    let left = ready.left in
    omega arith

-- a line's reply

-- the handle under its name changes, and counts so much for the line
name-work : (state : ClientState) (event : Event) (opened : IsOpened state event) (o : Option Handle) (count : ℕ) → IsAlive state → ((v : Writer) → table.get state.shared.handles (handle_name opened.line) ≡ Some (Writing v) → ⊥) → ((v : Writer) → o ≡ Some (Writing v) → v.line ≡ opened.n) → handle_calls opened.n (jobs_at state.jobs event) o ≤ count → writers_work (jobs_at state.jobs event) (with_at (handle_name opened.line) o (table.get state.shared.handles)) state.lines ≤ writers_work state.jobs (table.get state.shared.handles) state.lines + 2 * count
name-work state event opened o count alive unwritten new most =
    let name : HandleName = handle_name opened.line in
    let look : Look = table.get state.shared.handles in
    let jobs : List Job = jobs_at state.jobs event in
    let moved = writers_work-one state.lines state.jobs jobs look opened.n name o (record { line = opened.line; phase = opened.old }) (Rises-lines 0 state.lines alive.rising) opened.found (λ m apart. opened.same m) (λ v here. absurd (unwritten v here)) new in
    let now : handle_calls opened.line.number jobs (with_at name o look name) ≡ handle_calls opened.n jobs o = ap (λ (k : ℕ). handle_calls k jobs (with_at name o look name)) opened.number_is ∙ ap (handle_calls opened.n jobs) (at-same name o look) in
    omega arith

effect-work : (state : ClientState) (event : Event) (opened : IsOpened state event) (now : Shared) → IsAlive state → Effect state.shared opened.line (next_now state event opened) now → writers_work (jobs_at state.jobs event) (table.get now.handles) state.lines ≤ writers_work state.jobs (table.get state.shared.handles) state.lines + 2 * writer_calls opened.line.request
effect-work state event opened now alive effect = go effect
  where
    jobs : List Job
    jobs = jobs_at state.jobs event

    look : Look
    look = table.get state.shared.handles

    by : (o : Option Handle) (count : ℕ) → ((q : HandleName) → table.get now.handles q ≡ with_at (handle_name opened.line) o look q) → count ≤ writer_calls opened.line.request → ((v : Writer) → look (handle_name opened.line) ≡ Some (Writing v) → ⊥) → ((v : Writer) → o ≡ Some (Writing v) → v.line ≡ opened.n) → handle_calls opened.n jobs o ≤ count → writers_work jobs (table.get now.handles) state.lines ≤ writers_work state.jobs look state.lines + 2 * writer_calls opened.line.request
    by o count same fits unwritten new most =
        let moved = name-work state event opened o count alive unwritten new most in
        let is = writers_work-look jobs (table.get now.handles) (with_at (handle_name opened.line) o look) state.lines same in
        omega arith

    go : Effect state.shared opened.line (next_now state event opened) now → writers_work jobs (table.get now.handles) state.lines ≤ writers_work state.jobs look state.lines + 2 * writer_calls opened.line.request
    go (Keeps same) =
        let is = writers_work-look jobs look (table.get now.handles) state.lines same in
        let was = writers_work-jobs state.jobs jobs look state.lines opened.same in
        omega arith
    go (OpensOne version next same) = by (Some (Reading opened.line.number version)) 0 same (omega arith) (free-unwritten state event opened (opens-free (view_of state.shared opened.line) opened.line.request opened.heard version next)) (λ v stands. absurd (cc)) (omega arith)
    go (ClosesOne said next awaits same) =
        let named = awaits-name opened.line.request awaits in
        by None 0 same (omega arith) (λ v stands. replies-unwritten (view_of state.shared opened.line) opened.line.request opened.heard said v awaits next (handle-at opened.line named.0 state.shared.handles named.1 ∙ stands)) (λ v stands. absurd (cc)) (omega arith)
    go (CreatesOne key next same) =
        let free = creates-free (view_of state.shared opened.line) opened.line.request opened.heard key next in
        let four = opens-calls opened.line.request free.1 in
        let w : Writer = writes_first opened.line key state.shared in
        let own = calls-own jobs w opened.n opened.number_is in
        by (Some (Writing w)) 4 same (omega arith) (free-unwritten state event opened free.0) (λ v stands. ap (λ (x : Writer). x.line) (sym (some-writer w v stands)) ∙ opened.number_is) (omega arith)

-- what a turn leaves before the awaits

own-work : (state : ClientState) (event : Event) (own : List Answered) → AreRising 0 (map line_in (lines_at state.lines state.jobs event)) → OwnIs state event own → total line_work (with_replies (lines_at state.lines state.jobs event) own) ≤ total line_work (lines_at state.lines state.jobs event)
own-work state event own rising (NoOwn none) = let same : total line_work (with_replies (lines_at state.lines state.jobs event) own) ≡ total line_work (lines_at state.lines state.jobs event) = ap (λ (t : List Answered). total line_work (with_replies (lines_at state.lines state.jobs event) t)) none in omega arith
own-work state event own rising (OneOwn n line heard said one stands no_await same is_said whose) =
    let lines : List Standing = lines_at state.lines state.jobs event in
    let is : total line_work (with_replies lines own) ≡ total line_work (change_line n (λ phase. Replied) lines) = ap (λ (t : List Answered). total line_work (with_replies lines t)) one in
    let less = replied-work 0 n line heard lines (Rises-lines 0 lines rising) stands in
    omega arith

-- the work of lines, jobs and writers, counted over the lines of before
abbrev WorkOf : ClientState → List Standing → List Job → Shared → ℕ
WorkOf state lines jobs shared = total line_work lines + total job_work jobs + writers_work jobs (table.get shared.handles) state.lines

line-work : (state : ClientState) (step : Step) (own more : List Answered) (opened : IsOpened state step.event) → IsAlive state → IsFaithful state → step.replies ≡ own ++ more → Ending state step opened.line opened.who (next_now state step.event opened) own → WorkOf state (lines_behind state step own) (jobs_behind state step) (shared_behind state step) < work_left state
line-work state step own more opened alive faithful replies ended = go ended
  where
    lines : List Standing
    lines = lines_at state.lines state.jobs step.event

    jobs : List Job
    jobs = jobs_at state.jobs step.event

    look : Look
    look = table.get state.shared.handles

    next : Next
    next = next_now state step.event opened

    spent : total line_work lines + total job_work jobs + 3 ≤ total line_work state.lines + total job_work state.jobs
    spent = opened.spent faithful

    replied : total line_work (change_line opened.n (λ phase. Replied) lines) + 2 * (calls_left opened.line.request opened.heard + writer_calls opened.line.request) ≡ total line_work lines
    replied = replied-work 0 opened.n opened.line opened.heard lines (Rises-lines 0 lines opened.now.rising) opened.now.stands

    shared-is : shared_behind state step ≡ by_reply next opened.line step state.shared (reply_in opened.line.number step.replies)
    shared-is = ap (λ (t : Turn). shared_after t step state.shared) opened.turn

    answered-line : (said : Reply) (rest : List Answered) → with_replies lines (record { line = opened.line.number; reply = said } ∷ rest) ≡ with_replies (change_line opened.n (λ phase. Replied) lines) rest
    answered-line said rest = ap (λ (k : ℕ). with_replies (change_line k (λ phase. Replied) lines) rest) opened.number_is

    by : (now : List Standing) (behind : List Job) (shared : Shared) → lines_behind state step own ≡ now → jobs_behind state step ≡ behind → shared_behind state step ≡ shared → total line_work now + total job_work behind + writers_work behind (table.get shared.handles) state.lines < work_left state → WorkOf state (lines_behind state step own) (jobs_behind state step) (shared_behind state step) < work_left state
    by now behind shared lines_are jobs_are shared_is less =
        subst (λ (t : List Standing). WorkOf state t (jobs_behind state step) (shared_behind state step) < work_left state) (sym lines_are)
        (subst (λ (t : List Job). WorkOf state now t (shared_behind state step) < work_left state) (sym jobs_are)
        (subst (λ (t : Shared). WorkOf state now behind t < work_left state) (sym shared_is) less))

    go : Ending state step opened.line opened.who next own → WorkOf state (lines_behind state step own) (jobs_behind state step) (shared_behind state step) < work_left state
    go (AsksOne called is asks none no_drops) =
        let number : ℕ = length state.jobs + 1 in
        let behind : List Job = jobs ++ line_job number opened.who opened.n called ∷ [] in
        let sum = total-append job_work jobs (line_job number opened.who opened.n called ∷ []) in
        let same = writers_work-jobs state.jobs behind look state.lines (λ m. same-then m state.jobs jobs behind (opened.same m) (line-same m number opened.who opened.n called jobs opened.of_line)) in
        let less = spent in
        by lines behind state.shared (ap (with_replies lines) none) (asks-jobs state step opened called is asks no_drops) (shared-is ∙ ap (λ (x : Next). by_reply x opened.line step state.shared (reply_in opened.line.number step.replies)) is ∙ asks-shared called opened.line step state.shared (reply_in opened.line.number step.replies)) (omega arith)
    go (RepliesOne said says no_asks one no_drops) =
        let now : Shared = by_reply next opened.line step state.shared (Some said) in
        let moved = effect-work state step.event opened now alive (reply-effect next said opened.line step state.shared says) in
        let less = spent in
        let given = replied in
        by (change_line opened.n (λ phase. Replied) lines) jobs now (ap (with_replies lines) one ∙ answered-line said []) (quiet-jobs state step opened no_asks no_drops) (shared-is ∙ ap (by_reply next opened.line step state.shared) (own-reply opened.line.number step said own more [] replies one)) (omega arith)
    go (WritesOn count w answers is takes one) =
        let so = writes-so (view_of state.shared opened.line) opened.line.request opened.heard count w is in
        let size : ℕ = length so.bytes in
        let ready = writes-ready state step.event opened count w alive so in
        let none = writes-unanswered state step opened count size w answers so ready takes in
        let shared : Shared = with_names (with_file w.key (written w.upload) state.shared.names) state.shared in
        let behind : List Job = fold drop_one (jobs ++ jobs_of_writer step w) step.drops in
        let left : Look = with_at (handle_name opened.line) (left_under (is_answered answers) w.waiter w (behind_step step w.upload)) look in
        let moved = writer-work-left state step (handle_name opened.line) w size answers alive ready takes in
        let same = writers_work-look behind left (table.get (writer_left (handle_name opened.line) w step shared).handles) state.lines (turn-look state step (handle_name opened.line) w size answers shared ready takes refl) in
        let calls : writer_calls opened.line.request ≡ size = so.calls in
        let less = spent in
        let given = replied in
        by (change_line opened.n (λ phase. Replied) lines) behind (writer_left (handle_name opened.line) w step shared)
        (ap (with_replies lines) one ∙ answered-line (reply.Wrote count) answers ∙ ap (with_replies (change_line opened.n (λ phase. Replied) lines)) none)
        (ap (jobs_after state.jobs step) opened.turn ∙ ap (λ (x : Next). fold drop_one (jobs ++ jobs_of_line step opened.line x) step.drops) is)
        (shared-is ∙ ap (λ (x : Next). by_reply x opened.line step state.shared (reply_in opened.line.number step.replies)) is ∙ ap (by_reply (Writes count w) opened.line step state.shared) (own-reply opened.line.number step (reply.Wrote count) own more answers replies one))
        (omega arith)
    go (EndsIt w is takes) =
        let so = ends-so (view_of state.shared opened.line) opened.line.request opened.heard w is in
        let ready = ends-ready state step.event opened w alive so in
        let behind : List Job = fold drop_one (jobs ++ jobs_of_writer step w) step.drops in
        let left : Look = with_at (handle_name opened.line) (left_under (is_answered own) w.waiter w (behind_step step w.upload)) look in
        let moved = writer-work-left state step (handle_name opened.line) w 0 own alive ready takes in
        let same = writers_work-look behind left (table.get (writer_left (handle_name opened.line) w step state.shared).handles) state.lines (turn-look state step (handle_name opened.line) w 0 own state.shared ready takes refl) in
        let lines_less = own-work state step.event own opened.now.rising (line-own state step own opened alive ended) in
        let less = spent in
        by (with_replies lines own) behind (writer_left (handle_name opened.line) w step state.shared) refl
        (ap (jobs_after state.jobs step) opened.turn ∙ ap (λ (x : Next). fold drop_one (jobs ++ jobs_of_line step opened.line x) step.drops) is)
        (shared-is ∙ ap (λ (x : Next). by_reply x opened.line step state.shared (reply_in opened.line.number step.replies)) is)
        (omega arith)
    go (Rests is no_asks none no_drops) =
        let same = writers_work-jobs state.jobs jobs look state.lines opened.same in
        let less = spent in
        by lines jobs state.shared (ap (with_replies lines) none) (quiet-jobs state step opened no_asks no_drops) (shared-is ∙ ap (λ (x : Next). by_reply x opened.line step state.shared (reply_in opened.line.number step.replies)) is ∙ waits-shared opened.line step state.shared (reply_in opened.line.number step.replies)) (omega arith)

heard-step-work : (state : ClientState) (step : Step) (own : List Answered) (heard : IsHeard state step.event) → IsAlive state → TakesTurnOfWriter state step (heard_now state step.event heard) own → WorkOf state (lines_behind state step own) (jobs_behind state step) (shared_behind state step) < work_left state
heard-step-work state step own heard alive takes =
    let w : Writer = heard_now state step.event heard in
    let jobs : List Job = jobs_at state.jobs step.event in
    let look : Look = table.get state.shared.handles in
    let ready = heard-ready state step.event alive heard in
    let behind : List Job = fold drop_one (jobs ++ jobs_of_writer step w) step.drops in
    let left : Look = with_at heard.name (left_under (is_answered own) w.waiter w (behind_step step w.upload)) look in
    let moved = writer-work-left state step heard.name w 0 own alive ready takes in
    let same = writers_work-look behind left (table.get (writer_left heard.name w step state.shared).handles) state.lines (turn-look state step heard.name w 0 own state.shared ready takes refl) in
    let rising : AreRising 0 (map line_in (lines_at state.lines state.jobs step.event)) = subst (λ (t : List Standing). AreRising 0 (map line_in t)) (sym heard.lines_are) alive.rising in
    let lines_less = own-work state step.event own rising (heard-own state step own heard alive takes) in
    let lines_same : total line_work (lines_at state.lines state.jobs step.event) ≡ total line_work state.lines = ap (total line_work) heard.lines_are in
    let spent = heard.spent in
    subst (λ (t : List Job). WorkOf state (lines_behind state step own) t (shared_behind state step) < work_left state) (sym (ap (jobs_after state.jobs step) heard.turn))
    (subst (λ (t : Shared). WorkOf state (lines_behind state step own) behind t < work_left state) (sym (ap (λ (t : Turn). shared_after t step state.shared) heard.turn)) (omega arith))

take-work : (state : ClientState) (number time from : ℕ) (drops : List ℕ) (asks : List Ask) (replies : List Answered) → IsAlive state → IsReady number state.jobs → drops ≡ [] → WorkOf state state.lines (jobs_after state.jobs (record { event = Take number time from; drops = drops; asks = asks; replies = replies }) NoTurn) state.shared < work_left state
take-work state number time from drops asks replies alive found no_drops =
    let rises = Rises-jobs 0 state.jobs alive.numbered in
    let jobs : List Job = change_job number (Out from) state.jobs in
    let look : Look = table.get state.shared.handles in
    let less = taken-work 0 number from found.job state.jobs rises found.stands found.phase in
    let same = writers_work-jobs state.jobs jobs look state.lines (λ m. record { out = λ kind. out-taken 0 number from kind m state.jobs found.job rises found.stands found.phase; made = λ kind. made-change number (Out from) kind m state.jobs; parts = parts-change number (Out from) m state.jobs }) in
    let jobs_are : fold drop_one (jobs ++ []) drops ≡ jobs = ap (fold drop_one (jobs ++ [])) no_drops ∙ append-nil jobs in
    subst (λ (t : List Job). WorkOf state state.lines t state.shared < work_left state) (sym jobs_are) (omega arith)

taken-step-work : (state : ClientState) (event : Event) (drops : List ℕ) (asks : List Ask) (replies own : List Answered) (number time from : ℕ) → IsAlive state → event ≡ Take number time from → IsReady number state.jobs → own ≡ [] → drops ≡ [] → WorkOf state (lines_behind state (record { event = event; drops = drops; asks = asks; replies = replies }) own) (jobs_behind state (record { event = event; drops = drops; asks = asks; replies = replies })) (shared_behind state (record { event = event; drops = drops; asks = asks; replies = replies })) < work_left state
taken-step-work state event drops asks replies own number time from alive is found no_own no_drops =
    subst (λ (e : Event). WorkOf state (lines_behind state (record { event = e; drops = drops; asks = asks; replies = replies }) own) (jobs_behind state (record { event = e; drops = drops; asks = asks; replies = replies })) (shared_behind state (record { event = e; drops = drops; asks = asks; replies = replies })) < work_left state) (sym is)
    (subst (λ (t : List Answered). WorkOf state (with_replies state.lines t) (jobs_after state.jobs (record { event = Take number time from; drops = drops; asks = asks; replies = replies }) NoTurn) state.shared < work_left state) (sym no_own) (take-work state number time from drops asks replies alive found no_drops))

turn-work : (state : ClientState) (step : Step) → IsAlive state → IsFaithful state → (legal : IsLegalStep state step) → WorkOf state (lines_behind state step legal.own) (jobs_behind state step) (shared_behind state step) < work_left state
turn-work state step alive faithful legal = go (step-is state step alive legal)
  where
    go : StepIs state step legal.own → WorkOf state (lines_behind state step legal.own) (jobs_behind state step) (shared_behind state step) < work_left state
    go (LineStep opened ended) = line-work state step legal.own (due_awaits (lines_behind state step legal.own)) opened alive faithful legal.replies ended
    go (WriterStep heard takes) = heard-step-work state step legal.own heard alive takes
    go (TakeStep number time from is found no_asks no_own no_drops) = taken-step-work state step.event step.drops step.asks step.replies legal.own number time from alive is found no_own no_drops

-- each legal step leaves less to do
pub work_falls : (state : ClientState) (step : Step) → IsAlive state → IsFaithful state → IsLegalStep state step → work_left (after state step) < work_left state
work_falls state step alive faithful legal =
    let event_lines : List Standing = lines_at state.lines state.jobs step.event in
    let lines : List Standing = lines_behind state step legal.own in
    let closed = (stepped state step alive legal).closed in
    let same : with_replies event_lines step.replies ≡ settled lines = ap (with_replies event_lines) legal.replies ∙ with_replies-append event_lines legal.own (due_awaits lines) ∙ settled-is 0 lines (Rises-lines 0 lines closed.rising) in
    let lines_are : total line_work (with_replies event_lines step.replies) ≡ total line_work (settled lines) = ap (total line_work) same in
    let less = settled-work lines in
    let writers = writers_work-lines (jobs_behind state step) (table.get (shared_behind state step).handles) (with_replies event_lines step.replies) state.lines (lines-after state step) in
    let spent = turn-work state step alive faithful legal in
    omega arith

-- a run

steps_left : (state : ClientState) (steps : List Step) → IsAlive state → IsFaithful state → Along IsLegalStep after state steps → length steps + work_left (fold after state steps) ≤ work_left state
steps_left state [] alive faithful run = omega arith
steps_left state (step ∷ steps) alive faithful run =
    let first = work_falls state step alive faithful run.0 in
    let more = steps_left (after state step) steps (alive-step state step alive run.0) (faithful-step state step alive faithful run.0) run.1 in
    omega arith

pub run_ends : (options : Opts) (script : List Line) (steps : List Step) → AreWithin options → AreRising 0 script → IsRunSoFar options script steps → length steps + work_left (state_after options script steps) ≤ work_left (opening options script)
run_ends options script steps within rising run = steps_left (opening options script) steps (opening-alive options script within rising) (opening-faithful options script) run
