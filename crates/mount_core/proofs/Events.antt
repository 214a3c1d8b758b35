-- Each event of a core, from the parts before it to the parts behind it.
use Rattle.std.proofs.Common.{◌≡◌, ◌≢◌, ℕ, ◌<◌, true, false, List, [], ◌∷◌, ◌++◌, map, length, max, Option, Some, None, refl, sym, ap, ◌∙◌, subst, ◌⊎◌, inr, arith, append-nil, ◌↔◌, Result, Ok, Err}
use Rattle.std.specs.Prelude.{IfOk, IsOk}
use Rattle.std.specs.declared.alloc.AllocError.{AllocError}
use Rattle.std.specs.List.{AllByRecursion}
use Rattle.std.specs.FinMap as finmap
use Rattle.mp_rules.specs.declared.facts.Question.{Question}
use Rattle.mp_types.specs.declared.options.Opts.{Opts}
use Rattle.mp_types.specs.Options.{AreWithin}
use Rattle.bucket_model.specs.declared.call.Call.{Call}
use Rattle.bucket_model.specs.declared.call.Call.TheVariants as call
use Rattle.bucket_model.specs.declared.page.Page.{Page}
use Rattle.bucket_model.specs.declared.answer.Answer.{Answer}
use Rattle.bucket_model.specs.declared.answer.Answer.TheVariants as full
use Rattle.bucket_model.specs.declared.answer.Brief.{Brief}
use Rattle.bucket_model.specs.declared.answer.Brief.TheVariants.{Bytes, Page as Listed}
use Rattle.bucket_model.specs.Answers.{MayBeMade, brief_of, brings_page, bytes_in, fits}
use Rattle.mount_model.specs.declared.request.Line.{Line}
use Rattle.mount_model.specs.declared.event.Event.{Event}
use Rattle.mount_model.specs.declared.event.Event.TheVariants.{Begin, Take, Done}
use Rattle.mount_model.specs.declared.event.Owner.{Owner}
use Rattle.mount_model.specs.declared.event.Owner.TheVariants as owner
use Rattle.mount_model.specs.declared.standing.Phase.TheVariants.{Waiting, Begun, Replied}
use Rattle.mount_model.specs.declared.standing.Standing.{Standing}
use Rattle.mount_model.specs.declared.standing.Told.{Told}
use Rattle.mount_model.specs.declared.standing.Told.TheVariants.{Answer as Hears}
use Rattle.mount_model.specs.Heard.{nothing_heard, with_told, question_of, told_by}
use Rattle.mount_model.specs.Step.{Step, step_of, HasStep}
use Rattle.mount_model.specs.State.{Shared, ClientState, Job, Out, Gone, Turn, TurnOf, opening, shared_at_first, view_of, after, state_after, line_at, change_line, heard, lines_at, jobs_at, job_at, change_job, time_after, next_in, turn_of_line, turn_of_writer, turn_at}
use Rattle.mount_model.specs.Conversation.{Next, Asks, Gives, View, next_of}
use Rattle.mount_model.specs.Run.{IsLegalStep, IsRunSoFar, AreRising, MayDone, due_awaits, startable, ready, is_among, IsQuiet}
use Rattle.mount_model.proofs.Steps.{HasStep-change_last}
use Rattle.mount_model.proofs.Numbered.{numbered-change}
use Rattle.line_table.specs.Table.{HasBegun}
use Rattle.line_table.proofs.Kept.{change_line-same}
use Rattle.job_table.specs.LiveJobs as table
use Rattle.job_table.specs.declared.purpose.Purpose.{Purpose}
use Rattle.job_table.specs.declared.purpose.Purpose.TheVariants.{Other}
use Rattle.job_table.proofs.AllJobs.{held_of-gone, held_of-out, held_at-out, held_at-ready, is_out_in, is_ready_in, ready_job, held_of-empty}
use Rattle.run_laws.specs.Alive as laws
use Rattle.run_laws.specs.Listings.{HasListing}
use Rattle.run_laws.specs.Served.{IsOfLine}
use Rattle.run_laws.specs.Work.{work_left}
use Rattle.run_laws.specs.Faithful.{IsRead}
use Rattle.run_laws.proofs.Alive.{alive}
use Rattle.run_laws.proofs.Ends.{work_falls}
use Rattle.run_laws.proofs.Lines.{lines-replies, lines-event, lines-opening, Rises-lines}
use Rattle.run_laws.proofs.Orderly.{startable-found}
use Rattle.run_laws.proofs.Conversation.{gives-read}
use Rattle.run_laws.proofs.Faithful.{faithful, job_makes_call}
use Rattle.run_laws.proofs.Made.{calls_made}
use Rattle.run_laws.proofs.Listed.{answered_listing}
use Rattle.run_laws.proofs.Jobs.{length-change_job}
use Rattle.run_laws.proofs.Opened.{IsOpened, begins-line, begin-opens, done-opens}
use Rattle.name_laws.specs.Files.{HasFiles}
use Rattle.name_laws.proofs.Steps.{run-files}
use Rattle.mount_core.specs.declared.work.Work.{Work}
use Rattle.mount_core.specs.Listing.{IsListing}
use Rattle.mount_core.specs.Shared.{shared_in}
use Rattle.mount_core.specs.Turn.{next_behind, lines_behind, turn_behind, with_part, AreAll, NamedMayTurn, Answers, Takes, Speaks}
use Rattle.mount_core.specs.Writing.{MayHear}
use Rattle.mount_core.specs.Core.{state_of, Advances, IsCore, core_of}
use Rattle.mount_core.proofs.Changes.{line_at-change}
use Rattle.mount_core.proofs.Dues.{number-is, next-seen, next_seen}
use Rattle.mount_core.proofs.Questions.{gives_none, gives_brought}
use Rattle.mount_core.proofs.Advance.{TurnDone, turn_done, core_goes_on, core_advances}
use Rattle.mount_core.proofs.Hearers.{named_may, hears_line, heard-speaks, HearsWriter, hears_writer}

-- the state that a core stands for is that of a run
pub alive_core : (work : Work) → IsCore work (core_of work) → laws.IsAlive (state_of (core_of work))
alive_core work core = alive (core_of work).options (core_of work).script (core_of work).steps core.within core.rising core.so_far

files_core : (work : Work) → IsCore work (core_of work) → HasFiles (finmap.get (state_of (core_of work)).shared.handles) (state_of (core_of work)).shared.names
files_core work core = run-files (core_of work).options (core_of work).script (core_of work).steps core.within core.rising core.so_far

falls : (work : Work) → IsCore work (core_of work) → (step : Step) → IsLegalStep (state_of (core_of work)) step → work_left (after (state_of (core_of work)) step) < work_left (state_of (core_of work))
falls work core step legal = work_falls (state_of (core_of work)) step (alive_core work core) (faithful (core_of work).options (core_of work).script (core_of work).steps core.within core.rising core.so_far) legal

-- the lines say what they said
script_kept : (old begun new : Work) (event : Event) (bytes : List ℕ) → IsCore old (core_of old) → TurnDone (state_of (core_of old)) event bytes old.record.steps begun new → map (λ s. s.line) new.lines ≡ map (λ s. s.line) old.lines
script_kept old begun new event bytes core done =
    let s : ClientState = state_of (core_of old) in
    ap (map (λ s. s.line)) done.lines ∙ (lines-replies (lines_at s.lines s.jobs event) done.step.replies ∙ (lines-event s.lines s.jobs event ∙ ap (map (λ s. s.line)) (sym core.lines)))

-- What an event leaves of a core.
pub record Leaves (event : Event) (bytes : List ℕ) (old new : Work) : Type 0 where
  pub stands : IsCore new (core_of new)
  pub advances : Advances event bytes (core_of old) (core_of new)

leaves : (old : Work) (event : Event) (bytes : List ℕ) (begun new : Work) → IsCore old (core_of old) → TurnDone (state_of (core_of old)) event bytes old.record.steps begun new →
    begun.options ≡ old.options →
    begun.time ≡ time_after (state_of (core_of old)).time event →
    Leaves event bytes old new
leaves old event bytes begun new core done same time =
    let kept = script_kept old begun new event bytes core done in
    record {
      stands = core_goes_on old event bytes begun new core done kept same time;
      advances = core_advances old event bytes begun new done kept same (falls old core);
    }

-- A line begins.

begun_jobs : (old begun : Work) (n time : ℕ) → IsCore old (core_of old) → begun.jobs ≡ old.jobs → AreAll begun.jobs (jobs_at (state_of (core_of old)).jobs (Begin n time))
begun_jobs old begun n time core jobs = record {
  numbered = (alive_core old core).numbered;
  held = ap (λ j. j.held) jobs ∙ core.held;
  count = ap (λ j. j.count) jobs ∙ core.count;
}

begun_turn : (old begun : Work) (n time : ℕ) → IsCore old (core_of old) → begun.lines ≡ change_line n (λ phase. Begun nothing_heard) old.lines → shared_in begun ≡ shared_in old → turn_at (state_of (core_of old)) (Begin n time) ≡ turn_behind n None begun
begun_turn old begun n time core lines same =
    let s : ClientState = state_of (core_of old) in
    ap (λ l. turn_of_line s.shared (line_at n (change_line n (λ phase. Begun nothing_heard) l))) (sym core.lines)
    ∙ ap (λ l. turn_of_line s.shared (line_at n l)) (sym lines ∙ sym (change_line-same n begun.lines))
    ∙ ap (λ (t : Shared). turn_of_line t (line_at n (lines_behind n None begun))) (sym (same ∙ core.shared))

pub begin_leaves : (old begun turned new : Work) (n time : ℕ) → IsCore old (core_of old) →
    is_among n (startable (state_of (core_of old)).lines) ≡ true →
    begun.time ≡ max old.time time →
    begun.record.steps ≡ old.record.steps ++ step_of (Begin n (max old.time time)) ∷ [] →
    begun.lines ≡ change_line n (λ phase. Begun nothing_heard) old.lines →
    begun.jobs ≡ old.jobs →
    shared_in begun ≡ shared_in old →
    (bytes : List ℕ) →
    bytes ≡ [] →
    Takes (turn_behind n None begun) (lines_behind n None begun) bytes begun turned →
    Answers (due_awaits turned.lines) turned new →
    shared_in new ≡ shared_in turned →
    Leaves (Begin n (max (state_of (core_of old)).time time)) [] old new
begin_leaves old begun turned new n time core may time_is steps lines jobs same bytes empty takes answers kept =
    let s : ClientState = state_of (core_of old) in
    let t : max old.time time ≡ max s.time time = ap (λ x. max x time) core.time in
    let event : Event = Begin n (max s.time time) in
    let all_lines : lines_at s.lines s.jobs event ≡ lines_behind n None begun =
    ap (change_line n (λ phase. Begun nothing_heard)) (sym core.lines) ∙ (sym lines ∙ sym (change_line-same n begun.lines)) in
    let done = turn_done s event (turn_behind n None begun) (lines_behind n None begun) [] old.record.steps begun turned new
    (steps ∙ ap (λ x. old.record.steps ++ step_of (Begin n x) ∷ []) t)
    (begun_turn old begun n (max s.time time) core lines same)
    all_lines
    (begun_jobs old begun n (max s.time time) core jobs)
    refl
    ((omega arith), may)
    (same ∙ core.shared)
    (subst (λ (b : List ℕ). Takes (turn_behind n None begun) (lines_behind n None begun) b begun turned) empty takes)
    answers kept in
    leaves old event [] begun new core done
    (ap (λ (t : Shared). t.options) same)
    (time_is ∙ t)

-- A job is taken: nothing is asked, and no await becomes due.
pub take_leaves : (old new : Work) (n time from : ℕ) → IsCore old (core_of old) →
    is_among n (ready (state_of (core_of old)).jobs) ≡ true →
    AllByRecursion (λ position. position < from) (state_of (core_of old)).positions →
    new.time ≡ max old.time time →
    new.record.steps ≡ old.record.steps ++ step_of (Take n (max old.time time) from) ∷ [] →
    new.lines ≡ old.lines →
    new.jobs.count ≡ old.jobs.count →
    new.jobs.held ≡ table.with_taken n old.jobs.held →
    shared_in new ≡ shared_in old →
    Leaves (Take n (max (state_of (core_of old)).time time) from) [] old new
take_leaves old new n time from core may behind time_is steps lines count held same =
    let s : ClientState = state_of (core_of old) in
    let is_alive = alive_core old core in
    let t : max old.time time ≡ max s.time time = ap (λ x. max x time) core.time in
    let event : Event = Take n (max s.time time) from in
    let job = ready_job n 1 s.jobs is_alive.numbered may in
    let out : table.held_of (change_job n (Out from) s.jobs) ≡ table.with_taken n (table.held_of s.jobs) = held_of-out n 1 from s.jobs job.job is_alive.numbered job.stands job.is_ready in
    let step : Step = step_of event in
    let all : change_job n (Out from) s.jobs ++ [] ≡ change_job n (Out from) s.jobs = append-nil (change_job n (Out from) s.jobs) in
    let done : TurnDone s event [] old.record.steps new new = record {
      step = step;
      steps = steps ∙ ap (λ x. old.record.steps ++ step_of (Take n x from) ∷ []) t;
      event_is = refl;
      legal = record { may_come = (omega arith, may, behind); own = []; turn = (refl, refl, refl); replies = sym is_alive.no_due };
      lines = lines ∙ core.lines;
      jobs = record {
        held = held ∙ (ap (table.with_taken n) core.held ∙ (sym out ∙ ap table.held_of (sym all)));
        count = count ∙ (core.count ∙ (sym (length-change_job n (Out from) s.jobs) ∙ ap length (sym all)));
      };
      time = refl;
      options = refl;
      shared = same ∙ core.shared;
      gives = tt;
    } in
    leaves old event [] new new core done
    (ap (λ (t : Shared). t.options) same)
    (time_is ∙ t)

-- the call that is taken is the job's
pub taken_call : (old : Work) (n : ℕ) (called : Call) → IsCore old (core_of old) → is_among n (ready (state_of (core_of old)).jobs) ≡ true → ((h : table.Held) → table.held_at n old.jobs.held ≡ Some h → h.call ≡ Some called) → (j : Job) → job_at n (state_of (core_of old)).jobs ≡ Some j → called ≡ j.call
taken_call old n called core may calls j stands =
    let s : ClientState = state_of (core_of old) in
    let job = ready_job n 1 s.jobs (alive_core old core).numbered may in
    let same : Some job.job ≡ Some j = sym job.stands ∙ stands in
    let is : job.job ≡ j = cc in
    let held : table.held_at n old.jobs.held ≡ Some (table.held_as (Some job.job.call) job.job) = ap (table.held_at n) core.held ∙ held_at-ready n s.jobs job.job job.stands job.is_ready in
    let call : Some job.job.call ≡ Some called = calls (table.held_as (Some job.job.call) job.job) held in
    let call_is : job.job.call ≡ called = cc in
    sym call_is ∙ ap (λ (x : Job). x.call) is

-- the call that is taken may be made
pub taken_may : (old : Work) (n : ℕ) (called : Call) → IsCore old (core_of old) → is_among n (ready (state_of (core_of old)).jobs) ≡ true → ((h : table.Held) → table.held_at n old.jobs.held ≡ Some h → h.call ≡ Some called) → MayBeMade called
taken_may old n called core may calls =
    let s : ClientState = state_of (core_of old) in
    let job = ready_job n 1 s.jobs (alive_core old core).numbered may in
    let is : called ≡ job.job.call = taken_call old n called core may calls job.job job.stands in
    subst MayBeMade (sym is) (calls_made (core_of old).options (core_of old).script (core_of old).steps n job.job core.within core.rising core.so_far job.stands)

pub taken_ready : (old : Work) (n : ℕ) → IsCore old (core_of old) → is_among n (ready (state_of (core_of old)).jobs) ≡ true → table.IsReadyIn n old.jobs.held
taken_ready old n core may =
    let s : ClientState = state_of (core_of old) in
    let job = ready_job n 1 s.jobs (alive_core old core).numbered may in
    subst (table.IsReadyIn n) (sym core.held) (is_ready_in n s.jobs job.job job.stands job.is_ready)

pub done_out : (old : Work) (n position : ℕ) (answer : Brief) → IsCore old (core_of old) → MayDone (state_of (core_of old)) n position answer → table.IsOutIn n old.jobs.held
done_out old n position answer core may = subst (table.IsOutIn n) (sym core.held) (is_out_in n may.from (state_of (core_of old)).jobs may.job may.stands may.is_out)

-- A job's answer has come.

-- the parts behind the job's end
pub record HasEnded (n position : ℕ) (answer : Brief) (old ended : Work) : Type 0 where
  pub time : ended.time ≡ old.time
  pub steps : ended.record.steps ≡ old.record.steps ++ step_of (Done n position answer) ∷ []
  pub lines : ended.lines ≡ old.lines
  pub count : ended.jobs.count ≡ old.jobs.count
  pub held : ended.jobs.held ≡ table.without n old.jobs.held
  pub shared : shared_in ended ≡ shared_in old

-- whose job it was
pub record IsOfJob (old : Work) (n position : ℕ) (answer : Brief) (who : Owner) (line : ℕ) (purpose : Purpose) : Type 0 where
  pub may : MayDone (state_of (core_of old)) n position answer
  pub owner_is : who ≡ may.job.owner
  pub line_is : line ≡ may.job.line
  pub purpose_is : purpose ≡ table.purpose_of may.job.call

pub is_of_job : (old : Work) (n position : ℕ) (answer : Brief) (who : Owner) (line : ℕ) (purpose : Purpose) → IsCore old (core_of old) → MayDone (state_of (core_of old)) n position answer → ((h : table.Held) → table.held_at n old.jobs.held ≡ Some h → (who ≡ h.owner) × (line ≡ h.line) × (purpose ≡ h.purpose)) → IsOfJob old n position answer who line purpose
is_of_job old n position answer who line purpose core may owns =
    let s : ClientState = state_of (core_of old) in
    let held : table.held_at n old.jobs.held ≡ Some (table.held_as None may.job) = ap (table.held_at n) core.held ∙ held_at-out n may.from s.jobs may.job may.stands may.is_out in
    let is = owns (table.held_as None may.job) held in
    record { may = may; owner_is = is.0; line_is = is.1; purpose_is = is.2 }

ended_jobs : (old ended : Work) (n position : ℕ) (answer : Brief) → IsCore old (core_of old) → HasEnded n position answer old ended → AreAll ended.jobs (jobs_at (state_of (core_of old)).jobs (Done n position answer))
ended_jobs old ended n position answer core is =
    let s : ClientState = state_of (core_of old) in
    let all = (alive_core old core).numbered in
    record {
      numbered = numbered-change 1 n Gone s.jobs (alive_core old core).numbered;
      held = is.held ∙ (ap (table.without n) core.held ∙ sym (held_of-gone n 1 s.jobs all));
      count = is.count ∙ (core.count ∙ sym (length-change_job n Gone s.jobs));
    }

done_leaves : (old ended turned new : Work) (n position : ℕ) (answer : Brief) (turn : Turn) (lines : List Standing) (bytes : List ℕ) → IsCore old (core_of old) →
    MayDone (state_of (core_of old)) n position answer →
    HasEnded n position answer old ended →
    turn_at (state_of (core_of old)) (Done n position answer) ≡ turn →
    lines_at (state_of (core_of old)).lines (state_of (core_of old)).jobs (Done n position answer) ≡ lines →
    Takes turn lines bytes ended turned →
    Answers (due_awaits turned.lines) turned new →
    shared_in new ≡ shared_in turned →
    Leaves (Done n position answer) bytes old new
done_leaves old ended turned new n position answer turn lines bytes core may is turn_is lines_are takes answers kept =
    let s : ClientState = state_of (core_of old) in
    let done = turn_done s (Done n position answer) turn lines bytes old.record.steps ended turned new
    is.steps turn_is lines_are
    (ended_jobs old ended n position answer core is)
    (length-change_job n Gone s.jobs)
    may
    (is.shared ∙ core.shared)
    takes answers kept in
    leaves old (Done n position answer) bytes ended new core done
    (ap (λ (t : Shared). t.options) is.shared)
    (is.time ∙ core.time)

-- The answer to a line's own job: the line has begun, doesn't wait, and gives what the answer brought.
pub record IsHeard (ended : Work) (number : ℕ) (told : Told) (bytes : List ℕ) : Type 0 where
  pub begun : HasBegun number ended.lines
  pub not_idle : (Some told ≡ None) ⊎ Speaks (next_behind number (Some told) ended)
  pub gives : (count : ℕ) → next_behind number (Some told) ended ≡ Gives count → length bytes ≡ count
  pub writers : NamedMayTurn number ended

-- the bytes of an answer are as many as its brief says
brought_long : (answer : Answer) (count : ℕ) → brief_of answer ≡ Bytes count → length (bytes_in answer) ≡ count
brought_long (full.Bytes bytes) count is = cc
brought_long (full.Found etag size) count is = absurd (cc)
brought_long full.Missing count is = absurd (cc)
brought_long full.Yes count is = absurd (cc)
brought_long full.No count is = absurd (cc)
brought_long (full.Page page) count is = absurd (cc)
brought_long full.Changed count is = absurd (cc)
brought_long full.Gone count is = absurd (cc)
brought_long (full.Made etag) count is = absurd (cc)
brought_long (full.Upload upload) count is = absurd (cc)
brought_long full.Stored count is = absurd (cc)
brought_long full.NoUpload count is = absurd (cc)
brought_long full.Fault count is = absurd (cc)
brought_long full.NoMemory count is = absurd (cc)

-- the line whose turn it is
opened_line : (state : ClientState) (event : Event) (opened : IsOpened state event) (line : Line) (who : Owner) (next : Next) → turn_at state event ≡ TurnOf line who next → opened.line ≡ line
opened_line state event opened line who next is =
    let both : TurnOf opened.line opened.who (next_of (view_of state.shared opened.line) opened.line.request opened.heard) ≡ TurnOf line who next = sym opened.turn ∙ is in
    cc

opened_number : (state : ClientState) (event : Event) (opened : IsOpened state event) (n : ℕ) (s : Standing) (who : Owner) (next : Next) → line_at n state.lines ≡ Some s → turn_at state event ≡ TurnOf s.line who next → opened.n ≡ n
opened_number state event opened n s who next stands is = sym opened.number_is ∙ ap (λ (l : Line). l.number) (opened_line state event opened s.line who next is) ∙ number-is n state.lines s stands

of_line : (who : Owner) (what : Owner) → IsOfLine who → who ≡ what → IsOfLine what
of_line who what own is = subst IsOfLine is own

pub is_heard : (old ended : Work) (n position : ℕ) (answer : Answer) (who : Owner) (line : ℕ) (purpose : Purpose) (question : Option Question) (told : Told) (bytes : List ℕ) → IsCore old (core_of old) → IsOfJob old n position (brief_of answer) who line purpose → IsOfLine who → HasEnded n position (brief_of answer) old ended →
    ((called : Call) → table.purpose_of called ≡ purpose → question ≡ question_of called) →
    told ≡ told_by question (brief_of answer) → bytes ≡ bytes_in answer →
    IsHeard ended line told bytes
is_heard old ended n position answer who line purpose question told bytes core is own parts asks tells brings =
    let s : ClientState = state_of (core_of old) in
    let is_alive = alive_core old core in
    let may = is.may in
    let job : Job = may.job in
    let owned : IsOfLine job.owner = of_line who job.owner own is.owner_is in
    let live : job.phase ≢ Gone = λ gone. absurd (let e : Out may.from ≡ Gone = sym may.is_out ∙ gone in cc) in
    let here = hears_line s n position (brief_of answer) is_alive may owned in
    let lines : ended.lines ≡ s.lines = parts.lines ∙ core.lines in
    let seen : shared_in ended ≡ s.shared = parts.shared ∙ core.shared in
    let standing : Standing = record { line = here.due.line; phase = Begun here.due.heard } in
    let stands : line_at line ended.lines ≡ Some standing = ap (line_at line) lines ∙ (ap (λ k. line_at k s.lines) is.line_is ∙ here.due.stands) in
    let begun : HasBegun line ended.lines = record { standing = standing; stands = stands; heard = here.due.heard; phase = refl } in
    let view : View = view_of (shared_in ended) here.due.line in
    let told_is : told ≡ told_by (question_of job.call) (brief_of answer) = tells ∙ ap (λ q. told_by q (brief_of answer)) (asks job.call (sym is.purpose_is)) in
    let opened = done-opens s n position (brief_of answer) is_alive may owned in
    record {
      begun = begun;
      not_idle = inr (subst Speaks (sym (next-seen line (Some told) ended begun)) (heard-speaks view here.due.line.request (with_told told here.due.heard) here.due.wants));
      gives = λ count gives.
          let next : next_of view here.due.line.request (with_told told here.due.heard) ≡ Gives count = next_seen line (Some told) ended begun (Gives count) gives in
          let read : IsRead here.due.line.request = gives-read view here.due.line.request (with_told told here.due.heard) count next in
          let makes : next_in s.shared standing ≡ Asks job.call = job_makes_call (core_of old).options (core_of old).script (core_of old).steps n job standing core.within core.rising core.so_far may.stands owned live here.due.stands read in
          let asked : next_of view here.due.line.request here.due.heard ≡ Asks job.call = ap (λ (t : Shared). next_in t standing) seen ∙ makes in
          let brought = gives_brought view here.due.line.request here.due.heard job.call (question_of job.call) (brief_of answer) count asked (ap (λ t. next_of view here.due.line.request (with_told t here.due.heard)) (sym told_is) ∙ next) in
          ap length brings ∙ brought_long answer count brought;
      writers =
          let due : Standing = record { line = here.due.line; phase = Begun here.due.heard } in
          let turn = here.turn ∙ ap (turn_of_line s.shared) (line_at-change job.line (heard (told_by (question_of job.call) (brief_of answer))) s.lines due here.due.stands) in
          subst (λ k. NamedMayTurn k ended) (opened_number s (Done n position (brief_of answer)) opened job.line due _ _ here.due.stands turn ∙ sym is.line_is) (named_may s (Done n position (brief_of answer)) opened ended is_alive (files_core old core) (ended_jobs old ended n position (brief_of answer) core parts).held
          (λ t there. let both : Some (record { line = opened.line; phase = opened.old }) ≡ Some t = sym opened.found ∙ ap (line_at opened.n) (sym lines) ∙ there in let same : record { line = opened.line; phase = opened.old } ≡ t = cc in sym (ap (λ (x : Standing). x.line) same))
          seen);
    }

-- a job that is no writer's is a line's own
pub no_writer : (who : Owner) → ((opened : ℕ) → who ≡ owner.Writer opened → ⊥) → IsOfLine who
no_writer (owner.Writer opened) none = none opened refl
no_writer (owner.Line line) none = tt
no_writer (owner.Stream line) none = tt

-- and it has its turn
pub line_leaves : (old ended turned new : Work) (n position : ℕ) (answer : Answer) (who : Owner) (line : ℕ) (purpose : Purpose) (question : Option Question) (told : Told) (bytes : List ℕ) → IsCore old (core_of old) → IsOfJob old n position (brief_of answer) who line purpose → IsOfLine who → HasEnded n position (brief_of answer) old ended →
    ((called : Call) → table.purpose_of called ≡ purpose → question ≡ question_of called) →
    told ≡ told_by question (brief_of answer) → bytes ≡ bytes_in answer →
    Takes (turn_behind line (Some told) ended) (lines_behind line (Some told) ended) bytes ended turned →
    Answers (due_awaits turned.lines) turned new →
    shared_in new ≡ shared_in turned →
    Leaves (Done n position (brief_of answer)) (bytes_in answer) old new
line_leaves old ended turned new n position answer who line purpose question told bytes core is own parts asks tells brings takes answers kept =
    let s : ClientState = state_of (core_of old) in
    let may = is.may in
    let job : Job = may.job in
    let here = hears_line s n position (brief_of answer) (alive_core old core) may (of_line who job.owner own is.owner_is) in
    let told_is : told_by (question_of job.call) (brief_of answer) ≡ told = sym (tells ∙ ap (λ q. told_by q (brief_of answer)) (asks job.call (sym is.purpose_is))) in
    let lines : change_line job.line (heard (told_by (question_of job.call) (brief_of answer))) s.lines ≡ lines_behind line (Some told) ended =
    ap (λ k. change_line k (heard (told_by (question_of job.call) (brief_of answer))) s.lines) (sym is.line_is)
    ∙ ap (λ t. change_line line (heard t) s.lines) told_is
    ∙ ap (change_line line (heard told)) (sym (parts.lines ∙ core.lines)) in
    let turn : turn_of_line s.shared (line_at job.line (change_line job.line (heard (told_by (question_of job.call) (brief_of answer))) s.lines)) ≡ turn_behind line (Some told) ended =
    ap (λ k. turn_of_line s.shared (line_at k (change_line job.line (heard (told_by (question_of job.call) (brief_of answer))) s.lines))) (sym is.line_is)
    ∙ ap (λ l. turn_of_line s.shared (line_at line l)) lines
    ∙ ap (λ (t : Shared). turn_of_line t (line_at line (lines_behind line (Some told) ended))) (sym (parts.shared ∙ core.shared)) in
    done_leaves old ended turned new n position (brief_of answer) (turn_behind line (Some told) ended) (lines_behind line (Some told) ended) (bytes_in answer) core may parts (here.turn ∙ turn) (here.lines ∙ lines)
    (subst (λ (b : List ℕ). Takes (turn_behind line (Some told) ended) (lines_behind line (Some told) ended) b ended turned) brings takes) answers kept

-- An answer that can't be told brings a page.
pub brought_page : (answer : Answer) (told : Result Brief AllocError) → (brings_page answer ≡ false → IsOk told) → ((heard : Brief) → told ≡ Ok heard → ⊥) → (page : Page) × (brief_of answer ≡ Listed page)
brought_page answer told tells untold = by_answer answer tells
  where
    never : (told : Result Brief AllocError) → IsOk told → ((heard : Brief) → told ≡ Ok heard → ⊥) → ⊥
    never (Ok heard) told_so untold = untold heard refl
    never (Err why) told_so untold = absurd (cc)

    by_answer : (answer : Answer) → (brings_page answer ≡ false → IsOk told) → (page : Page) × (brief_of answer ≡ Listed page)
    by_answer (full.Page page) tells = (page, refl)
    by_answer (full.Found etag size) tells = absurd (never told (tells refl) untold)
    by_answer full.Missing tells = absurd (never told (tells refl) untold)
    by_answer full.Yes tells = absurd (never told (tells refl) untold)
    by_answer full.No tells = absurd (never told (tells refl) untold)
    by_answer (full.Bytes bytes) tells = absurd (never told (tells refl) untold)
    by_answer full.Changed tells = absurd (never told (tells refl) untold)
    by_answer full.Gone tells = absurd (never told (tells refl) untold)
    by_answer (full.Made etag) tells = absurd (never told (tells refl) untold)
    by_answer (full.Upload upload) tells = absurd (never told (tells refl) untold)
    by_answer full.Stored tells = absurd (never told (tells refl) untold)
    by_answer full.NoUpload tells = absurd (never told (tells refl) untold)
    by_answer full.Fault tells = absurd (never told (tells refl) untold)
    by_answer full.NoMemory tells = absurd (never told (tells refl) untold)

-- the job that it answers lists
page_lists : (old : Work) (n position : ℕ) (answer : Brief) (page : Page) → IsCore old (core_of old) → (may : MayDone (state_of (core_of old)) n position answer) → answer ≡ Listed page → HasListing (state_of (core_of old)) may.job
page_lists old n position answer page core may brings =
    let live : may.job.phase ≢ Gone = λ gone. absurd (let e : Out may.from ≡ Gone = sym may.is_out ∙ gone in cc) in
    answered_listing (core_of old).options (core_of old).script (core_of old).steps n may.job page core.within core.rising core.so_far may.stands live (ap (fits may.job.call) (sym brings) ∙ may.kind)

-- so no writer hears it
pub unwritten_page : (old : Work) (n position opened : ℕ) (answer : Brief) (page : Page) (who : Owner) (line : ℕ) (purpose : Purpose) → IsCore old (core_of old) → IsOfJob old n position answer who line purpose → who ≡ owner.Writer opened → answer ≡ Listed page → ⊥
unwritten_page old n position opened answer page who line purpose core is own brings = subst IsOfLine (sym is.owner_is ∙ own) (page_lists old n position answer page core is.may brings).of_line

-- and its line has begun to list
pub page_line : (old ended : Work) (n position : ℕ) (answer : Brief) (page : Page) (who : Owner) (line : ℕ) (purpose : Purpose) → IsCore old (core_of old) → IsOfJob old n position answer who line purpose → HasEnded n position answer old ended → answer ≡ Listed page → IsListing line ended.lines
page_line old ended n position answer page who line purpose core is parts brings =
    let lists = page_lists old n position answer page core is.may brings in
    record {
      standing = lists.standing;
      stands = ap (line_at line) (parts.lines ∙ core.lines) ∙ (ap (λ k. line_at k (state_of (core_of old)).lines) is.line_is ∙ lists.stands);
      heard = lists.heard;
      phase = lists.begun;
      names = lists.listing.names;
      lists = lists.listing.lists;
    }

other_asks : (called : Call) → table.purpose_of called ≡ Other → None ≡ question_of called
other_asks (call.Head key) is = absurd (cc)
other_asks (call.Probe key) is = absurd (cc)
other_asks (call.List prefix after max) is = refl
other_asks (call.Get key etag from to) is = refl
other_asks (call.Delete key) is = refl
other_asks (call.Put key bytes) is = refl
other_asks (call.Create key) is = refl
other_asks (call.Part upload number bytes) is = refl
other_asks (call.Complete upload parts) is = refl
other_asks (call.Abort upload) is = refl

-- whose listing fails then
pub failed_leaves : (old ended turned new : Work) (n position : ℕ) (answer : Answer) (page : Page) (who : Owner) (line : ℕ) (purpose : Purpose) → IsCore old (core_of old) → IsOfJob old n position (brief_of answer) who line purpose → IsOfLine who → HasEnded n position (brief_of answer) old ended → brief_of answer ≡ Listed page →
    Takes (turn_behind line (Some (Hears (Listed page))) ended) (lines_behind line (Some (Hears (Listed page))) ended) (bytes_in answer) ended turned →
    Answers (due_awaits turned.lines) turned new →
    shared_in new ≡ shared_in turned →
    Leaves (Done n position (brief_of answer)) (bytes_in answer) old new
failed_leaves old ended turned new n position answer page who line purpose core is own parts brings takes answers kept =
    let lists = page_lists old n position (brief_of answer) page core is.may brings in
    let other : purpose ≡ Other = is.purpose_is ∙ ap table.purpose_of lists.asks in
    line_leaves old ended turned new n position answer who line purpose None (Hears (Listed page)) (bytes_in answer) core is own parts
    (λ called for. other_asks called (for ∙ other))
    (ap (told_by None) (sym brings)) refl takes answers kept

-- and what is told is the answer in brief
pub told_so : (told : Result Brief AllocError) (said heard : Brief) → IfOk told (λ brief. brief ≡ said) → told ≡ Ok heard → heard ≡ said
told_so told said heard tells is = subst (λ (t : Result Brief AllocError). IfOk t (λ brief. brief ≡ said)) is tells

-- The answer to a writer's job.
writer_here : (old ended : Work) (n position opened : ℕ) (answer : Brief) (who : Owner) (line : ℕ) (purpose : Purpose) → IsCore old (core_of old) → (is : IsOfJob old n position answer who line purpose) → who ≡ owner.Writer opened → HasEnded n position answer old ended → HearsWriter (state_of (core_of old)) n position opened answer is.may.job.call ended
writer_here old ended n position opened answer who line purpose core is own parts =
    hears_writer (state_of (core_of old)) n position opened answer ended (alive_core old core) is.may (sym is.owner_is ∙ own) (ended_jobs old ended n position answer core parts).held (parts.lines ∙ core.lines) (parts.shared ∙ core.shared)

pub writer_may : (old ended : Work) (n position opened : ℕ) (answer : Brief) (who : Owner) (line : ℕ) (purpose : Purpose) → IsCore old (core_of old) → IsOfJob old n position answer who line purpose → who ≡ owner.Writer opened → HasEnded n position answer old ended → MayHear opened purpose ended
writer_may old ended n position opened answer who line purpose core is own parts =
    subst (λ p. MayHear opened p ended) (sym is.purpose_is) (writer_here old ended n position opened answer who line purpose core is own parts).may

pub writer_leaves : (old ended turned new : Work) (n position opened : ℕ) (answer : Answer) (who : Owner) (line : ℕ) (purpose : Purpose) → IsCore old (core_of old) → IsOfJob old n position (brief_of answer) who line purpose → who ≡ owner.Writer opened → HasEnded n position (brief_of answer) old ended →
    ((called : Call) (bytes : List ℕ) → table.purpose_of called ≡ purpose → Takes (turn_of_writer (shared_in ended) called (brief_of answer) (line_at opened ended.lines)) ended.lines bytes ended turned) →
    Answers (due_awaits turned.lines) turned new →
    shared_in new ≡ shared_in turned →
    Leaves (Done n position (brief_of answer)) (bytes_in answer) old new
writer_leaves old ended turned new n position opened answer who line purpose core is own parts takes answers kept =
    let s : ClientState = state_of (core_of old) in
    let called : Call = is.may.job.call in
    let here = writer_here old ended n position opened (brief_of answer) who line purpose core is own parts in
    let turn : turn_of_writer s.shared called (brief_of answer) (line_at opened s.lines) ≡ turn_of_writer (shared_in ended) called (brief_of answer) (line_at opened ended.lines) =
    ap (λ (t : Shared). turn_of_writer t called (brief_of answer) (line_at opened s.lines)) (sym (parts.shared ∙ core.shared))
    ∙ ap (λ l. turn_of_writer (shared_in ended) called (brief_of answer) (line_at opened l)) (sym (parts.lines ∙ core.lines)) in
    done_leaves old ended turned new n position (brief_of answer) (turn_of_writer (shared_in ended) called (brief_of answer) (line_at opened ended.lines)) ended.lines (bytes_in answer) core is.may parts (here.turn ∙ turn) (here.lines ∙ sym (parts.lines ∙ core.lines))
    (takes called (bytes_in answer) (sym is.purpose_is)) answers kept

-- a line that may begin has begun behind its begin
pub begun_behind : (old begun : Work) (n : ℕ) → IsCore old (core_of old) → is_among n (startable (state_of (core_of old)).lines) ≡ true → begun.lines ≡ change_line n (λ phase. Begun nothing_heard) old.lines → HasBegun n begun.lines
begun_behind old begun n core may lines =
    let s : ClientState = state_of (core_of old) in
    let waits = startable-found 0 n [] s.lines (Rises-lines 0 s.lines (alive_core old core).rising) may in
    let there : line_at n old.lines ≡ Some (record { line = waits.line; phase = Waiting }) = ap (line_at n) core.lines ∙ waits.stands in
    record {
      standing = record { line = waits.line; phase = Begun nothing_heard };
      stands = ap (line_at n) lines ∙ line_at-change n (λ phase. Begun nothing_heard) old.lines (record { line = waits.line; phase = Waiting }) there;
      heard = nothing_heard;
      phase = refl;
    }

-- what a line gives in the step of its begin is empty
pub begun_gives : (old begun : Work) (n : ℕ) (bytes : List ℕ) → IsCore old (core_of old) → is_among n (startable (state_of (core_of old)).lines) ≡ true → begun.lines ≡ change_line n (λ phase. Begun nothing_heard) old.lines → bytes ≡ [] → (count : ℕ) → next_behind n None begun ≡ Gives count → length bytes ≡ count
unfolding begun_behind
begun_gives old begun n bytes core may lines empty count gives =
    let now = begun_behind old begun n core may lines in
    let view : View = view_of (shared_in begun) now.standing.line in
    ap length empty ∙ sym (gives_none view now.standing.line.request count (next_seen n None begun now (Gives count) gives))

-- and the writer that it names may have its turn
pub begun_writers : (old begun : Work) (n time : ℕ) → IsCore old (core_of old) → is_among n (startable (state_of (core_of old)).lines) ≡ true → begun.lines ≡ change_line n (λ phase. Begun nothing_heard) old.lines → begun.jobs ≡ old.jobs → shared_in begun ≡ shared_in old → NamedMayTurn n begun
begun_writers old begun n time core may lines jobs same =
    let s : ClientState = state_of (core_of old) in
    let is_alive = alive_core old core in
    let opened = begin-opens s n time is_alive may in
    let first = begins-line s n time is_alive may in
    subst (λ k. NamedMayTurn k begun) (opened_number s (Begin n time) opened n (record { line = first.line; phase = Waiting }) _ _ first.stands first.turn) (named_may s (Begin n time) opened begun is_alive (files_core old core) (ap (λ j. j.held) jobs ∙ core.held)
    (λ t there. let both : Some (record { line = opened.line; phase = Begun opened.heard }) ≡ Some t = sym opened.now.stands ∙ ap (λ l. line_at opened.n (change_line n (λ phase. Begun nothing_heard) l)) (sym core.lines) ∙ ap (line_at opened.n) (sym lines) ∙ there in let is : record { line = opened.line; phase = Begun opened.heard } ≡ t = cc in sym (ap (λ (x : Standing). x.line) is))
    (same ∙ core.shared))

pub has_step_turned : (turn : Turn) (lines : List Standing) (bytes : List ℕ) (begun turned : Work) → Takes turn lines bytes begun turned → HasStep begun.record.steps → HasStep turned.record.steps
has_step_turned turn lines bytes begun turned takes has = subst HasStep (sym takes.steps) (HasStep-change_last (with_part takes.drops takes.asks takes.own) begun.record.steps has)

-- quiet means that each line has its reply and no job is held
pub quiet_core : (work : Work) → IsCore work (core_of work) → AllByRecursion (λ (s : Standing). s.phase ≡ Replied) work.lines → (work.jobs.held ≡ []) ↔ IsQuiet (state_of (core_of work))
quiet_core work core answered =
    let s : ClientState = state_of (core_of work) in (
      (λ none. record {
        answered = subst (AllByRecursion (λ (s : Standing). s.phase ≡ Replied)) core.lines answered;
        gone = (held_of-empty s.jobs).0 (sym core.held ∙ none);
      }),
      (λ quiet. core.held ∙ (held_of-empty s.jobs).1 quiet.gone),
    )

-- a core that has done nothing
pub core_new : (options : Opts) (script : List Line) (work : Work) → AreWithin options → AreRising 0 script → work.lines ≡ (opening options script).lines → work.record.steps ≡ [] → work.time ≡ 0 → work.jobs.held ≡ [] → work.jobs.count ≡ 0 → shared_in work ≡ shared_at_first options → IsCore work (core_of work)
core_new options script work within rising lines steps time held count shared =
    let said : map (λ s. s.line) work.lines ≡ script = ap (map (λ s. s.line)) lines ∙ lines-opening options script in
    let told : work.options ≡ options = ap (λ (t : Shared). t.options) shared in
    let state : state_of (core_of work) ≡ opening options script =
    ap (λ (o : Opts). state_after o (map (λ s. s.line) work.lines) work.record.steps) told ∙ (ap (λ w. state_after options w work.record.steps) said ∙ ap (state_after options script) steps) in
    record {
      within = subst AreWithin (sym told) within;
      rising = subst (AreRising 0) (sym said) rising;
      so_far = subst (λ (o : Opts). IsRunSoFar o (map (λ s. s.line) work.lines) work.record.steps) (sym told) (subst (λ w. IsRunSoFar options w work.record.steps) (sym said) (subst (IsRunSoFar options script) (sym steps) tt));
      time = time ∙ ap (λ (s : ClientState). s.time) (sym state);
      lines = lines ∙ ap (λ (s : ClientState). s.lines) (sym state);
      held = held ∙ ap (λ (s : ClientState). table.held_of s.jobs) (sym state);
      count = count ∙ ap (λ (s : ClientState). length s.jobs) (sym state);
      shared = shared ∙ ap (λ (s : ClientState). s.shared) (sym state);
    }
