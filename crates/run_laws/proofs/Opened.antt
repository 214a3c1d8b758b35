-- Whose turn it is after an event, and how it stands.
use Rattle.std.proofs.Common.{◌≡◌, ◌≢◌, ℕ, ◌+◌, ◌<◌, ◌≤◌, List, [], ◌∷◌, length, cond, Bool, true, false, ◌==◌, Option, Some, None, ◌⊎◌, inl, inr, refl, sym, ap, ◌∙◌, subst, arith, eq-eqb, ne_eqb}
use Rattle.std.specs.FinMap as table
use Rattle.mp_types.specs.HandleName.{HandleName}
use Rattle.bucket_model.specs.declared.call.Call.{Call}
use Rattle.bucket_model.specs.declared.answer.Brief.{Brief}
use Rattle.mount_model.specs.declared.request.Request.{Request}
use Rattle.mount_model.specs.declared.request.Request.TheVariants as request
use Rattle.mount_model.specs.declared.request.Request.TheVariants.{Await, Sync, Close, Read}
use Rattle.mount_model.specs.declared.request.Line.{Line}
use Rattle.mount_model.specs.declared.event.Event.{Event}
use Rattle.mount_model.specs.declared.event.Event.TheVariants.{Begin, Done}
use Rattle.mount_model.specs.declared.event.Owner.{Owner}
use Rattle.mount_model.specs.declared.event.Owner.TheVariants as owner
use Rattle.mount_model.specs.declared.handle.Handle.TheVariants.{Reading, Writing}
use Rattle.mount_model.specs.declared.standing.Heard.{Heard}
use Rattle.mount_model.specs.declared.standing.Phase.{Phase}
use Rattle.mount_model.specs.declared.standing.Phase.TheVariants.{Waiting, Begun, Replied}
use Rattle.mount_model.specs.declared.standing.Standing.{Standing}
use Rattle.mount_model.specs.declared.standing.Told.{Told}
use Rattle.mount_model.specs.Heard.{nothing_heard, with_told, question_of, told_by}
use Rattle.mount_model.specs.Handles.{Handle, Writer, handle_of, owner_for}
use Rattle.mount_model.specs.Writers.{hears_answer}
use Rattle.mount_model.specs.Conversation.{next_of, with_upload}
use Rattle.mount_model.specs.State.{Shared, ClientState, Job, JobPhase, Out, Gone, line_at, job_at, change_line, change_job, in_phase, heard, hears, lines_at, jobs_at, view_of, handle_name, TurnOf, TurnOfWriter, turn_of_line, turn_of_handle, turn_of_writer, turn_of_job, turn_at}
use Rattle.mount_model.specs.Run.{MayDone, is_among, startable}
use Rattle.mount_model.proofs.Numbered.{numbered-change}
use Rattle.run_laws.specs.Counts.{total, if_line, any_call, is_create, is_part, is_complete, is_abort, if_writer, made_job, calls_made, calls_out, calls_ready}
use Rattle.run_laws.specs.Alive.{if_of_line, live_job, jobs_at_once, jobs_wanted, IsAlive}
use Rattle.run_laws.specs.Calls.{jobs_of, may_ask}
use Rattle.run_laws.specs.Faithful.{IsFaithful}
use Rattle.run_laws.specs.Listings.{AsksItself}
use Rattle.run_laws.specs.Once.{begins, begun_in}
use Rattle.run_laws.specs.Served.{IsOfLine}
use Rattle.run_laws.specs.Uploads.{calls_left_of}
use Rattle.run_laws.specs.Work.{calls_left, line_work, job_work}
use Rattle.run_laws.specs.Writers.{tally, awaits_writer, waiting_line, IsWaiting, IsWriter, HasWriter}
use Rattle.run_laws.proofs.Keyed.{total-at, item_at-key}
use Rattle.run_laws.proofs.Lines.{number_of, Rises-lines, lines-change, line_at-same, line_at-other}
use Rattle.run_laws.proofs.Orderly.{Frees-same, orderly-begun, orderly-heard, startable-found, orderly-apart}
use Rattle.run_laws.proofs.Jobs.{job_number, Rises-jobs, length-change_job, own_job, live-gone, out-gone, ready-gone, made-change, parts-change, if_writer-own, if_writer-other, out-kinds, out-one, kinds-most, is_other, if_live-live}
use Rattle.run_laws.proofs.Uploads.{BacksCall, kinds, hears-tallied, back-no-abort}
use Rattle.run_laws.proofs.Places.{upload-hears, pending-hears, shrinks-hears, shrinks-left}
use Rattle.run_laws.proofs.Asked.{OnlyFor, IsInTurn}
use Rattle.run_laws.proofs.Handles.{handle-at, name-actor}
use Rattle.run_laws.proofs.Writers.{stands_as, LinesKeep, keep-begun, keep-heard, SameFor, same-jobs, once-kept, phases-apart}
use Rattle.run_laws.proofs.Conversation.{one-no-wait, opens-name}
use Rattle.run_laws.proofs.Pages.{HasHeard, HeardNothing, HeardMore}
use Rattle.run_laws.proofs.Work.{begin-work, heard-work, gone-work}
use Rattle.run_laws.proofs.Turn.{IsOpen, of-line}

-- a job is a line's own, or a writer's

pub data OwnerIs (who : Owner) : Type 0 where
  OfWriter : (opened : ℕ) → who ≡ owner.Writer opened → OwnerIs who
  OfLine : IsOfLine who → OwnerIs who

pub owner-is : (who : Owner) → OwnerIs who
owner-is (owner.Writer opened) = OfWriter opened refl
owner-is (owner.Line line) = OfLine tt
owner-is (owner.Stream line) = OfLine tt

-- what a line asks for is its own
pub owner-line : (number : ℕ) (request : Request) (handle : Option Handle) → IsOfLine (owner_for number request handle)
owner-line number (Read name offset count) None = tt
owner-line number (Read name offset count) (Some (Reading line version)) = tt
owner-line number (Read name offset count) (Some (Writing w)) = tt
owner-line number other handle = tt

-- of a listing, the line's itself
pub owner-itself : (number : ℕ) (asked : Request) (handle : Option Handle) → AsksItself asked (owner_for number asked handle) number
owner-itself number (request.List path) handle = refl
owner-itself number other handle = tt

-- and counts for no writer
pub line-made : (opened : ℕ) (who : Owner) (count : ℕ) → IsOfLine who → if_writer opened who count ≡ 0
line-made opened (owner.Writer line) count own = absurd own
line-made opened other count own = refl

-- a live job of a line's own

pub record IsDue (n : ℕ) (lines : List Standing) : Type 0 where
  pub line : Line
  pub heard : Heard
  pub stands : line_at n lines ≡ stands_as line (Begun heard)
  pub wants : jobs_at_once line.request ≡ 1

pub at-most : (request : Request) → jobs_at_once request ≤ 1
at-most Await = omega arith
at-most (Sync name) = omega arith
at-most (Close name) = omega arith
at-most other = omega arith

due-found : (n : ℕ) (lines : List Standing) (o : Option Standing) → line_at n lines ≡ o → 1 ≤ jobs_wanted o → IsDue n lines
due-found n lines None e h = absurd (omega arith)
due-found n lines (Some s) e h = by_phase s.line s.phase e h
  where
    by_phase : (line : Line) (phase : Phase) → line_at n lines ≡ stands_as line phase → 1 ≤ jobs_wanted (stands_as line phase) → IsDue n lines
    by_phase line Waiting e h = absurd (omega arith)
    by_phase line (Begun heard) e h = record { line = line; heard = heard; stands = e; wants = let most = at-most line.request in omega arith }
    by_phase line Replied e h = absurd (omega arith)

pub live-own : (n : ℕ) (job : Job) → IsOfLine job.owner → job.line ≡ n → job.phase ≢ Gone → live_job n job ≡ 1
live-own n job of_line owns live =
    let same : (n == n) ≡ true = eq-eqb n n refl in
    let one : if_line n job.line ≡ 1 = ap (if_line n) owns ∙ rw same refl in
    if_live-live job.phase (own_job n job) live ∙ of-line job.owner (if_line n job.line) of_line ∙ one

pub owner-due : (state : ClientState) (number n : ℕ) (job : Job) → IsAlive state → job_at number state.jobs ≡ Some job → IsOfLine job.owner → job.line ≡ n → job.phase ≢ Gone → IsDue n state.lines
owner-due state number n job alive stands of_line owns live =
    let least = total-at job_number (live_job n) number state.jobs job stands in
    let one = live-own n job of_line owns live in
    let all = alive.balanced n in
    due-found n state.lines (line_at n state.lines) refl (omega arith)

-- what a done event means, by the owner of its job

abbrev owned_by : Owner → Job → Job
owned_by who job = record { number = job.number; owner = who; line = job.line; call = job.call; phase = job.phase }

hears-line : (job : Job) (answer : Brief) (lines : List Standing) → IsOfLine job.owner → hears (Some job) answer lines ≡ change_line job.line (heard (told_by (question_of job.call) answer)) lines
hears-line job answer lines of_line = go job.owner of_line
  where
    go : (who : Owner) → IsOfLine who → hears (Some (owned_by who job)) answer lines ≡ change_line job.line (heard (told_by (question_of job.call) answer)) lines
    go (owner.Writer opened) own = absurd own
    go other own = refl

hears-writer : (job : Job) (answer : Brief) (lines : List Standing) (opened : ℕ) → job.owner ≡ owner.Writer opened → hears (Some job) answer lines ≡ lines
hears-writer job answer lines opened owned = ap (λ (who : Owner). hears (Some (owned_by who job)) answer lines) owned

turn-line : (shared : Shared) (job : Job) (answer : Brief) (lines : List Standing) → IsOfLine job.owner → turn_of_job shared (Some job) answer lines ≡ turn_of_line shared (line_at job.line lines)
turn-line shared job answer lines of_line = go job.owner of_line
  where
    go : (who : Owner) → IsOfLine who → turn_of_job shared (Some (owned_by who job)) answer lines ≡ turn_of_line shared (line_at job.line lines)
    go (owner.Writer opened) own = absurd own
    go other own = refl

turn-writer : (shared : Shared) (job : Job) (answer : Brief) (lines : List Standing) (opened : ℕ) → job.owner ≡ owner.Writer opened → turn_of_job shared (Some job) answer lines ≡ turn_of_writer shared job.call answer (line_at opened lines)
turn-writer shared job answer lines opened owned = ap (λ (who : Owner). turn_of_job shared (Some (owned_by who job)) answer lines) owned

-- the turn of a line that stands begun
turn-begun : (shared : Shared) (n : ℕ) (line : Line) (heard : Heard) (lines : List Standing) → line_at n lines ≡ stands_as line (Begun heard) → turn_of_line shared (line_at n lines) ≡ TurnOf line (owner_for line.number line.request (handle_of line shared.handles)) (next_of (view_of shared line) line.request heard)
turn-begun shared n line heard lines stands = ap (turn_of_line shared) stands

-- whose turn it is, in so many words

-- behind the answer to a line's own job the line has heard it
pub record AnswersLine (state : ClientState) (number position : ℕ) (answer : Brief) (job : Job) : Type 0 where
  pub due : IsDue job.line state.lines
  pub lines_are : lines_at state.lines state.jobs (Done number position answer) ≡ change_line job.line (heard (told_by (question_of job.call) answer)) state.lines
  pub who : Owner
  pub owner_is : who ≡ owner_for due.line.number due.line.request (handle_of due.line state.shared.handles)
  pub of_line : IsOfLine who
  pub turn : turn_at state (Done number position answer) ≡ TurnOf due.line who (next_of (view_of state.shared due.line) due.line.request (with_told (told_by (question_of job.call) answer) due.heard))

answers-due : (state : ClientState) (number position : ℕ) (answer : Brief) (may : MayDone state number position answer) → IsOfLine may.job.owner → IsDue may.job.line state.lines → AnswersLine state number position answer may.job
answers-due state number position answer may of_line due =
    let n : ℕ = may.job.line in
    let told : Told = told_by (question_of may.job.call) answer in
    let lines : List Standing = hears (job_at number state.jobs) answer state.lines in
    let lines_are : lines ≡ change_line n (heard told) state.lines = ap (λ (o : Option Job). hears o answer state.lines) may.stands ∙ hears-line may.job answer state.lines of_line in
    let stands : line_at n lines ≡ stands_as due.line (Begun (with_told told due.heard)) = ap (line_at n) lines_are ∙ line_at-same n (heard told) state.lines (record { line = due.line; phase = Begun due.heard }) due.stands in
    record {
      due = due;
      lines_are = lines_are;
      who = owner_for due.line.number due.line.request (handle_of due.line state.shared.handles);
      owner_is = refl;
      of_line = owner-line due.line.number due.line.request (handle_of due.line state.shared.handles);
      turn = ap (λ (o : Option Job). turn_of_job state.shared o answer lines) may.stands ∙ turn-line state.shared may.job answer lines of_line ∙ turn-begun state.shared n due.line (with_told told due.heard) lines stands;
    }

pub answers-line : (state : ClientState) (number position : ℕ) (answer : Brief) → IsAlive state → (may : MayDone state number position answer) → IsOfLine may.job.owner → AnswersLine state number position answer may.job
answers-line state number position answer alive may of_line =
    let out : may.job.phase ≡ Out may.from = may.is_out in
    answers-due state number position answer may of_line (owner-due state number may.job.line may.job alive may.stands of_line refl (λ gone. absurd (cc)))

-- a line that begins has heard nothing
pub record BeginsLine (state : ClientState) (n time : ℕ) : Type 0 where
  pub line : Line
  pub stands : line_at n state.lines ≡ stands_as line Waiting
  pub who : Owner
  pub owner_is : who ≡ owner_for line.number line.request (handle_of line state.shared.handles)
  pub of_line : IsOfLine who
  pub turn : turn_at state (Begin n time) ≡ TurnOf line who (next_of (view_of state.shared line) line.request nothing_heard)

pub begins-line : (state : ClientState) (n time : ℕ) → IsAlive state → is_among n (startable state.lines) ≡ true → BeginsLine state n time
begins-line state n time alive may =
    let found = startable-found 0 n [] state.lines (Rises-lines 0 state.lines alive.rising) may in
    let lines : List Standing = change_line n (λ phase. Begun nothing_heard) state.lines in
    let stands = line_at-same n (λ phase. Begun nothing_heard) state.lines (record { line = found.line; phase = Waiting }) found.stands in
    record {
      line = found.line;
      stands = found.stands;
      who = owner_for found.line.number found.line.request (handle_of found.line state.shared.handles);
      owner_is = refl;
      of_line = owner-line found.line.number found.line.request (handle_of found.line state.shared.handles);
      turn = turn-begun state.shared n found.line nothing_heard lines stands;
    }

-- it is the turn of a line
pub record IsOpened (state : ClientState) (event : Event) : Type 0 where
  pub n : ℕ
  pub line : Line
  pub number_is : line.number ≡ n
  pub heard : Heard
  pub old : Phase
  pub found : line_at n state.lines ≡ stands_as line old
  pub unanswered : (old ≡ Waiting) ⊎ ((before : Heard) × (old ≡ Begun before))
  pub goes : Phase → Phase
  pub lines_are : lines_at state.lines state.jobs event ≡ change_line n goes state.lines
  pub begins_own : begins n event + begun_in old ≡ 1
  pub begins_other : (m : ℕ) → (m ≡ n → ⊥) → begins m event ≡ 0
  pub calls : IsFaithful state → calls_left line.request heard ≤ may_ask old line.request
  pub hears : IsFaithful state → HasHeard line.request heard
  pub who : Owner
  pub owner_is : who ≡ owner_for line.number line.request (handle_of line state.shared.handles)
  pub of_line : IsOfLine who
  pub turn : turn_at state event ≡ TurnOf line who (next_of (view_of state.shared line) line.request heard)
  pub now : IsOpen n line heard (lines_at state.lines state.jobs event) (jobs_at state.jobs event)
  pub spent : IsFaithful state → total line_work (lines_at state.lines state.jobs event) + total job_work (jobs_at state.jobs event) + 3 ≤ total line_work state.lines + total job_work state.jobs
  pub keeps : (name : HandleName) → (awaits_writer line.request ≡ true → handle_name line ≡ name) → LinesKeep name state.lines (lines_at state.lines state.jobs event)
  pub same : (m : ℕ) → SameFor m state.jobs (jobs_at state.jobs event)
  pub ready : (kind : Call → ℕ) (m : ℕ) → calls_ready kind m (jobs_at state.jobs event) ≡ calls_ready kind m state.jobs
  pub same_length : length (jobs_at state.jobs event) ≡ length state.jobs
  pub beginning : awaits_writer line.request ≡ true → old ≡ Waiting

begin-turn : (state : ClientState) (n : ℕ) (line : Line) → IsAlive state → is_among n (startable state.lines) ≡ true → line_at n state.lines ≡ stands_as line Waiting → IsOpen n line nothing_heard (change_line n (λ phase. Begun nothing_heard) state.lines) state.jobs
begin-turn state n line alive may stands = record {
  rising = rw (lines-change n (λ phase. Begun nothing_heard) state.lines) alive.rising;
  numbered = alive.numbered;
  orderly = orderly-begun 0 n [] [] state.lines (Rises-lines 0 state.lines alive.rising) (Frees-same []) may alive.orderly;
  stands = line_at-same n (λ phase. Begun nothing_heard) state.lines (record { line = line; phase = Waiting }) stands;
  none = alive.balanced n ∙ ap jobs_wanted stands;
  balanced = λ m apart. alive.balanced m ∙ sym (ap jobs_wanted (line_at-other n m (λ phase. Begun nothing_heard) state.lines apart));
}

pub begin-opens : (state : ClientState) (n time : ℕ) → IsAlive state → is_among n (startable state.lines) ≡ true → IsOpened state (Begin n time)
begin-opens state n time alive may =
    let found = begins-line state n time alive may in
    let now = begin-turn state n found.line alive may found.stands in
    record {
      n = n;
      line = found.line;
      number_is = item_at-key number_of n state.lines (record { line = found.line; phase = Waiting }) found.stands;
      heard = nothing_heard;
      old = Waiting;
      found = found.stands;
      unanswered = inl refl;
      goes = λ phase. Begun nothing_heard;
      lines_are = refl;
      begins_own = let same : (n == n) ≡ true = eq-eqb n n refl in rw same refl;
      begins_other = λ m apart. let other : (n == m) ≡ false = ne_eqb n m (λ e. apart (sym e)) in rw other refl;
      calls = λ faithful. omega arith;
      hears = λ faithful. HeardNothing refl;
      who = found.who;
      owner_is = found.owner_is;
      of_line = found.of_line;
      turn = found.turn;
      now = now;
      spent = λ faithful. let less = begin-work 0 n found.line state.lines (Rises-lines 0 state.lines alive.rising) found.stands in omega arith;
      keeps = λ name awaited. keep-begun name n found.line state.lines found.stands awaited;
      same = λ m. same-jobs m state.jobs;
      ready = λ kind m. refl;
      same_length = refl;
      beginning = λ awaits. refl;
    }

done-turn : (state : ClientState) (number n from : ℕ) (job : Job) (told : Told) (due : IsDue n state.lines) → IsAlive state → job_at number state.jobs ≡ Some job → job.phase ≡ Out from → IsOfLine job.owner → job.line ≡ n → IsOpen n due.line (with_told told due.heard) (change_line n (heard told) state.lines) (change_job number Gone state.jobs)
done-turn state number n from job told due alive stands is_out of_line owns = record {
  rising = rw (lines-change n (heard told) state.lines) alive.rising;
  numbered = numbered-change 1 number Gone state.jobs alive.numbered;
  orderly = orderly-heard [] n told state.lines alive.orderly;
  stands = line_at-same n (heard told) state.lines (record { line = due.line; phase = Begun due.heard }) due.stands;
  none =
      let gone = live-gone 0 number n from state.jobs job (Rises-jobs 0 state.jobs alive.numbered) stands is_out in
      let same : (n == n) ≡ true = eq-eqb n n refl in
      let one : own_job n job ≡ 1 = of-line job.owner (if_line n job.line) of_line ∙ ap (if_line n) owns ∙ rw same refl in
      let all = alive.balanced n in
      let wanted : jobs_wanted (line_at n state.lines) ≡ 1 = ap jobs_wanted due.stands ∙ due.wants in
      omega arith;
  balanced = λ m apart.
      let gone = live-gone 0 number m from state.jobs job (Rises-jobs 0 state.jobs alive.numbered) stands is_out in
      let other : (n == m) ≡ false = ne_eqb n m (λ e. apart (sym e)) in
      let not_own : own_job m job ≡ 0 = of-line job.owner (if_line m job.line) of_line ∙ ap (if_line m) owns ∙ rw other refl in
      let all = alive.balanced m in
      let kept : jobs_wanted (line_at m (change_line n (heard told) state.lines)) ≡ jobs_wanted (line_at m state.lines) = ap jobs_wanted (line_at-other n m (heard told) state.lines apart) in
      omega arith;
}

-- a line's job counts for no writer, ready, out or gone
gone-same : (state : ClientState) (number from m : ℕ) (job : Job) → IsAlive state → job_at number state.jobs ≡ Some job → job.phase ≡ Out from → ((kind : Call → ℕ) → made_job kind m job ≡ 0) → SameFor m state.jobs (change_job number Gone state.jobs)
gone-same state number from m job alive stands is_out none = record {
  out = λ kind. let gone = out-gone 0 number from kind m state.jobs job (Rises-jobs 0 state.jobs alive.numbered) stands is_out in let zero_is = none kind in omega arith;
  made = λ kind. made-change number Gone kind m state.jobs;
  parts = parts-change number Gone m state.jobs;
}

pub done-opens : (state : ClientState) (number position : ℕ) (answer : Brief) → IsAlive state → (may : MayDone state number position answer) → IsOfLine may.job.owner → IsOpened state (Done number position answer)
done-opens state number position answer alive may of_line =
    let n : ℕ = may.job.line in
    let out : may.job.phase ≡ Out may.from = may.is_out in
    let mine = answers-line state number position answer alive may of_line in
    let due = mine.due in
    let told : Told = told_by (question_of may.job.call) answer in
    let now = done-turn state number n may.from may.job told due alive may.stands out of_line refl in
    let lines : List Standing = hears (job_at number state.jobs) answer state.lines in
    let falls : IsFaithful state → calls_left due.line.request (with_told told due.heard) < calls_left due.line.request due.heard = λ faithful. faithful.falls number may.job may.stands of_line (λ gone. absurd (cc)) (record { line = due.line; phase = Begun due.heard }) due.heard answer due.stands refl in
    record {
      n = n;
      line = due.line;
      number_is = item_at-key number_of n state.lines (record { line = due.line; phase = Begun due.heard }) due.stands;
      heard = with_told told due.heard;
      old = Begun due.heard;
      found = due.stands;
      unanswered = inr (due.heard, refl);
      goes = heard told;
      lines_are = mine.lines_are;
      begins_own = refl;
      begins_other = λ m apart. refl;
      calls = λ faithful. let fewer = falls faithful in omega arith;
      hears = λ faithful. HeardMore due.heard told refl (faithful.lists number may.job may.stands of_line (λ gone. absurd (cc)) (record { line = due.line; phase = Begun due.heard }) due.heard due.stands refl).2;
      who = mine.who;
      owner_is = mine.owner_is;
      of_line = mine.of_line;
      turn = mine.turn;
      now = subst (λ (t : List Standing). IsOpen n due.line (with_told told due.heard) t (change_job number Gone state.jobs)) (sym mine.lines_are) now;
      spent = λ faithful.
          let same : total line_work lines ≡ total line_work (change_line n (heard told) state.lines) = ap (total line_work) mine.lines_are in
          let lines_less = heard-work 0 n due.line due.heard told state.lines (Rises-lines 0 state.lines alive.rising) due.stands (falls faithful) in
          let jobs_less = gone-work 0 number may.from may.job state.jobs (Rises-jobs 0 state.jobs alive.numbered) may.stands out in
          omega arith;
      keeps = λ name awaited. subst (LinesKeep name state.lines) (sym mine.lines_are) (keep-heard n told state.lines name);
      same = λ m. gone-same state number may.from m may.job alive may.stands out (λ kind. line-made m may.job.owner (kind may.job.call) of_line);
      ready = λ kind m. ready-gone 0 number may.from kind m state.jobs may.job (Rises-jobs 0 state.jobs alive.numbered) may.stands out;
      same_length = length-change_job number Gone state.jobs;
      beginning = λ awaits. absurd (let none = one-no-wait due.line.request due.wants in cc);
    }

-- it is the turn of a writer, which has heard an answer
pub record IsHeard (state : ClientState) (event : Event) : Type 0 where
  pub name : HandleName
  pub before : Writer
  pub stands : table.get state.shared.handles name ≡ Some (Writing before)
  pub number : ℕ
  pub position : ℕ
  pub said : Brief
  pub event_is : event ≡ Done number position said
  pub may : MayDone state number position said
  pub owned : may.job.owner ≡ owner.Writer before.line
  pub called : Call
  pub called_is : called ≡ may.job.call
  pub turn : turn_at state event ≡ TurnOfWriter name (with_upload (hears_answer called said before.upload) before)
  pub lines_are : lines_at state.lines state.jobs event ≡ state.lines
  pub begins_none : (m : ℕ) → begins m event ≡ 0
  pub in_turn : IsInTurn before.line (hears_answer called said before.upload) (jobs_at state.jobs event)
  pub no_abort : calls_out is_abort before.line (jobs_at state.jobs event) ≡ 0
  pub only : OnlyFor before.line state.jobs (jobs_at state.jobs event)
  pub spent : total job_work (jobs_at state.jobs event) + 1 ≡ total job_work state.jobs
  pub left : calls_left_of (hears_answer called said before.upload) (tally before.line (jobs_at state.jobs event)) ≤ calls_left_of before.upload (tally before.line state.jobs)
  pub same_length : length (jobs_at state.jobs event) ≡ length state.jobs

-- a writer's job that is ready or out has its writer
pub live-writer : (state : ClientState) (number opened : ℕ) (job : Job) → IsAlive state → job_at number state.jobs ≡ Some job → job.owner ≡ owner.Writer opened → job.phase ≢ Gone → HasWriter (table.get state.shared.handles) opened
live-writer state number opened job alive stands owned live = alive.writers.owned opened (let some = out-one any_call number opened state.jobs job stands owned live in omega arith)

-- whose calls are of its kinds
pub live-kinds : (state : ClientState) (number : ℕ) (job : Job) (name : HandleName) (w : Writer) → IsWriter state.lines state.jobs name w → job_at number state.jobs ≡ Some job → job.owner ≡ owner.Writer w.line → job.phase ≢ Gone → kinds job.call ≡ 1
live-kinds state number job name w is stands owned live =
    let pending = is.pending in
    let four = is.tallied.pending in
    let none = out-kinds w.line state.jobs (omega arith) in
    let one = out-one is_other number w.line state.jobs job stands owned live in
    let most = kinds-most job.call in
    omega arith

-- the answer to a job that is another writer's, or a line's own
owned-jobs_of : (m : ℕ) (who : Owner) (line : ℕ) → (opened : ℕ) → who ≡ owner.Writer opened → if_of_line who (if_line m line) ≡ 0
owned-jobs_of m who line opened owned = ap (λ (o : Owner). if_of_line o (if_line m line)) owned

pub gone-jobs_of : (m n : ℕ) (phase : JobPhase) (jobs : List Job) → jobs_of m (change_job n phase jobs) ≡ jobs_of m jobs
gone-jobs_of m n phase [] = refl
gone-jobs_of m n phase (job ∷ jobs) = go (job.number == n) (gone-jobs_of m n phase jobs)
  where
    go : (b : Bool) → jobs_of m (change_job n phase jobs) ≡ jobs_of m jobs → jobs_of m (cond b (in_phase phase job) job ∷ change_job n phase jobs) ≡ jobs_of m (job ∷ jobs)
    go true e = omega arith
    go false e = omega arith

pub hears-opens : (state : ClientState) (number position opened : ℕ) (answer : Brief) → IsAlive state → (may : MayDone state number position answer) → may.job.owner ≡ owner.Writer opened → IsHeard state (Done number position answer)
hears-opens state number position opened answer alive may owned_by_line =
    let out : may.job.phase ≡ Out may.from = may.is_out in
    let live : may.job.phase ≢ Gone = λ gone. absurd (cc) in
    let found = live-writer state number opened may.job alive may.stands owned_by_line live in
    let before : Writer = found.writer in
    let is = alive.writers.each found.name before found.stands in
    let owned : may.job.owner ≡ owner.Writer before.line = owned_by_line ∙ ap owner.Writer (sym found.opened_by) in
    let called : Call = may.job.call in
    let behind : List Job = change_job number Gone state.jobs in
    let rises = Rises-jobs 0 state.jobs alive.numbered in
    let one = live-kinds state number may.job found.name before is may.stands owned live in
    let made : (kind : Call → ℕ) → made_job kind before.line may.job ≡ kind called = λ kind. ap (λ (o : Owner). if_writer before.line o (kind called)) owned ∙ if_writer-own before.line (kind called) in
    let gone : (kind : Call → ℕ) → calls_out kind before.line behind + kind called ≡ calls_out kind before.line state.jobs = λ kind. (let back = out-gone 0 number may.from kind before.line state.jobs may.job rises may.stands out in let count = made kind in omega arith) in
    let kept : (kind : Call → ℕ) → calls_made kind before.line behind ≡ calls_made kind before.line state.jobs = λ kind. made-change number Gone kind before.line state.jobs in
    let backs : BacksCall called (tally before.line state.jobs) (tally before.line behind) = record { creates_made = kept is_create; parts_made = kept is_part; completes_made = kept is_complete; aborts_made = kept is_abort; creates_out = gone is_create; parts_out = gone is_part; completes_out = gone is_complete; aborts_out = gone is_abort } in
    let lines_are : lines_at state.lines state.jobs (Done number position answer) ≡ state.lines = ap (λ (o : Option Job). hears o answer state.lines) may.stands ∙ hears-writer may.job answer state.lines opened owned_by_line in
    let opener_name = opens-name is.opener.request is.opens in
    let handle : handle_of is.opener state.shared.handles ≡ Some (Writing before) = handle-at is.opener opener_name.0 state.shared.handles opener_name.1 ∙ ap (table.get state.shared.handles) is.named ∙ found.stands in
    let line_is : line_at opened (lines_at state.lines state.jobs (Done number position answer)) ≡ stands_as is.opener Replied = ap (line_at opened) lines_are ∙ ap (λ (k : ℕ). line_at k state.lines) (sym found.opened_by) ∙ is.stands in
    let turn_writer : turn_of_writer state.shared called answer (line_at opened (lines_at state.lines state.jobs (Done number position answer))) ≡ TurnOfWriter found.name (with_upload (hears_answer called answer before.upload) before) = ap (turn_of_writer state.shared called answer) line_is ∙ ap (turn_of_handle (handle_name is.opener) called answer) handle ∙ ap (λ (q : HandleName). TurnOfWriter q (with_upload (hears_answer called answer before.upload) before)) is.named in
    let all_out = gone any_call in
    record {
      name = found.name;
      before = before;
      stands = found.stands;
      number = number;
      position = position;
      said = answer;
      event_is = refl;
      may = may;
      owned = owned;
      called = called;
      called_is = refl;
      turn = ap (λ (o : Option Job). turn_of_job state.shared o answer (lines_at state.lines state.jobs (Done number position answer))) may.stands ∙ turn-writer state.shared may.job answer (lines_at state.lines state.jobs (Done number position answer)) opened owned_by_line ∙ turn_writer;
      lines_are = lines_are;
      begins_none = λ m. refl;
      in_turn = record {
        numbers = numbered-change 1 number Gone state.jobs alive.numbered;
        upload = upload-hears called answer before.upload is.upload;
        tallied = hears-tallied called answer before.upload (tally before.line state.jobs) (tally before.line behind) one is.tallied backs;
        pending = let pending = is.pending in let heard_one = pending-hears called answer before.upload in omega arith;
        once = once-kept before.line state.jobs behind kept (parts-change number Gone before.line state.jobs) (alive.writers.once before.line);
      };
      no_abort = back-no-abort before.upload (tally before.line state.jobs) (tally before.line behind) called one is.tallied backs;
      only = record {
        live = λ m.
            let back = live-gone 0 number m may.from state.jobs may.job rises may.stands out in
            let none = owned-jobs_of m may.job.owner may.job.line before.line owned in
            omega arith;
        of_lines = λ m. gone-jobs_of m number Gone state.jobs;
        out = λ kind m apart.
            let back = out-gone 0 number may.from kind m state.jobs may.job rises may.stands out in
            let none : made_job kind m may.job ≡ 0 = ap (λ (o : Owner). if_writer m o (kind called)) owned ∙ if_writer-other m before.line (kind called) apart in
            omega arith;
        ready = λ kind m apart. ready-gone 0 number may.from kind m state.jobs may.job rises may.stands out;
        made = λ kind m apart. made-change number Gone kind m state.jobs;
        parts = λ m apart. parts-change number Gone m state.jobs;
      };
      spent = gone-work 0 number may.from may.job state.jobs rises may.stands out;
      left =
          let fewer = shrinks-left before.upload (hears_answer called answer before.upload) (tally before.line behind) (shrinks-hears called answer before.upload) in
          let c = kept is_create in
          let k = kept is_complete in
          let a = kept is_abort in
          omega arith;
      same_length = length-change_job number Gone state.jobs;
    }

-- before a line's turn nobody waits for the writer that it names
pub no-waiter : (state : ClientState) (event : Event) (opened : IsOpened state event) (name : HandleName) (w : Writer) → IsAlive state → table.get state.shared.handles name ≡ Some (Writing w) → handle_name opened.line ≡ name → (number : ℕ) → waiting_line w.waiter ≡ Some number → ⊥
no-waiter state event opened name w alive live named number waits = go (alive.writers.each name w live).waits
  where
    lines : List Standing
    lines = lines_at state.lines state.jobs event

    go : ((number : ℕ) → waiting_line w.waiter ≡ Some number → IsWaiting state.lines name number) → ⊥
    go all =
        let waiting = all number waits in
        let apart : opened.n ≢ number = λ e.
        let both = phases-apart (line_at number state.lines) opened.line waiting.line opened.old (Begun waiting.heard) (ap (λ (k : ℕ). line_at k state.lines) (sym e) ∙ opened.found) waiting.stands in
        let begins_now : opened.old ≡ Waiting = opened.beginning (ap (λ (l : Line). awaits_writer l.request) both.0 ∙ waiting.awaits) in
        let clash : Waiting ≡ Begun waiting.heard = sym begins_now ∙ both.1 in
        cc in
        let here : line_at number lines ≡ stands_as waiting.line (Begun waiting.heard) = ap (line_at number) opened.lines_are ∙ line_at-other opened.n number opened.goes state.lines (λ e. apart (sym e)) ∙ waiting.stands in
        let actors = orderly-apart [] opened.n number lines (record { line = opened.line; phase = Begun opened.heard }) (record { line = waiting.line; phase = Begun waiting.heard }) opened.heard waiting.heard apart opened.now.orderly opened.now.stands refl here refl in
        actors (sym (name-actor opened.line) ∙ ap (λ (q : HandleName). q.0) (named ∙ sym waiting.named) ∙ name-actor waiting.line)
