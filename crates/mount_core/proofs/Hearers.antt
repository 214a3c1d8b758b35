-- Who has its turn behind an event, and what it may do, by the laws of runs.
use Rattle.std.proofs.Common.{◌≡◌, ◌≢◌, ℕ, ◌+◌, ◌<◌, ◌≤◌, List, length, Some, IsSome, refl, sym, ap, ◌∙◌, subst, arith}
use Rattle.std.specs.FinMap as table
use Rattle.bucket_model.specs.declared.call.Call.{Call}
use Rattle.bucket_model.specs.declared.call.Call.TheVariants as call
use Rattle.bucket_model.specs.declared.answer.Brief.{Brief}
use Rattle.upload_rules.specs.declared.upload.UpState.{UpState}
use Rattle.upload_rules.specs.declared.upload.UpState.TheVariants as state
use Rattle.upload_rules.specs.declared.upload.Created.{Created}
use Rattle.upload_rules.specs.declared.upload.Created.TheVariants as created
use Rattle.upload_rules.specs.Upload.{Upload}
use Rattle.mount_model.specs.declared.handle.Handle.TheVariants.{Writing}
use Rattle.mount_model.specs.declared.request.Request.{Request}
use Rattle.mount_model.specs.declared.request.Line.{Line}
use Rattle.mount_model.specs.declared.event.Event.{Event}
use Rattle.mount_model.specs.declared.event.Event.TheVariants.{Done}
use Rattle.mount_model.specs.declared.event.Owner.{Owner}
use Rattle.mount_model.specs.declared.event.Owner.TheVariants as owner
use Rattle.mount_model.specs.declared.standing.Heard.{Heard}
use Rattle.mount_model.specs.declared.standing.Phase.TheVariants.{Begun, Replied}
use Rattle.mount_model.specs.declared.standing.Standing.{Standing}
use Rattle.mount_model.specs.declared.standing.Told.{Told}
use Rattle.mount_model.specs.Heard.{question_of, told_by}
use Rattle.mount_model.specs.Writers.{is_under_way}
use Rattle.mount_model.specs.Handles.{Writer, handle_of}
use Rattle.mount_model.specs.State.{ClientState, Job, Shared, Out, Gone, line_at, change_line, heard, hears, lines_at, jobs_at, handle_name, turn_at, turn_of_line, turn_of_job, turn_of_writer}
use Rattle.mount_model.specs.Conversation.{Next, Asks, Replies, Makes, Removes, Opens, Creates, Lists, Gives, Writes, Ends, Waits, View, next_of}
use Rattle.mount_model.specs.Run.{MayDone}
use Rattle.job_table.specs.LiveJobs.{held_of, ready_of_writer, purpose_of}
use Rattle.job_table.specs.declared.purpose.Purpose.TheVariants as purpose
use Rattle.job_table.proofs.AllJobs.{ready_of_writer-held_of}
use Rattle.run_laws.specs.Alive.{IsAlive, jobs_at_once}
use Rattle.run_laws.specs.Counts.{any_call, is_create, is_part, is_complete, made_job, calls_out, calls_ready, if_writer}
use Rattle.run_laws.specs.Served.{IsOfLine}
use Rattle.run_laws.specs.Uploads.{Tally, IsTalliedIn, IsGoing, IsSpent, IsBroken, if_awaited}
use Rattle.run_laws.specs.Writers.{tally}
use Rattle.run_laws.proofs.Conversation.{only_await_waits, one-no-await, one-no-wait, ends-so, opens-name}
use Rattle.run_laws.proofs.Dropped.{drops-count}
use Rattle.run_laws.proofs.Handles.{handle-at}
use Rattle.run_laws.proofs.Jobs.{Rises-jobs, ready-out, out-one, out-gone, if_writer-own}
use Rattle.run_laws.proofs.Opened.{IsOpened, IsDue, owner-due, no-waiter, live-writer}
use Rattle.name_laws.specs.Files.{HasFiles}
use Rattle.mount_core.specs.declared.work.Work.{Work}
use Rattle.mount_core.specs.Shared.{shared_in}
use Rattle.mount_core.specs.Turn.{NamedMayTurn, Speaks}
use Rattle.mount_core.specs.Writing.{MayHear}
use Rattle.mount_core.proofs.Writers.{named-holds}

-- a writer has no more jobs ready than calls out
few-ready : (line : ℕ) (jobs : List Job) → length (ready_of_writer line (held_of jobs)) ≤ calls_out any_call line jobs
few-ready line jobs =
    let count : length (ready_of_writer line (held_of jobs)) ≡ calls_ready any_call line jobs = ap length (ready_of_writer-held_of line jobs) ∙ drops-count line jobs in
    let most = ready-out any_call line jobs in
    omega arith

-- the writer that a line names may have its turn
pub named_may : (state : ClientState) (event : Event) (opened : IsOpened state event) (work : Work) → IsAlive state → HasFiles (table.get state.shared.handles) state.shared.names → work.jobs.held ≡ held_of (jobs_at state.jobs event) → ((s : Standing) → line_at opened.n work.lines ≡ Some s → s.line ≡ opened.line) → shared_in work ≡ state.shared → NamedMayTurn opened.n work
named_may state event opened work alive files held line_is seen s w stands holds =
    let line : Line = opened.line in
    let handles : work.handles ≡ state.shared.handles = ap (λ (t : Shared). t.handles) seen in
    let names : work.names ≡ state.shared.names = ap (λ (t : Shared). t.names) seen in
    let held_by : handle_of line state.shared.handles ≡ Some (Writing w) = ap (handle_of line) (sym handles) ∙ ap (λ (l : Line). handle_of l work.handles) (sym (line_is s stands)) ∙ holds in
    let live : table.get state.shared.handles (handle_name line) ≡ Some (Writing w) = named-holds line state.shared.handles (Writing w) held_by in
    let writer = alive.writers.each (handle_name line) w live in
    record {
      at_work =
          let count : length (ready_of_writer w.line work.jobs.held) ≡ calls_ready any_call w.line (jobs_at state.jobs event) = ap (λ h. length (ready_of_writer w.line h)) held ∙ ap length (ready_of_writer-held_of w.line (jobs_at state.jobs event)) ∙ drops-count w.line (jobs_at state.jobs event) in
          let ready = opened.ready any_call w.line in
          let most = ready-out any_call w.line state.jobs in
          let pending = writer.pending in
          omega arith;
      unwaited = no-waiter state event opened (handle_name line) w alive live refl;
      named = λ is_open. subst (λ n. IsSome (table.get n.files w.key)) (sym names) (subst IsSome (sym (files.each (handle_name line) w live (ap is_under_way is_open))) refl);
    }

-- the answer to a line's own job
pub record HearsLine (state : ClientState) (n position : ℕ) (answer : Brief) (job : Job) : Type 0 where
  pub due : IsDue job.line state.lines
  pub lines : lines_at state.lines state.jobs (Done n position answer) ≡ change_line job.line (heard (told_by (question_of job.call) answer)) state.lines
  pub turn : turn_at state (Done n position answer) ≡ turn_of_line state.shared (line_at job.line (change_line job.line (heard (told_by (question_of job.call) answer)) state.lines))

abbrev owned_by : Owner → Job → Job
owned_by who job = record { number = job.number; owner = who; line = job.line; call = job.call; phase = job.phase }

pub hears_line : (state : ClientState) (n position : ℕ) (answer : Brief) → IsAlive state → (may : MayDone state n position answer) → IsOfLine may.job.owner → HearsLine state n position answer may.job
hears_line state n position answer alive may of_line =
    let told : Told = told_by (question_of may.job.call) answer in
    let live : may.job.phase ≢ Gone = λ gone. absurd (let e : Out may.from ≡ Gone = sym may.is_out ∙ gone in cc) in
    let lines : lines_at state.lines state.jobs (Done n position answer) ≡ change_line may.job.line (heard told) state.lines = ap (λ o. hears o answer state.lines) may.stands ∙ heard_by may.job.owner of_line in
    record {
      due = owner-due state n may.job.line may.job alive may.stands of_line refl live;
      lines = lines;
      turn = ap (λ o. turn_of_job state.shared o answer (lines_at state.lines state.jobs (Done n position answer))) may.stands ∙ turn_by may.job.owner (lines_at state.lines state.jobs (Done n position answer)) of_line ∙ ap (λ l. turn_of_line state.shared (line_at may.job.line l)) lines;
    }
  where
    heard_by : (who : Owner) → IsOfLine who → hears (Some (owned_by who may.job)) answer state.lines ≡ change_line may.job.line (heard (told_by (question_of may.job.call) answer)) state.lines
    heard_by (owner.Writer opened) own = absurd own
    heard_by (owner.Line line) own = refl
    heard_by (owner.Stream line) own = refl

    turn_by : (who : Owner) (lines : List Standing) → IsOfLine who → turn_of_job state.shared (Some (owned_by who may.job)) answer lines ≡ turn_of_line state.shared (line_at may.job.line lines)
    turn_by (owner.Writer opened) lines own = absurd own
    turn_by (owner.Line line) lines own = refl
    turn_by (owner.Stream line) lines own = refl

-- behind it the line waits neither for others nor for a writer
pub heard-speaks : (view : View) (r : Request) (before : Heard) → jobs_at_once r ≡ 1 → Speaks (next_of view r before)
heard-speaks view r before one = go (next_of view r before) refl
  where
    go : (next : Next) → next_of view r before ≡ next → Speaks next
    go Waits is = one-no-await r one (only_await_waits view r before is)
    go (Ends w) is = let so = ends-so view r before w is in let awaits = so.awaits in let none = one-no-wait r one in absurd (cc)
    go (Asks called) is = tt
    go (Replies said) is = tt
    go (Makes key) is = tt
    go (Removes key) is = tt
    go (Opens version) is = tt
    go (Creates key) is = tt
    go (Lists entries) is = tt
    go (Gives count) is = tt
    go (Writes count w) is = tt

-- the answer to a writer's job
turn-written : (state : ClientState) (n position opened : ℕ) (answer : Brief) → (may : MayDone state n position answer) → may.job.owner ≡ owner.Writer opened → turn_at state (Done n position answer) ≡ turn_of_writer state.shared may.job.call answer (line_at opened state.lines)
turn-written state n position opened answer may owned =
    ap (λ o. turn_of_job state.shared o answer (hears o answer state.lines)) may.stands
    ∙ ap (λ who. turn_of_job state.shared (Some (owned_by who may.job)) answer (hears (Some (owned_by who may.job)) answer state.lines)) owned

lines-written : (state : ClientState) (n position opened : ℕ) (answer : Brief) → (may : MayDone state n position answer) → may.job.owner ≡ owner.Writer opened → lines_at state.lines state.jobs (Done n position answer) ≡ state.lines
lines-written state n position opened answer may owned =
    ap (λ o. hears o answer state.lines) may.stands
    ∙ ap (λ who. hears (Some (owned_by who may.job)) answer state.lines) owned

create-counts : (called : Call) → purpose_of called ≡ purpose.Create → is_create called ≡ 1
create-counts (call.Create key) is = refl
create-counts (call.Head key) is = absurd (cc)
create-counts (call.Probe key) is = absurd (cc)
create-counts (call.List prefix after max) is = absurd (cc)
create-counts (call.Get key etag from to) is = absurd (cc)
create-counts (call.Delete key) is = absurd (cc)
create-counts (call.Put key bytes) is = absurd (cc)
create-counts (call.Part upload number bytes) is = absurd (cc)
create-counts (call.Complete upload parts) is = absurd (cc)
create-counts (call.Abort upload) is = absurd (cc)

part-counts : (called : Call) → purpose_of called ≡ purpose.Part → is_part called ≡ 1
part-counts (call.Part upload number bytes) is = refl
part-counts (call.Head key) is = absurd (cc)
part-counts (call.Probe key) is = absurd (cc)
part-counts (call.List prefix after max) is = absurd (cc)
part-counts (call.Get key etag from to) is = absurd (cc)
part-counts (call.Delete key) is = absurd (cc)
part-counts (call.Put key bytes) is = absurd (cc)
part-counts (call.Create key) is = absurd (cc)
part-counts (call.Complete upload parts) is = absurd (cc)
part-counts (call.Abort upload) is = absurd (cc)

complete-counts : (called : Call) → purpose_of called ≡ purpose.Complete → is_complete called ≡ 1
complete-counts (call.Complete upload parts) is = refl
complete-counts (call.Head key) is = absurd (cc)
complete-counts (call.Probe key) is = absurd (cc)
complete-counts (call.List prefix after max) is = absurd (cc)
complete-counts (call.Get key etag from to) is = absurd (cc)
complete-counts (call.Delete key) is = absurd (cc)
complete-counts (call.Put key bytes) is = absurd (cc)
complete-counts (call.Create key) is = absurd (cc)
complete-counts (call.Part upload number bytes) is = absurd (cc)
complete-counts (call.Abort upload) is = absurd (cc)

awaited : (c : Created) → 1 ≤ if_awaited c → c ≡ created.Asked
awaited created.Asked some = refl
awaited created.NotAsked some = absurd (omega arith)
awaited (created.Known upload) some = absurd (omega arith)
awaited created.GivenUp some = absurd (omega arith)

-- an upload hears of its create while it is asked for, of a part while one isn't stored, and of its object while it has all its bytes

create-out : (s : UpState) (u : Upload) (t : Tally) → IsTalliedIn s u t → u.pending ≡ t.creates_out + t.parts_out + t.completes_out + t.aborts_out → 1 ≤ t.creates_out → u.created ≡ created.Asked
create-out state.Open u t by_state pending out = awaited u.created (let going : IsGoing u t = by_state.0 in omega arith)
create-out state.Finished u t by_state pending out = awaited u.created (let going : IsGoing u t = by_state.0 in omega arith)
create-out state.Done u t by_state pending out = absurd (let spent : IsSpent u t = by_state in omega arith)
create-out (state.Failed errno) u t by_state pending out = absurd (let broken : IsBroken u t = by_state in omega arith)

part-out : (s : UpState) (u : Upload) (t : Tally) → IsTalliedIn s u t → u.pending ≡ t.creates_out + t.parts_out + t.completes_out + t.aborts_out → 1 ≤ t.parts_out → u.stored < u.asked
part-out state.Open u t by_state pending out = let going : IsGoing u t = by_state.0 in omega arith
part-out state.Finished u t by_state pending out = let going : IsGoing u t = by_state.0 in omega arith
part-out state.Done u t by_state pending out = absurd (let spent : IsSpent u t = by_state in omega arith)
part-out (state.Failed errno) u t by_state pending out = let broken : IsBroken u t = by_state in omega arith

complete-out : (s : UpState) (u : Upload) (t : Tally) → IsTalliedIn s u t → u.pending ≡ t.creates_out + t.parts_out + t.completes_out + t.aborts_out → 1 ≤ t.completes_out → s ≡ state.Finished
complete-out state.Open u t by_state pending out = absurd (let going : IsGoing u t = by_state.0 in let none = by_state.1 in omega arith)
complete-out state.Finished u t by_state pending out = refl
complete-out state.Done u t by_state pending out = absurd (let spent : IsSpent u t = by_state in omega arith)
complete-out (state.Failed errno) u t by_state pending out = absurd (let broken : IsBroken u t = by_state in omega arith)

pub record HearsWriter (state : ClientState) (n position opened : ℕ) (answer : Brief) (called : Call) (work : Work) : Type 0 where
  pub may : MayHear opened (purpose_of called) work
  pub lines : lines_at state.lines state.jobs (Done n position answer) ≡ state.lines
  pub turn : turn_at state (Done n position answer) ≡ turn_of_writer state.shared called answer (line_at opened state.lines)

pub hears_writer : (state : ClientState) (n position opened : ℕ) (answer : Brief) (work : Work) → IsAlive state → (may : MayDone state n position answer) → may.job.owner ≡ owner.Writer opened → work.jobs.held ≡ held_of (jobs_at state.jobs (Done n position answer)) → work.lines ≡ state.lines → shared_in work ≡ state.shared → HearsWriter state n position opened answer may.job.call work
hears_writer state n position opened answer work alive may owned held lines seen =
    let live : may.job.phase ≢ Gone = λ gone. absurd (let e : Out may.from ≡ Gone = sym may.is_out ∙ gone in cc) in
    let found = live-writer state n opened may.job alive may.stands owned live in
    let w : Writer = found.writer in
    let is = alive.writers.each found.name w found.stands in
    let own : may.job.owner ≡ owner.Writer w.line = owned ∙ ap owner.Writer (sym found.opened_by) in
    let opener = opens-name is.opener.request is.opens in
    let handle : handle_of is.opener state.shared.handles ≡ Some (Writing w) = handle-at is.opener opener.0 state.shared.handles opener.1 ∙ ap (table.get state.shared.handles) is.named ∙ found.stands in
    let four = is.tallied.pending in
    let out : (kind : Call → ℕ) → kind may.job.call ≤ calls_out kind w.line state.jobs = λ kind. out-one kind n w.line state.jobs may.job may.stands own live in
    record {
      may = record {
        standing = record { line = is.opener; phase = Replied };
        stands = ap (line_at opened) lines ∙ ap (λ k. line_at k state.lines) (sym found.opened_by) ∙ is.stands;
        writer = w;
        holds = ap (λ (t : Shared). handle_of is.opener t.handles) seen ∙ handle;
        back = record {
          out = let one = out any_call in let pending = is.pending in omega arith;
          create = λ asks. create-out w.upload.state w.upload (tally w.line state.jobs) is.tallied.by_state four (let one = out is_create in let counts = create-counts may.job.call asks in omega arith);
          part = λ asks. part-out w.upload.state w.upload (tally w.line state.jobs) is.tallied.by_state four (let one = out is_part in let counts = part-counts may.job.call asks in omega arith);
          complete = λ asks. complete-out w.upload.state w.upload (tally w.line state.jobs) is.tallied.by_state four (let one = out is_complete in let counts = complete-counts may.job.call asks in omega arith);
        };
        at_work =
            let few = few-ready w.line (jobs_at state.jobs (Done n position answer)) in
            let same : length (ready_of_writer w.line work.jobs.held) ≡ length (ready_of_writer w.line (held_of (jobs_at state.jobs (Done n position answer)))) = ap (λ h. length (ready_of_writer w.line h)) held in
            let gone = out-gone 0 n may.from any_call w.line state.jobs may.job (Rises-jobs 0 state.jobs alive.numbered) may.stands may.is_out in
            let made : made_job any_call w.line may.job ≡ 1 = ap (λ (o : Owner). if_writer w.line o 1) own ∙ if_writer-own w.line 1 in
            let pending = is.pending in
            omega arith;
        waited = λ number waits. let waiting = is.waits number waits in record { standing = record { line = waiting.line; phase = Begun waiting.heard }; stands = ap (line_at number) lines ∙ waiting.stands; heard = waiting.heard; phase = refl };
      };
      lines = lines-written state n position opened answer may owned;
      turn = turn-written state n position opened answer may owned;
    }
