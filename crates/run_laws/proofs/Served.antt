-- Live jobs belong to lines that wait for them, one to one, or to writers.
use Rattle.std.proofs.Common.{◌≡◌, ◌≢◌, ℕ, zero, suc, ◌<◌, ◌≤◌, List, [], ◌∷◌, Bool, true, false, ◌==◌, if◌then◌else◌, Option, Some, None, refl, sym, ap, ◌∙◌, arith, eqb-true}
use Rattle.std.proofs.lemmas.Bool.{eqb-false}
use Rattle.std.specs.FinMap as table
use Rattle.mp_types.specs.HandleName.{HandleName}
use Rattle.mp_types.specs.declared.options.Opts.{Opts}
use Rattle.mp_types.specs.Options.{AreWithin}
use Rattle.bucket_model.specs.declared.call.Call.{Call}
use Rattle.bucket_model.specs.declared.call.Call.TheVariants as call
use Rattle.mount_model.specs.declared.event.Owner.{Owner}
use Rattle.mount_model.specs.declared.event.Owner.TheVariants as owner
use Rattle.mount_model.specs.declared.handle.Handle.TheVariants.{Writing}
use Rattle.mount_model.specs.declared.handle.Waiter.TheVariants as waiter
use Rattle.mount_model.specs.declared.request.Request.{Request}
use Rattle.mount_model.specs.declared.request.Request.TheVariants.{Await}
use Rattle.mount_model.specs.declared.request.Line.{Line}
use Rattle.mount_model.specs.declared.standing.Heard.{Heard}
use Rattle.mount_model.specs.declared.standing.Phase.{Phase}
use Rattle.mount_model.specs.declared.standing.Phase.TheVariants.{Begun}
use Rattle.mount_model.specs.declared.standing.Standing.{Standing}
use Rattle.mount_model.specs.Step.{Step}
use Rattle.mount_model.specs.Handles.{Writer}
use Rattle.mount_model.specs.Writers.{has_failed}
use Rattle.mount_model.specs.State.{ClientState, Job, JobPhase, Ready, Out, Gone, line_at, job_at, handle_name, state_after}
use Rattle.mount_model.specs.Run.{AreRising, IsRunSoFar}
use Rattle.run_laws.specs.Counts.{if_live, if_line, any_call, is_abort, is_no_abort}
use Rattle.run_laws.specs.Alive.{live_job, live_jobs, if_of_line, if_begun, jobs_at_once, jobs_wanted, IsAlive}
use Rattle.run_laws.specs.Served.{IsOfLine, IsOwned, HasJob}
use Rattle.run_laws.specs.Writers.{awaits_writer, waiting_line, IsWriter, HasReply, WaitsForWriter, AsksOnce}
use Rattle.run_laws.proofs.Keyed.{Rises, item_at-first, item_at-later, total-two}
use Rattle.run_laws.proofs.Jobs.{job_number, Rises-jobs, made-one, ready-one}
use Rattle.run_laws.proofs.Writers.{writers-apart}
use Rattle.run_laws.proofs.Conversation.{one-no-wait, one-no-await}
use Rattle.run_laws.proofs.Opened.{owner-due, live-own, at-most}
use Rattle.run_laws.proofs.Alive.{alive}
use Rattle.run_laws.proofs.Quiet.{Kind, IsAwait, AwaitsWriter, HasOwn, kind-of}

-- a live job's line has begun, and waits neither for lines nor for a writer

pub served : (state : ClientState) (number : ℕ) (job : Job) → IsAlive state → job_at number state.jobs ≡ Some job → IsOfLine job.owner → job.phase ≢ Gone → IsOwned state job
served state number job alive stands of_line live =
    let due = owner-due state number job.line job alive stands of_line refl live in
    record { standing = record { line = due.line; phase = Begun due.heard }; stands = due.stands; heard = due.heard; begun = refl; no_await = one-no-await due.line.request due.wants; no_writer = one-no-wait due.line.request due.wants }

-- no two live jobs have one line

wanted-phase : (phase : Phase) (count : ℕ) → count ≤ 1 → if_begun phase count ≤ 1
wanted-phase (Begun heard) count h = h
wanted-phase other count h = omega arith

wanted-most : (o : Option Standing) → jobs_wanted o ≤ 1
wanted-most None = omega arith
wanted-most (Some s) = wanted-phase s.phase (jobs_at_once s.line.request) (at-most s.line.request)

pub one_job : (state : ClientState) (i j n : ℕ) (first second : Job) → IsAlive state → job_at i state.jobs ≡ Some first → job_at j state.jobs ≡ Some second → IsOfLine first.owner → IsOfLine second.owner → first.phase ≢ Gone → second.phase ≢ Gone → first.line ≡ n → second.line ≡ n → i ≡ j
one_job state i j n first second alive at_i at_j of_line other_of_line live other_live owned other_owned = go (i == j) refl
  where
    go : (b : Bool) → (i == j) ≡ b → i ≡ j
    go true is = eqb-true i j is
    go false is =
        let both = total-two job_number (live_job n) i j state.jobs first second (eqb-false i j is) at_i at_j in
        let one = live-own n first of_line owned live in
        let other = live-own n second other_of_line other_owned other_live in
        let all = alive.balanced n in
        let most = wanted-most (line_at n state.lines) in
        absurd (omega arith)

-- a line that has begun and waits neither for lines nor for a writer has a live job

record HasLive (n : ℕ) (jobs : List Job) : Type 0 where
  number : ℕ
  job : Job
  stands : job_at number jobs ≡ Some job
  of_line : IsOfLine job.owner
  owned : job.line ≡ n
  live : job.phase ≢ Gone

owned-by : (n m : ℕ) → 1 ≤ if_line n m → m ≡ n
owned-by n m h = go (m == n) refl h
  where
    go : (b : Bool) → (m == n) ≡ b → 1 ≤ (if b then 1 else 0) → m ≡ n
    go true is h = eqb-true m n is
    go false is h = absurd (omega arith)

-- what counts for a line is its own
counted-owner : (who : Owner) (count : ℕ) → 1 ≤ if_of_line who count → IsOfLine who
counted-owner (owner.Writer opened) count h = absurd (omega arith)
counted-owner other count h = tt

counted-line : (who : Owner) (count : ℕ) → 1 ≤ if_of_line who count → 1 ≤ count
counted-line (owner.Writer opened) count h = absurd (omega arith)
counted-line other count h = h

counted-live : (phase : JobPhase) (count : ℕ) → 1 ≤ if_live phase count → (phase ≢ Gone)
counted-live Gone count h = absurd (omega arith)
counted-live Ready count h = λ e. absurd (cc)
counted-live (Out from) count h = λ e. absurd (cc)

counted-count : (phase : JobPhase) (count : ℕ) → 1 ≤ if_live phase count → 1 ≤ count
counted-count Gone count h = absurd (omega arith)
counted-count other count h = h

live-found : (above n : ℕ) (jobs : List Job) → Rises job_number above jobs → 1 ≤ live_jobs n jobs → HasLive n jobs
live-found above n [] r h = absurd (omega arith)
live-found above n (job ∷ jobs) r h = go (live_job n job) refl (live-found job.number n jobs r.1)
  where
    go : (w : ℕ) → live_job n job ≡ w → (1 ≤ live_jobs n jobs → HasLive n jobs) → HasLive n (job ∷ jobs)
    go zero is ih = let found = ih (omega arith) in record { number = found.number; job = found.job; stands = item_at-later job_number above found.number job jobs found.job r found.stands; of_line = found.of_line; owned = found.owned; live = found.live }
    go (suc w) is ih =
        let some : 1 ≤ live_job n job = omega arith in
        let counts = counted-count job.phase (if_of_line job.owner (if_line n job.line)) some in
        record {
          number = job.number;
          job = job;
          stands = item_at-first job_number job jobs;
          of_line = counted-owner job.owner (if_line n job.line) counts;
          owned = owned-by n job.line (counted-line job.owner (if_line n job.line) counts);
          live = counted-live job.phase (if_of_line job.owner (if_line n job.line)) some;
        }

working-request : (request : Request) → request ≢ Await → awaits_writer request ≡ false → jobs_at_once request ≡ 1
working-request request other unawaited = go (kind-of request)
  where
    go : Kind request → jobs_at_once request ≡ 1
    go (IsAwait is) = absurd (other is)
    go (AwaitsWriter awaits) = absurd (cc)
    go (HasOwn one) = one

pub working : (state : ClientState) (n : ℕ) (s : Standing) (heard : Heard) → IsAlive state → line_at n state.lines ≡ Some s → s.phase ≡ Begun heard → s.line.request ≢ Await → awaits_writer s.line.request ≡ false → HasJob state n
working state n s heard alive stands begun other unawaited =
    let wanted : jobs_wanted (line_at n state.lines) ≡ 1 = ap jobs_wanted stands ∙ ap (λ (p : Phase). if_begun p (jobs_at_once s.line.request)) begun ∙ working-request s.line.request other unawaited in
    let all = alive.balanced n in
    let found = live-found 0 n state.jobs (Rises-jobs 0 state.jobs alive.numbered) (omega arith) in
    record { number = found.number; job = found.job; stands = found.stands; of_line = found.of_line; owned = found.owned; live = found.live }

-- writers and their jobs

pub writer_is : (state : ClientState) (name : HandleName) (w : Writer) → IsAlive state → table.get state.shared.handles name ≡ Some (Writing w) → IsWriter state.lines state.jobs name w
writer_is state name w alive stands = alive.writers.each name w stands

pub one_name : (state : ClientState) (name other : HandleName) (w v : Writer) → IsAlive state → table.get state.shared.handles name ≡ Some (Writing w) → table.get state.shared.handles other ≡ Some (Writing v) → w.line ≡ v.line → name ≡ other
one_name state name other w v alive stands other_stands same = writers-apart state.lines state.jobs name other w v (alive.writers.each name w stands) (alive.writers.each other v other_stands) same

pub opener_replied : (state : ClientState) (number opened : ℕ) (job : Job) → IsAlive state → job_at number state.jobs ≡ Some job → job.owner ≡ owner.Writer opened → HasReply state.lines opened
opener_replied state number opened job alive stands owned = alive.writers.opened opened (let some = made-one any_call number opened state.jobs job stands owned in omega arith)

-- somebody who waits has a call to wait for
pub waits_busy : (state : ClientState) (name : HandleName) (w : Writer) (number : ℕ) → IsAlive state → table.get state.shared.handles name ≡ Some (Writing w) → waiting_line w.waiter ≡ Some number → 0 < w.upload.pending
waits_busy state name w number alive stands waits = (alive.at_work name w stands).busy number waits

-- where nobody waits, no fsync or close of the handle stands begun
pub nobody_waits : (state : ClientState) (name : HandleName) (w : Writer) (number : ℕ) (line : Line) (heard : Heard) → IsAlive state → table.get state.shared.handles name ≡ Some (Writing w) → w.waiter ≡ waiter.Nobody → line_at number state.lines ≡ Some (record { line = line; phase = Begun heard }) → awaits_writer line.request ≡ true → handle_name line ≢ name
nobody_waits state name w number line heard alive stands nobody begun awaits named =
    let waits = alive.writers.waited number line heard begun awaits in
    let both : Some (Writing w) ≡ Some (Writing waits.writer) = sym stands ∙ ap (table.get state.shared.handles) (sym named) ∙ waits.stands in
    let same : w ≡ waits.writer = cc in
    let clash : Some number ≡ None = sym waits.waits ∙ ap (λ (x : Writer). waiting_line x.waiter) (sym same) ∙ ap waiting_line nobody in
    cc

-- a failed writer's ready job is an abort
only-abort : (called : Call) → is_no_abort called ≤ 0 → is_abort called ≡ 1
only-abort (call.Abort id) h = refl
only-abort other h = absurd (omega arith)

pub ready_aborts : (state : ClientState) (name : HandleName) (w : Writer) (number : ℕ) (job : Job) → IsAlive state → table.get state.shared.handles name ≡ Some (Writing w) → has_failed w.upload ≡ true → job_at number state.jobs ≡ Some job → job.owner ≡ owner.Writer w.line → job.phase ≡ Ready → is_abort job.call ≡ 1
ready_aborts state name w number job alive stands failed there owned is_ready =
    let none = (alive.at_work name w stands).idle failed in
    let one = ready-one is_no_abort number w.line state.jobs job there owned is_ready in
    only-abort job.call (omega arith)

pub line_waits : (state : ClientState) (number : ℕ) (line : Line) (heard : Heard) → IsAlive state → line_at number state.lines ≡ Some (record { line = line; phase = Begun heard }) → awaits_writer line.request ≡ true → WaitsForWriter (table.get state.shared.handles) number line
line_waits state number line heard alive begun awaits = alive.writers.waited number line heard begun awaits

pub asks_once : (options : Opts) (script : List Line) (steps : List Step) (opened : ℕ) → AreWithin options → AreRising 0 script → IsRunSoFar options script steps → AsksOnce opened (state_after options script steps).jobs
asks_once options script steps opened within rising run = (alive options script steps within rising run).writers.once opened
