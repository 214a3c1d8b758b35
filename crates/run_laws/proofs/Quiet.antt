-- Where no line may begin and no job is left, each line has its reply.
use Rattle.std.proofs.Common.{◌≡◌, ℕ, List, [], ◌∷◌, true, Some, refl, sym, ap, ◌∙◌, arith}
use Rattle.std.specs.List.{AllByRecursion}
use Rattle.mp_types.specs.declared.options.Opts.{Opts}
use Rattle.mp_types.specs.Options.{AreWithin}
use Rattle.bucket_model.specs.declared.call.Call.{Call}
use Rattle.mount_model.specs.declared.request.Request.{Request}
use Rattle.mount_model.specs.declared.request.Request.TheVariants.{Await, Sync, Close}
use Rattle.mount_model.specs.declared.request.Line.{Line}
use Rattle.mount_model.specs.declared.standing.Heard.{Heard}
use Rattle.mount_model.specs.declared.standing.Phase.{Phase}
use Rattle.mount_model.specs.declared.standing.Phase.TheVariants.{Waiting, Begun, Replied}
use Rattle.mount_model.specs.declared.standing.Standing.{Standing}
use Rattle.mount_model.specs.Step.{Step}
use Rattle.mount_model.specs.State.{ClientState, Job, JobPhase, Gone, line_at, handle_name, state_after}
use Rattle.mount_model.specs.Run.{startable_from, startable, due_awaits, AreRising, IsRunSoFar, IsQuiet}
use Rattle.run_laws.specs.Counts.{if_live, any_call, made_job, out_job, calls_out}
use Rattle.run_laws.specs.Alive.{live_job, live_jobs, jobs_at_once, jobs_wanted, IsAlive}
use Rattle.run_laws.specs.Writers.{awaits_writer}
use Rattle.run_laws.proofs.Lines.{Rises-lines, each-line}
use Rattle.run_laws.proofs.Jobs.{own_job}
use Rattle.run_laws.proofs.Writers.{stands_as}
use Rattle.run_laws.proofs.Settled.{answered-due}
use Rattle.run_laws.proofs.Alive.{alive}

no-live : (n : ℕ) (jobs : List Job) → AllByRecursion (λ job. job.phase ≡ Gone) jobs → live_jobs n jobs ≡ 0
no-live n [] gone = refl
no-live n (job ∷ jobs) gone =
    let first : live_job n job ≡ 0 = ap (λ (p : JobPhase). if_live p (own_job n job)) gone.0 in
    let more = no-live n jobs gone.1 in
    omega arith

none-out : (kind : Call → ℕ) (opened : ℕ) (jobs : List Job) → AllByRecursion (λ job. job.phase ≡ Gone) jobs → calls_out kind opened jobs ≡ 0
none-out kind opened [] gone = refl
none-out kind opened (job ∷ jobs) gone =
    let first : out_job kind opened job ≡ 0 = ap (λ (p : JobPhase). if_live p (made_job kind opened job)) gone.0 in
    let more = none-out kind opened jobs gone.1 in
    omega arith

-- a request is an await, awaits a writer, or has a job of its own
pub data Kind (request : Request) : Type 0 where
  IsAwait : request ≡ Await → Kind request
  AwaitsWriter : awaits_writer request ≡ true → Kind request
  HasOwn : jobs_at_once request ≡ 1 → Kind request

pub kind-of : (request : Request) → Kind request
kind-of Await = IsAwait refl
kind-of (Sync name) = AwaitsWriter refl
kind-of (Close name) = AwaitsWriter refl
kind-of other = HasOwn refl

-- a line that has begun, wants no job and awaits no writer is an await, and due at the head
begun-await : (line : Line) (heard : Heard) → jobs_wanted (stands_as line (Begun heard)) ≡ 0 → (awaits_writer line.request ≡ true → ⊥) → line.request ≡ Await
begun-await line heard none unawaited = go (kind-of line.request)
  where
    go : Kind line.request → line.request ≡ Await
    go (IsAwait is) = is
    go (AwaitsWriter awaits) = absurd (unawaited awaits)
    go (HasOwn one) = absurd (omega arith)

-- the lines have no job to wait for, and no writer
abbrev IsIdle : Standing → Type 0
IsIdle s = (jobs_wanted (Some s) ≡ 0) × ((heard : Heard) → s.phase ≡ Begun heard → awaits_writer s.line.request ≡ true → ⊥)

answered-cons : (line : Line) (phase : Phase) (lines : List Standing) → IsIdle (record { line = line; phase = phase }) → due_awaits (record { line = line; phase = phase } ∷ lines) ≡ [] → startable_from [] (record { line = line; phase = phase } ∷ lines) ≡ [] → (due_awaits lines ≡ [] → startable_from [] lines ≡ [] → AllByRecursion (λ s. s.phase ≡ Replied) lines) → AllByRecursion (λ s. s.phase ≡ Replied) (record { line = line; phase = phase } ∷ lines)
answered-cons line Waiting lines idle due start ih = absurd (cc)
answered-cons line (Begun heard) lines idle due start ih =
    let awaits = begun-await line heard idle.0 (idle.1 heard refl) in
    absurd (answered-due (record { line = line; phase = Begun heard }) lines heard refl awaits due)
answered-cons line Replied lines idle due start ih = (refl, ih due start)

answered : (lines : List Standing) → AllByRecursion IsIdle lines → due_awaits lines ≡ [] → startable_from [] lines ≡ [] → AllByRecursion (λ s. s.phase ≡ Replied) lines
answered [] idle due start = tt
answered (s ∷ lines) idle due start = answered-cons s.line s.phase lines idle.0 due start (answered lines idle.1)

pub quiet : (state : ClientState) → IsAlive state → startable state.lines ≡ [] → AllByRecursion (λ job. job.phase ≡ Gone) state.jobs → IsQuiet state
quiet state alive start gone =
    let idle : (n : ℕ) (s : Standing) → line_at n state.lines ≡ Some s → IsIdle s = λ n s e. (
      ap jobs_wanted (sym e) ∙ sym (alive.balanced n) ∙ no-live n state.jobs gone,
      λ heard begun awaits.
          let waits = alive.writers.waited n s.line heard (e ∙ ap (λ (p : Phase). stands_as s.line p) begun) awaits in
          let busy = (alive.at_work (handle_name s.line) waits.writer waits.stands).busy n waits.waits in
          let pending = (alive.writers.each (handle_name s.line) waits.writer waits.stands).pending in
          let none = none-out any_call waits.writer.line state.jobs gone in
          absurd (omega arith),
    ) in
    record {
      answered = answered state.lines (each-line IsIdle 0 state.lines (Rises-lines 0 state.lines alive.rising) idle) alive.no_due start;
      gone = gone;
    }

pub no_reply_lost : (options : Opts) (script : List Line) (steps : List Step) → AreWithin options → AreRising 0 script → IsRunSoFar options script steps → startable (state_after options script steps).lines ≡ [] → AllByRecursion (λ job. job.phase ≡ Gone) (state_after options script steps).jobs → IsQuiet (state_after options script steps)
no_reply_lost options script steps within rising run start gone = quiet (state_after options script steps) (alive options script steps within rising run) start gone
