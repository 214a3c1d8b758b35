-- Each call that a job makes may be made.
use Rattle.std.proofs.Common.{◌≡◌, ℕ, ◌+◌, List, [], ◌∷◌, ◌++◌, fold, length, cond, Bool, true, false, ◌==◌, Some, sym, ap, ◌∙◌, subst, append-nil}
use Rattle.std.specs.List.{AllByRecursion}
use Rattle.mp_types.specs.declared.options.Opts.{Opts}
use Rattle.mp_types.specs.Options.{AreWithin}
use Rattle.mp_types.specs.HandleName.{HandleName}
use Rattle.bucket_model.specs.Along.{Along}
use Rattle.bucket_model.specs.Answers.{MayBeMade}
use Rattle.mount_model.specs.declared.request.Line.{Line}
use Rattle.mount_model.specs.declared.event.Event.{Event}
use Rattle.mount_model.specs.declared.event.Event.TheVariants.{Begin, Take, Done}
use Rattle.mount_model.specs.declared.event.Ask.{Ask}
use Rattle.mount_model.specs.declared.event.Answered.{Answered}
use Rattle.mount_model.specs.Step.{Step}
use Rattle.mount_model.specs.Handles.{Writer}
use Rattle.mount_model.specs.Conversation.{Next}
use Rattle.mount_model.specs.State.{ClientState, Job, JobPhase, Out, Gone, job_at, change_job, in_phase, jobs_at, view_of, handle_name, jobs_of_writer, jobs_of_line, jobs_after, opening, after, state_after}
use Rattle.mount_model.specs.Run.{AreRising, TakesTurnOfWriter, IsLegalStep, IsRunSoFar}
use Rattle.run_laws.specs.Alive.{IsAlive}
use Rattle.run_laws.proofs.Keyed.{all-append, all-found}
use Rattle.run_laws.proofs.Jobs.{job_number}
use Rattle.run_laws.proofs.Dropped.{drop_one}
use Rattle.run_laws.proofs.Conversation.{asks_made, writes-so, ends-so}
use Rattle.run_laws.proofs.Turn.{Ending, AsksOne, RepliesOne, WritesOn, EndsIt, Rests, line_job}
use Rattle.run_laws.proofs.Opened.{IsOpened}
use Rattle.run_laws.proofs.Steps.{next_now, heard_now, StepIs, LineStep, WriterStep, TakeStep, step-is, IsReadyFor, heard-ready, ends-ready, writes-ready}
use Rattle.run_laws.proofs.Alive.{turned, quiet-jobs, asks-jobs, jobs_behind, stepped, alive-step, opening-alive}

-- all jobs so far, those that are gone too
abbrev AllMade : List Job → Type 0
AllMade jobs = AllByRecursion (λ (job : Job). MayBeMade job.call) jobs

-- no change of a job's phase changes its call
made-change : (n : ℕ) (phase : JobPhase) (jobs : List Job) → AllMade jobs → AllMade (change_job n phase jobs)
made-change n phase [] all = tt
made-change n phase (job ∷ jobs) all = (go (job.number == n), made-change n phase jobs all.1)
  where
    go : (b : Bool) → MayBeMade (cond b (in_phase phase job) job).call
    go true = all.0
    go false = all.0

made-event : (jobs : List Job) (event : Event) → AllMade jobs → AllMade (jobs_at jobs event)
made-event jobs (Begin line time) all = all
made-event jobs (Take number time from) all = made-change number (Out from) jobs all
made-event jobs (Done number position answer) all = made-change number Gone jobs all

made-turned : (state : ClientState) (step : Step) (name : HandleName) (w : Writer) (more : ℕ) (own : List Answered) → IsReadyFor state step.event name w more → TakesTurnOfWriter state step w own → jobs_behind state step ≡ fold drop_one (jobs_at state.jobs step.event ++ jobs_of_writer step w) step.drops → AllMade state.jobs → AllMade (jobs_behind state step)
made-turned state step name w more own ready takes jobs_are all = subst AllMade (sym jobs_are) ((turned state step name w more own ready takes).made (made-event state.jobs step.event all))

made-line : (state : ClientState) (step : Step) (own : List Answered) (opened : IsOpened state step.event) → IsAlive state → AreWithin state.shared.options → Ending state step opened.line opened.who (next_now state step.event opened) own → AllMade state.jobs → AllMade (jobs_behind state step)
made-line state step own opened alive within ended all = go ended
  where
    quiet : step.asks ≡ [] → step.drops ≡ [] → AllMade (jobs_behind state step)
    quiet no_asks no_drops = subst AllMade (sym (quiet-jobs state step opened no_asks no_drops)) (made-event state.jobs step.event all)

    go : Ending state step opened.line opened.who (next_now state step.event opened) own → AllMade (jobs_behind state step)
    go (AsksOne called is asks none no_drops) =
        let may = asks_made (view_of state.shared opened.line) opened.line.request opened.heard called within is in
        subst AllMade (sym (asks-jobs state step opened called is asks no_drops)) (all-append (λ (job : Job). MayBeMade job.call) (jobs_at state.jobs step.event) (line_job (length state.jobs + 1) opened.who opened.n called ∷ []) (made-event state.jobs step.event all) (may, tt))
    go (RepliesOne said says no_asks one no_drops) = quiet no_asks no_drops
    go (WritesOn count w answers is takes one) =
        let so = writes-so (view_of state.shared opened.line) opened.line.request opened.heard count w is in
        made-turned state step (handle_name opened.line) w (length so.bytes) answers (writes-ready state step.event opened count w alive so) takes (ap (jobs_after state.jobs step) opened.turn ∙ ap (λ (x : Next). fold drop_one (jobs_at state.jobs step.event ++ jobs_of_line step opened.line x) step.drops) is) all
    go (EndsIt w is takes) =
        let so = ends-so (view_of state.shared opened.line) opened.line.request opened.heard w is in
        made-turned state step (handle_name opened.line) w 0 own (ends-ready state step.event opened w alive so) takes (ap (jobs_after state.jobs step) opened.turn ∙ ap (λ (x : Next). fold drop_one (jobs_at state.jobs step.event ++ jobs_of_line step opened.line x) step.drops) is) all
    go (Rests is no_asks none no_drops) = quiet no_asks no_drops

made-taken : (state : ClientState) (event : Event) (drops : List ℕ) (asks : List Ask) (replies : List Answered) (number time from : ℕ) → event ≡ Take number time from → drops ≡ [] → AllMade state.jobs → AllMade (jobs_behind state (record { event = event; drops = drops; asks = asks; replies = replies }))
made-taken state event drops asks replies number time from is no_drops all =
    let jobs : List Job = change_job number (Out from) state.jobs in
    let here : jobs_behind state (record { event = event; drops = drops; asks = asks; replies = replies }) ≡ jobs = ap (λ (e : Event). jobs_behind state (record { event = e; drops = drops; asks = asks; replies = replies })) is ∙ ap (fold drop_one (jobs ++ [])) no_drops ∙ append-nil jobs in
    subst AllMade (sym here) (made-change number (Out from) state.jobs all)

made-step : (state : ClientState) (step : Step) → IsAlive state → AreWithin state.shared.options → IsLegalStep state step → AllMade state.jobs → AllMade (jobs_behind state step)
made-step state step alive within legal all = go (step-is state step alive legal)
  where
    go : StepIs state step legal.own → AllMade (jobs_behind state step)
    go (LineStep opened ended) = made-line state step legal.own opened alive within ended all
    go (WriterStep heard takes) = made-turned state step heard.name (heard_now state step.event heard) 0 legal.own (heard-ready state step.event alive heard) takes (ap (jobs_after state.jobs step) heard.turn) all
    go (TakeStep number time from is found no_asks no_own no_drops) = made-taken state step.event step.drops step.asks step.replies number time from is no_drops all

made-steps : (state : ClientState) (steps : List Step) → IsAlive state → AreWithin state.shared.options → AllMade state.jobs → Along IsLegalStep after state steps → AllMade (fold after state steps).jobs
made-steps state [] alive within all run = all
made-steps state (step ∷ steps) alive within all run = made-steps (after state step) steps (alive-step state step alive run.0) (subst AreWithin (sym (stepped state step alive run.0).options) within) (made-step state step alive within run.0 all) run.1

pub calls_made : (options : Opts) (script : List Line) (steps : List Step) (number : ℕ) (job : Job) → AreWithin options → AreRising 0 script → IsRunSoFar options script steps → job_at number (state_after options script steps).jobs ≡ Some job → MayBeMade job.call
calls_made options script steps number job within rising run stands = all-found job_number (λ (j : Job). MayBeMade j.call) number (state_after options script steps).jobs job (made-steps (opening options script) steps (opening-alive options script within rising) within tt run) stands
