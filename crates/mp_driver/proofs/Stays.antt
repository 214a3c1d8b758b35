-- A job that is out stays so in a step, whatever the step drops.
use Rattle.std.proofs.Common.{◌≡◌, ℕ, ◌+◌, Bool, true, false, cond, ◌==◌, if◌then◌else◌, List, [], ◌∷◌, ◌++◌, length, drop, fold, Some, inl, inr, refl, sym, ap, ◌∙◌, subst, append_assoc}
use Rattle.std.proofs.lemmas.List.Folds.{find-append}
use Rattle.mount_model.specs.declared.event.Ask.{Ask}
use Rattle.mount_model.specs.declared.event.Answered.{Answered}
use Rattle.mount_model.specs.declared.event.Owner.{Owner}
use Rattle.mount_model.specs.declared.request.Line.{Line}
use Rattle.mount_model.specs.Step.{Step}
use Rattle.mount_model.specs.Conversation.{Next, Asks, Replies, Makes, Removes, Opens, Creates, Lists, Gives, Writes, Ends, Waits}
use Rattle.mount_model.specs.Handles.{Writer}
use Rattle.mount_model.specs.Writers.{Asking, first_asks, has_failed, asking_for}
use Rattle.upload_rules.specs.declared.upload.UpAsk.TheVariants.{Abort}
use Rattle.mount_model.specs.State.{ClientState, Job, JobPhase, Ready, Out, Gone, Turn, TurnOf, TurnOfWriter, NoTurn, after, job_at, jobs_at, change_job, in_phase, is_ready_for, ready_for, jobs_made, jobs_asked, jobs_of_line, jobs_of_writer, calls_in, calls_of, gives_up, behind_asks, behind_drops, turn_at, AreNumbered}
use Rattle.mount_model.specs.Run.{IsLegalStep, TakesTurn, TakesTurnOfLine, TakesTurnOfWriter, jobs_called}
use Rattle.run_laws.specs.Alive.{IsAlive}
use Rattle.run_laws.proofs.Alive.{alive-step}
use Rattle.run_laws.proofs.Jobs.{Rises-jobs}
use Rattle.run_laws.proofs.Dropped.{drop_one, if_dropped, dropped, dropped-is}
use Rattle.write_laws.proofs.Found.{found-front}

-- what a step drops: nothing, or the ready jobs of a writer, also the first of those that the step asks for
pub data Drops (jobs asked : List Job) (drops : List ℕ) : Type 0 where
  NoDrops : drops ≡ [] → Drops jobs asked drops
  DropsOf : (opened : ℕ) (first more : List Job) → asked ≡ first ++ more → drops ≡ ready_for opened (jobs ++ first) → Drops jobs asked drops

made-front : (line : ℕ) (asks : List Ask) (xs ys : List Asking) → jobs_made line asks (calls_of (xs ++ ys)) ≡ jobs_made line asks (calls_of xs) ++ jobs_made line (drop (length xs) asks) (calls_of ys)
made-front line [] [] ys = refl
made-front line (ask ∷ asks) [] ys = refl
made-front line [] (x ∷ xs) ys = refl
made-front line (ask ∷ asks) (x ∷ xs) ys = ap (λ (t : List Job). record { number = ask.job; owner = ask.owner; line = line; call = x.call; phase = Ready } ∷ t) (made-front line asks xs ys)

writer-drops : (state : ClientState) (step : Step) (writer : Writer) (own : List Answered) → TakesTurnOfWriter state step writer own → Drops (jobs_at state.jobs step.event) (jobs_of_writer step writer) step.drops
writer-drops state step writer own takes = by_failure (has_failed (behind_asks (calls_in step.asks) writer.upload)) takes.drops
  where
    last : List Asking
    last = if gives_up step.asks then asking_for writer.key (behind_drops (calls_in step.asks) (length step.drops) writer.upload) Abort ∷ [] else []

    by_failure : (b : Bool) → step.drops ≡ (if b then ready_for writer.line (jobs_at state.jobs step.event ++ jobs_called step writer) else []) → Drops (jobs_at state.jobs step.event) (jobs_of_writer step writer) step.drops
    by_failure true is = DropsOf writer.line (jobs_called step writer) _ (made-front writer.line step.asks (first_asks (calls_in step.asks) writer.key writer.upload) last) is
    by_failure false is = NoDrops is

line-drops : (state : ClientState) (step : Step) (line : Line) (who : Owner) (next : Next) (own : List Answered) → TakesTurnOfLine state step line who next own → Drops (jobs_at state.jobs step.event) (jobs_of_line step line next) step.drops
line-drops state step line who (Asks called) own (inl asks) = NoDrops asks.2
line-drops state step line who (Asks called) own (inr lacks) = NoDrops lacks.2
line-drops state step line who (Replies said) own says = NoDrops says.2
line-drops state step line who (Makes key) own (inl says) = NoDrops says.2
line-drops state step line who (Makes key) own (inr lacks) = NoDrops lacks.2
line-drops state step line who (Removes key) own says = NoDrops says.2
line-drops state step line who (Opens version) own (inl says) = NoDrops says.2
line-drops state step line who (Opens version) own (inr lacks) = NoDrops lacks.2
line-drops state step line who (Lists entries) own (inl says) = NoDrops says.2
line-drops state step line who (Lists entries) own (inr lacks) = NoDrops lacks.2
line-drops state step line who (Creates key) own (inl says) = NoDrops says.2
line-drops state step line who (Creates key) own (inr lacks) = NoDrops lacks.2
line-drops state step line who (Gives count) own gives = NoDrops gives.2.2
line-drops state step line who (Writes count writer) own (inl writes) = writer-drops state step writer writes.0 writes.1
line-drops state step line who (Writes count writer) own (inr lacks) = NoDrops lacks.2
line-drops state step line who (Ends writer) own takes = writer-drops state step writer own takes
line-drops state step line who Waits own idle = NoDrops idle.2

turn-drops : (state : ClientState) (step : Step) (turn : Turn) (own : List Answered) → TakesTurn state step turn own → Drops (jobs_at state.jobs step.event) (jobs_asked step turn) step.drops
turn-drops state step (TurnOf line who next) own takes = line-drops state step line who next own takes
turn-drops state step (TurnOfWriter name writer) own takes = writer-drops state step writer own takes
turn-drops state step NoTurn own idle = NoDrops idle.2

-- numbers are as they were before drops

numbered-before : (number n : ℕ) (phase : JobPhase) (jobs : List Job) → AreNumbered number (change_job n phase jobs) → AreNumbered number jobs
numbered-before number n phase [] r = tt
numbered-before number n phase (job ∷ jobs) r = (go (job.number == n) r.0, numbered-before (number + 1) n phase jobs r.1)
  where
    go : (b : Bool) → (if b then in_phase phase job else job).number ≡ number → job.number ≡ number
    go true is = is
    go false is = is

numbered-undropped : (number : ℕ) (jobs : List Job) (drops : List ℕ) → AreNumbered number (fold drop_one jobs drops) → AreNumbered number jobs
numbered-undropped number jobs [] r = r
numbered-undropped number jobs (n ∷ drops) r = numbered-before number n Gone jobs (numbered-undropped number (drop_one jobs n) drops r)

-- a job that is out is not dropped

kept-one : (opened n from : ℕ) (job : Job) → job.phase ≡ Out from → if_dropped opened job ≡ job
kept-one opened n from job is = let unready : is_ready_for opened job ≡ false = rw is refl in rw unready refl

same-number : (opened : ℕ) (job : Job) → (if_dropped opened job).number ≡ job.number
same-number opened job = go (is_ready_for opened job)
  where
    go : (b : Bool) → (if b then in_phase Gone job else job).number ≡ job.number
    go true = refl
    go false = refl

kept : (opened n from : ℕ) (jobs : List Job) (job : Job) → job_at n jobs ≡ Some job → job.phase ≡ Out from → job_at n (dropped opened jobs) ≡ Some job
kept opened n from [] job is out = absurd (cc)
kept opened n from (first ∷ jobs) job is out = go (first.number == n) refl is (kept opened n from jobs job)
  where
    number : ((if_dropped opened first).number == n) ≡ (first.number == n)
    number = ap (λ (k : ℕ). k == n) (same-number opened first)

    go : (b : Bool) → (first.number == n) ≡ b → cond b (Some first) (job_at n jobs) ≡ Some job → (job_at n jobs ≡ Some job → job.phase ≡ Out from → job_at n (dropped opened jobs) ≡ Some job) → job_at n (dropped opened (first ∷ jobs)) ≡ Some job
    go true e is ih =
        let same : first ≡ job = cc in
        ap (λ (t : Bool). cond t (Some (if_dropped opened first)) (job_at n (dropped opened jobs))) (number ∙ e) ∙ ap Some (kept-one opened n from first (ap (λ (j : Job). j.phase) same ∙ out) ∙ same)
    go false e is ih = ap (λ (t : Bool). cond t (Some (if_dropped opened first)) (job_at n (dropped opened jobs))) (number ∙ e) ∙ ih is out

stays-drops : (n from : ℕ) (jobs asked : List Job) (drops : List ℕ) (job : Job) → AreNumbered 1 (jobs ++ asked) → Drops jobs asked drops → job_at n jobs ≡ Some job → job.phase ≡ Out from → job_at n (fold drop_one (jobs ++ asked) drops) ≡ Some job
stays-drops n from jobs asked drops job numbered (NoDrops none) is out = ap (λ (d : List ℕ). job_at n (fold drop_one (jobs ++ asked) d)) none ∙ found-front n jobs asked job is
stays-drops n from jobs asked drops job numbered (DropsOf opened first more asked_is drops_are) is out =
    let whole : jobs ++ asked ≡ (jobs ++ first) ++ more = ap (λ (a : List Job). jobs ++ a) asked_is ∙ sym (append_assoc jobs first more) in
    let left : fold drop_one (jobs ++ asked) drops ≡ dropped opened (jobs ++ first) ++ more =
    ap (fold drop_one (jobs ++ asked)) drops_are
    ∙ ap (λ (all : List Job). fold drop_one all (ready_for opened (jobs ++ first))) whole
    ∙ dropped-is 0 opened (jobs ++ first) more (Rises-jobs 0 ((jobs ++ first) ++ more) (subst (AreNumbered 1) whole numbered)) in
    ap (job_at n) left ∙ found-front n (dropped opened (jobs ++ first)) more job (kept opened n from (jobs ++ first) job (found-front n jobs first job is) out)

pub out_stays : (state : ClientState) (step : Step) (n from : ℕ) (job : Job) → IsAlive state → IsLegalStep state step → job_at n (jobs_at state.jobs step.event) ≡ Some job → job.phase ≡ Out from → job_at n (after state step).jobs ≡ Some job
out_stays state step n from job alive legal is out =
    let numbered = numbered-undropped 1 (jobs_at state.jobs step.event ++ jobs_asked step (turn_at state step.event)) step.drops (alive-step state step alive legal).numbered in
    stays-drops n from (jobs_at state.jobs step.event) (jobs_asked step (turn_at state step.event)) step.drops job numbered (turn-drops state step (turn_at state step.event) legal.own legal.turn) is out
