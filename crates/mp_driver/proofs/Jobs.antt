-- Jobs that are looked up, taken and done, and those that are out.
use Rattle.std.proofs.Common.{◌≡◌, ◌≢◌, ℕ, zero, suc, Bool, true, false, ◌||◌, ◌==◌, List, [], ◌∷◌, ◌++◌, fold, Some, refl, sym, ◌∙◌, subst, inl, inr, ◌⊎◌, eq-eqb, eqb-true}
use Rattle.std.specs.List.{slice_get, AllByRecursion}
use Rattle.std.proofs.lemmas.List.Folds.{find-append}
use Rattle.bucket_model.specs.declared.call.Call.{Call}
use Rattle.mount_model.specs.declared.event.Ask.{Ask}
use Rattle.mount_model.specs.declared.request.Line.{Line}
use Rattle.mount_model.specs.Step.{Step}
use Rattle.mount_model.specs.Conversation.{Next, Asks, Replies, Makes, Removes, Opens, Creates, Lists, Gives, Writes, Ends, Waits}
use Rattle.mount_model.specs.State.{Job, JobPhase, Ready, Out, Gone, Turn, TurnOf, TurnOfWriter, NoTurn, job_at, jobs_at, jobs_after, change_job, in_phase, jobs_made, jobs_asked, jobs_of_line, calls_of, askings_of}
use Rattle.mount_model.specs.Run.{is_among, ready}
use Rattle.run_laws.proofs.Keyed.{change_at-same, change_at-other, all-append}
use Rattle.run_laws.proofs.Jobs.{job_number}
use Rattle.run_laws.proofs.Dropped.{drop_one}
use Rattle.mp_driver.specs.declared.held.HeldAnswer.{HeldAnswer}
use Rattle.mp_driver.specs.Held.{IsWith}
use Rattle.mp_driver.proofs.Between.{KnowsPhase, IsKnown}

-- looking up

pub job_at-change : (n : ℕ) (p : JobPhase) (jobs : List Job) (j : Job) → job_at n jobs ≡ Some j → job_at n (change_job n p jobs) ≡ Some (in_phase p j)
job_at-change n p jobs j is = change_at-same job_number (in_phase p) (λ job. refl) n jobs j is

pub job_at-other : (n m : ℕ) (p : JobPhase) (jobs : List Job) → m ≢ n → job_at m (change_job n p jobs) ≡ job_at m jobs
job_at-other n m p jobs other = change_at-other job_number (in_phase p) (λ job. refl) n m jobs other

-- a job that may be taken stands
abbrev pub Stands : ℕ → List Job → Type 0
Stands n jobs = (j : Job) × (job_at n jobs ≡ Some j)

ready_stands-cons : (n : ℕ) (i : Job) (jobs : List Job) → Stands n jobs → Stands n (i ∷ jobs)
ready_stands-cons n i jobs there = at_one (i.number == n) refl
  where
    at_one : (b : Bool) → (i.number == n) ≡ b → Stands n (i ∷ jobs)
    at_one true e = (i, rw e refl)
    at_one false e = (there.0, rw e there.1)

pub ready_stands : (n : ℕ) (jobs : List Job) → is_among n (ready jobs) ≡ true → Stands n jobs
ready_stands n [] h = absurd (cc)
ready_stands n (i ∷ jobs) h = by_phase i.phase refl h (ready_stands n jobs)
  where
    or_cases : (b c : Bool) → (b || c) ≡ true → (b ≡ true) ⊎ (c ≡ true)
    or_cases true c h = inl refl
    or_cases false c h = inr h

    by_phase : (p : JobPhase) → i.phase ≡ p → is_among n (ready (i ∷ jobs)) ≡ true → (is_among n (ready jobs) ≡ true → Stands n jobs) → Stands n (i ∷ jobs)
    by_phase Ready e h below =
        let split : ((i.number == n) || is_among n (ready jobs)) ≡ true = rw e at h in
        elim (or_cases (i.number == n) (is_among n (ready jobs)) split) [
          | inl here ↦ (i, rw here refl)
          | inr there ↦ ready_stands-cons n i jobs (below there)
        ]
    by_phase (Out from) e h below = let there : is_among n (ready jobs) ≡ true = rw e at h in ready_stands-cons n i jobs (below there)
    by_phase Gone e h below = let there : is_among n (ready jobs) ≡ true = rw e at h in ready_stands-cons n i jobs (below there)

-- one of a list is among it
pub is_among-place : (n i : ℕ) (xs : List ℕ) → Some n ≡ slice_get xs i → is_among n xs ≡ true
is_among-place n i [] h = absurd (cc)
is_among-place n zero (x ∷ xs) h = let is : x ≡ n = cc in let e : (x == n) ≡ true = eq-eqb x n is in rw e refl
is_among-place n (suc i) (x ∷ xs) h = or_later (x == n) (is_among n xs) (is_among-place n i xs h)
  where
    or_later : (b c : Bool) → c ≡ true → (b || c) ≡ true
    or_later true c h = refl
    or_later false c h = h

-- jobs that are out have their answers held

known-change : (P Q : List HeldAnswer) (n : ℕ) (p : JobPhase) (jobs : List Job) → ((number : ℕ) (phase : JobPhase) → number ≢ n → KnowsPhase P number phase → KnowsPhase Q number phase) → KnowsPhase Q n p → AllByRecursion (IsKnown P) jobs → AllByRecursion (IsKnown Q) (change_job n p jobs)
known-change P Q n p [] others own known = tt
known-change P Q n p (job ∷ jobs) others own known = at_one (job.number == n) refl (known-change P Q n p jobs others own known.1)
  where
    at_one : (b : Bool) → (job.number == n) ≡ b → AllByRecursion (IsKnown Q) (change_job n p jobs) → AllByRecursion (IsKnown Q) (change_job n p (job ∷ jobs))
    at_one true e below = rw e (subst (λ (k : ℕ). KnowsPhase Q k p) (sym (eqb-true job.number n e)) own, below)
    at_one false e below = rw e (others job.number job.phase (λ is. let same : (job.number == n) ≡ true = eq-eqb job.number n is in absurd (cc)) known.0, below)

phase-more : (got : HeldAnswer) (less more : List HeldAnswer) → IsWith got less more → (number : ℕ) (phase : JobPhase) → number ≢ got.job → KnowsPhase less number phase → KnowsPhase more number phase
phase-more got less more with number Ready other known = tt
phase-more got less more with number (Out from) other known = (known.0, with.others number other ∙ known.1)
phase-more got less more with number Gone other known = tt

phase-less : (got : HeldAnswer) (less more : List HeldAnswer) → IsWith got less more → (number : ℕ) (phase : JobPhase) → number ≢ got.job → KnowsPhase more number phase → KnowsPhase less number phase
phase-less got less more with number Ready other known = tt
phase-less got less more with number (Out from) other known = (known.0, sym (with.others number other) ∙ known.1)
phase-less got less more with number Gone other known = tt

pub known-taken : (got : HeldAnswer) (less more : List HeldAnswer) (from : ℕ) (jobs : List Job) → IsWith got less more → AllByRecursion (IsKnown less) jobs → AllByRecursion (IsKnown more) (change_job got.job (Out from) jobs)
known-taken got less more from jobs with known = known-change less more got.job (Out from) jobs (phase-more got less more with) (got, with.own) known

pub known-done : (got : HeldAnswer) (less more : List HeldAnswer) (jobs : List Job) → IsWith got less more → AllByRecursion (IsKnown more) jobs → AllByRecursion (IsKnown less) (change_job got.job Gone jobs)
known-done got less more jobs with known = known-change more less got.job Gone jobs (phase-less got less more with) tt known

-- new jobs are ready, and dropped ones are gone

known-made : (held : List HeldAnswer) (line : ℕ) (asks : List Ask) (calls : List Call) → AllByRecursion (IsKnown held) (jobs_made line asks calls)
known-made held line [] calls = tt
known-made held line (ask ∷ asks) [] = tt
known-made held line (ask ∷ asks) (called ∷ calls) = (tt, known-made held line asks calls)

known-line : (held : List HeldAnswer) (step : Step) (line : Line) (next : Next) → AllByRecursion (IsKnown held) (jobs_of_line step line next)
known-line held step line (Asks called) = known-made held line.number step.asks (called ∷ [])
known-line held step line (Writes count writer) = known-made held writer.line step.asks (calls_of (askings_of step writer))
known-line held step line (Ends writer) = known-made held writer.line step.asks (calls_of (askings_of step writer))
known-line held step line (Replies said) = tt
known-line held step line (Makes key) = tt
known-line held step line (Removes key) = tt
known-line held step line (Opens version) = tt
known-line held step line (Lists entries) = tt
known-line held step line (Creates key) = tt
known-line held step line (Gives count) = tt
known-line held step line Waits = tt

known-asked : (held : List HeldAnswer) (step : Step) (turn : Turn) → AllByRecursion (IsKnown held) (jobs_asked step turn)
known-asked held step (TurnOf line owner next) = known-line held step line next
known-asked held step (TurnOfWriter name writer) = known-made held writer.line step.asks (calls_of (askings_of step writer))
known-asked held step NoTurn = tt

known-drops : (held : List HeldAnswer) (jobs : List Job) (drops : List ℕ) → AllByRecursion (IsKnown held) jobs → AllByRecursion (IsKnown held) (fold drop_one jobs drops)
known-drops held jobs [] known = known
known-drops held jobs (job ∷ drops) known = known-drops held (drop_one jobs job) drops (known-change held held job Gone jobs (λ number phase other is. is) tt known)

pub known-after : (held : List HeldAnswer) (jobs : List Job) (step : Step) (turn : Turn) → AllByRecursion (IsKnown held) (jobs_at jobs step.event) → AllByRecursion (IsKnown held) (jobs_after jobs step turn)
known-after held jobs step turn known = known-drops held (jobs_at jobs step.event ++ jobs_asked step turn) step.drops (all-append (IsKnown held) (jobs_at jobs step.event) (jobs_asked step turn) known (known-asked held step turn))

-- where no job is ready and no answer is held, each job is gone
pub all_gone : (jobs : List Job) → AllByRecursion (IsKnown []) jobs → ready jobs ≡ [] → AllByRecursion (λ job. job.phase ≡ Gone) jobs
all_gone [] known none = tt
all_gone (i ∷ jobs) known none = by_phase i.phase refl known.0 none (all_gone jobs known.1)
  where
    by_phase : (p : JobPhase) → i.phase ≡ p → KnowsPhase [] i.number i.phase → ready (i ∷ jobs) ≡ [] → (ready jobs ≡ [] → AllByRecursion (λ job. job.phase ≡ Gone) jobs) → AllByRecursion (λ job. job.phase ≡ Gone) (i ∷ jobs)
    by_phase Ready e h none below = let more : i.number ∷ ready jobs ≡ [] = rw e at none in absurd (cc)
    by_phase (Out from) e h none below = let held = subst (KnowsPhase [] i.number) e h in let is = held.1 in absurd (cc)
    by_phase Gone e h none below = let more : ready jobs ≡ [] = rw e at none in (e, below more)
