-- The jobs that are ready or out, against all jobs of a run.
use Rattle.std.proofs.Common.{◌≡◌, ℕ, ◌+◌, ◌<◌, inl, inr, ◌↔◌, Bool, true, false, List, [], ◌∷◌, ◌++◌, Some, None, refl, sym, ap, ◌∙◌, arith, eq-eqb}
use Rattle.std.proofs.lemmas.Grind.{flat_map-append}
use Rattle.std.proofs.lemmas.Map.Keys.{any_passes_from_place}
use Rattle.std.specs.List.{AllByRecursion, slice_get}
use Rattle.std.specs.Prelude.{◌==◌}
use Rattle.bucket_model.specs.declared.call.Call.{Call}
use Rattle.mount_model.specs.declared.event.Owner.{Owner}
use Rattle.mount_model.specs.declared.event.Owner.TheVariants as owner
use Rattle.mount_model.specs.State.{Job, JobPhase, Ready, Out, Gone, job_at, in_phase, change_job, is_ready_for, ready_for, AreNumbered}
use Rattle.mount_model.specs.Run.{ready, is_among}
use Rattle.job_table.specs.LiveJobs.{Held, IsReadyIn, IsOutIn, held_at, with_taken, without, ready_numbers, is_of_writer, ready_of_writer, held_as, held_when, held_of, purpose_of}
use Rattle.job_table.proofs.Rising.{IsSame, IsOther, same_or_other, is_other}

-- jobs with new ones behind

pub held_of-append : (jobs more : List Job) → held_of (jobs ++ more) ≡ held_of jobs ++ held_of more
held_of-append jobs more = flat_map-append (λ (job : Job). held_when job.phase job) jobs more

-- one more, which is ready
pub held_of-push : (jobs : List Job) (number line : ℕ) (owner : Owner) (call : Call) → held_of (jobs ++ record { number = number; owner = owner; line = line; call = call; phase = Ready } ∷ []) ≡ held_of jobs ++ record { number = number; owner = owner; line = line; call = Some call; purpose = purpose_of call } ∷ []
held_of-push jobs number line owner call = held_of-append jobs (record { number = number; owner = owner; line = line; call = call; phase = Ready } ∷ [])

-- the ready jobs
pub ready_numbers-held_of : (jobs : List Job) → ready_numbers (held_of jobs) ≡ ready jobs
ready_numbers-held_of [] = refl
ready_numbers-held_of (job ∷ jobs) = by_phase job.phase (ready_numbers-held_of jobs)
  where
    by_phase : (phase : JobPhase) → ready_numbers (held_of jobs) ≡ ready jobs → ready_numbers (held_of (in_phase phase job ∷ jobs)) ≡ ready (in_phase phase job ∷ jobs)
    by_phase Ready rest = ap (λ t. job.number ∷ t) rest
    by_phase (Out from) rest = rest
    by_phase Gone rest = rest

-- and those of a writer
pub ready_of_writer-held_of : (line : ℕ) (jobs : List Job) → ready_of_writer line (held_of jobs) ≡ ready_for line jobs
ready_of_writer-held_of line [] = refl
ready_of_writer-held_of line (job ∷ jobs) = by_phase job.phase (ready_of_writer-held_of line jobs)
  where
    is_for : (by : Owner) → is_ready_for line (record { number = job.number; owner = by; line = job.line; call = job.call; phase = Ready }) ≡ is_of_writer line by
    is_for (owner.Line number) = refl
    is_for (owner.Stream opened) = refl
    is_for (owner.Writer opened) = refl

    by_test : (b : Bool) → is_of_writer line job.owner ≡ b → ready_of_writer line (held_of jobs) ≡ ready_for line jobs → ready_of_writer line (held_as (Some job.call) job ∷ held_of jobs) ≡ ready_for line (in_phase Ready job ∷ jobs)
    by_test true e rest = rw (is_for job.owner, e) (ap (λ t. job.number ∷ t) rest)
    by_test false e rest = rw (is_for job.owner, e) rest

    by_phase : (phase : JobPhase) → ready_of_writer line (held_of jobs) ≡ ready_for line jobs → ready_of_writer line (held_of (in_phase phase job ∷ jobs)) ≡ ready_for line (in_phase phase job ∷ jobs)
    by_phase Ready rest = by_test (is_of_writer line job.owner) refl rest
    by_phase (Out from) rest = rest
    by_phase Gone rest = rest

-- a number below the first stands nowhere

pub job_at-none : (n first : ℕ) (jobs : List Job) → AreNumbered first jobs → n < first → job_at n jobs ≡ None
job_at-none n first [] numbered less = refl
job_at-none n first (job ∷ jobs) numbered less =
    let here : IsOther n job.number = is_other n job.number (λ e. omega (arith, less, numbered.0, e)) in
    rw here.test (job_at-none n (first + 1) jobs numbered.1 (omega (arith, less)))

pub change_job-none : (n first : ℕ) (phase : JobPhase) (jobs : List Job) → AreNumbered first jobs → n < first → change_job n phase jobs ≡ jobs
change_job-none n first phase [] numbered less = refl
change_job-none n first phase (job ∷ jobs) numbered less =
    let here : IsOther n job.number = is_other n job.number (λ e. omega (arith, less, numbered.0, e)) in
    rw here.test (ap (λ t. job ∷ t) (change_job-none n (first + 1) phase jobs numbered.1 (omega (arith, less))))

-- the same of what stands of them

held_at_other : (n : ℕ) (job : Job) (phase : JobPhase) (more : List Held) → IsOther n job.number → held_at n (held_when phase job ++ more) ≡ held_at n more
held_at_other n job Ready more other = rw other.test refl
held_at_other n job (Out from) more other = rw other.test refl
held_at_other n job Gone more other = refl

taken_other : (n : ℕ) (job : Job) (phase : JobPhase) (more : List Held) → IsOther n job.number → with_taken n (held_when phase job ++ more) ≡ held_when phase job ++ with_taken n more
taken_other n job Ready more other = rw other.test refl
taken_other n job (Out from) more other = rw other.test refl
taken_other n job Gone more other = refl

without_other : (n : ℕ) (job : Job) (phase : JobPhase) (more : List Held) → IsOther n job.number → without n (held_when phase job ++ more) ≡ held_when phase job ++ without n more
without_other n job Ready more other = rw other.test refl
without_other n job (Out from) more other = rw other.test refl
without_other n job Gone more other = refl

pub taken-none : (n first : ℕ) (jobs : List Job) → AreNumbered first jobs → n < first → with_taken n (held_of jobs) ≡ held_of jobs
taken-none n first [] numbered less = refl
taken-none n first (job ∷ jobs) numbered less =
    let here : IsOther n job.number = is_other n job.number (λ e. omega (arith, less, numbered.0, e)) in
    taken_other n job job.phase (held_of jobs) here ∙ ap (λ t. held_when job.phase job ++ t) (taken-none n (first + 1) jobs numbered.1 (omega (arith, less)))

pub without-none : (n first : ℕ) (jobs : List Job) → AreNumbered first jobs → n < first → without n (held_of jobs) ≡ held_of jobs
without-none n first [] numbered less = refl
without-none n first (job ∷ jobs) numbered less =
    let here : IsOther n job.number = is_other n job.number (λ e. omega (arith, less, numbered.0, e)) in
    without_other n job job.phase (held_of jobs) here ∙ ap (λ t. held_when job.phase job ++ t) (without-none n (first + 1) jobs numbered.1 (omega (arith, less)))

-- one job changes

moves : (phase : JobPhase) (job : Job) → held_when phase (in_phase phase job) ≡ held_when phase job
moves Ready job = refl
moves (Out from) job = refl
moves Gone job = refl

changed_here : (n first : ℕ) (phase : JobPhase) (job : Job) (jobs : List Job) → IsSame n job.number → AreNumbered (first + 1) jobs → n < first + 1 → held_of (change_job n phase (job ∷ jobs)) ≡ held_when phase job ++ held_of jobs
changed_here n first phase job jobs same numbered less = rw (same.test, change_job-none n (first + 1) phase jobs numbered less) (ap (λ t. t ++ held_of jobs) (moves phase job))

changed_later : (n : ℕ) (phase : JobPhase) (job : Job) (jobs : List Job) → IsOther n job.number → held_of (change_job n phase (job ∷ jobs)) ≡ held_when job.phase job ++ held_of (change_job n phase jobs)
changed_later n phase job jobs other = rw other.test refl

-- it is done, or dropped

without_here : (n : ℕ) (job : Job) (phase : JobPhase) (more : List Held) → IsSame n job.number → without n (held_when phase job ++ more) ≡ without n more
without_here n job Ready more same = rw same.test refl
without_here n job (Out from) more same = rw same.test refl
without_here n job Gone more same = refl

pub held_of-gone : (n first : ℕ) (jobs : List Job) → AreNumbered first jobs → held_of (change_job n Gone jobs) ≡ without n (held_of jobs)
held_of-gone n first [] numbered = refl
held_of-gone n first (job ∷ jobs) numbered =
    elim (same_or_other n job.number) [
      | inl w ↦
          let less : n < first + 1 = omega (arith, w.same, numbered.0) in
          changed_here n first Gone job jobs w numbered.1 less
          ∙ sym (without_here n job job.phase (held_of jobs) w ∙ without-none n (first + 1) jobs numbered.1 less)
      | inr w ↦
          changed_later n Gone job jobs w
          ∙ ap (λ t. held_when job.phase job ++ t) (held_of-gone n (first + 1) jobs numbered.1)
          ∙ sym (without_other n job job.phase (held_of jobs) w)
    ]

-- it is taken

taken_here : (n : ℕ) (job : Job) (phase : JobPhase) (from : ℕ) (more : List Held) → IsSame n job.number → phase ≡ Ready → with_taken n (held_when phase job ++ more) ≡ held_when (Out from) job ++ with_taken n more
taken_here n job Ready from more same is_ready = rw same.test refl
taken_here n job (Out since) from more same is_ready = absurd (cc)
taken_here n job Gone from more same is_ready = absurd (cc)

pub held_of-out : (n first from : ℕ) (jobs : List Job) (job : Job) → AreNumbered first jobs → job_at n jobs ≡ Some job → job.phase ≡ Ready → held_of (change_job n (Out from) jobs) ≡ with_taken n (held_of jobs)
held_of-out n first from [] job numbered stands is_ready = refl
held_of-out n first from (head ∷ jobs) job numbered stands is_ready =
    elim (same_or_other n head.number) [
      | inl w ↦
          let less : n < first + 1 = omega (arith, w.same, numbered.0) in
          let here : Some head ≡ Some job = rw w.test at stands in
          let same : head ≡ job = cc in
          let ready_now : head.phase ≡ Ready = ap (λ (j : Job). j.phase) same ∙ is_ready in
          changed_here n first (Out from) head jobs w numbered.1 less
          ∙ ap (λ t. held_when (Out from) head ++ t) (sym (taken-none n (first + 1) jobs numbered.1 less))
          ∙ sym (taken_here n head head.phase from (held_of jobs) w ready_now)
      | inr w ↦
          let later : job_at n jobs ≡ Some job = rw w.test at stands in
          changed_later n (Out from) head jobs w
          ∙ ap (λ t. held_when head.phase head ++ t) (held_of-out n (first + 1) from jobs job numbered.1 later is_ready)
          ∙ sym (taken_other n head head.phase (held_of jobs) w)
    ]

-- where a job of the run stands

out_here : (n from : ℕ) (job : Job) (phase : JobPhase) (more : List Held) → IsSame n job.number → phase ≡ Out from → held_at n (held_when phase job ++ more) ≡ Some (held_as None job)
out_here n from job Ready more same is_out = absurd (cc)
out_here n from job (Out since) more same is_out = rw same.test refl
out_here n from job Gone more same is_out = absurd (cc)

ready_here : (n : ℕ) (job : Job) (phase : JobPhase) (more : List Held) → IsSame n job.number → phase ≡ Ready → held_at n (held_when phase job ++ more) ≡ Some (held_as (Some job.call) job)
ready_here n job Ready more same is_ready = rw same.test refl
ready_here n job (Out since) more same is_ready = absurd (cc)
ready_here n job Gone more same is_ready = absurd (cc)

pub held_at-out : (n from : ℕ) (jobs : List Job) (job : Job) → job_at n jobs ≡ Some job → job.phase ≡ Out from → held_at n (held_of jobs) ≡ Some (held_as None job)
held_at-out n from [] job stands is_out = absurd (cc)
held_at-out n from (head ∷ jobs) job stands is_out =
    elim (same_or_other n head.number) [
      | inl w ↦
          let here : Some head ≡ Some job = rw w.test at stands in
          let same : head ≡ job = cc in
          out_here n from head head.phase (held_of jobs) w (ap (λ (j : Job). j.phase) same ∙ is_out) ∙ ap (λ (j : Job). Some (held_as None j)) same
      | inr w ↦
          let later : job_at n jobs ≡ Some job = rw w.test at stands in
          held_at_other n head head.phase (held_of jobs) w ∙ held_at-out n from jobs job later is_out
    ]

pub held_at-ready : (n : ℕ) (jobs : List Job) (job : Job) → job_at n jobs ≡ Some job → job.phase ≡ Ready → held_at n (held_of jobs) ≡ Some (held_as (Some job.call) job)
held_at-ready n [] job stands is_ready = absurd (cc)
held_at-ready n (head ∷ jobs) job stands is_ready =
    elim (same_or_other n head.number) [
      | inl w ↦
          let here : Some head ≡ Some job = rw w.test at stands in
          let same : head ≡ job = cc in
          ready_here n head head.phase (held_of jobs) w (ap (λ (j : Job). j.phase) same ∙ is_ready) ∙ ap (λ (j : Job). Some (held_as (Some j.call) j)) same
      | inr w ↦
          let later : job_at n jobs ≡ Some job = rw w.test at stands in
          held_at_other n head head.phase (held_of jobs) w ∙ held_at-ready n jobs job later is_ready
    ]

pub is_out_in : (n from : ℕ) (jobs : List Job) (job : Job) → job_at n jobs ≡ Some job → job.phase ≡ Out from → IsOutIn n (held_of jobs)
is_out_in n from jobs job stands is_out = record {
  job = held_as None job;
  stands = held_at-out n from jobs job stands is_out;
  is_out = refl;
}

pub is_ready_in : (n : ℕ) (jobs : List Job) (job : Job) → job_at n jobs ≡ Some job → job.phase ≡ Ready → IsReadyIn n (held_of jobs)
is_ready_in n jobs job stands is_ready = record {
  job = held_as (Some job.call) job;
  stands = held_at-ready n jobs job stands is_ready;
  called = job.call;
  waits = refl;
}

-- a ready number is that of a ready job

pub record ReadyJob (number : ℕ) (jobs : List Job) : Type 0 where
  pub job : Job
  pub stands : job_at number jobs ≡ Some job
  pub is_ready : job.phase ≡ Ready

-- no ready number is below the first
ready_above : (n first : ℕ) (jobs : List Job) → AreNumbered first jobs → n < first → is_among n (ready jobs) ≡ false
ready_above n first [] numbered less = refl
ready_above n first (job ∷ jobs) numbered less =
    by_phase job.phase (is_other n job.number (λ e. omega (arith, less, numbered.0, e))) (ready_above n (first + 1) jobs numbered.1 (omega (arith, less)))
  where
    by_phase : (phase : JobPhase) → IsOther n job.number → is_among n (ready jobs) ≡ false → is_among n (ready (in_phase phase job ∷ jobs)) ≡ false
    by_phase Ready other rest = rw other.test rest
    by_phase (Out from) other rest = rest
    by_phase Gone other rest = rest

among_here : (n : ℕ) (job : Job) (phase : JobPhase) (jobs : List Job) → is_among n (ready jobs) ≡ false → is_among n (ready (in_phase phase job ∷ jobs)) ≡ true → phase ≡ Ready
among_here n job Ready jobs none among = refl
among_here n job (Out from) jobs none among = absurd (cc)
among_here n job Gone jobs none among = absurd (cc)

among_later : (n : ℕ) (job : Job) (phase : JobPhase) (jobs : List Job) → IsOther n job.number → is_among n (ready (in_phase phase job ∷ jobs)) ≡ true → is_among n (ready jobs) ≡ true
among_later n job Ready jobs other among = rw other.test at among
among_later n job (Out from) jobs other among = among
among_later n job Gone jobs other among = among

pub ready_job : (n first : ℕ) (jobs : List Job) → AreNumbered first jobs → is_among n (ready jobs) ≡ true → ReadyJob n jobs
ready_job n first [] numbered among = absurd (cc)
ready_job n first (job ∷ jobs) numbered among =
    elim (same_or_other n job.number) [
      | inl w ↦ record {
        job = job;
        stands = rw w.test refl;
        is_ready = among_here n job job.phase jobs (ready_above n (first + 1) jobs numbered.1 (omega (arith, w.same, numbered.0))) among;
      }
      | inr w ↦
          let later : ReadyJob n jobs = ready_job n (first + 1) jobs numbered.1 (among_later n job job.phase jobs w among) in
          record {
            job = later.job;
            stands = rw w.test later.stands;
            is_ready = later.is_ready;
          }
    ]

-- a number in the list of ready ones is among them
pub among_from_place : (n place : ℕ) (jobs : List Job) → slice_get (ready jobs) place ≡ Some n → is_among n (ready jobs) ≡ true
among_from_place n place jobs stands = any_passes_from_place (λ (k : ℕ). k == n) (ready jobs) place n stands (eq-eqb n n refl)

-- no job is ready or out just where all are gone

all_gone : (jobs : List Job) → held_of jobs ≡ [] → AllByRecursion (λ (job : Job). job.phase ≡ Gone) jobs
all_gone [] none = tt
all_gone (job ∷ jobs) none = by_phase job.phase none (all_gone jobs)
  where
    by_phase : (phase : JobPhase) → held_when phase job ++ held_of jobs ≡ [] → (held_of jobs ≡ [] → AllByRecursion (λ (j : Job). j.phase ≡ Gone) jobs) → (phase ≡ Gone) × AllByRecursion (λ (j : Job). j.phase ≡ Gone) jobs
    by_phase Ready empty rest = absurd (cc)
    by_phase (Out from) empty rest = absurd (cc)
    by_phase Gone empty rest = (refl, rest empty)

none_held : (jobs : List Job) → AllByRecursion (λ (job : Job). job.phase ≡ Gone) jobs → held_of jobs ≡ []
none_held [] gone = refl
none_held (job ∷ jobs) gone = rw gone.0 (none_held jobs gone.1)

pub held_of-empty : (jobs : List Job) → (held_of jobs ≡ []) ↔ AllByRecursion (λ (job : Job). job.phase ≡ Gone) jobs
held_of-empty jobs = (all_gone jobs, none_held jobs)
