-- Jobs that are found by their numbers, before and after a change.
use Rattle.std.proofs.Common.{◌≡◌, ◌≢◌, ℕ, ◌+◌, List, [], ◌∷◌, ◌++◌, map, length, cond, Bool, true, false, ◌==◌, if◌then◌else◌, Some, None, ◌⊎◌, inl, inr, refl, sym, ap, ◌∙◌, arith, eqb-true, eq-eqb, ne_eqb}
use Rattle.std.proofs.lemmas.List.Folds.{find-append}
use Rattle.mount_model.specs.declared.event.Owner.TheVariants as owner
use Rattle.mount_model.specs.State.{Job, JobPhase, Ready, Gone, job_at, in_phase, is_ready_for, AreNumbered}
use Rattle.run_laws.proofs.Keyed.{item_at-key}
use Rattle.run_laws.proofs.Jobs.{job_number, found-of-two}
use Rattle.run_laws.proofs.Dropped.{if_dropped, ready-is}

pub found-front : (k : ℕ) (jobs more : List Job) (job : Job) → job_at k jobs ≡ Some job → job_at k (jobs ++ more) ≡ Some job
found-front k jobs more job is = rw (find-append, is) refl

pub found-number : (k : ℕ) (jobs : List Job) (job : Job) → job_at k jobs ≡ Some job → job.number ≡ k
found-number k jobs job is = item_at-key job_number k jobs job is

-- the new job behind all others
pub found-new : (jobs : List Job) (new : Job) → job_at new.number jobs ≡ None → job_at new.number (jobs ++ new ∷ []) ≡ Some new
found-new [] new none = let same : (new.number == new.number) ≡ true = eq-eqb new.number new.number refl in rw same refl
found-new (first ∷ jobs) new none = go (first.number == new.number) none (found-new jobs new)
  where
    go : (b : Bool) → cond b (Some first) (job_at new.number jobs) ≡ None → (job_at new.number jobs ≡ None → job_at new.number (jobs ++ new ∷ []) ≡ Some new) → cond b (Some first) (job_at new.number (jobs ++ new ∷ [])) ≡ Some new
    go true none ih = absurd (cc)
    go false none ih = ih none

pub new-found : (k : ℕ) (jobs : List Job) (new job : Job) → job_at k (jobs ++ new ∷ []) ≡ Some job → (job_at k jobs ≡ Some job) ⊎ ((k ≡ new.number) × (job ≡ new))
new-found k jobs new job is = elim (found-of-two k jobs (new ∷ []) job is) [
  | inl old ↦ inl old
  | inr last ↦ inr (go (new.number == k) refl last)
]
  where
    go : (b : Bool) → (new.number == k) ≡ b → cond b (Some new) None ≡ Some job → (k ≡ new.number) × (job ≡ new)
    go true same is = (sym (eqb-true new.number k same), (let e : new ≡ job = cc in sym e))
    go false same is = absurd (cc)

-- no job has a number above all
pub found-none : (number k : ℕ) (jobs : List Job) → AreNumbered number jobs → k ≡ number + length jobs → job_at k jobs ≡ None
found-none number k [] r is = refl
found-none number k (job ∷ jobs) r is = let first : job.number ≡ number = r.0 in let other : (job.number == k) ≡ false = ne_eqb job.number k (omega arith) in rw other (found-none (number + 1) k jobs r.1 (omega arith))

-- a change of phases

abbrev pub Moves : (Job → Job) → Type 0
Moves f = (job : Job) → f job ≡ in_phase (f job).phase job

pub found-moved : (f : Job → Job) → Moves f → (k : ℕ) (jobs : List Job) (job : Job) → job_at k jobs ≡ Some job → job_at k (map f jobs) ≡ Some (f job)
found-moved f moves k [] job is = absurd (cc)
found-moved f moves k (first ∷ jobs) job is = go (first.number == k) refl is (found-moved f moves k jobs job)
  where
    number_is : (f first).number ≡ first.number
    number_is = ap (λ (j : Job). j.number) (moves first)

    go : (b : Bool) → (first.number == k) ≡ b → cond b (Some first) (job_at k jobs) ≡ Some job → (job_at k jobs ≡ Some job → job_at k (map f jobs) ≡ Some (f job)) → job_at k (f first ∷ map f jobs) ≡ Some (f job)
    go true at is ih = let here : ((f first).number == k) ≡ true = ap (λ (n : ℕ). n == k) number_is ∙ at in let same : first ≡ job = cc in rw here (ap (λ (j : Job). Some (f j)) same)
    go false at is ih = let here : ((f first).number == k) ≡ false = ap (λ (n : ℕ). n == k) number_is ∙ at in rw here (ih is)

pub moved-found : (f : Job → Job) → Moves f → (k : ℕ) (jobs : List Job) (job : Job) → job_at k (map f jobs) ≡ Some job → (before : Job) × (job_at k jobs ≡ Some before) × (job ≡ f before)
moved-found f moves k [] job is = absurd (cc)
moved-found f moves k (first ∷ jobs) job is = go (first.number == k) refl is (moved-found f moves k jobs job)
  where
    number_is : (f first).number ≡ first.number
    number_is = ap (λ (j : Job). j.number) (moves first)

    go : (b : Bool) → (first.number == k) ≡ b → job_at k (f first ∷ map f jobs) ≡ Some job → (job_at k (map f jobs) ≡ Some job → (before : Job) × (job_at k jobs ≡ Some before) × (job ≡ f before)) → (before : Job) × (job_at k (first ∷ jobs) ≡ Some before) × (job ≡ f before)
    go true at is ih = let here : ((f first).number == k) ≡ true = ap (λ (n : ℕ). n == k) number_is ∙ at in let found : Some (f first) ≡ Some job = sym (rw here refl) ∙ is in (first, rw at refl, (let e : f first ≡ job = cc in sym e))
    go false at is ih = let here : ((f first).number == k) ≡ false = ap (λ (n : ℕ). n == k) number_is ∙ at in let before = ih (sym (rw here refl) ∙ is) in (before.0, rw at before.1, before.2)

-- the job of one number
abbrev pub to_phase : ℕ → JobPhase → Job → Job
to_phase n phase job = if job.number == n then in_phase phase job else job

pub moves-phase : (n : ℕ) (phase : JobPhase) → Moves (to_phase n phase)
moves-phase n phase job = go (job.number == n)
  where
    go : (b : Bool) → (if b then in_phase phase job else job) ≡ in_phase (if b then in_phase phase job else job).phase job
    go true = refl
    go false = refl

pub phase-same : (n : ℕ) (phase : JobPhase) (job : Job) → job.number ≡ n → to_phase n phase job ≡ in_phase phase job
phase-same n phase job is = let same : (job.number == n) ≡ true = eq-eqb job.number n is in rw same refl

pub phase-other : (n : ℕ) (phase : JobPhase) (job : Job) → job.number ≢ n → to_phase n phase job ≡ job
phase-other n phase job apart = let differ : (job.number == n) ≡ false = ne_eqb job.number n apart in rw differ refl

-- and those that are dropped
pub moves-dropped : (opened : ℕ) → Moves (if_dropped opened)
moves-dropped opened job = go (is_ready_for opened job)
  where
    go : (b : Bool) → (if b then in_phase Gone job else job) ≡ in_phase (if b then in_phase Gone job else job).phase job
    go true = refl
    go false = refl

-- what a job is then: as it was, or gone where it was ready
pub dropped-other : (opened : ℕ) (job : Job) → job.owner ≢ owner.Writer opened → if_dropped opened job ≡ job
dropped-other opened job apart = go (is_ready_for opened job) refl
  where
    go : (b : Bool) → is_ready_for opened job ≡ b → (if b then in_phase Gone job else job) ≡ job
    go true is = absurd (apart (ready-is opened job is).owned)
    go false is = refl

pub dropped-phase : (opened : ℕ) (job : Job) → (if_dropped opened job ≡ job) ⊎ ((job.phase ≡ Ready) × (if_dropped opened job ≡ in_phase Gone job))
dropped-phase opened job = go (is_ready_for opened job) refl
  where
    go : (b : Bool) → is_ready_for opened job ≡ b → ((if b then in_phase Gone job else job) ≡ job) ⊎ ((job.phase ≡ Ready) × ((if b then in_phase Gone job else job) ≡ in_phase Gone job))
    go true is = inr ((ready-is opened job is).phase, refl)
    go false is = inl refl
