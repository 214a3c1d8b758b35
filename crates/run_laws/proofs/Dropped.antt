-- Dropping the ready jobs of a writer changes just those.
use Rattle.std.proofs.Common.{◌≡◌, ◌≢◌, ℕ, ◌+◌, ◌<◌, ◌≤◌, List, [], ◌∷◌, ◌++◌, map, filter, fold, length, cond, Bool, true, false, ◌==◌, if◌then◌else◌, Some, refl, sym, ap, ◌∙◌, arith, eqb-true, ne_eqb, eq-eqb}
use Rattle.bucket_model.specs.declared.call.Call.{Call}
use Rattle.mount_model.specs.declared.event.Owner.{Owner}
use Rattle.mount_model.specs.declared.event.Owner.TheVariants as owner
use Rattle.mount_model.specs.State.{Job, JobPhase, Ready, Out, Gone, job_at, change_job, in_phase, is_ready_for, ready_for, AreNumbered}
use Rattle.run_laws.specs.Counts.{total, any_call, if_writer, made_job, out_job, ready_job, calls_made, calls_out, calls_ready, if_of_writer, part_in, parts_made}
use Rattle.run_laws.specs.Alive.{live_job, live_jobs}
use Rattle.run_laws.specs.Calls.{job_for, jobs_of}
use Rattle.run_laws.specs.Work.{job_work}
use Rattle.run_laws.proofs.Keyed.{Rises, Rises-below, change_at-none}
use Rattle.run_laws.proofs.Jobs.{job_number, if_writer-own, if_writer-other}

abbrev pub drop_one : List Job → ℕ → List Job
drop_one all job = change_job job Gone all

-- what a job is then
abbrev pub if_dropped : ℕ → Job → Job
if_dropped opened job = if is_ready_for opened job then in_phase Gone job else job

abbrev pub dropped : ℕ → List Job → List Job
dropped opened jobs = map (if_dropped opened) jobs

-- which job is ready

pub record IsReadyFor (opened : ℕ) (job : Job) : Type 0 where
  pub phase : job.phase ≡ Ready
  pub owned : job.owner ≡ owner.Writer opened

ready-at : (opened number : ℕ) (who : Owner) (line : ℕ) (call : Call) (phase : JobPhase) → is_ready_for opened (record { number = number; owner = who; line = line; call = call; phase = phase }) ≡ true → IsReadyFor opened (record { number = number; owner = who; line = line; call = call; phase = phase })
ready-at opened number (owner.Writer other) line call Ready is = record { phase = refl; owned = ap owner.Writer (eqb-true other opened is) }
ready-at opened number who line call Ready is = absurd (cc)
ready-at opened number who line call (Out from) is = absurd (cc)
ready-at opened number who line call Gone is = absurd (cc)

pub ready-is : (opened : ℕ) (job : Job) → is_ready_for opened job ≡ true → IsReadyFor opened job
ready-is opened job is = ready-at opened job.number job.owner job.line job.call job.phase is

-- a job that isn't counts nothing
unready-at : (kind : Call → ℕ) (opened number : ℕ) (who : Owner) (line : ℕ) (call : Call) (phase : JobPhase) → is_ready_for opened (record { number = number; owner = who; line = line; call = call; phase = phase }) ≡ false → ready_job kind opened (record { number = number; owner = who; line = line; call = call; phase = phase }) ≡ 0
unready-at kind opened number (owner.Writer other) line call Ready is = go (other == opened) is
  where
    go : (b : Bool) → b ≡ false → (if b then kind call else 0) ≡ 0
    go true is = absurd (cc)
    go false is = refl
unready-at kind opened number who line call Ready is = refl
unready-at kind opened number who line call (Out from) is = refl
unready-at kind opened number who line call Gone is = refl

unready : (kind : Call → ℕ) (opened : ℕ) (job : Job) → is_ready_for opened job ≡ false → ready_job kind opened job ≡ 0
unready kind opened job is = unready-at kind opened job.number job.owner job.line job.call job.phase is

made-own : (kind : Call → ℕ) (opened : ℕ) (job : Job) → job.owner ≡ owner.Writer opened → made_job kind opened job ≡ kind job.call
made-own kind opened job owned = ap (λ (o : Owner). if_writer opened o (kind job.call)) owned ∙ if_writer-own opened (kind job.call)

made-other : (kind : Call → ℕ) (opened m : ℕ) (job : Job) → job.owner ≡ owner.Writer opened → (opened ≡ m → ⊥) → made_job kind m job ≡ 0
made-other kind opened m job owned apart = ap (λ (o : Owner). if_writer m o (kind job.call)) owned ∙ if_writer-other m opened (kind job.call) apart

-- the drops stand in order

pub drops-rise : (above opened : ℕ) (jobs : List Job) → Rises job_number above jobs → Rises (λ job. job) above (ready_for opened jobs)
drops-rise above opened [] r = tt
drops-rise above opened (job ∷ jobs) r = go (is_ready_for opened job) (drops-rise job.number opened jobs r.1)
  where
    go : (b : Bool) → Rises (λ job. job) job.number (ready_for opened jobs) → Rises (λ job. job) above (map (λ (j : Job). j.number) (cond b (job ∷ filter (is_ready_for opened) jobs) (filter (is_ready_for opened) jobs)))
    go true more = (r.0, more)
    go false more = let first : above < job.number = r.0 in Rises-below (λ job. job) above job.number (ready_for opened jobs) (omega arith) more

-- drops further down leave the first one
drops-past : (first : Job) (jobs : List Job) (drops : List ℕ) → Rises (λ job. job) first.number drops → fold drop_one (first ∷ jobs) drops ≡ first ∷ fold drop_one jobs drops
drops-past first jobs [] r = refl
drops-past first jobs (drop ∷ drops) r =
    let past : first.number < drop = r.0 in
    let other : (first.number == drop) ≡ false = ne_eqb first.number drop (omega arith) in
    let kept : drop_one (first ∷ jobs) drop ≡ first ∷ drop_one jobs drop = rw other refl in
    ap (λ t. fold drop_one t drops) kept ∙ drops-past first (drop_one jobs drop) drops (Rises-below (λ job. job) first.number drop drops (omega arith) r.1)

-- dropping them, with other jobs behind
pub dropped-is : (above opened : ℕ) (jobs behind : List Job) → Rises job_number above (jobs ++ behind) → fold drop_one (jobs ++ behind) (ready_for opened jobs) ≡ dropped opened jobs ++ behind
dropped-is above opened [] behind r = refl
dropped-is above opened (job ∷ jobs) behind r = go (is_ready_for opened job) refl (dropped-is job.number opened jobs behind r.1)
  where
    front : (above : ℕ) (jobs : List Job) → Rises job_number above (jobs ++ behind) → Rises job_number above jobs
    front above [] r = tt
    front above (job ∷ jobs) r = (r.0, front job.number jobs r.1)

    rises : Rises (λ job. job) job.number (ready_for opened jobs)
    rises = drops-rise job.number opened jobs (front job.number jobs r.1)

    go : (b : Bool) → is_ready_for opened job ≡ b → fold drop_one (jobs ++ behind) (ready_for opened jobs) ≡ dropped opened jobs ++ behind → fold drop_one (job ∷ (jobs ++ behind)) (map (λ (j : Job). j.number) (cond b (job ∷ filter (is_ready_for opened) jobs) (filter (is_ready_for opened) jobs))) ≡ (if b then in_phase Gone job else job) ∷ (dropped opened jobs ++ behind)
    go true is e =
        let own : (job.number == job.number) ≡ true = eq-eqb job.number job.number refl in
        let below : change_job job.number Gone (jobs ++ behind) ≡ jobs ++ behind = change_at-none job_number (in_phase Gone) job.number job.number (jobs ++ behind) (omega arith) r.1 in
        let first : drop_one (job ∷ (jobs ++ behind)) job.number ≡ in_phase Gone job ∷ (jobs ++ behind) = rw own (ap (λ t. in_phase Gone job ∷ t) below) in
        ap (λ t. fold drop_one t (ready_for opened jobs)) first ∙ drops-past (in_phase Gone job) (jobs ++ behind) (ready_for opened jobs) rises ∙ ap (λ t. in_phase Gone job ∷ t) e
    go false is e = drops-past job (jobs ++ behind) (ready_for opened jobs) rises ∙ ap (λ t. job ∷ t) e

-- what is counted then

-- a weight that no drop changes
pub dropped-total : (weight : Job → ℕ) (opened : ℕ) → ((job : Job) → IsReadyFor opened job → weight (in_phase Gone job) ≡ weight job) → (jobs : List Job) → total weight (dropped opened jobs) ≡ total weight jobs
dropped-total weight opened same [] = refl
dropped-total weight opened same (job ∷ jobs) = go (is_ready_for opened job) refl (dropped-total weight opened same jobs)
  where
    go : (b : Bool) → is_ready_for opened job ≡ b → total weight (dropped opened jobs) ≡ total weight jobs → total weight ((if b then in_phase Gone job else job) ∷ dropped opened jobs) ≡ total weight (job ∷ jobs)
    go true is e = let here = same job (ready-is opened job is) in omega arith
    go false is e = omega arith

pub dropped-made : (kind : Call → ℕ) (opened m : ℕ) (jobs : List Job) → calls_made kind m (dropped opened jobs) ≡ calls_made kind m jobs
dropped-made kind opened m jobs = dropped-total (made_job kind m) opened (λ job is. refl) jobs

pub dropped-parts : (opened m : ℕ) (jobs : List Job) → parts_made m (dropped opened jobs) ≡ parts_made m jobs
dropped-parts opened m [] = refl
dropped-parts opened m (job ∷ jobs) = go (is_ready_for opened job) (dropped-parts opened m jobs)
  where
    go : (b : Bool) → parts_made m (dropped opened jobs) ≡ parts_made m jobs → parts_made m ((if b then in_phase Gone job else job) ∷ dropped opened jobs) ≡ parts_made m (job ∷ jobs)
    go true e = ap (λ t. if_of_writer m job.owner (part_in job.call) ++ t) e
    go false e = ap (λ t. if_of_writer m job.owner (part_in job.call) ++ t) e

pub dropped-out-other : (kind : Call → ℕ) (opened m : ℕ) (jobs : List Job) → (opened ≡ m → ⊥) → calls_out kind m (dropped opened jobs) ≡ calls_out kind m jobs
dropped-out-other kind opened m jobs apart = dropped-total (out_job kind m) opened (λ job is. sym (ap (λ (p : JobPhase). out_job kind m (in_phase p job)) is.phase ∙ made-other kind opened m job is.owned apart)) jobs

pub dropped-ready-other : (kind : Call → ℕ) (opened m : ℕ) (jobs : List Job) → (opened ≡ m → ⊥) → calls_ready kind m (dropped opened jobs) ≡ calls_ready kind m jobs
dropped-ready-other kind opened m jobs apart = dropped-total (ready_job kind m) opened (λ job is. sym (ap (λ (p : JobPhase). ready_job kind m (in_phase p job)) is.phase ∙ made-other kind opened m job is.owned apart)) jobs

pub dropped-out : (kind : Call → ℕ) (opened : ℕ) (jobs : List Job) → calls_out kind opened (dropped opened jobs) + calls_ready kind opened jobs ≡ calls_out kind opened jobs
dropped-out kind opened [] = refl
dropped-out kind opened (job ∷ jobs) = go (is_ready_for opened job) refl (dropped-out kind opened jobs)
  where
    go : (b : Bool) → is_ready_for opened job ≡ b → calls_out kind opened (dropped opened jobs) + calls_ready kind opened jobs ≡ calls_out kind opened jobs → calls_out kind opened ((if b then in_phase Gone job else job) ∷ dropped opened jobs) + calls_ready kind opened (job ∷ jobs) ≡ calls_out kind opened (job ∷ jobs)
    go true is e =
        let found = ready-is opened job is in
        let ready : ready_job kind opened job ≡ made_job kind opened job = ap (λ (p : JobPhase). ready_job kind opened (in_phase p job)) found.phase in
        let out : out_job kind opened job ≡ made_job kind opened job = ap (λ (p : JobPhase). out_job kind opened (in_phase p job)) found.phase in
        omega arith
    go false is e = let none = unready kind opened job is in omega arith

pub dropped-ready : (kind : Call → ℕ) (opened : ℕ) (jobs : List Job) → calls_ready kind opened (dropped opened jobs) ≡ 0
dropped-ready kind opened [] = refl
dropped-ready kind opened (job ∷ jobs) = go (is_ready_for opened job) refl (dropped-ready kind opened jobs)
  where
    go : (b : Bool) → is_ready_for opened job ≡ b → calls_ready kind opened (dropped opened jobs) ≡ 0 → calls_ready kind opened ((if b then in_phase Gone job else job) ∷ dropped opened jobs) ≡ 0
    go true is e = omega arith
    go false is e = let none = unready kind opened job is in omega arith

pub drops-count : (opened : ℕ) (jobs : List Job) → length (ready_for opened jobs) ≡ calls_ready any_call opened jobs
drops-count opened [] = refl
drops-count opened (job ∷ jobs) = go (is_ready_for opened job) refl (drops-count opened jobs)
  where
    go : (b : Bool) → is_ready_for opened job ≡ b → length (ready_for opened jobs) ≡ calls_ready any_call opened jobs → length (map (λ (j : Job). j.number) (cond b (job ∷ filter (is_ready_for opened) jobs) (filter (is_ready_for opened) jobs))) ≡ calls_ready any_call opened (job ∷ jobs)
    go true is e =
        let found = ready-is opened job is in
        let ready : ready_job any_call opened job ≡ made_job any_call opened job = ap (λ (p : JobPhase). ready_job any_call opened (in_phase p job)) found.phase in
        let made = made-own any_call opened job found.owned in
        omega arith
    go false is e = let none = unready any_call opened job is in omega arith

-- no line's job is dropped
pub dropped-live : (opened m : ℕ) (jobs : List Job) → live_jobs m (dropped opened jobs) ≡ live_jobs m jobs
dropped-live opened m jobs = dropped-total (live_job m) opened (λ job is. sym (ap (λ (p : JobPhase). live_job m (in_phase p job)) is.phase ∙ ap (λ (o : Owner). live_job m (record { number = job.number; owner = o; line = job.line; call = job.call; phase = Ready })) is.owned)) jobs

pub dropped-jobs_of : (opened m : ℕ) (jobs : List Job) → jobs_of m (dropped opened jobs) ≡ jobs_of m jobs
dropped-jobs_of opened m jobs = dropped-total (job_for m) opened (λ job is. refl) jobs

pub dropped-work : (opened : ℕ) (jobs : List Job) → total job_work (dropped opened jobs) ≤ total job_work jobs
dropped-work opened [] = omega arith
dropped-work opened (job ∷ jobs) = go (is_ready_for opened job) (dropped-work opened jobs)
  where
    go : (b : Bool) → total job_work (dropped opened jobs) ≤ total job_work jobs → total job_work ((if b then in_phase Gone job else job) ∷ dropped opened jobs) ≤ total job_work (job ∷ jobs)
    go true h = omega arith
    go false h = omega arith

pub dropped-numbered : (number opened : ℕ) (jobs : List Job) → AreNumbered number jobs → AreNumbered number (dropped opened jobs)
dropped-numbered number opened [] r = tt
dropped-numbered number opened (job ∷ jobs) r = (go (is_ready_for opened job), dropped-numbered (number + 1) opened jobs r.1)
  where
    go : (b : Bool) → (if b then in_phase Gone job else job).number ≡ number
    go true = r.0
    go false = r.0

pub dropped-length : (opened : ℕ) (jobs : List Job) → length (dropped opened jobs) ≡ length jobs
dropped-length opened [] = refl
dropped-length opened (job ∷ jobs) = let more = dropped-length opened jobs in omega arith

-- a job that is ready or out then was so before
pub dropped-found : (k opened : ℕ) (jobs : List Job) (job : Job) → job_at k (dropped opened jobs) ≡ Some job → job.phase ≢ Gone → job_at k jobs ≡ Some job
dropped-found k opened [] job is live = absurd (cc)
dropped-found k opened (first ∷ jobs) job is live = go (is_ready_for opened first) (first.number == k) refl is (dropped-found k opened jobs job)
  where
    go : (b c : Bool) → (first.number == k) ≡ c → job_at k ((if b then in_phase Gone first else first) ∷ dropped opened jobs) ≡ Some job → (job_at k (dropped opened jobs) ≡ Some job → job.phase ≢ Gone → job_at k jobs ≡ Some job) → job_at k (first ∷ jobs) ≡ Some job
    go true true here is ih = let found : Some (in_phase Gone first) ≡ Some job = sym (rw here refl) ∙ is in let same : in_phase Gone first ≡ job = cc in absurd (live (sym (ap (λ (j : Job). j.phase) same)))
    go false true here is ih = let found : Some first ≡ Some job = sym (rw here refl) ∙ is in rw here found
    go true false here is ih = rw here (ih (sym (rw here refl) ∙ is) live)
    go false false here is ih = rw here (ih (sym (rw here refl) ∙ is) live)
