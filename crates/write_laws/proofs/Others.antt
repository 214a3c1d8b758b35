-- A writer's turn leaves the jobs of all others as they are.
use Rattle.std.proofs.Common.{◌≡◌, ◌≢◌, ℕ, ◌+◌, List, [], ◌∷◌, ◌++◌, fold, length, Bool, true, false, if◌then◌else◌, Some, sym, ap, ◌∙◌, subst, arith, append_assoc, append-nil}
use Rattle.std.proofs.lemmas.List.{length-append}
use Rattle.upload_rules.specs.declared.upload.UpAsk.TheVariants.{Abort}
use Rattle.mount_model.specs.declared.event.Owner.TheVariants as owner
use Rattle.mount_model.specs.declared.event.Ask.{Ask}
use Rattle.mount_model.specs.declared.event.Answered.{Answered}
use Rattle.mount_model.specs.Step.{Step}
use Rattle.mount_model.specs.Handles.{Writer}
use Rattle.mount_model.specs.Writers.{Asking, asking_for, first_asks, has_failed}
use Rattle.mount_model.specs.State.{ClientState, Job, jobs_at, ready_for, calls_in, gives_up, behind_asks, behind_drops, calls_of, jobs_made, jobs_of_writer, AreNumbered}
use Rattle.mount_model.specs.Run.{jobs_called, TakesTurnOfWriter}
use Rattle.mount_model.proofs.Numbered.{numbered-push}
use Rattle.run_laws.proofs.Jobs.{Rises-jobs}
use Rattle.run_laws.proofs.Dropped.{drop_one, if_dropped, dropped, dropped-is}
use Rattle.run_laws.proofs.Asked.{asked_jobs, asked-append, asked-front, writer_job}
use Rattle.write_laws.proofs.Found.{moves-dropped, dropped-other, found-moved}
use Rattle.write_laws.proofs.Filled.{Follows, KeepsGone, follows-same, gone-same, follows-then, gone-then, follows-moved, follows-other, gone-pushed, same-found}

-- the jobs of this line's writer are the same, and as far
pub record StaysFor (line : ℕ) (jobs now : List Job) : Type 0 where
  pub follows : Follows line jobs now
  pub keeps : KeepsGone line jobs now

pub stays-same : (line : ℕ) (jobs : List Job) → StaysFor line jobs jobs
stays-same line jobs = record { follows = follows-same line jobs; keeps = gone-same line jobs }

pub stays-then : (line : ℕ) (jobs mid now : List Job) → StaysFor line jobs mid → StaysFor line mid now → StaysFor line jobs now
stays-then line jobs mid now first second = record { follows = follows-then line jobs mid now first.follows second.follows; keeps = gone-then line jobs mid now first.follows first.keeps second.keeps }

-- one more job, of another
pub stays-pushed : (line : ℕ) (jobs : List Job) (new : Job) → new.owner ≢ owner.Writer line → StaysFor line jobs (jobs ++ new ∷ [])
stays-pushed line jobs new apart = record { follows = follows-other line jobs new apart; keeps = gone-pushed line jobs (new ∷ []) }

other-owner : (opened line : ℕ) → opened ≢ line → owner.Writer opened ≢ owner.Writer line
other-owner opened line apart same = apart (let e : opened ≡ line = cc in e)

stays-asked : (line number opened : ℕ) (askings : List Asking) (jobs : List Job) → opened ≢ line → StaysFor line jobs (jobs ++ asked_jobs number opened askings)
stays-asked line number opened [] jobs apart = rw append-nil (stays-same line jobs)
stays-asked line number opened (asking ∷ askings) jobs apart =
    let new : Job = writer_job number opened asking.call in
    subst (StaysFor line jobs) (append_assoc jobs (new ∷ []) (asked_jobs (number + 1) opened askings))
    (stays-then line jobs (jobs ++ new ∷ []) ((jobs ++ new ∷ []) ++ asked_jobs (number + 1) opened askings) (stays-pushed line jobs new (other-owner opened line apart)) (stays-asked line (number + 1) opened askings (jobs ++ new ∷ []) apart))

-- dropping changes just the jobs of the one writer
stays-dropped : (line opened : ℕ) (jobs : List Job) → opened ≢ line → StaysFor line jobs (dropped opened jobs)
stays-dropped line opened jobs apart = record {
  follows = follows-moved line jobs (if_dropped opened) (moves-dropped opened);
  keeps = λ number job later stands owned found gone.
      let same : if_dropped opened job ≡ job = dropped-other opened job (λ theirs. other-owner opened line apart (sym theirs ∙ owned)) in
      let there = found-moved (if_dropped opened) (moves-dropped opened) number jobs job stands ∙ ap (λ (j : Job). Some j) same in
      ap (λ (j : Job). j.phase) (same-found (dropped opened jobs) number job later there found) ∙ gone;
}

-- asks behind others are numbered on
asked-numbers : (number opened : ℕ) (askings : List Asking) (jobs : List Job) → number ≡ length jobs + 1 → AreNumbered 1 jobs → AreNumbered 1 (jobs ++ asked_jobs number opened askings)
asked-numbers number opened [] jobs next numbers = rw append-nil numbers
asked-numbers number opened (asking ∷ askings) jobs next numbers =
    let new : Job = writer_job number opened asking.call in
    let count = length-append jobs (new ∷ []) in
    subst (AreNumbered 1) (append_assoc jobs (new ∷ []) (asked_jobs (number + 1) opened askings))
    (asked-numbers (number + 1) opened askings (jobs ++ new ∷ []) (omega arith) (numbered-push 1 jobs new (omega arith) numbers))

plain-others : (line opened number : ℕ) (askings tail : List Asking) (jobs : List Job) (drops : List ℕ) (failed : Bool) → opened ≢ line → number ≡ length jobs + 1 → AreNumbered 1 jobs → drops ≡ (if failed then ready_for opened (jobs ++ asked_jobs number opened askings) else []) → StaysFor line jobs (fold drop_one (jobs ++ asked_jobs number opened (askings ++ tail)) drops)
plain-others line opened number askings tail jobs drops failed apart next numbers drops_are = go failed drops_are
  where
    first : List Job
    first = jobs ++ asked_jobs number opened askings

    more : List Job
    more = asked_jobs (number + length askings) opened tail

    jobs_are : jobs ++ asked_jobs number opened (askings ++ tail) ≡ first ++ more
    jobs_are = ap (λ t. jobs ++ t) (asked-append number opened askings tail) ∙ sym (append_assoc jobs (asked_jobs number opened askings) more)

    first_stays : StaysFor line jobs first
    first_stays = stays-asked line number opened askings jobs apart

    all_numbers : AreNumbered 1 (first ++ more)
    all_numbers = subst (AreNumbered 1) jobs_are (asked-numbers number opened (askings ++ tail) jobs next numbers)

    go : (failed : Bool) → drops ≡ (if failed then ready_for opened first else []) → StaysFor line jobs (fold drop_one (jobs ++ asked_jobs number opened (askings ++ tail)) drops)
    go true are =
        let is : fold drop_one (jobs ++ asked_jobs number opened (askings ++ tail)) drops ≡ dropped opened first ++ more = ap (fold drop_one (jobs ++ asked_jobs number opened (askings ++ tail))) are ∙ ap (λ t. fold drop_one t (ready_for opened first)) jobs_are ∙ dropped-is 0 opened first more (Rises-jobs 0 (first ++ more) all_numbers) in
        subst (StaysFor line jobs) (sym is)
        (stays-then line jobs first (dropped opened first ++ more) first_stays
        (stays-then line first (dropped opened first) (dropped opened first ++ more) (stays-dropped line opened first apart) (stays-asked line (number + length askings) opened tail (dropped opened first) apart)))
    go false are =
        let is : fold drop_one (jobs ++ asked_jobs number opened (askings ++ tail)) drops ≡ first ++ more = ap (fold drop_one (jobs ++ asked_jobs number opened (askings ++ tail))) are ∙ jobs_are in
        subst (StaysFor line jobs) (sym is)
        (stays-then line jobs first (first ++ more) first_stays (stays-asked line (number + length askings) opened tail first apart))

-- and so for the others in a step
pub turn-others : (line : ℕ) (state : ClientState) (step : Step) (w : Writer) (own : List Answered) → w.line ≢ line → TakesTurnOfWriter state step w own → length (jobs_at state.jobs step.event) ≡ length state.jobs → AreNumbered 1 (jobs_at state.jobs step.event) → StaysFor line (jobs_at state.jobs step.event) (fold drop_one (jobs_at state.jobs step.event ++ jobs_of_writer step w) step.drops)
turn-others line state step w own apart takes same numbers =
    let jobs : List Job = jobs_at state.jobs step.event in
    let number : ℕ = length state.jobs + 1 in
    let count : ℕ = calls_in step.asks in
    let askings : List Asking = first_asks count w.key w.upload in
    let tail : List Asking = tail_of_step in
    let called : jobs_called step w ≡ asked_jobs number w.line askings = ap (λ (t : List Ask). jobs_made w.line t (calls_of askings)) takes.asks ∙ asked-front number w.line askings tail in
    let drops_are : step.drops ≡ (if has_failed (behind_asks count w.upload) then ready_for w.line (jobs ++ asked_jobs number w.line askings) else []) = takes.drops ∙ ap (λ t. if has_failed (behind_asks count w.upload) then ready_for w.line (jobs ++ t) else []) called in
    let jobs_are : jobs_of_writer step w ≡ asked_jobs number w.line (askings ++ tail) = ap (λ (t : List Ask). jobs_made w.line t (calls_of (askings ++ tail))) takes.asks in
    subst (λ t. StaysFor line jobs (fold drop_one (jobs ++ t) step.drops)) (sym jobs_are)
    (plain-others line w.line number askings tail jobs step.drops (has_failed (behind_asks count w.upload)) apart (let is : number ≡ length jobs + 1 = omega arith in is) numbers drops_are)
  where
    tail_of_step : List Asking
    tail_of_step = if gives_up step.asks then asking_for w.key (behind_drops (calls_in step.asks) (length step.drops) w.upload) Abort ∷ [] else []
