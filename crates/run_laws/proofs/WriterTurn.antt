-- The turn of a writer: it asks for what is due, drops what is ready where it has failed, is given up, and answers who waits.
use Rattle.std.proofs.Common.{◌≡◌, ◌≢◌, ℕ, zero, suc, ◌+◌, ◌<◌, ◌≤◌, List, [], ◌∷◌, ◌++◌, fold, length, cond, Bool, true, false, ◌==◌, if◌then◌else◌, Some, None, ◌⊎◌, inl, inr, refl, sym, ap, ◌∙◌, subst, arith, append_assoc, append-nil, eqb-true}
use Rattle.std.proofs.lemmas.Bool.{eqb-false}
use Rattle.std.proofs.lemmas.List.{length-append}
use Rattle.std.specs.List.{AllByRecursion}
use Rattle.bucket_model.specs.Answers.{MayBeMade}
use Rattle.upload_rules.specs.declared.upload.UpState.{UpState}
use Rattle.upload_rules.specs.declared.upload.UpState.TheVariants.{Open, Finished, Done, Failed}
use Rattle.upload_rules.specs.declared.upload.UpAsk.TheVariants.{Abort}
use Rattle.upload_rules.specs.Upload.{Upload, due, with_ask, with_back}
use Rattle.mount_model.specs.declared.handle.Waiter.{Waiter}
use Rattle.mount_model.specs.declared.handle.Waiter.TheVariants as waiter
use Rattle.mount_model.specs.declared.request.Reply.TheVariants as reply
use Rattle.mount_model.specs.declared.event.Owner.{Owner}
use Rattle.mount_model.specs.declared.event.Owner.TheVariants as owner
use Rattle.mount_model.specs.declared.event.Ask.{Ask}
use Rattle.mount_model.specs.declared.event.Answered.{Answered}
use Rattle.mount_model.specs.Step.{Step}
use Rattle.mount_model.specs.Handles.{Writer}
use Rattle.mount_model.specs.Writers.{Asking, asking_for, first_asks, ask_times, has_failed, settled, back_times, sync_answer, close_answer, answer_to}
use Rattle.mount_model.specs.State.{ClientState, Job, Gone, job_at, jobs_at, in_phase, is_ready_for, ready_for, calls_in, gives_up, behind_asks, behind_drops, behind_step, askings_of, calls_of, jobs_made, jobs_of_writer, is_answered, AreNumbered}
use Rattle.mount_model.specs.Run.{numbered, jobs_called, TakesTurnOfWriter}
use Rattle.mount_model.proofs.Numbered.{numbered-push}
use Rattle.run_laws.specs.Counts.{any_call, is_create, is_part, is_complete, is_abort, is_no_abort, calls_out, calls_ready, parts_made}
use Rattle.run_laws.specs.Order.{asked_job}
use Rattle.run_laws.specs.Uploads.{Tally, IsTalliedIn, IsTallied, IsSpent}
use Rattle.run_laws.specs.Writers.{tally, waiting_line, AsksOnce}
use Rattle.run_laws.proofs.Keyed.{Rises, all-append}
use Rattle.run_laws.proofs.Jobs.{Rises-jobs, out-kinds, ready-kinds, ready-out, found-of-two}
use Rattle.run_laws.proofs.Dropped.{drop_one, dropped, dropped-is, dropped-made, dropped-parts, dropped-out, dropped-out-other, dropped-ready, dropped-ready-other, dropped-live, dropped-jobs_of, dropped-work, dropped-numbered, dropped-length, dropped-found, drops-count, drops-rise}
use Rattle.run_laws.proofs.Uploads.{Backs, settled-tallied, settled-none, finished-busy, drops-tallied}
use Rattle.run_laws.proofs.Places.{stays-settled, stays-back, shrinks-settled, shrinks-back, shrinks-left, pending-settled, pending-back, upload-settled, upload-back}
use Rattle.run_laws.proofs.Asked.{AsksAll, AreAborts, asks-all, asked_jobs, asked-append, asked-front, asked-length, writer_job, OnlyFor, only-same, IsInTurn, Turns, turns-same, turns-then, asks-along, ask-turn, ask-turns, ready-push}

-- where there was no memory for all that is due, it has failed

settled-turn : (opened : ℕ) (u : Upload) (jobs : List Job) → IsInTurn opened u jobs → IsInTurn opened (settled u) jobs
settled-turn opened u jobs turn = record { numbers = turn.numbers; upload = upload-settled u turn.upload; tallied = settled-tallied u (tally opened jobs) turn.tallied; pending = pending-settled u ∙ turn.pending; once = turn.once }

settled-turns : (opened : ℕ) (u : Upload) (jobs : List Job) → Turns opened u jobs (settled u) jobs
settled-turns opened u jobs = let fewer = shrinks-left u (settled u) (tally opened jobs) (shrinks-settled u) in record { stays = stays-settled u; only = only-same opened jobs; work = omega arith }

-- its ready jobs are dropped

dropped-only : (opened : ℕ) (jobs : List Job) → OnlyFor opened jobs (dropped opened jobs)
dropped-only opened jobs = record {
  live = λ m. dropped-live opened m jobs;
  of_lines = λ m. dropped-jobs_of opened m jobs;
  out = λ kind m apart. dropped-out-other kind opened m jobs apart;
  ready = λ kind m apart. dropped-ready-other kind opened m jobs apart;
  made = λ kind m apart. dropped-made kind opened m jobs;
  parts = λ m apart. dropped-parts opened m jobs;
}

dropped-once : (opened : ℕ) (jobs : List Job) → AsksOnce opened jobs → AsksOnce opened (dropped opened jobs)
dropped-once opened jobs once =
    let creates = dropped-made is_create opened opened jobs in
    let completes = dropped-made is_complete opened opened jobs in
    let aborts = dropped-made is_abort opened opened jobs in
    let any = dropped-made any_call opened opened jobs in
    let parts = dropped-parts opened opened jobs in
    let count : length (parts_made opened (dropped opened jobs)) ≡ length (parts_made opened jobs) = ap length parts in
    let all = once.all in
    let c = once.creates in
    let k = once.completes in
    let a = once.aborts in
    record { creates = omega arith; completes = omega arith; aborts = omega arith; parts = rw parts once.parts; all = omega arith }

-- so many of each kind
dropped-backs : (opened : ℕ) (jobs : List Job) → calls_out is_abort opened jobs ≡ 0 → Backs (calls_ready is_create opened jobs) (calls_ready is_part opened jobs) (calls_ready is_complete opened jobs) 0 (tally opened jobs) (tally opened (dropped opened jobs))
dropped-backs opened jobs none = record {
  creates_made = dropped-made is_create opened opened jobs;
  parts_made = dropped-made is_part opened opened jobs;
  completes_made = dropped-made is_complete opened opened jobs;
  aborts_made = dropped-made is_abort opened opened jobs;
  creates_out = dropped-out is_create opened jobs;
  parts_out = dropped-out is_part opened jobs;
  completes_out = dropped-out is_complete opened jobs;
  aborts_out = let out = dropped-out is_abort opened jobs in let ready = ready-out is_abort opened jobs in omega arith;
}

drops-kinds : (opened : ℕ) (u : Upload) (jobs : List Job) → IsInTurn opened u jobs → calls_out is_abort opened jobs ≡ 0 → calls_ready is_create opened jobs + calls_ready is_part opened jobs + calls_ready is_complete opened jobs ≡ length (ready_for opened jobs)
drops-kinds opened u jobs turn none =
    let all = turn.pending in
    let four = turn.tallied.pending in
    let kinds = ready-kinds opened jobs (out-kinds opened jobs (omega arith)) in
    let ready = ready-out is_abort opened jobs in
    let count = drops-count opened jobs in
    omega arith

dropped-turn : (opened : ℕ) (u : Upload) (jobs : List Job) → has_failed u ≡ true → calls_out is_abort opened jobs ≡ 0 → IsInTurn opened u jobs → IsInTurn opened (back_times (length (ready_for opened jobs)) u) (dropped opened jobs)
dropped-turn opened u jobs failed none turn =
    let drops : ℕ = length (ready_for opened jobs) in
    let kinds = drops-kinds opened u jobs turn none in
    record {
      numbers = dropped-numbered 1 opened jobs turn.numbers;
      upload = upload-back drops u turn.upload;
      tallied = drops-tallied drops u (tally opened jobs) (tally opened (dropped opened jobs)) (calls_ready is_create opened jobs) (calls_ready is_part opened jobs) (calls_ready is_complete opened jobs) failed kinds none turn.tallied (dropped-backs opened jobs none);
      pending =
          let pending = turn.pending in
          let back = pending-back drops u in
          let out = dropped-out any_call opened jobs in
          let count = drops-count opened jobs in
          omega arith;
      once = dropped-once opened jobs turn.once;
    }

dropped-turns : (opened : ℕ) (u : Upload) (jobs : List Job) → Turns opened u jobs (back_times (length (ready_for opened jobs)) u) (dropped opened jobs)
dropped-turns opened u jobs =
    let drops : ℕ = length (ready_for opened jobs) in
    let behind : Upload = back_times drops u in
    let shrinks = shrinks-back drops u in
    let fewer = shrinks-left u behind (tally opened jobs) shrinks in
    let creates = dropped-made is_create opened opened jobs in
    let completes = dropped-made is_complete opened opened jobs in
    let aborts = dropped-made is_abort opened opened jobs in
    let work = dropped-work opened jobs in
    record { stays = stays-back drops u; only = dropped-only opened jobs; work = omega arith }

-- all of that, by whether it has failed
record HasDropped (failed : Bool) (opened : ℕ) (u : Upload) (jobs behind : List Job) (drops : List ℕ) : Type 0 where
  left : List Job
  left_is : fold drop_one (jobs ++ behind) drops ≡ left ++ behind
  turn : IsInTurn opened (back_times (length drops) u) left
  turns : Turns opened u jobs (back_times (length drops) u) left
  aborts : calls_out is_abort opened left ≡ 0
  none_ready : failed ≡ true → calls_ready is_no_abort opened left ≡ 0
  none_dropped : failed ≡ false → drops ≡ []
  few : length drops ≤ u.pending
  in_order : Rises (λ job. job) 0 drops
  found : (k : ℕ) (job : Job) → job_at k left ≡ Some job → job.phase ≢ Gone → job_at k jobs ≡ Some job
  made : AllByRecursion (λ (job : Job). MayBeMade job.call) jobs → AllByRecursion (λ (job : Job). MayBeMade job.call) left
  same_length : length left ≡ length jobs

dropped-call : (opened : ℕ) (jobs : List Job) → AllByRecursion (λ (job : Job). MayBeMade job.call) jobs → AllByRecursion (λ (job : Job). MayBeMade job.call) (dropped opened jobs)
dropped-call opened [] all = tt
dropped-call opened (job ∷ jobs) all = (go (is_ready_for opened job), dropped-call opened jobs all.1)
  where
    go : (b : Bool) → MayBeMade (if b then in_phase Gone job else job).call
    go true = all.0
    go false = all.0

has-dropped : (failed : Bool) (opened : ℕ) (u : Upload) (jobs behind : List Job) → has_failed u ≡ failed → AreNumbered 1 (jobs ++ behind) → calls_out is_abort opened jobs ≡ 0 → IsInTurn opened u jobs → HasDropped failed opened u jobs behind (if failed then ready_for opened jobs else [])
has-dropped true opened u jobs behind is numbers none turn = record {
  left = dropped opened jobs;
  left_is = dropped-is 0 opened jobs behind (Rises-jobs 0 (jobs ++ behind) numbers);
  turn = dropped-turn opened u jobs is none turn;
  turns = dropped-turns opened u jobs;
  aborts = let out = dropped-out is_abort opened jobs in omega arith;
  none_ready = λ e. dropped-ready is_no_abort opened jobs;
  none_dropped = λ e. absurd (cc);
  few = let count = drops-count opened jobs in let ready = ready-out any_call opened jobs in let pending = turn.pending in omega arith;
  in_order = drops-rise 0 opened jobs (Rises-jobs 0 jobs turn.numbers);
  found = λ k job stands live. dropped-found k opened jobs job stands live;
  made = dropped-call opened jobs;
  same_length = dropped-length opened jobs;
}
has-dropped false opened u jobs behind is numbers none turn = record {
  left = jobs;
  left_is = refl;
  turn = turn;
  turns = turns-same opened u jobs;
  aborts = none;
  none_ready = λ e. absurd (cc);
  none_dropped = λ e. refl;
  few = omega arith;
  in_order = tt;
  found = λ k job stands live. stands;
  made = λ all. all;
  same_length = refl;
}

-- it may be given up then

has_failed-back : (drops : ℕ) (u : Upload) → has_failed (back_times drops u) ≡ has_failed u
has_failed-back zero u = refl
has_failed-back (suc drops) u = has_failed-back drops (with_back u)

abbrev ends : Bool → Upload → Upload
ends given u = if given then with_ask Abort u else u

abbrev end_jobs : Bool → ℕ → ℕ → List ℕ → Upload → List Job
end_jobs given number opened key u = asked_jobs number opened (if given then asking_for key u Abort ∷ [] else [])

record HasEnded (given : Bool) (opened number : ℕ) (key : List ℕ) (u : Upload) (jobs : List Job) : Type 0 where
  turn : IsInTurn opened (ends given u) (jobs ++ end_jobs given number opened key u)
  turns : Turns opened u jobs (ends given u) (jobs ++ end_jobs given number opened key u)
  failed : has_failed (ends given u) ≡ has_failed u
  idle : calls_ready is_no_abort opened jobs ≡ 0 → calls_ready is_no_abort opened (jobs ++ end_jobs given number opened key u) ≡ 0
  made : AllByRecursion (λ (job : Job). MayBeMade job.call) (end_jobs given number opened key u)

has-ended : (given : Bool) (opened number : ℕ) (key : List ℕ) (u : Upload) (jobs : List Job) → (given ≡ true → due u ≡ Some Abort) → number ≡ length jobs + 1 → IsInTurn opened u jobs → HasEnded given opened number key u jobs
has-ended true opened number key u jobs may is turn = record {
  turn = ask-turn opened number key u Abort jobs is (may refl) turn;
  turns = ask-turns opened number key u Abort jobs (may refl) turn;
  failed = refl;
  idle = λ none. let more = ready-push is_no_abort opened number (asking_for key u Abort).call jobs in omega arith;
  made = (tt, tt);
}
has-ended false opened number key u jobs may is turn = record {
  turn = rw append-nil turn;
  turns = rw append-nil (turns-same opened u jobs);
  failed = refl;
  idle = λ none. rw append-nil none;
  made = tt;
}

-- who waits is answered, or a call isn't back

unanswered-at : (who : Waiter) (number : ℕ) (state : UpState) (u : Upload) → u.state ≡ state → waiting_line who ≡ Some number → answer_to who u ≡ [] → u.state ≢ Open → (u.state ≡ Finished) ⊎ (0 < u.pending)
unanswered-at waiter.Nobody number state u at waits none not_open = absurd (cc)
unanswered-at who number Open u at waits none not_open = absurd (not_open at)
unanswered-at who number Finished u at waits none not_open = inl at
unanswered-at (waiter.Sync line) number Done u at waits none not_open = absurd (let said : sync_answer line Done ≡ [] = ap (sync_answer line) (sym at) ∙ none in cc)
unanswered-at (waiter.Close line) number Done u at waits none not_open = absurd (let said : close_answer line u.pending Done ≡ [] = ap (close_answer line u.pending) (sym at) ∙ none in cc)
unanswered-at (waiter.Sync line) number (Failed errno) u at waits none not_open = absurd (let said : sync_answer line (Failed errno) ≡ [] = ap (sync_answer line) (sym at) ∙ none in cc)
unanswered-at (waiter.Close line) number (Failed errno) u at waits none not_open = go (u.pending == 0) refl (let said : close_answer line u.pending (Failed errno) ≡ [] = ap (close_answer line u.pending) (sym at) ∙ none in said)
  where
    go : (b : Bool) → (u.pending == 0) ≡ b → if◌then◌else◌ {A = List Answered} b (record { line = line; reply = reply.Failed errno } ∷ []) [] ≡ [] → (u.state ≡ Finished) ⊎ (0 < u.pending)
    go true is said = absurd (cc)
    go false is said = inr (let some = eqb-false u.pending 0 is in omega arith)

-- a close that is answered leaves no call out
closed-back-at : (line : ℕ) (state : UpState) (u : Upload) (t : Tally) → IsTalliedIn state u t → is_answered (close_answer line u.pending state) ≡ true → u.pending ≡ 0
closed-back-at line Open u t by_state said = absurd (cc)
closed-back-at line Finished u t by_state said = absurd (cc)
closed-back-at line Done u t by_state said = let spent : IsSpent u t = by_state in spent.pending
closed-back-at line (Failed errno) u t by_state said = go (u.pending == 0) refl said
  where
    go : (b : Bool) → (u.pending == 0) ≡ b → is_answered (if◌then◌else◌ {A = List Answered} b (record { line = line; reply = reply.Failed errno } ∷ []) []) ≡ true → u.pending ≡ 0
    go true is said = eqb-true u.pending 0 is
    go false is said = absurd (cc)

-- the whole turn

pub record HasTurned (opened : ℕ) (u : Upload) (who : Waiter) (jobs : List Job) (now : Upload) (behind : List Job) (drops : List ℕ) (own : List Answered) : Type 0 where
  pub turn : IsInTurn opened now behind
  pub turns : Turns opened u jobs now behind
  pub answers : own ≡ answer_to who now
  pub busy : (number : ℕ) → waiting_line who ≡ Some number → own ≡ [] → 0 < now.pending
  pub back : (number : ℕ) → who ≡ waiter.Close number → is_answered own ≡ true → now.pending ≡ 0
  pub idle : has_failed now ≡ true → calls_ready is_no_abort opened behind ≡ 0
  pub in_order : Rises (λ job. job) 0 drops
  pub found : (k : ℕ) (job : Job) → job_at k behind ≡ Some job → job.phase ≢ Gone → (job_at k jobs ≡ Some job) ⊎ (job.owner ≡ owner.Writer opened)
  pub made : AllByRecursion (λ (job : Job). MayBeMade job.call) jobs → AllByRecursion (λ (job : Job). MayBeMade job.call) behind

-- what happened to its upload: each of so many asks was due, and a failed one alone drops calls that aren't back
pub record HappensInTurn (count : ℕ) (u : Upload) (drops : List ℕ) : Type 0 where
  pub asks : AsksAll count u
  pub none_dropped : has_failed (settled (ask_times count u)) ≡ false → drops ≡ []
  pub few : length drops ≤ (settled (ask_times count u)).pending

-- the jobs that a writer asks for are its own
asked-owned : (k number opened : ℕ) (askings : List Asking) (job : Job) → job_at k (asked_jobs number opened askings) ≡ Some job → job.owner ≡ owner.Writer opened
asked-owned k number opened [] job is = absurd (cc)
asked-owned k number opened (asking ∷ askings) job is = go (number == k) is (asked-owned k (number + 1) opened askings job)
  where
    go : (b : Bool) → cond b (Some (writer_job number opened asking.call)) (job_at k (asked_jobs (number + 1) opened askings)) ≡ Some job → (job_at k (asked_jobs (number + 1) opened askings) ≡ Some job → job.owner ≡ owner.Writer opened) → job.owner ≡ owner.Writer opened
    go true is ih = let same : writer_job number opened asking.call ≡ job = cc in sym (ap (λ (j : Job). j.owner) same)
    go false is ih = ih is

abbrev tail_of : Bool → List ℕ → Upload → List Asking
tail_of given key u = if given then asking_for key u Abort ∷ [] else []

tail-aborts : (given : Bool) (key : List ℕ) (u : Upload) → AreAborts (tail_of given key u)
tail-aborts true key u = (refl, tt)
tail-aborts false key u = tt

tail-numbers : (given : Bool) (number opened : ℕ) (key : List ℕ) (u : Upload) (jobs : List Job) → number ≡ length jobs + 1 → AreNumbered 1 jobs → AreNumbered 1 (jobs ++ end_jobs given number opened key u)
tail-numbers true number opened key u jobs is numbers = numbered-push 1 jobs (writer_job number opened (asking_for key u Abort).call) (omega arith) numbers
tail-numbers false number opened key u jobs is numbers = rw append-nil numbers

has_failed-ends : (given : Bool) (u : Upload) → has_failed (ends given u) ≡ has_failed u
has_failed-ends true u = refl
has_failed-ends false u = refl

finished-alive : (state : UpState) (u : Upload) → u.state ≡ state → state ≡ Finished → has_failed u ≡ false
finished-alive state u at is = ap by_state (at ∙ is)
  where
    by_state : UpState → Bool
    by_state (Failed errno) = true
    by_state other = false

-- a finished upload in its turn has a call out
busy-finished : (opened : ℕ) (u : Upload) (given : Bool) (drops : List ℕ) (behind : List Job) → (has_failed u ≡ false → due u ≡ None) → (has_failed u ≡ false → drops ≡ []) → (given ≡ true → due (back_times (length drops) u) ≡ Some Abort) → IsTallied (ends given (back_times (length drops) u)) (tally opened behind) → has_failed u ≡ false → (ends given (back_times (length drops) u)).state ≡ Finished → 0 < (ends given (back_times (length drops) u)).pending
busy-finished opened u given (drop ∷ drops) behind no_due no_drops may tallied alive finished = absurd (let none = no_drops alive in cc)
busy-finished opened u true [] behind no_due no_drops may tallied alive finished = absurd (let none = no_due alive in let some = may refl in cc)
busy-finished opened u false [] behind no_due no_drops may tallied alive finished = finished-busy u (tally opened behind) finished tallied (no_due alive)

busy-behind : (opened : ℕ) (u : Upload) (who : Waiter) (given : Bool) (drops : List ℕ) (behind : List Job) (number : ℕ) → (has_failed u ≡ false → due u ≡ None) → (has_failed u ≡ false → drops ≡ []) → (given ≡ true → due (back_times (length drops) u) ≡ Some Abort) → IsTallied (ends given (back_times (length drops) u)) (tally opened behind) → waiting_line who ≡ Some number → answer_to who (ends given (back_times (length drops) u)) ≡ [] → (ends given (back_times (length drops) u)).state ≢ Open → 0 < (ends given (back_times (length drops) u)).pending
busy-behind opened u who given drops behind number no_due no_drops may tallied waits none not_open =
    let dropped_now : Upload = back_times (length drops) u in
    elim (unanswered-at who number (ends given dropped_now).state (ends given dropped_now) refl waits none not_open) [
      | inl finished ↦ busy-finished opened u given drops behind no_due no_drops may tallied (sym (has_failed-back (length drops) u) ∙ sym (has_failed-ends given dropped_now) ∙ finished-alive (ends given dropped_now).state (ends given dropped_now) refl finished) finished
      | inr some ↦ some
    ]

closed-back : (who : Waiter) (number : ℕ) (u : Upload) (t : Tally) → who ≡ waiter.Close number → IsTallied u t → is_answered (answer_to who u) ≡ true → u.pending ≡ 0
closed-back who number u t is tallied said = closed-back-at number u.state u t tallied.by_state (ap (λ (w : Waiter). is_answered (answer_to w u)) (sym is) ∙ said)

-- the turn of an upload that asks for the first of what is due
plain-turns : (opened number : ℕ) (key : List ℕ) (u : Upload) (who : Waiter) (jobs : List Job) (count : ℕ) (given : Bool) (drops : List ℕ) (own : List Answered) → calls_in (numbered number (owner.Writer opened) (first_asks count key u ++ tail_of given key (back_times (length drops) (settled (ask_times count u))))) ≡ count → drops ≡ (if has_failed (settled (ask_times count u)) then ready_for opened (jobs ++ asked_jobs number opened (first_asks count key u)) else []) → (given ≡ true → due (back_times (length drops) (settled (ask_times count u))) ≡ Some Abort) → own ≡ answer_to who (ends given (back_times (length drops) (settled (ask_times count u)))) → number ≡ length jobs + 1 → IsInTurn opened u jobs → calls_out is_abort opened jobs ≡ 0 → ((line : ℕ) → waiting_line who ≡ Some line → u.state ≢ Open) → HappensInTurn count u drops × HasTurned opened u who jobs (ends given (back_times (length drops) (settled (ask_times count u)))) (fold drop_one (jobs ++ asked_jobs number opened (first_asks count key u ++ tail_of given key (back_times (length drops) (settled (ask_times count u))))) drops) drops own
plain-turns opened number key u who jobs count given drops own counted drops_are may answers is turn none not_open =
    let asked_now : Upload = ask_times count u in
    let settled_now : Upload = settled asked_now in
    let dropped_now : Upload = back_times (length drops) settled_now in
    let now : Upload = ends given dropped_now in
    let askings : List Asking = first_asks count key u in
    let first : List Job = jobs ++ asked_jobs number opened askings in
    let all = asks-all count number (owner.Writer opened) key u (tail_of given key dropped_now) (tail-aborts given key dropped_now) counted in
    let asked = asks-along opened key count number u jobs all is turn in
    let last : ℕ = number + length askings in
    let more : List Job = end_jobs given last opened key dropped_now in
    let first_length = length-append jobs (asked_jobs number opened askings) in
    let asked_length = asked-length number opened askings in
    let last_is : last ≡ length first + 1 = omega arith in
    let no_aborts : calls_out is_abort opened first ≡ 0 = asked.aborts ∙ none in
    let settled_turn = settled-turn opened asked_now first asked.turn in
    let numbers = tail-numbers given last opened key dropped_now first last_is asked.turn.numbers in
    let dropped : HasDropped (has_failed settled_now) opened settled_now first more drops = subst (HasDropped (has_failed settled_now) opened settled_now first more) (sym drops_are) (has-dropped (has_failed settled_now) opened settled_now first more refl numbers no_aborts settled_turn) in
    let left_length = dropped.same_length in
    let ended = has-ended given opened last key dropped_now dropped.left may (let same : last ≡ length dropped.left + 1 = omega arith in same) dropped.turn in
    let behind : List Job = dropped.left ++ more in
    let jobs_are : fold drop_one (jobs ++ asked_jobs number opened (askings ++ tail_of given key dropped_now)) drops ≡ behind = ap (λ t. fold drop_one (jobs ++ t) drops) (asked-append number opened askings (tail_of given key dropped_now)) ∙ ap (λ t. fold drop_one t drops) (sym (append_assoc jobs (asked_jobs number opened askings) more)) ∙ dropped.left_is in
    let turns_first = turns-then opened u jobs asked_now first settled_now first asked.turns (settled-turns opened asked_now first) in
    let turns_second = turns-then opened u jobs settled_now first dropped_now dropped.left turns_first dropped.turns in
    let turns_all = turns-then opened u jobs dropped_now dropped.left now behind turns_second ended.turns in
    let failed_is : has_failed now ≡ has_failed settled_now = ended.failed ∙ has_failed-back (length drops) settled_now in (
      record { asks = all; none_dropped = dropped.none_dropped; few = dropped.few },
      subst (λ t. HasTurned opened u who jobs now t drops own) (sym jobs_are) (record {
        turn = ended.turn;
        turns = turns_all;
        answers = answers;
        busy = λ line waits said. busy-behind opened settled_now who given drops behind line (settled-none asked_now) dropped.none_dropped may ended.turn.tallied waits (sym answers ∙ said) (turns_all.stays.not_open (not_open line waits));
        back = λ line is_close said. closed-back who line now (tally opened behind) is_close ended.turn.tallied (ap is_answered (sym answers) ∙ said);
        idle = λ failed. ended.idle (dropped.none_ready (sym failed_is ∙ failed));
        in_order = dropped.in_order;
        found = λ k job stands live. elim (found-of-two k dropped.left more job stands) [
          | inl old ↦ elim (found-of-two k jobs (asked_jobs number opened askings) job (dropped.found k job old live)) [
            | inl here ↦ inl here
            | inr new ↦ inr (asked-owned k number opened askings job new)
          ]
          | inr new ↦ inr (asked-owned k last opened (tail_of given key dropped_now) job new)
        ];
        made = λ all. all-append (λ (job : Job). MayBeMade job.call) dropped.left more (dropped.made (all-append (λ (job : Job). MayBeMade job.call) jobs (asked_jobs number opened askings) all asked.made)) ended.made;
      }),
    )

-- and of a writer in a step
both-turns : (state : ClientState) (step : Step) (w : Writer) (own : List Answered) → TakesTurnOfWriter state step w own → length (jobs_at state.jobs step.event) ≡ length state.jobs → IsInTurn w.line w.upload (jobs_at state.jobs step.event) → calls_out is_abort w.line (jobs_at state.jobs step.event) ≡ 0 → ((number : ℕ) → waiting_line w.waiter ≡ Some number → w.upload.state ≢ Open) → HappensInTurn (calls_in step.asks) w.upload step.drops × HasTurned w.line w.upload w.waiter (jobs_at state.jobs step.event) (behind_step step w.upload) (fold drop_one (jobs_at state.jobs step.event ++ jobs_of_writer step w) step.drops) step.drops own
both-turns state step w own takes same turn none not_open =
    let jobs : List Job = jobs_at state.jobs step.event in
    let number : ℕ = length state.jobs + 1 in
    let count : ℕ = calls_in step.asks in
    let askings : List Asking = first_asks count w.key w.upload in
    let tail : List Asking = tail_of (gives_up step.asks) w.key (behind_drops count (length step.drops) w.upload) in
    let counted : calls_in (numbered number (owner.Writer w.line) (askings ++ tail)) ≡ count = ap calls_in (sym takes.asks) in
    let called : jobs_called step w ≡ asked_jobs number w.line askings = ap (λ (t : List Ask). jobs_made w.line t (calls_of askings)) takes.asks ∙ asked-front number w.line askings tail in
    let drops_are : step.drops ≡ (if has_failed (behind_asks count w.upload) then ready_for w.line (jobs ++ asked_jobs number w.line askings) else []) = takes.drops ∙ ap (λ t. if has_failed (behind_asks count w.upload) then ready_for w.line (jobs ++ t) else []) called in
    let jobs_are : jobs_of_writer step w ≡ asked_jobs number w.line (askings ++ tail) = ap (λ (t : List Ask). jobs_made w.line t (calls_of (askings ++ tail))) takes.asks in
    subst (λ t. HappensInTurn (calls_in step.asks) w.upload step.drops × HasTurned w.line w.upload w.waiter jobs (behind_step step w.upload) (fold drop_one (jobs ++ t) step.drops) step.drops own) (sym jobs_are)
    (plain-turns w.line number w.key w.upload w.waiter jobs count (gives_up step.asks) step.drops own counted drops_are takes.gives_up takes.answers (let is : number ≡ length jobs + 1 = omega arith in is) turn none not_open)

pub writer-turns : (state : ClientState) (step : Step) (w : Writer) (own : List Answered) → TakesTurnOfWriter state step w own → length (jobs_at state.jobs step.event) ≡ length state.jobs → IsInTurn w.line w.upload (jobs_at state.jobs step.event) → calls_out is_abort w.line (jobs_at state.jobs step.event) ≡ 0 → ((number : ℕ) → waiting_line w.waiter ≡ Some number → w.upload.state ≢ Open) → HasTurned w.line w.upload w.waiter (jobs_at state.jobs step.event) (behind_step step w.upload) (fold drop_one (jobs_at state.jobs step.event ++ jobs_of_writer step w) step.drops) step.drops own
writer-turns state step w own takes same turn none not_open = (both-turns state step w own takes same turn none not_open).1

pub writer-happens : (state : ClientState) (step : Step) (w : Writer) (own : List Answered) → TakesTurnOfWriter state step w own → length (jobs_at state.jobs step.event) ≡ length state.jobs → IsInTurn w.line w.upload (jobs_at state.jobs step.event) → calls_out is_abort w.line (jobs_at state.jobs step.event) ≡ 0 → ((number : ℕ) → waiting_line w.waiter ≡ Some number → w.upload.state ≢ Open) → HappensInTurn (calls_in step.asks) w.upload step.drops
writer-happens state step w own takes same turn none not_open = (both-turns state step w own takes same turn none not_open).0

-- a writer's asks and drops stand in order

numbered-rise : (above number : ℕ) (who : Owner) (askings : List Asking) → above < number → Rises asked_job above (numbered number who askings)
numbered-rise above number who [] h = tt
numbered-rise above number who (asking ∷ askings) h = (h, numbered-rise number (number + 1) who askings (omega arith))

pub writer-asks-rise : (state : ClientState) (step : Step) (w : Writer) (own : List Answered) → TakesTurnOfWriter state step w own → Rises asked_job 0 step.asks
writer-asks-rise state step w own takes = subst (Rises asked_job 0) (sym takes.asks) (numbered-rise 0 (length state.jobs + 1) (owner.Writer w.line) (askings_of step w) (omega arith))
