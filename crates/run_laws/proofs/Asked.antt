-- What a writer asks for in its turn: new jobs of its own, behind all others.
use Rattle.std.proofs.Common.{◌≡◌, ◌≢◌, ℕ, zero, suc, ◌+◌, ◌*◌, ◌≤◌, List, [], ◌∷◌, ◌++◌, filter, length, cond, Bool, true, false, not, ◌==◌, Option, Some, None, ◌⊎◌, inl, inr, refl, sym, ap, ◌∙◌, subst, arith, append_assoc, append-nil, eq-eqb, ne_eqb}
use Rattle.std.proofs.lemmas.List.{length-append}
use Rattle.std.proofs.lemmas.Grind.{flat_map-append}
use Rattle.std.specs.List.{AllByRecursion}
use Rattle.bucket_model.specs.declared.call.Call.{Call}
use Rattle.bucket_model.specs.Answers.{MayBeMade}
use Rattle.upload_rules.specs.declared.upload.UpAsk.{UpAsk}
use Rattle.upload_rules.specs.declared.upload.UpAsk.TheVariants.{Create, Part, Complete, Abort}
use Rattle.upload_rules.specs.Upload.{Upload, due, with_ask, with_due}
use Rattle.upload_rules.proofs.Due.{due-is}
use Rattle.mount_model.specs.declared.event.Owner.{Owner}
use Rattle.mount_model.specs.declared.event.Owner.TheVariants as owner
use Rattle.mount_model.specs.declared.event.AskedCall.{AskedCall}
use Rattle.mount_model.specs.declared.event.AskedCall.TheVariants as asked
use Rattle.mount_model.specs.Writers.{Asking, asking_for, with_asking, first_asks, ask_times}
use Rattle.mount_model.specs.State.{Job, Ready, is_abort as told_abort, calls_in, jobs_made, calls_of, AreNumbered}
use Rattle.mount_model.specs.Run.{numbered}
use Rattle.mount_model.proofs.Numbered.{numbered-push}
use Rattle.run_laws.specs.Counts.{total, any_call, is_create, is_part, is_complete, is_abort, made_job, out_job, ready_job, calls_made, calls_out, calls_ready, if_of_writer, part_in, parts_made}
use Rattle.run_laws.specs.Alive.{live_job, live_jobs}
use Rattle.run_laws.specs.Calls.{job_for, jobs_of}
use Rattle.run_laws.specs.Uploads.{IsUpload, IsTallied, calls_left_of}
use Rattle.run_laws.specs.Work.{job_work}
use Rattle.run_laws.specs.Writers.{tally, CountsFrom, AsksOnce}
use Rattle.run_laws.proofs.Keyed.{total-append}
use Rattle.run_laws.proofs.Jobs.{if_writer-own, if_writer-other, parts-length}
use Rattle.run_laws.proofs.Uploads.{Adds, IsOnce, kinds, ask-tallied, tallied-once}
use Rattle.run_laws.proofs.Places.{Stays, stays-same, stays-then, stays-ask, pending-ask, upload-ask, ask-made, ask-fewer}

-- each of so many asks is due, one behind the other, and none is an abort
abbrev pub AsksAll : ℕ → Upload → Type 0
AsksAll zero u = Unit {0}
AsksAll (suc count) u = (ask : UpAsk) × (due u ≡ Some ask) × (ask ≢ Abort) × AsksAll count (with_ask ask u)

-- no ask of these is told as anything but an abort
abbrev pub AreAborts : List Asking → Type 0
AreAborts [] = Unit {0}
AreAborts (asking ∷ askings) = (told_abort (record { job = 0; owner = owner.Writer 0; call = asking.told }) ≡ true) × AreAborts askings

aborts-none : (number : ℕ) (who : Owner) (askings : List Asking) → AreAborts askings → calls_in (numbered number who askings) ≡ 0
aborts-none number who [] all = refl
aborts-none number who (asking ∷ askings) all = go (told_abort (record { job = number; owner = who; call = asking.told })) (abort-same asking.told ∙ all.0) (aborts-none (number + 1) who askings all.1)
  where
    abort-same : (told : AskedCall) → told_abort (record { job = number; owner = who; call = told }) ≡ told_abort (record { job = 0; owner = owner.Writer 0; call = told })
    abort-same (asked.Abort upload) = refl
    abort-same other = refl

    go : (b : Bool) → b ≡ true → calls_in (numbered (number + 1) who askings) ≡ 0 → length (cond (not b) (record { job = number; owner = who; call = asking.told } ∷ filter (λ ask. not (told_abort ask)) (numbered (number + 1) who askings)) (filter (λ ask. not (told_abort ask)) (numbered (number + 1) who askings))) ≡ 0
    go true is e = e
    go false is e = absurd (cc)

-- one more ask
ask-counts : (number : ℕ) (who : Owner) (key : List ℕ) (u : Upload) (ask : UpAsk) (askings : List Asking) → (ask ≢ Abort → calls_in (numbered number who (asking_for key u ask ∷ askings)) ≡ calls_in (numbered (number + 1) who askings) + 1) × (ask ≡ Abort → calls_in (numbered number who (asking_for key u ask ∷ askings)) ≡ calls_in (numbered (number + 1) who askings))
ask-counts number who key u Create askings = (λ other. omega arith, λ is. absurd (cc))
ask-counts number who key u (Part part from to) askings = (λ other. omega arith, λ is. absurd (cc))
ask-counts number who key u (Complete parts) askings = (λ other. omega arith, λ is. absurd (cc))
ask-counts number who key u Abort askings = (λ other. absurd (other refl), λ is. refl)

is-abort : (ask : UpAsk) → (ask ≡ Abort) ⊎ (ask ≢ Abort)
is-abort Abort = inl refl
is-abort Create = inr (λ is. absurd (cc))
is-abort (Part number from to) = inr (λ is. absurd (cc))
is-abort (Complete parts) = inr (λ is. absurd (cc))

count-most : (count number : ℕ) (who : Owner) (key : List ℕ) (u : Upload) (tail : List Asking) → AreAborts tail → calls_in (numbered number who (first_asks count key u ++ tail)) ≤ count
count-most zero number who key u tail all = let none = aborts-none number who tail all in omega arith
count-most (suc count) number who key u tail all = go (due u) (λ ask. count-most count (number + 1) who key (with_ask ask u) tail all)
  where
    go : (o : Option UpAsk) → ((ask : UpAsk) → calls_in (numbered (number + 1) who (first_asks count key (with_ask ask u) ++ tail)) ≤ count) → calls_in (numbered number who (with_asking key u o (first_asks count key (with_due o u)) ++ tail)) ≤ suc count
    go None ih = let none = aborts-none number who tail all in omega arith
    go (Some ask) ih =
        let more = ih ask in
        let counts = ask-counts number who key u ask (first_asks count key (with_ask ask u) ++ tail) in
        elim (is-abort ask) [ inl is ↦ (let same = counts.1 is in omega arith) | inr other ↦ (let one = counts.0 other in omega arith) ]

-- where as many calls are told as were due at most, each of them was due
pub asks-all : (count number : ℕ) (who : Owner) (key : List ℕ) (u : Upload) (tail : List Asking) → AreAborts tail → calls_in (numbered number who (first_asks count key u ++ tail)) ≡ count → AsksAll count u
asks-all zero number who key u tail all is = tt
asks-all (suc count) number who key u tail all is = go (due u) refl is (λ ask. asks-all count (number + 1) who key (with_ask ask u) tail all)
  where
    go : (o : Option UpAsk) → due u ≡ o → calls_in (numbered number who (with_asking key u o (first_asks count key (with_due o u)) ++ tail)) ≡ suc count → ((ask : UpAsk) → calls_in (numbered (number + 1) who (first_asks count key (with_ask ask u) ++ tail)) ≡ count → AsksAll count (with_ask ask u)) → AsksAll (suc count) u
    go None at is ih = let none = aborts-none number who tail all in absurd (omega arith)
    go (Some ask) at is ih =
        let most = count-most count (number + 1) who key (with_ask ask u) tail all in
        let counts = ask-counts number who key u ask (first_asks count key (with_ask ask u) ++ tail) in
        elim (is-abort ask) [
          | inl abort ↦ absurd (let same = counts.1 abort in omega arith)
          | inr other ↦ (ask, at, other, ih ask (let one = counts.0 other in omega arith))
        ]

-- the jobs that are asked for

abbrev pub asked_jobs : ℕ → ℕ → List Asking → List Job
asked_jobs number opened askings = jobs_made opened (numbered number (owner.Writer opened) askings) (calls_of askings)

abbrev pub writer_job : ℕ → ℕ → Call → Job
writer_job number opened called = record { number = number; owner = owner.Writer opened; line = opened; call = called; phase = Ready }

pub asked-append : (number opened : ℕ) (askings more : List Asking) → asked_jobs number opened (askings ++ more) ≡ asked_jobs number opened askings ++ asked_jobs (number + length askings) opened more
asked-append number opened [] more = ap (λ (n : ℕ). asked_jobs n opened more) (let same : number ≡ number + 0 = omega arith in same)
asked-append number opened (asking ∷ askings) more = ap (λ t. writer_job number opened asking.call ∷ t) (asked-append (number + 1) opened askings more ∙ ap (λ (n : ℕ). asked_jobs (number + 1) opened askings ++ asked_jobs n opened more) (let same : number + 1 + length askings ≡ number + suc (length askings) = omega arith in same))

pub asked-front : (number opened : ℕ) (askings more : List Asking) → jobs_made opened (numbered number (owner.Writer opened) (askings ++ more)) (calls_of askings) ≡ asked_jobs number opened askings
asked-front number opened [] [] = refl
asked-front number opened [] (asking ∷ more) = refl
asked-front number opened (asking ∷ askings) more = ap (λ t. writer_job number opened asking.call ∷ t) (asked-front (number + 1) opened askings more)

pub asked-length : (number opened : ℕ) (askings : List Asking) → length (asked_jobs number opened askings) ≡ length askings
asked-length number opened [] = refl
asked-length number opened (asking ∷ askings) = let more = asked-length (number + 1) opened askings in omega arith

-- jobs that differ in the jobs of one writer alone
pub record OnlyFor (opened : ℕ) (before now : List Job) : Type 0 where
  pub live : (m : ℕ) → live_jobs m now ≡ live_jobs m before
  pub of_lines : (m : ℕ) → jobs_of m now ≡ jobs_of m before
  pub out : (kind : Call → ℕ) (m : ℕ) → (opened ≡ m → ⊥) → calls_out kind m now ≡ calls_out kind m before
  pub ready : (kind : Call → ℕ) (m : ℕ) → (opened ≡ m → ⊥) → calls_ready kind m now ≡ calls_ready kind m before
  pub made : (kind : Call → ℕ) (m : ℕ) → (opened ≡ m → ⊥) → calls_made kind m now ≡ calls_made kind m before
  pub parts : (m : ℕ) → (opened ≡ m → ⊥) → parts_made m now ≡ parts_made m before

pub only-same : (opened : ℕ) (jobs : List Job) → OnlyFor opened jobs jobs
only-same opened jobs = record { live = λ m. refl; of_lines = λ m. refl; out = λ kind m apart. refl; ready = λ kind m apart. refl; made = λ kind m apart. refl; parts = λ m apart. refl }

pub only-then : (opened : ℕ) (before mid now : List Job) → OnlyFor opened before mid → OnlyFor opened mid now → OnlyFor opened before now
only-then opened before mid now first second = record {
  live = λ m. second.live m ∙ first.live m;
  of_lines = λ m. second.of_lines m ∙ first.of_lines m;
  out = λ kind m apart. second.out kind m apart ∙ first.out kind m apart;
  ready = λ kind m apart. second.ready kind m apart ∙ first.ready kind m apart;
  made = λ kind m apart. second.made kind m apart ∙ first.made kind m apart;
  parts = λ m apart. second.parts m apart ∙ first.parts m apart;
}

-- one more job of the writer
pub only-push : (opened number : ℕ) (called : Call) (jobs : List Job) → OnlyFor opened jobs (jobs ++ writer_job number opened called ∷ [])
only-push opened number called jobs = record {
  live = λ m. let sum = total-append (live_job m) jobs (new ∷ []) in omega arith;
  of_lines = λ m. let sum = total-append (job_for m) jobs (new ∷ []) in omega arith;
  out = λ kind m apart. let sum = total-append (out_job kind m) jobs (new ∷ []) in let none = if_writer-other m opened (kind called) apart in omega arith;
  ready = λ kind m apart. let sum = total-append (ready_job kind m) jobs (new ∷ []) in let none = if_writer-other m opened (kind called) apart in omega arith;
  made = λ kind m apart. let sum = total-append (made_job kind m) jobs (new ∷ []) in let none = if_writer-other m opened (kind called) apart in omega arith;
  parts = λ m apart.
      let differ : (opened == m) ≡ false = ne_eqb opened m apart in
      let none : if_of_writer m (owner.Writer opened) (part_in called) ++ [] ≡ [] = rw differ refl in
      flat_map-append (λ (job : Job). if_of_writer m job.owner (part_in job.call)) jobs (new ∷ []) ∙ ap (λ t. parts_made m jobs ++ t) none ∙ append-nil (parts_made m jobs);
}
  where
    new : Job
    new = writer_job number opened called

pub out-push : (kind : Call → ℕ) (opened number : ℕ) (called : Call) (jobs : List Job) → calls_out kind opened (jobs ++ writer_job number opened called ∷ []) ≡ calls_out kind opened jobs + kind called
out-push kind opened number called jobs = let sum = total-append (out_job kind opened) jobs (writer_job number opened called ∷ []) in let own = if_writer-own opened (kind called) in omega arith

pub ready-push : (kind : Call → ℕ) (opened number : ℕ) (called : Call) (jobs : List Job) → calls_ready kind opened (jobs ++ writer_job number opened called ∷ []) ≡ calls_ready kind opened jobs + kind called
ready-push kind opened number called jobs = let sum = total-append (ready_job kind opened) jobs (writer_job number opened called ∷ []) in let own = if_writer-own opened (kind called) in omega arith

pub made-push : (kind : Call → ℕ) (opened number : ℕ) (called : Call) (jobs : List Job) → calls_made kind opened (jobs ++ writer_job number opened called ∷ []) ≡ calls_made kind opened jobs + kind called
made-push kind opened number called jobs = let sum = total-append (made_job kind opened) jobs (writer_job number opened called ∷ []) in let own = if_writer-own opened (kind called) in omega arith

parts-push : (opened number : ℕ) (called : Call) (jobs : List Job) → parts_made opened (jobs ++ writer_job number opened called ∷ []) ≡ parts_made opened jobs ++ part_in called
parts-push opened number called jobs =
    let same : (opened == opened) ≡ true = eq-eqb opened opened refl in
    let own : if_of_writer opened (owner.Writer opened) (part_in called) ++ [] ≡ part_in called ++ [] = rw same refl in
    flat_map-append (λ (job : Job). if_of_writer opened job.owner (part_in job.call)) jobs (writer_job number opened called ∷ []) ∙ ap (λ t. parts_made opened jobs ++ t) (own ∙ append-nil (part_in called))

pub tally-push : (opened number : ℕ) (called : Call) (jobs : List Job) → Adds called (tally opened jobs) (tally opened (jobs ++ writer_job number opened called ∷ []))
tally-push opened number called jobs = record {
  creates = made-push is_create opened number called jobs;
  parts = made-push is_part opened number called jobs;
  completes = made-push is_complete opened number called jobs;
  aborts = made-push is_abort opened number called jobs;
  creates_out = out-push is_create opened number called jobs;
  parts_out = out-push is_part opened number called jobs;
  completes_out = out-push is_complete opened number called jobs;
  aborts_out = out-push is_abort opened number called jobs;
}

-- calls without their keys count alike
asking-adds : (key : List ℕ) (u : Upload) (ask : UpAsk) (opened number : ℕ) (jobs : List Job) → Adds (asking_for [] u ask).call (tally opened jobs) (tally opened (jobs ++ writer_job number opened (asking_for key u ask).call ∷ []))
asking-adds key u Create opened number jobs = let adds = tally-push opened number (asking_for key u Create).call jobs in record { creates = adds.creates; parts = adds.parts; completes = adds.completes; aborts = adds.aborts; creates_out = adds.creates_out; parts_out = adds.parts_out; completes_out = adds.completes_out; aborts_out = adds.aborts_out }
asking-adds key u (Part part from to) opened number jobs = tally-push opened number (asking_for key u (Part part from to)).call jobs
asking-adds key u (Complete parts) opened number jobs = tally-push opened number (asking_for key u (Complete parts)).call jobs
asking-adds key u Abort opened number jobs = tally-push opened number (asking_for key u Abort).call jobs

counts-push : (number : ℕ) (numbers : List ℕ) (next : ℕ) → next ≡ number + length numbers → CountsFrom number numbers → CountsFrom number (numbers ++ next ∷ [])
counts-push number [] next is all = (omega arith, tt)
counts-push number (first ∷ numbers) next is all = (all.0, counts-push (number + 1) numbers next (omega arith) all.1)

-- an upload in its writer's turn, and the jobs so far
pub record IsInTurn (opened : ℕ) (u : Upload) (jobs : List Job) : Type 0 where
  pub numbers : AreNumbered 1 jobs
  pub upload : IsUpload u
  pub tallied : IsTallied u (tally opened jobs)
  pub pending : u.pending ≡ calls_out any_call opened jobs
  pub once : AsksOnce opened jobs

-- what has become of them in the turn so far
pub record Turns (opened : ℕ) (u : Upload) (jobs : List Job) (now : Upload) (behind : List Job) : Type 0 where
  pub stays : Stays u now
  pub only : OnlyFor opened jobs behind
  pub work : 2 * calls_left_of now (tally opened behind) + total job_work behind ≤ 2 * calls_left_of u (tally opened jobs) + total job_work jobs

pub turns-same : (opened : ℕ) (u : Upload) (jobs : List Job) → Turns opened u jobs u jobs
turns-same opened u jobs = record { stays = stays-same u; only = only-same opened jobs; work = omega arith }

pub turns-then : (opened : ℕ) (u : Upload) (jobs : List Job) (mid : Upload) (between : List Job) (now : Upload) (behind : List Job) → Turns opened u jobs mid between → Turns opened mid between now behind → Turns opened u jobs now behind
turns-then opened u jobs mid between now behind first second = record { stays = stays-then u mid now first.stays second.stays; only = only-then opened jobs between behind first.only second.only; work = let a = first.work in let b = second.work in omega arith }

-- one ask

asking-kinds : (key : List ℕ) (u : Upload) (ask : UpAsk) → kinds (asking_for key u ask).call ≡ 1
asking-kinds key u Create = refl
asking-kinds key u (Part number from to) = refl
asking-kinds key u (Complete parts) = refl
asking-kinds key u Abort = refl

parts-ask : (opened : ℕ) (key : List ℕ) (u : Upload) (ask : UpAsk) (numbers : List ℕ) → due u ≡ Some ask → length numbers ≡ u.asked → CountsFrom 1 numbers → CountsFrom 1 (numbers ++ part_in (asking_for key u ask).call)
parts-ask opened key u (Part number from to) numbers is count all = counts-push 1 numbers number (let number_is : number ≡ u.asked + 1 = (due-is u (Part number from to) is).number_is in omega arith) all
parts-ask opened key u Create numbers is count all = rw append-nil all
parts-ask opened key u (Complete parts) numbers is count all = rw append-nil all
parts-ask opened key u Abort numbers is count all = rw append-nil all

once-push : (opened number : ℕ) (called : Call) (jobs : List Job) → kinds called ≡ 1 → IsOnce (tally opened (jobs ++ writer_job number opened called ∷ [])) → CountsFrom 1 (parts_made opened jobs ++ part_in called) → AsksOnce opened jobs → AsksOnce opened (jobs ++ writer_job number opened called ∷ [])
once-push opened number called jobs one bounds parts once = record {
  creates = bounds.creates;
  completes = bounds.completes;
  aborts = bounds.aborts;
  parts = subst (CountsFrom 1) (sym (parts-push opened number called jobs)) parts;
  all =
      let any = made-push any_call opened number called jobs in
      let creates = made-push is_create opened number called jobs in
      let part = made-push is_part opened number called jobs in
      let completes = made-push is_complete opened number called jobs in
      let aborts = made-push is_abort opened number called jobs in
      let before = parts-length opened jobs in
      let now = parts-length opened (jobs ++ writer_job number opened called ∷ []) in
      let all = once.all in
      omega arith;
}

-- what is due is asked for, and the writer stays in its turn
pub ask-turn : (opened number : ℕ) (key : List ℕ) (u : Upload) (ask : UpAsk) (jobs : List Job) → number ≡ length jobs + 1 → due u ≡ Some ask → IsInTurn opened u jobs → IsInTurn opened (with_ask ask u) (jobs ++ writer_job number opened (asking_for key u ask).call ∷ [])
ask-turn opened number key u ask jobs is at turn =
    let called : Call = (asking_for key u ask).call in
    let tallied = ask-tallied u (tally opened jobs) (tally opened (jobs ++ writer_job number opened called ∷ [])) ask at turn.tallied (asking-adds key u ask opened number jobs) in
    let any = out-push any_call opened number called jobs in
    let pending = turn.pending in
    let more = pending-ask ask u in
    let length_is : length (parts_made opened jobs) ≡ u.asked = parts-length opened jobs ∙ turn.tallied.parts in
    record {
      numbers = numbered-push 1 jobs (writer_job number opened called) (omega arith) turn.numbers;
      upload = upload-ask u ask at turn.upload;
      tallied = tallied;
      pending = omega arith;
      once = once-push opened number called jobs (asking-kinds key u ask) (tallied-once (with_ask ask u) (tally opened (jobs ++ writer_job number opened called ∷ [])) tallied) (parts-ask opened key u ask (parts_made opened jobs) at length_is turn.once.parts) turn.once;
    }

pub ask-turns : (opened number : ℕ) (key : List ℕ) (u : Upload) (ask : UpAsk) (jobs : List Job) → due u ≡ Some ask → IsInTurn opened u jobs → Turns opened u jobs (with_ask ask u) (jobs ++ writer_job number opened (asking_for key u ask).call ∷ [])
ask-turns opened number key u ask jobs at turn =
    let called : Call = (asking_for key u ask).call in
    let fewer = ask-fewer u (tally opened jobs) (tally opened (jobs ++ writer_job number opened called ∷ [])) ask at turn.upload.part_low turn.tallied (asking-adds key u ask opened number jobs) in
    let sum = total-append job_work jobs (writer_job number opened called ∷ []) in
    record { stays = stays-ask u ask; only = only-push opened number called jobs; work = omega arith }

-- all that are asked for

pub record HasAsked (opened : ℕ) (key : List ℕ) (count number : ℕ) (u : Upload) (jobs : List Job) : Type 0 where
  pub turn : IsInTurn opened (ask_times count u) (jobs ++ asked_jobs number opened (first_asks count key u))
  pub turns : Turns opened u jobs (ask_times count u) (jobs ++ asked_jobs number opened (first_asks count key u))
  pub aborts : calls_out is_abort opened (jobs ++ asked_jobs number opened (first_asks count key u)) ≡ calls_out is_abort opened jobs
  pub asked : length (first_asks count key u) ≡ count
  pub made : AllByRecursion (λ (job : Job). MayBeMade job.call) (asked_jobs number opened (first_asks count key u))

no-abort : (key : List ℕ) (u : Upload) (ask : UpAsk) → ask ≢ Abort → is_abort (asking_for key u ask).call ≡ 0
no-abort key u Create other = refl
no-abort key u (Part number from to) other = refl
no-abort key u (Complete parts) other = refl
no-abort key u Abort other = absurd (other refl)

pub asks-along : (opened : ℕ) (key : List ℕ) (count number : ℕ) (u : Upload) (jobs : List Job) → AsksAll count u → number ≡ length jobs + 1 → IsInTurn opened u jobs → HasAsked opened key count number u jobs
asks-along opened key zero number u jobs all is turn = record { turn = rw append-nil turn; turns = rw append-nil (turns-same opened u jobs); aborts = ap (calls_out is_abort opened) (append-nil jobs); asked = refl; made = tt }
asks-along opened key (suc count) number u jobs all is turn =
    let ask : UpAsk = all.0 in
    let at : due u ≡ Some ask = all.1 in
    let called : Call = (asking_for key u ask).call in
    let one : List Job = jobs ++ writer_job number opened called ∷ [] in
    let none = no-abort key u ask all.2 in
    let one_turn = ask-turn opened number key u ask jobs is at turn in
    let one_turns = ask-turns opened number key u ask jobs at turn in
    let count_one = length-append jobs (writer_job number opened called ∷ []) in
    let more = asks-along opened key count (number + 1) (with_ask ask u) one all.3 (omega arith) one_turn in
    let rest : List Job = asked_jobs (number + 1) opened (first_asks count key (with_ask ask u)) in
    let jobs_are : one ++ rest ≡ jobs ++ writer_job number opened called ∷ rest = append_assoc jobs (writer_job number opened called ∷ []) rest in
    let aborts = out-push is_abort opened number called jobs in
    record {
      turn = rw at (subst (IsInTurn opened (ask_times count (with_ask ask u))) jobs_are more.turn);
      turns = rw at (subst (Turns opened u jobs (ask_times count (with_ask ask u))) jobs_are (turns-then opened u jobs (with_ask ask u) one (ask_times count (with_ask ask u)) (one ++ rest) one_turns more.turns));
      aborts = rw at (ap (calls_out is_abort opened) (sym jobs_are) ∙ more.aborts ∙ (let same : calls_out is_abort opened one ≡ calls_out is_abort opened jobs = omega arith in same));
      asked = rw at (ap suc more.asked);
      made = rw at (ask-made key u ask at turn.upload, more.made);
    }
