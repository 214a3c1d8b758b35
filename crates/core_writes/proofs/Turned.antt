-- The turn of a writer, part by part, is its turn among all jobs.
use Rattle.std.proofs.Common.{◌≡◌, ℕ, ◌+◌, List, [], ◌∷◌, ◌++◌, fold, map, filter, length, cond, Bool, true, false, ◌==◌, if◌then◌else◌, Option, Some, refl, sym, ap, ◌∙◌, subst, arith, append_assoc, append-nil, eq-eqb}
use Rattle.std.specs.List.{slice_get}
use Rattle.std.specs.Prelude.{option_to_list}
use Rattle.std.proofs.lemmas.List.{length-append}
use Rattle.upload_rules.specs.declared.upload.UpAsk.TheVariants.{Abort}
use Rattle.upload_rules.specs.Upload.{Upload, due, with_ask}
use Rattle.mount_model.specs.declared.event.Ask.{Ask}
use Rattle.mount_model.specs.declared.event.Answered.{Answered}
use Rattle.mount_model.specs.declared.event.Owner.{Owner}
use Rattle.mount_model.specs.declared.event.Owner.TheVariants as owner
use Rattle.mount_model.specs.Step.{Step, change_last}
use Rattle.mount_model.specs.Handles.{Writer}
use Rattle.mount_model.specs.Conversation.{with_upload}
use Rattle.mount_model.specs.Writers.{Asking, first_asks, has_failed, settled, back_times, answer_to}
use Rattle.mount_model.specs.State.{Job, Gone, in_phase, change_job, is_ready_for, ready_for, calls_in, gives_up, behind_asks, behind_drops, behind_step, askings_of, calls_of, jobs_made, jobs_of_writer, AreNumbered}
use Rattle.mount_model.specs.Run.{numbered, jobs_called}
use Rattle.mount_model.proofs.Numbered.{numbered-change, numbered-push}
use Rattle.run_laws.proofs.Jobs.{Rises-jobs, length-change_job}
use Rattle.run_laws.proofs.Dropped.{drop_one, dropped, dropped-is}
use Rattle.run_laws.proofs.Asked.{asked_jobs, writer_job, asked-append, asked-front, asked-length}
use Rattle.job_table.specs.Journal.{Journaled}
use Rattle.job_table.specs.LiveJobs.{LiveJobs, without, ready_of_writer, held_of}
use Rattle.job_table.proofs.AllJobs.{held_of-push, held_of-gone, ready_of_writer-held_of, change_job-none}
use Rattle.core_writes.specs.Turn.{with_turn, IsTurn, Turns}
use Rattle.core_writes.specs.Asked.{with_job, with_jobs, told_behind, abort_if, AsksAll, GivesUp}
use Rattle.core_writes.specs.Dropped.{without_all, AreFirsts, DropsReady}
use Rattle.core_writes.proofs.Steps.{turn-then}
use Rattle.core_writes.proofs.Asked.{numbered-append, length-numbered, calls-append, gives_up-append, count-jobs}

-- what the table holds of the jobs that were asked for

held-asked : (line : ℕ) (askings : List Asking) (jobs : LiveJobs) (all : List Job) → jobs.held ≡ held_of all → jobs.count ≡ length all → (with_jobs line askings jobs).held ≡ held_of (all ++ asked_jobs (length all + 1) line askings)
held-asked line [] jobs all held count = held ∙ ap held_of (sym (append-nil all))
held-asked line (asking ∷ askings) jobs all held count =
    let one : Job = writer_job (length all + 1) line asking.call in
    let more : List Job = all ++ one ∷ [] in
    let size : length more ≡ length all + 1 = length-append all (one ∷ []) in
    let same : (with_job line jobs asking).held ≡ held_of more = rw (held, count) (sym (held_of-push all (length all + 1) line (owner.Writer line) asking.call)) in
    held-asked line askings (with_job line jobs asking) more same (omega (arith, size, count))
    ∙ ap held_of (append_assoc all (one ∷ []) (asked_jobs (length more + 1) line askings) ∙ ap (λ n. all ++ one ∷ asked_jobs (n + 1) line askings) size)

numbers-asked : (line : ℕ) (askings : List Asking) (all : List Job) → AreNumbered 1 all → AreNumbered 1 (all ++ asked_jobs (length all + 1) line askings)
numbers-asked line [] all numbers = rw append-nil numbers
numbers-asked line (asking ∷ askings) all numbers =
    let one : Job = writer_job (length all + 1) line asking.call in
    let more : List Job = all ++ one ∷ [] in
    let size : length more ≡ length all + 1 = length-append all (one ∷ []) in
    let stand : more ++ asked_jobs (length more + 1) line askings ≡ all ++ asked_jobs (length all + 1) line (asking ∷ askings) = append_assoc all (one ∷ []) (asked_jobs (length more + 1) line askings) ∙ ap (λ n. all ++ one ∷ asked_jobs (n + 1) line askings) size in
    subst (AreNumbered 1) stand (numbers-asked line askings more (numbered-push 1 all one (omega arith) numbers))

-- dropping the first ready one again and again drops all

not-ready : (line job : ℕ) (j : Job) (same : Bool) → is_ready_for line j ≡ false → is_ready_for line (if same then in_phase Gone j else j) ≡ false
not-ready line job j true is = refl
not-ready line job j false is = is

gone-first : (line job first : ℕ) (jobs : List Job) → AreNumbered first jobs → slice_get (ready_for line jobs) 0 ≡ Some job → ready_for line jobs ≡ job ∷ ready_for line (change_job job Gone jobs)
gone-first line job first [] numbers is = absurd (cc)
gone-first line job first (j ∷ jobs) numbers is = by_test (is_ready_for line j) refl is (gone-first line job (first + 1) jobs numbers.1)
  where
    changed : Job
    changed = if j.number == job then in_phase Gone j else j

    numbers_of : Bool → Job → List Job → List ℕ
    numbers_of b k ks = map (λ (i : Job). i.number) (cond b (k ∷ filter (is_ready_for line) ks) (filter (is_ready_for line) ks))

    by_test : (b : Bool) → is_ready_for line j ≡ b → slice_get (numbers_of b j jobs) 0 ≡ Some job → (slice_get (ready_for line jobs) 0 ≡ Some job → ready_for line jobs ≡ job ∷ ready_for line (change_job job Gone jobs)) → numbers_of b j jobs ≡ job ∷ ready_for line (changed ∷ change_job job Gone jobs)
    by_test true ready here later =
        let same : j.number ≡ job = cc in
        let test : (j.number == job) ≡ true = eq-eqb j.number job same in
        let none : change_job job Gone jobs ≡ jobs = change_job-none job (first + 1) Gone jobs numbers.1 (omega (arith, same, numbers.0)) in
        rw (test, none) (ap (λ n. n ∷ ready_for line jobs) same)
    by_test false ready there later = later there ∙ ap (λ b. job ∷ numbers_of b changed (change_job job Gone jobs)) (sym (not-ready line job j (j.number == job) ready))

drops-all : (line first : ℕ) (drops : List ℕ) (jobs : List Job) → AreNumbered first jobs → AreFirsts line (held_of jobs) drops → ready_of_writer line (without_all drops (held_of jobs)) ≡ [] → drops ≡ ready_for line jobs
drops-all line first [] jobs numbers firsts none = sym none ∙ ready_of_writer-held_of line jobs
drops-all line first (drop ∷ drops) jobs numbers firsts none =
    let stands : slice_get (ready_for line jobs) 0 ≡ Some drop = ap (λ t. slice_get t 0) (sym (ready_of_writer-held_of line jobs)) ∙ firsts.0 in
    let left : without drop (held_of jobs) ≡ held_of (change_job drop Gone jobs) = sym (held_of-gone drop first jobs numbers) in
    ap (λ t. drop ∷ t) (drops-all line first drops (change_job drop Gone jobs) (numbered-change first drop Gone jobs numbers) (subst (λ t. AreFirsts line t drops) left firsts.1) (subst (λ t. ready_of_writer line (without_all drops t) ≡ []) left none))
    ∙ sym (gone-first line drop first jobs numbers stands)

held-dropped : (first : ℕ) (drops : List ℕ) (jobs : List Job) → AreNumbered first jobs → without_all drops (held_of jobs) ≡ held_of (fold drop_one jobs drops)
held-dropped first [] jobs numbers = refl
held-dropped first (drop ∷ drops) jobs numbers =
    ap (without_all drops) (sym (held_of-gone drop first jobs numbers)) ∙ held-dropped first drops (change_job drop Gone jobs) (numbered-change first drop Gone jobs numbers)

length-dropped : (drops : List ℕ) (jobs : List Job) → length (fold drop_one jobs drops) ≡ length jobs
length-dropped [] jobs = refl
length-dropped (drop ∷ drops) jobs = length-dropped drops (change_job drop Gone jobs) ∙ length-change_job drop Gone jobs

-- the jobs behind stay
drops-behind : (failed : Bool) (line : ℕ) (drops : List ℕ) (jobs behind : List Job) → AreNumbered 1 jobs → AreNumbered 1 (jobs ++ behind) → drops ≡ (if failed then ready_for line jobs else []) → fold drop_one (jobs ++ behind) drops ≡ fold drop_one jobs drops ++ behind
drops-behind true line drops jobs behind numbers all is =
    let alone : fold drop_one (jobs ++ []) (ready_for line jobs) ≡ dropped line jobs ++ [] = dropped-is 0 line jobs [] (Rises-jobs 0 (jobs ++ []) (rw append-nil numbers)) in
    let same : fold drop_one jobs (ready_for line jobs) ≡ dropped line jobs = ap (λ t. fold drop_one t (ready_for line jobs)) (sym (append-nil jobs)) ∙ alone ∙ append-nil (dropped line jobs) in
    rw is (dropped-is 0 line jobs behind (Rises-jobs 0 (jobs ++ behind) all) ∙ ap (λ t. t ++ behind) (sym same))
drops-behind false line drops jobs behind numbers all is = rw is refl

-- an abort is told as one, and no other
tells-abort : (number : ℕ) (who : Owner) (given : Bool) (w : Writer) → (calls_in (numbered number who (abort_if given w)) ≡ 0) × (gives_up (numbered number who (abort_if given w)) ≡ given)
tells-abort number who true w = (refl, refl)
tells-abort number who false w = (refl, refl)

-- the whole turn

module _ (w : Writer) (old mid dropped_from new : LiveJobs) (before between behind after : Journaled) (asked_now dropped_now now : Upload) (asks : AsksAll w asked_now old mid before between) (drops : DropsReady (with_upload asked_now w) dropped_now mid dropped_from between behind) (ends : GivesUp (with_upload dropped_now w) now dropped_from new behind after) where
  abbrev first : List Asking
  first = first_asks asks.count w.key w.upload

  abbrev tail : List Asking
  tail = abort_if ends.given (with_upload dropped_now w)

  abbrev asks_are : List Ask
  asks_are = told_behind old w.line (first ++ tail)

  count-mid : mid.count ≡ old.count + length first
  count-mid = ap (λ (j : LiveJobs). j.count) asks.asked.has.jobs ∙ count-jobs w.line first old

  told-apart : asks_are ≡ told_behind old w.line first ++ told_behind dropped_from w.line tail
  told-apart =
      let same : old.count + 1 + length first ≡ dropped_from.count + 1 = omega (arith, count-mid, drops.dropped.count) in
      numbered-append (old.count + 1) (owner.Writer w.line) first tail ∙ ap (λ n. told_behind old w.line first ++ numbered n (owner.Writer w.line) tail) same

  steps-are : after.steps ≡ change_last (with_turn drops.drops asks_are) before.steps
  steps-are =
      ends.has.steps
      ∙ ap (change_last (with_turn [] (told_behind dropped_from w.line tail))) (drops.dropped.steps ∙ ap (change_last (with_turn drops.drops [])) asks.asked.has.steps ∙ turn-then [] drops.drops (told_behind old w.line first) [] before.steps)
      ∙ turn-then drops.drops [] (told_behind old w.line first ++ []) (told_behind dropped_from w.line tail) before.steps
      ∙ ap (λ t. change_last (with_turn t ((told_behind old w.line first ++ []) ++ told_behind dropped_from w.line tail)) before.steps) (append-nil drops.drops)
      ∙ ap (λ t. change_last (with_turn drops.drops (t ++ told_behind dropped_from w.line tail)) before.steps) (append-nil (told_behind old w.line first))
      ∙ ap (λ t. change_last (with_turn drops.drops t) before.steps) (sym told-apart)

  calls-are : calls_in asks_are ≡ asks.count
  calls-are =
      let apart = calls-append (told_behind old w.line first) (told_behind dropped_from w.line tail) in
      let abort = tells-abort (dropped_from.count + 1) (owner.Writer w.line) ends.given (with_upload dropped_now w) in
      omega (arith, ap calls_in told-apart, apart, asks.asked.calls, abort.0)

  given-is : gives_up asks_are ≡ ends.given
  given-is =
      let abort = tells-abort (dropped_from.count + 1) (owner.Writer w.line) ends.given (with_upload dropped_now w) in
      ap gives_up told-apart ∙ gives_up-append (told_behind old w.line first) (told_behind dropped_from w.line tail) ∙ rw (asks.asked.no_abort, abort.1) refl

  -- the upload behind the asks, and behind the drops
  behind-asks : behind_asks asks.count w.upload ≡ asked_now
  behind-asks = ap settled (sym asks.asked.upload) ∙ sym asks.left

  behind-drops : behind_drops asks.count (length drops.drops) w.upload ≡ dropped_now
  behind-drops = ap (back_times (length drops.drops)) behind-asks ∙ sym drops.dropped.upload

  module _ (step : Step) (all : List Job) (same_asks : step.asks ≡ asks_are) (same_drops : step.drops ≡ drops.drops) (numbers : AreNumbered 1 all) (held : old.held ≡ held_of all) (count : old.count ≡ length all) where
    abbrev called : List Job
    called = all ++ asked_jobs (length all + 1) w.line first

    step-calls : calls_in step.asks ≡ asks.count
    step-calls = ap calls_in same_asks ∙ calls-are

    step-given : gives_up step.asks ≡ ends.given
    step-given = ap gives_up same_asks ∙ given-is

    step-dropped : behind_drops (calls_in step.asks) (length step.drops) w.upload ≡ dropped_now
    step-dropped = rw (step-calls, same_drops) behind-drops

    step-askings : askings_of step w ≡ first ++ tail
    step-askings = rw (step-calls, step-given, same_drops, behind-drops) refl

    numbers-called : AreNumbered 1 called
    numbers-called = numbers-asked w.line first all numbers

    held-called : mid.held ≡ held_of called
    held-called = ap (λ (j : LiveJobs). j.held) asks.asked.has.jobs ∙ held-asked w.line first old all held count

    jobs-called : jobs_called step w ≡ asked_jobs (length all + 1) w.line first
    jobs-called =
        ap (λ n. jobs_made w.line step.asks (calls_of (first_asks n w.key w.upload))) step-calls
        ∙ ap (λ t. jobs_made w.line t (calls_of first)) same_asks
        ∙ ap (λ n. jobs_made w.line (numbered (n + 1) (owner.Writer w.line) (first ++ tail)) (calls_of first)) count
        ∙ asked-front (length all + 1) w.line first tail

    drops-ready : drops.drops ≡ (if has_failed asked_now then ready_for w.line called else [])
    drops-ready = by_test (has_failed asked_now) refl
      where
        by_test : (b : Bool) → has_failed asked_now ≡ b → drops.drops ≡ (if b then ready_for w.line called else [])
        by_test true failed =
            drops-all w.line 1 drops.drops called numbers-called (subst (λ t. AreFirsts w.line t drops.drops) held-called drops.dropped.firsts)
            (ap (λ t. ready_of_writer w.line (without_all drops.drops t)) (sym held-called) ∙ ap (ready_of_writer w.line) (sym drops.dropped.held) ∙ drops.none_ready failed)
        by_test false well = drops.none_dropped well

    -- the jobs that are left, and the abort's
    abbrev left : List Job
    left = fold drop_one called drops.drops

    length-left : length left ≡ length called
    length-left = length-dropped drops.drops called

    length-called : length called ≡ length all + length first
    length-called = omega (arith, length-append all (asked_jobs (length all + 1) w.line first), asked-length (length all + 1) w.line first)

    held-left : dropped_from.held ≡ held_of left
    held-left = drops.dropped.held ∙ ap (without_all drops.drops) held-called ∙ held-dropped 1 drops.drops called numbers-called

    held-new : new.held ≡ held_of (left ++ asked_jobs (length called + 1) w.line tail)
    held-new =
        ap (λ (j : LiveJobs). j.held) ends.has.jobs
        ∙ held-asked w.line tail dropped_from left held-left (omega (arith, drops.dropped.count, count-mid, count, length-left, length-called))
        ∙ ap (λ n. held_of (left ++ asked_jobs (n + 1) w.line tail)) length-left

    jobs-all : all ++ jobs_of_writer step w ≡ called ++ asked_jobs (length called + 1) w.line tail
    jobs-all =
        let made : jobs_of_writer step w ≡ asked_jobs (length all + 1) w.line (first ++ tail) =
        ap (λ t. jobs_made w.line step.asks (calls_of t)) step-askings
        ∙ ap (λ t. jobs_made w.line t (calls_of (first ++ tail))) same_asks
        ∙ ap (λ n. asked_jobs (n + 1) w.line (first ++ tail)) count in
        let number : length all + 1 + length first ≡ length called + 1 = omega (arith, length-called) in
        ap (λ t. all ++ t) (made ∙ asked-append (length all + 1) w.line first tail)
        ∙ sym (append_assoc all (asked_jobs (length all + 1) w.line first) (asked_jobs (length all + 1 + length first) w.line tail))
        ∙ ap (λ n. called ++ asked_jobs n w.line tail) number

    jobs-left : fold drop_one (all ++ jobs_of_writer step w) step.drops ≡ left ++ asked_jobs (length called + 1) w.line tail
    jobs-left =
        ap (λ t. fold drop_one t step.drops) jobs-all
        ∙ ap (fold drop_one (called ++ asked_jobs (length called + 1) w.line tail)) same_drops
        ∙ drops-behind (has_failed asked_now) w.line drops.drops called (asked_jobs (length called + 1) w.line tail) numbers-called (numbers-asked w.line tail called numbers-called) drops-ready

    step-ready : (if has_failed (behind_asks (calls_in step.asks) w.upload) then ready_for w.line (all ++ jobs_called step w) else []) ≡ (if has_failed asked_now then ready_for w.line called else [])
    step-ready =
        ap (λ n. if has_failed (behind_asks n w.upload) then ready_for w.line (all ++ jobs_called step w) else []) step-calls
        ∙ ap (λ u. if has_failed u then ready_for w.line (all ++ jobs_called step w) else []) behind-asks
        ∙ ap (λ t. if has_failed asked_now then ready_for w.line (all ++ t) else []) jobs-called

    step-left : behind_step step w.upload ≡ now
    step-left =
        ap (λ u. if gives_up step.asks then with_ask Abort u else u) step-dropped
        ∙ ap (λ b. if b then with_ask Abort dropped_now else dropped_now) step-given
        ∙ sym ends.left

    is-turn : (said : Option Answered) → option_to_list said ≡ answer_to w.waiter now → IsTurn w all step now new (option_to_list said)
    is-turn said answers = record {
      asks = same_asks ∙ ap (λ n. numbered (n + 1) (owner.Writer w.line) (first ++ tail)) count ∙ ap (numbered (length all + 1) (owner.Writer w.line)) (sym step-askings);
      drops = same_drops ∙ drops-ready ∙ sym step-ready;
      gives_up = λ given. ap due step-dropped ∙ ends.is_due (sym step-given ∙ given);
      left = sym step-left;
      answers = answers;
      count = omega (arith, ap (λ (j : LiveJobs). j.count) ends.has.jobs, count-jobs w.line tail dropped_from, drops.dropped.count, count-mid, count, ap length same_asks, length-numbered (old.count + 1) (owner.Writer w.line) (first ++ tail), length-append first tail);
      held = held-new ∙ ap held_of (sym jobs-left);
    }

  pub turns : (said : Option Answered) → option_to_list said ≡ answer_to w.waiter now → Turns w old new before.steps after.steps now said
  turns said answers = record {
    asks = asks_are;
    drops = drops.drops;
    steps = steps-are;
    told = answers;
    is = λ step all same_asks same_drops numbers held count. is-turn step all same_asks same_drops numbers held count said answers;
  }
