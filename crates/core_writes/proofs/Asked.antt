-- A writer asks for one call more.
use Rattle.std.proofs.Common.{◌≡◌, ◌≢◌, ℕ, zero, suc, ◌+◌, ◌-◌, ◌<◌, ◌≤◌, min, List, [], ◌∷◌, ◌++◌, map, filter, length, cond, Bool, true, false, not, ◌||◌, ◌==◌, drop, Option, Some, None, inl, inr, refl, sym, ap, ◌∙◌, subst, arith, append-nil, eq-eqb}
use Rattle.std.proofs.lemmas.List.{length-append, length-take, length-drop}
use Rattle.std.proofs.lemmas.List.Elements.{filter-append}
use Rattle.std.proofs.lemmas.List.Folds.{list_any-append}
use Rattle.std.proofs.lemmas.List.Sums.{fold-append}
use Rattle.mp_types.specs.declared.errno.Errno.TheVariants.{Enomem}
use Rattle.upload_rules.specs.declared.upload.Created.{Created}
use Rattle.upload_rules.specs.declared.upload.Created.TheVariants.{NotAsked}
use Rattle.upload_rules.specs.declared.upload.UpAsk.{UpAsk}
use Rattle.upload_rules.specs.declared.upload.UpAsk.TheVariants.{Create, Part, Complete, Abort}
use Rattle.upload_rules.specs.Upload.{Upload, due, next_part, with_ask, fails_with, with_due}
use Rattle.upload_rules.proofs.Due.{IsDue, IsPartDue, due-is}
use Rattle.run_laws.proofs.Places.{pending-ask}
use Rattle.mount_model.specs.declared.event.Ask.{Ask}
use Rattle.mount_model.specs.declared.event.Owner.{Owner}
use Rattle.mount_model.specs.declared.event.Owner.TheVariants as owner
use Rattle.mount_model.specs.Step.{change_last}
use Rattle.mount_model.specs.Handles.{Writer}
use Rattle.mount_model.specs.Writers.{Asking, asking_for, ask_times, with_asking, first_asks, lacking, settled}
use Rattle.mount_model.specs.State.{is_abort, calls_in, gives_up}
use Rattle.mount_model.specs.Run.{numbered}
use Rattle.job_table.specs.Journal.{Journaled}
use Rattle.job_table.specs.LiveJobs.{LiveJobs, Held, is_ready_of_writer, ready_of_writer}
use Rattle.core_writes.specs.Turn.{with_turn}
use Rattle.core_writes.specs.Asked.{call_in, held_for, with_job, with_jobs, told_behind, HasJobs, HasAsked, GivesUp}
use Rattle.core_writes.proofs.Steps.{turn-none, turn-then}

-- what is due, but an abort

pub record IsCallDue (u : Upload) (ask : UpAsk) : Type 0 where
  pub is : due u ≡ Some ask
  pub other : ask ≢ Abort

called : (o : Option UpAsk) (ask : UpAsk) → call_in o ≡ Some ask → (o ≡ Some ask) × (ask ≢ Abort)
called None ask is = absurd (cc)
called (Some Abort) ask is = absurd (cc)
called (Some Create) ask is = let same : Create ≡ ask = cc in subst (λ a. (Some Create ≡ Some a) × (a ≢ Abort)) same (refl, λ e. absurd (cc))
called (Some (Part number from to)) ask is = let same : Part number from to ≡ ask = cc in subst (λ a. (Some (Part number from to) ≡ Some a) × (a ≢ Abort)) same (refl, λ e. absurd (cc))
called (Some (Complete parts)) ask is = let same : Complete parts ≡ ask = cc in subst (λ a. (Some (Complete parts) ≡ Some a) × (a ≢ Abort)) same (refl, λ e. absurd (cc))

pub call-due : (u : Upload) (ask : UpAsk) → call_in (due u) ≡ Some ask → IsCallDue u ask
call-due u ask is = record { is = (called (due u) ask is).0; other = (called (due u) ask is).1 }

-- where none is, nothing lacks
pub settled-quiet : (u : Upload) → call_in (due u) ≡ None → u ≡ settled u
settled-quiet u none = quiet (due u) none
  where
    quiet : (o : Option UpAsk) → call_in o ≡ None → u ≡ lacking o u
    quiet None none = refl
    quiet (Some Abort) none = refl
    quiet (Some Create) none = absurd (cc)
    quiet (Some (Part number from to)) none = absurd (cc)
    quiet (Some (Complete parts)) none = absurd (cc)

-- and where one is, the writer fails
pub settled-lack : (u : Upload) (ask : UpAsk) → IsCallDue u ask → fails_with Enomem u ≡ settled u
settled-lack u ask call_due = sym (ap (λ o. lacking o u) call_due.is ∙ lacks ask call_due.other)
  where
    lacks : (ask : UpAsk) → ask ≢ Abort → lacking (Some ask) u ≡ fails_with Enomem u
    lacks Create other = refl
    lacks (Part number from to) other = refl
    lacks (Complete parts) other = refl
    lacks Abort other = absurd (other refl)

-- one behind so many

ask_times-more : (count : ℕ) (u : Upload) → ask_times (suc count) u ≡ with_due (due (ask_times count u)) (ask_times count u)
ask_times-more zero u = refl
ask_times-more (suc count) u = ask_times-more count (with_due (due u) u)

-- where nothing is due, nothing more is asked for
ask_times-none : (count : ℕ) (u : Upload) → due u ≡ None → ask_times count u ≡ u
ask_times-none zero u none = refl
ask_times-none (suc count) u none = ap (λ o. ask_times count (with_due o u)) none ∙ ask_times-none count u none

first_asks-more : (count : ℕ) (key : List ℕ) (u : Upload) (ask : UpAsk) → due (ask_times count u) ≡ Some ask → first_asks (suc count) key u ≡ first_asks count key u ++ asking_for key (ask_times count u) ask ∷ []
first_asks-more zero key u ask is = ap (λ o. with_asking key u o []) is
first_asks-more (suc count) key u ask is = go (due u) refl is (λ later. first_asks-more count key (with_due (due u) u) ask later)
  where
    go : (o : Option UpAsk) → due u ≡ o → due (ask_times count (with_due o u)) ≡ Some ask → (due (ask_times count (with_due o u)) ≡ Some ask → first_asks (suc count) key (with_due o u) ≡ first_asks count key (with_due o u) ++ asking_for key (ask_times count (with_due o u)) ask ∷ []) → with_asking key u o (first_asks (suc count) key (with_due o u)) ≡ with_asking key u o (first_asks count key (with_due o u)) ++ asking_for key (ask_times count (with_due o u)) ask ∷ []
    go None none later more = absurd (let stays = ap due (ask_times-none count u none) in cc)
    go (Some first) at later more = ap (λ t. asking_for key u first ∷ t) (more later)

-- how the step tells them

pub numbered-append : (number : ℕ) (who : Owner) (askings more : List Asking) → numbered number who (askings ++ more) ≡ numbered number who askings ++ numbered (number + length askings) who more
numbered-append number who [] more = ap (λ n. numbered n who more) (let same : number ≡ number + 0 = omega arith in same)
numbered-append number who (asking ∷ askings) more =
    let count : number + 1 + length askings ≡ number + suc (length askings) = omega arith in
    ap (λ t. record { job = number; owner = who; call = asking.told } ∷ t) (numbered-append (number + 1) who askings more ∙ ap (λ n. numbered (number + 1) who askings ++ numbered n who more) count)

pub length-numbered : (number : ℕ) (who : Owner) (askings : List Asking) → length (numbered number who askings) ≡ length askings
length-numbered number who [] = refl
length-numbered number who (asking ∷ askings) = let more = length-numbered (number + 1) who askings in omega arith

pub calls-append : (asks more : List Ask) → calls_in (asks ++ more) ≡ calls_in asks + calls_in more
calls-append asks more = ap length (filter-append (λ ask. not (is_abort ask)) asks more) ∙ length-append (filter (λ ask. not (is_abort ask)) asks) (filter (λ ask. not (is_abort ask)) more)

pub gives_up-append : (asks more : List Ask) → gives_up (asks ++ more) ≡ (gives_up asks || gives_up more)
gives_up-append asks more = list_any-append is_abort asks more

-- no ask but an abort is told as one
tells-call : (number : ℕ) (who : Owner) (key : List ℕ) (u : Upload) (ask : UpAsk) → ask ≢ Abort → (calls_in (numbered number who (asking_for key u ask ∷ [])) ≡ 1) × (gives_up (numbered number who (asking_for key u ask ∷ [])) ≡ false)
tells-call number who key u Create other = (refl, refl)
tells-call number who key u (Part part from to) other = (refl, refl)
tells-call number who key u (Complete parts) other = (refl, refl)
tells-call number who key u Abort other = absurd (other refl)

-- the jobs with some more

pub count-jobs : (line : ℕ) (askings : List Asking) (jobs : LiveJobs) → (with_jobs line askings jobs).count ≡ jobs.count + length askings
count-jobs line [] jobs = omega arith
count-jobs line (asking ∷ askings) jobs = let more = count-jobs line askings (with_job line jobs asking) in omega arith

pub has-none : (line : ℕ) (old new : LiveJobs) (before after : Journaled) → new ≡ old → after.steps ≡ before.steps → HasJobs line [] old new before after
has-none line old new before after jobs steps = record { jobs = jobs; steps = steps ∙ turn-none before.steps }

pub has-more : (line : ℕ) (askings more : List Asking) (old mid new : LiveJobs) (before between after : Journaled) → HasJobs line askings old mid before between → HasJobs line more mid new between after → HasJobs line (askings ++ more) old new before after
has-more line askings more old mid new before between after first second = record {
  jobs = second.jobs ∙ ap (with_jobs line more) first.jobs ∙ sym (fold-append (with_job line) old askings more);
  steps =
      let count : mid.count + 1 ≡ old.count + 1 + length askings = omega (arith, ap (λ (j : LiveJobs). j.count) first.jobs, count-jobs line askings old) in
      second.steps
      ∙ ap (change_last (with_turn [] (told_behind mid line more))) first.steps
      ∙ turn-then [] [] (told_behind old line askings) (told_behind mid line more) before.steps
      ∙ ap (λ asks. change_last (with_turn [] asks) before.steps) (ap (λ n. told_behind old line askings ++ numbered n (owner.Writer line) more) count ∙ sym (numbered-append (old.count + 1) (owner.Writer line) askings more));
}

-- it has asked for calls, and then

pub asked-none : (w : Writer) (jobs : LiveJobs) (journal : Journaled) → HasAsked 0 w w.upload jobs jobs journal journal
asked-none w jobs journal = record { upload = refl; has = has-none w.line jobs jobs journal journal refl refl; calls = refl; no_abort = refl }

-- for none
pub asked-same : (count : ℕ) (w : Writer) (behind : Upload) (old mid new : LiveJobs) (before between after : Journaled) → HasAsked count w behind old mid before between → HasJobs w.line [] mid new between after → HasAsked count w behind old new before after
asked-same count w behind old mid new before between after asked has =
    let first : List Asking = first_asks count w.key w.upload in
    record {
      upload = asked.upload;
      has = subst (λ t. HasJobs w.line t old new before after) (append-nil first) (has-more w.line first [] old mid new before between after asked.has has);
      calls = asked.calls;
      no_abort = asked.no_abort;
    }

-- for one
pub asked-more : (count : ℕ) (w : Writer) (behind : Upload) (ask : UpAsk) (old mid new : LiveJobs) (before between after : Journaled) → HasAsked count w behind old mid before between → IsCallDue behind ask → HasJobs w.line (asking_for w.key behind ask ∷ []) mid new between after → HasAsked (suc count) w (with_ask ask behind) old new before after
asked-more count w behind ask old mid new before between after asked call_due has =
    let number : ℕ = old.count + 1 in
    let who : Owner = owner.Writer w.line in
    let first : List Asking = first_asks count w.key w.upload in
    let one : List Asking = asking_for w.key behind ask ∷ [] in
    let due_now : due (ask_times count w.upload) ≡ Some ask = ap due (sym asked.upload) ∙ call_due.is in
    let all : first_asks (suc count) w.key w.upload ≡ first ++ one = first_asks-more count w.key w.upload ask due_now ∙ ap (λ u. first ++ asking_for w.key u ask ∷ []) (sym asked.upload) in
    let told : told_behind old w.line (first ++ one) ≡ told_behind old w.line first ++ numbered (number + length first) who one = numbered-append number who first one in
    let tells = tells-call (number + length first) who w.key behind ask call_due.other in
    let calls : calls_in (told_behind old w.line (first ++ one)) ≡ suc count = omega (arith, ap calls_in told, calls-append (told_behind old w.line first) (numbered (number + length first) who one), asked.calls, tells.0) in
    let no_abort : gives_up (told_behind old w.line (first ++ one)) ≡ false = ap gives_up told ∙ gives_up-append (told_behind old w.line first) (numbered (number + length first) who one) ∙ rw (asked.no_abort, tells.1) refl in
    record {
      upload = sym (ask_times-more count w.upload ∙ rw (due_now, ← asked.upload) refl);
      has = subst (λ t. HasJobs w.line t old new before after) (sym all) (has-more w.line first one old mid new before between after asked.has has);
      calls = subst (λ t. calls_in (told_behind old w.line t) ≡ suc count) (sym all) calls;
      no_abort = subst (λ t. gives_up (told_behind old w.line t) ≡ false) (sym all) no_abort;
    }

-- and has one job more that is ready
ready-more : (line number : ℕ) (asking : Asking) (held : List Held) → length (ready_of_writer line (held ++ held_for line number asking ∷ [])) ≡ length (ready_of_writer line held) + 1
ready-more line number asking [] = let own : (line == line) ≡ true = eq-eqb line line refl in rw own refl
ready-more line number asking (h ∷ held) = by_test (is_ready_of_writer line h) (ready-more line number asking held)
  where
    rest : List Held
    rest = held ++ held_for line number asking ∷ []

    by_test : (b : Bool) → length (ready_of_writer line rest) ≡ length (ready_of_writer line held) + 1 → length (map (λ (g : Held). g.number) (cond b (h ∷ filter (is_ready_of_writer line) rest) (filter (is_ready_of_writer line) rest))) ≡ length (map (λ (g : Held). g.number) (cond b (h ∷ filter (is_ready_of_writer line) held) (filter (is_ready_of_writer line) held))) + 1
    by_test true more = omega arith
    by_test false more = more

pub at_work-more : (line : ℕ) (asking : Asking) (ask : UpAsk) (u : Upload) (old new : LiveJobs) (before after : Journaled) → length (ready_of_writer line old.held) ≤ u.pending → HasJobs line (asking ∷ []) old new before after → length (ready_of_writer line new.held) ≤ (with_ask ask u).pending
at_work-more line asking ask u old new before after at_work has =
    omega (arith, at_work, ap (λ (j : LiveJobs). length (ready_of_writer line j.held)) has.jobs, ready-more line (old.count + 1) asking old.held, pending-ask ask u)

-- and has one less to ask for: its upload, a part for each byte or of none, and its object

abbrev if_new : Created → ℕ
if_new NotAsked = 1
if_new other = 0

abbrev pub asks_left : Upload → ℕ
asks_left u = if_new u.created + length u.rest + (1 - u.asked) + (1 - u.pending)

part-fewer : (u : Upload) (number from to : ℕ) → 1 ≤ u.part → IsPartDue u number from to → asks_left (with_ask (Part number from to) u) < asks_left u
part-fewer u number from to some part_due =
    let size : length (next_part u) ≡ min u.part (length u.rest) = length-take u.part u.rest in
    let left : length (drop (to - from) u.rest) ≡ length u.rest - (to - from) = length-drop (to - from) u.rest in
    elim part_due.full_or_last [
      | inl full ↦ omega (arith, part_due.from_is, part_due.to_is)
      | inr last ↦ elim last.1 [
        | inl bytes ↦ omega (arith, part_due.from_is, part_due.to_is)
        | inr first ↦ omega (arith, part_due.from_is, part_due.to_is)
      ]
    ]

pub asks-fewer : (u : Upload) (ask : UpAsk) → 1 ≤ u.part → IsCallDue u ask → asks_left (with_ask ask u) < asks_left u
asks-fewer u ask some call_due = by_ask ask call_due.other (due-is u ask call_due.is)
  where
    by_ask : (ask : UpAsk) → ask ≢ Abort → IsDue u ask → asks_left (with_ask ask u) < asks_left u
    by_ask Create other is = let new : if_new u.created ≡ 1 = ap if_new is in omega arith
    by_ask (Part number from to) other is = part-fewer u number from to some is
    by_ask (Complete parts) other is = omega (arith, is.none_out)
    by_ask Abort other is = absurd (other refl)

-- no abort is due, or there was no memory for it
pub none-given_up : (w : Writer) (jobs : LiveJobs) (journal : Journaled) → GivesUp w w.upload jobs jobs journal journal
none-given_up w jobs journal = record { given = false; is_due = λ given. absurd (cc); has = has-none w.line jobs jobs journal journal refl refl; left = refl }
