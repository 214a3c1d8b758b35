-- A failed writer drops one job more.
use Rattle.std.proofs.Common.{◌≡◌, ℕ, zero, suc, ◌+◌, ◌<◌, ◌≤◌, List, [], ◌∷◌, ◌++◌, map, filter, length, cond, not, Bool, true, false, ◌==◌, Option, Some, None, refl, sym, ap, ◌∙◌, arith, eq-eqb}
use Rattle.std.specs.List.{slice_get}
use Rattle.std.proofs.lemmas.List.{length-append}
use Rattle.std.proofs.lemmas.List.Sums.{fold-append}
use Rattle.bucket_model.specs.declared.call.Call.{Call}
use Rattle.upload_rules.specs.Upload.{Upload, with_back}
use Rattle.mount_model.specs.Step.{change_last, with_drop}
use Rattle.mount_model.specs.Handles.{Writer}
use Rattle.mount_model.specs.Writers.{has_failed, back_times}
use Rattle.job_table.specs.Journal.{Journaled}
use Rattle.job_table.specs.LiveJobs.{LiveJobs, Held, without, is_ready_of_writer, ready_of_writer}
use Rattle.core_writes.specs.Owed.{owes_call, owes_jobs}
use Rattle.core_writes.specs.Turn.{with_turn}
use Rattle.core_writes.specs.Dropped.{without_all, AreFirsts, HasDropped, DropsReady}
use Rattle.core_writes.proofs.Steps.{turn-none, turn-drop, turn-then}

-- fewer jobs are ready, and less is owed

-- without one test or another
abbrev if_kept : Bool → Held → List Held → List Held
if_kept b h held = cond b (h ∷ held) held

fewer-by : (line : ℕ) (kept passes : Bool) (h : Held) (less held : List Held) → is_ready_of_writer line h ≡ passes → length (ready_of_writer line less) ≤ length (ready_of_writer line held) → length (ready_of_writer line (if_kept kept h less)) ≤ length (ready_of_writer line (h ∷ held))
fewer-by line true true h less held is more = rw is (omega (arith, more))
fewer-by line true false h less held is more = rw is more
fewer-by line false true h less held is more = rw is (omega (arith, more))
fewer-by line false false h less held is more = rw is more

fewer : (line job : ℕ) (held : List Held) → length (ready_of_writer line (without job held)) ≤ length (ready_of_writer line held)
fewer line job [] = omega arith
fewer line job (h ∷ held) = fewer-by line (not (h.number == job)) (is_ready_of_writer line h) h (without job held) held refl (fewer line job held)

less-owed-by : (kept : Bool) (h : Held) (less held : List Held) → owes_jobs less ≤ owes_jobs held → owes_jobs (if_kept kept h less) ≤ owes_jobs (h ∷ held)
less-owed-by true h less held more = omega (arith, more)
less-owed-by false h less held more = omega (arith, more)

pub less-owed : (job : ℕ) (held : List Held) → owes_jobs (without job held) ≤ owes_jobs held
less-owed job [] = omega arith
less-owed job (h ∷ held) = less-owed-by (not (h.number == job)) h (without job held) held (less-owed job held)

-- the first ready job of the writer goes
pub record FirstGoes (line : ℕ) (held left : List Held) : Type 0 where
  pub ready : length (ready_of_writer line left) < length (ready_of_writer line held)
  pub owes : owes_jobs left + 2 ≤ owes_jobs held

ready-owes : (line : ℕ) (called : Option Call) (h : Held) → h.call ≡ called → is_ready_of_writer line h ≡ true → owes_call h.call ≡ 2
ready-owes line (Some call) h at is = ap owes_call at
ready-owes line None h at is = absurd (let none : is_ready_of_writer line h ≡ false = rw at refl in cc)

first-goes-of : (line job : ℕ) (held : List Held) → slice_get (ready_of_writer line held) 0 ≡ Some job → FirstGoes line held (without job held)
first-goes-of line job [] first = absurd (cc)
first-goes-of line job (h ∷ held) first = by_test (is_ready_of_writer line h) refl first (first-goes-of line job held)
  where
    by_number : (same : Bool) → is_ready_of_writer line h ≡ false → FirstGoes line held (without job held) → (h.number == job) ≡ same → FirstGoes line (h ∷ held) (without job (h ∷ held))
    by_number true is later same = record { ready = rw (same, is) later.ready; owes = rw same (omega (arith, later.owes)) }
    by_number false is later same = record { ready = rw (same, is) later.ready; owes = rw same (omega (arith, later.owes)) }

    by_test : (b : Bool) → is_ready_of_writer line h ≡ b → slice_get (map (λ (g : Held). g.number) (cond b (h ∷ filter (is_ready_of_writer line) held) (filter (is_ready_of_writer line) held))) 0 ≡ Some job → (slice_get (ready_of_writer line held) 0 ≡ Some job → FirstGoes line held (without job held)) → FirstGoes line (h ∷ held) (without job (h ∷ held))
    by_test true is here later =
        let same : h.number ≡ job = cc in
        let test : (h.number == job) ≡ true = eq-eqb h.number job same in
        record { ready = rw (test, is) (omega (arith, fewer line job held)); owes = rw test (omega (arith, less-owed job held, ready-owes line h.call h refl is)) }
    by_test false is there later = by_number (h.number == job) is (later there) refl

pub first-goes : (line job : ℕ) (held left : List Held) → slice_get (ready_of_writer line held) 0 ≡ Some job → left ≡ without job held → FirstGoes line held left
first-goes line job held left first is = rw is (first-goes-of line job held first)

-- where there is no first one, there is none
pub none-first : (xs : List ℕ) → slice_get xs 0 ≡ None → xs ≡ []
none-first [] none = refl
none-first (x ∷ xs) none = absurd (cc)

-- one drop more

firsts-more : (line job : ℕ) (held : List Held) (drops : List ℕ) → AreFirsts line held drops → slice_get (ready_of_writer line (without_all drops held)) 0 ≡ Some job → AreFirsts line held (drops ++ job ∷ [])
firsts-more line job held [] firsts first = (first, tt)
firsts-more line job held (drop ∷ drops) firsts first = (firsts.0, firsts-more line job (without drop held) drops firsts.1 first)

back_times-more : (count : ℕ) (u : Upload) → back_times (suc count) u ≡ with_back (back_times count u)
back_times-more zero u = refl
back_times-more (suc count) u = back_times-more count (with_back u)

pub dropped-none : (w : Writer) (jobs : LiveJobs) (journal : Journaled) → HasDropped [] w w.upload jobs jobs journal journal
dropped-none w jobs journal = record { firsts = tt; count = refl; held = refl; steps = turn-none journal.steps; upload = refl }

pub dropped-one : (job : ℕ) (w : Writer) (now : Upload) (old new : LiveJobs) (before after : Journaled) → slice_get (ready_of_writer w.line old.held) 0 ≡ Some job → new.count ≡ old.count → new.held ≡ without job old.held → after.steps ≡ change_last (with_drop job) before.steps → now ≡ with_back w.upload → HasDropped (job ∷ []) w now old new before after
dropped-one job w now old new before after first count held steps back = record { firsts = (first, tt); count = count; held = held; steps = steps ∙ turn-drop job before.steps; upload = back }

pub dropped-more : (drops : List ℕ) (job : ℕ) (w behind : Writer) (now : Upload) (old mid new : LiveJobs) (before between after : Journaled) → behind.line ≡ w.line → HasDropped drops w behind.upload old mid before between → HasDropped (job ∷ []) behind now mid new between after → HasDropped (drops ++ job ∷ []) w now old new before after
dropped-more drops job w behind now old mid new before between after line dropped one = record {
  firsts = firsts-more w.line job old.held drops dropped.firsts (rw (← dropped.held, ← line) one.firsts.0);
  count = one.count ∙ dropped.count;
  held = one.held ∙ ap (without job) dropped.held ∙ sym (fold-append (λ all gone. without gone all) old.held drops (job ∷ []));
  steps = one.steps ∙ ap (change_last (with_turn (job ∷ []) [])) dropped.steps ∙ turn-then drops (job ∷ []) [] [] before.steps;
  upload =
      let size : length (drops ++ job ∷ []) ≡ suc (length drops) = omega (arith, length-append drops (job ∷ [])) in
      one.upload ∙ ap with_back dropped.upload ∙ sym (ap (λ n. back_times n w.upload) size ∙ back_times-more (length drops) w.upload);
}

-- a writer that hasn't failed drops none
pub none-dropped : (w : Writer) (jobs : LiveJobs) (journal : Journaled) → has_failed w.upload ≡ false → DropsReady w w.upload jobs jobs journal journal
none-dropped w jobs journal well = record { drops = []; dropped = dropped-none w jobs journal; none_dropped = λ same. refl; none_ready = λ failed. absurd (cc) }
