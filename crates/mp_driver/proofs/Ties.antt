-- A record stays tied when steps and entries are added and answers are held.
use Rattle.std.proofs.Common.{◌≡◌, ◌≢◌, ℕ, zero, suc, ◌+◌, ◌-◌, ◌<◌, ◌≤◌, ◌==◌, Bool, true, false, if◌then◌else◌, List, [], ◌∷◌, ◌++◌, length, Option, Some, None, refl, sym, ap, ◌∙◌, subst, inl, inr, ◌⊎◌, arith, length-append, append-nil, eq-eqb, eqb-true}
use Rattle.mp_types.specs.declared.options.Opts.{Opts}
use Rattle.std.specs.List.{slice_get, Contains}
use Rattle.std.proofs.lemmas.Option.{slice_get_within, get_or_from_slice_get, slice_get_past}
use Rattle.std.proofs.lemmas.List.Elements.{Contains-append_right}
use Rattle.std.proofs.lemmas.Bool.{cases_lt}
use Rattle.bucket_model.specs.declared.call.Call.{Call}
use Rattle.bucket_model.specs.declared.history.Logged.{Logged}
use Rattle.bucket_model.specs.Answers.{brief_of, is_counted}
use Rattle.bucket_model.specs.History.{History, IsChange}
use Rattle.bucket_model.proofs.Along.{Along-push}
use Rattle.store_trait.specs.Told.{AddsFor, Tells}
use Rattle.mount_model.specs.declared.request.Line.{Line}
use Rattle.mount_model.specs.declared.event.Event.{Event}
use Rattle.mount_model.specs.declared.event.Event.TheVariants.{Begin, Take, Done}
use Rattle.mount_model.specs.Step.{Step}
use Rattle.mount_model.specs.State.{ClientState, Job, opening, after, state_after, job_at, positions_after}
use Rattle.mount_model.specs.Run.{is_among}
use Rattle.mount_model.specs.Tied.{IsTiedTo, TiesEvent}
use Rattle.write_laws.proofs.Accepted.{among-last}
use Rattle.mp_driver.specs.declared.held.HeldAnswer.{HeldAnswer}
use Rattle.mp_driver.specs.Held.{answer_for, IsWith}
use Rattle.mp_driver.proofs.Between.{HasToldEntry, IsPlaced, IsTiedSoFar, IsTiedToSoFar}
use Rattle.mp_driver.proofs.Growth.{HasEntry-more}
use Rattle.mp_driver.proofs.Positions.{slice_get-where, is_among-more}
use Rattle.mp_driver.proofs.Versions.{Along-more}

TiesEvent-more : (start : ℕ) (log more : List Logged) (state : ClientState) (event : Event) → TiesEvent start log state event → TiesEvent start (log ++ more) state event
TiesEvent-more start log more state (Begin line time) ties = tt
TiesEvent-more start log more state (Take job time from) ties = ties
TiesEvent-more start log more state (Done number position answer) ties = λ counted job stands. HasEntry-more log more position job.call answer (ties counted job stands)

-- what is held of one job, and of the others

pub in_less : (got : HeldAnswer) (less more : List HeldAnswer) (job : ℕ) (h : HeldAnswer) → IsWith got less more → answer_for job less ≡ Some h → (job ≢ got.job) × (answer_for job more ≡ Some h)
in_less got less more job h with is =
    let other : job ≢ got.job = λ same. let here : answer_for got.job less ≡ Some h = ap (λ (n : ℕ). answer_for n less) (sym same) ∙ is in let none = with.absent in absurd (cc) in
    (other, with.others job other ∙ is)

pub in_more : (got : HeldAnswer) (less more : List HeldAnswer) (job : ℕ) (h : HeldAnswer) → IsWith got less more → answer_for job more ≡ Some h → ((job ≡ got.job) × (h ≡ got)) ⊎ ((job ≢ got.job) × (answer_for job less ≡ Some h))
in_more got less more job h with is = by_test (job == got.job) refl
  where
    by_test : (b : Bool) → (job == got.job) ≡ b → ((job ≡ got.job) × (h ≡ got)) ⊎ ((job ≢ got.job) × (answer_for job less ≡ Some h))
    by_test true test =
        let same : job ≡ got.job = eqb-true job got.job test in
        let here : answer_for got.job more ≡ Some h = ap (λ (n : ℕ). answer_for n more) (sym same) ∙ is in
        let own = with.own in
        inl (same, cc)
    by_test false test =
        let other : job ≢ got.job = λ same. let e : (job == got.job) ≡ true = eq-eqb job got.job same in absurd (cc) in
        inr (other, sym (with.others job other) ∙ is)

-- where answers have their entries

placed-more : (got : HeldAnswer) (less more : List HeldAnswer) (positions : List ℕ) (p : ℕ) → IsWith got less more → IsPlaced less positions p → IsPlaced more positions p
placed-more got less more positions p with (inl among) = inl among
placed-more got less more positions p with (inr at) = inr (record { got = at.got; stands = (in_less got less more at.got.job at.got with at.stands).1; counted = at.counted; at = at.at })

after-counted : (b : Bool) (p position : ℕ) (positions : List ℕ) → is_among p positions ≡ true → is_among p (if b then positions ++ position ∷ [] else positions) ≡ true
after-counted true p position positions among = is_among-more p positions (position ∷ []) among
after-counted false p position positions among = among

placed-done : (got : HeldAnswer) (less more : List HeldAnswer) (positions : List ℕ) (number p : ℕ) → IsWith got less more → IsPlaced more positions p → IsPlaced less (positions_after positions (Done number got.position (brief_of got.answer))) p
placed-done got less more positions number p with (inl among) = inl (after-counted (is_counted (brief_of got.answer)) p got.position positions among)
placed-done got less more positions number p with (inr at) = elim (in_more got less more at.got.job at.got with at.stands) [
  | inl own ↦
      let counted : is_counted (brief_of got.answer) ≡ true = ap (λ (h : HeldAnswer). is_counted (brief_of h.answer)) (sym own.1) ∙ at.counted in
      let place : p ≡ got.position = sym at.at ∙ ap (λ (h : HeldAnswer). h.position) own.1 in
      inl (rw (counted, place) (among-last got.position positions))
  | inr other ↦ inr (record { got = at.got; stands = other.1; counted = at.counted; at = at.at })
]

placed-none : (positions : List ℕ) (p : ℕ) → IsPlaced [] positions p → is_among p positions ≡ true
placed-none positions p (inl among) = among
placed-none positions p (inr at) = let stands = at.stands in absurd (cc)

-- an element stands in a list
Contains-from_slice_get : {X : Type 0} (xs : List X) (i : ℕ) (x : X) → slice_get xs i ≡ Some x → Contains xs x
Contains-from_slice_get xs i x h = (i, slice_get_within xs i x h, get_or_from_slice_get xs i x x h)

-- an entry behind the seam that is no change is the own one
own_place : (earlier later : List Logged) (own logged : Logged) (i : ℕ) → ((logged : Logged) → Contains earlier logged → IsChange logged.entry.call) → ((logged : Logged) → Contains later logged → IsChange logged.entry.call) → (IsChange logged.entry.call → ⊥) → slice_get (earlier ++ own ∷ later) i ≡ Some logged → i ≡ length earlier
own_place [] later own logged zero before behind fixed h = refl
own_place [] later own logged (suc i) before behind fixed h = absurd (fixed (behind logged (Contains-from_slice_get later i logged h)))
own_place (e ∷ earlier) later own logged zero before behind fixed h = absurd (fixed (before logged (Contains-from_slice_get (e ∷ earlier) zero logged h)))
own_place (e ∷ earlier) later own logged (suc i) before behind fixed h = ap suc (own_place earlier later own logged i (λ l c. before l (Contains-append_right (e ∷ []) earlier l c)) behind fixed h)

below_or_at : (p n : ℕ) → p < n + 1 → (p < n) ⊎ (p ≡ n)
below_or_at p n h = elim (cases_lt p n) [ inl less ↦ inl less | inr not_less ↦ inr (omega arith) ]

-- a call was made: its answer is held, and its entry stands among the new ones
called : (b : Bool) (options : Opts) (script : List Line) (start : ℕ) (is_alone alone_then : Type 0) (was now : History) (asked : Call) (got : HeldAnswer) (less more : List HeldAnswer) (steps : List Step) (positions : List ℕ) →
    is_counted (brief_of got.answer) ≡ b →
    (is_alone → alone_then) →
    AddsFor b alone_then asked got.position (brief_of got.answer) was now →
    IsWith got less more →
    IsTiedSoFar options script start is_alone was.log less steps positions →
    IsTiedSoFar options script start is_alone now.log more steps positions
called true options script start is_alone alone_then was now asked got less more steps positions counted alone adds with tied = subst (λ (log : List Logged). IsTiedSoFar options script start is_alone log more steps positions) (sym adds.log) (record {
  each = Along-more (λ state (step : Step). TiesEvent start was.log state step.event) (λ state (step : Step). TiesEvent start (was.log ++ entries) state step.event) after (λ state step. TiesEvent-more start was.log entries state step.event) (opening options script) steps tied.each;
  others = λ p logged above stands fixed. elim (slice_get-where was.log entries p logged stands) [
    | inl here ↦ placed-more got less more positions p with (tied.others p logged above here fixed)
    | inr there ↦
        let at : p - length was.log ≡ length adds.earlier = own_place adds.earlier adds.later adds.own logged (p - length was.log) adds.by_others_before adds.by_others_behind fixed there.1 in
        own p (omega (arith, there.0, adds.at_place))
  ];
  alone = λ is p above below.
      let none = adds.alone (alone is) in
      let longer : length (was.log ++ entries) ≡ length was.log + 1 = length-append was.log entries ∙ (rw (none.0, none.1) refl) in
      let first : length adds.earlier ≡ 0 = rw none.0 refl in
      elim (below_or_at p (length was.log) (omega arith)) [
        | inl less_than ↦ placed-more got less more positions p with (tied.alone is p above less_than)
        | inr at ↦ own p (omega (arith, adds.at_place))
      ];
})
  where
    entries : List Logged
    entries = adds.earlier ++ adds.own ∷ adds.later

    own : (p : ℕ) → got.position ≡ p → IsPlaced more positions p
    own p at = inr (record { got = got; stands = with.own; counted = counted; at = at })
called false options script start is_alone alone_then was now asked got less more steps positions counted alone adds with tied = subst (λ (log : List Logged). IsTiedSoFar options script start is_alone log more steps positions) (sym adds.log) (record {
  each = Along-more (λ state (step : Step). TiesEvent start was.log state step.event) (λ state (step : Step). TiesEvent start (was.log ++ adds.others) state step.event) after (λ state step. TiesEvent-more start was.log adds.others state step.event) (opening options script) steps tied.each;
  others = λ p logged above stands fixed. elim (slice_get-where was.log adds.others p logged stands) [
    | inl here ↦ placed-more got less more positions p with (tied.others p logged above here fixed)
    | inr there ↦ absurd (fixed (adds.by_others logged (Contains-from_slice_get adds.others (p - length was.log) logged there.1)))
  ];
  alone = λ is p above below.
      let as_long : length (was.log ++ adds.others) ≡ length was.log = ap (λ (l : List Logged). length (was.log ++ l)) (adds.alone (alone is)) ∙ ap length (append-nil was.log) in
      placed-more got less more positions p with (tied.alone is p above (omega arith));
})

-- one step more, which leaves the history and what is held
one_more : (options : Opts) (script : List Line) (start : ℕ) (is_alone : Type 0) (log : List Logged) (held : List HeldAnswer) (steps : List Step) (step : Step) (positions : List ℕ) → TiesEvent start log (state_after options script steps) step.event → IsTiedSoFar options script start is_alone log held steps positions → IsTiedSoFar options script start is_alone log held (steps ++ step ∷ []) positions
one_more options script start is_alone log held steps step positions ties tied = record {
  each = Along-push (λ state (step : Step). TiesEvent start log state step.event) after (opening options script) steps step tied.each ties;
  others = tied.others;
  alone = tied.alone;
}

-- an answer is handed in
handed : (options : Opts) (script : List Line) (start : ℕ) (is_alone : Type 0) (log : List Logged) (got : HeldAnswer) (less more : List HeldAnswer) (steps : List Step) (number : ℕ) (positions : List ℕ) → IsWith got less more → IsTiedSoFar options script start is_alone log more steps positions → IsTiedSoFar options script start is_alone log less steps (positions_after positions (Done number got.position (brief_of got.answer)))
handed options script start is_alone log got less more steps number positions with tied = record {
  each = tied.each;
  others = λ p logged above stands fixed. placed-done got less more positions number p with (tied.others p logged above stands fixed);
  alone = λ is p above below. placed-done got less more positions number p with (tied.alone is p above below);
}

-- the same, as far as the store tells its history

pub tied-begun : (told : Option History) (options : Opts) (script : List Line) (start : ℕ) (is_alone : Type 0) (held : List HeldAnswer) (steps : List Step) (step : Step) (positions : List ℕ) (line time : ℕ) → step.event ≡ Begin line time → IsTiedToSoFar told options script start is_alone held steps positions → IsTiedToSoFar told options script start is_alone held (steps ++ step ∷ []) positions
tied-begun None options script start is_alone held steps step positions line time is tied = tt
tied-begun (Some told) options script start is_alone held steps step positions line time is tied = one_more options script start is_alone told.log held steps step positions (rw is tt) tied

pub tied-taken : (was now : Option History) (options : Opts) (script : List Line) (start : ℕ) (is_alone alone_then : Type 0) (asked : Call) (got : HeldAnswer) (less more : List HeldAnswer) (steps : List Step) (step : Step) (positions : List ℕ) (time from : ℕ) →
    step.event ≡ Take got.job time from →
    start ≤ from →
    (is_alone → alone_then) →
    Tells alone_then asked got.position (brief_of got.answer) was now →
    IsWith got less more →
    IsTiedToSoFar was options script start is_alone less steps positions →
    IsTiedToSoFar now options script start is_alone more (steps ++ step ∷ []) positions
tied-taken None None options script start is_alone alone_then asked got less more steps step positions time from is above alone tells with tied = tt
tied-taken None (Some now) options script start is_alone alone_then asked got less more steps step positions time from is above alone tells with tied = absurd tells
tied-taken (Some was) None options script start is_alone alone_then asked got less more steps step positions time from is above alone tells with tied = absurd tells
tied-taken (Some was) (Some now) options script start is_alone alone_then asked got less more steps step positions time from is above alone tells with tied =
    one_more options script start is_alone now.log more steps step positions (rw is above) (called (is_counted (brief_of got.answer)) options script start is_alone alone_then was now asked got less more steps positions refl alone tells with tied)

pub tied-done : (told : Option History) (options : Opts) (script : List Line) (start : ℕ) (is_alone : Type 0) (got : HeldAnswer) (less more : List HeldAnswer) (steps : List Step) (step : Step) (positions : List ℕ) →
    step.event ≡ Done got.job got.position (brief_of got.answer) →
    (is_counted (brief_of got.answer) ≡ true → (job : Job) → job_at got.job (state_after options script steps).jobs ≡ Some job → HasToldEntry told got.position job.call (brief_of got.answer)) →
    IsWith got less more →
    IsTiedToSoFar told options script start is_alone more steps positions →
    IsTiedToSoFar told options script start is_alone less (steps ++ step ∷ []) (positions_after positions (Done got.job got.position (brief_of got.answer)))
tied-done None options script start is_alone got less more steps step positions is entry with tied = tt
tied-done (Some told) options script start is_alone got less more steps step positions is entry with tied =
    let after_it : List ℕ = positions_after positions (Done got.job got.position (brief_of got.answer)) in
    one_more options script start is_alone told.log less steps step after_it (subst (TiesEvent start told.log (state_after options script steps)) (sym is) entry) (handed options script start is_alone told.log got less more steps got.job positions with tied)

-- nothing has happened, and nothing stands behind the opening length

start_tied : (options : Opts) (script : List Line) (is_alone : Type 0) (log : List Logged) → IsTiedSoFar options script (length log) is_alone log [] [] []
start_tied options script is_alone log = record {
  each = tt;
  others = λ p logged above stands fixed. let past : slice_get log p ≡ None = slice_get_past log p above in absurd (cc);
  alone = λ is p above below. absurd (omega arith);
}

pub tied-start : (told : Option History) (options : Opts) (script : List Line) (start : ℕ) (is_alone : Type 0) → ((history : History) → told ≡ Some history → start ≡ length history.log) → IsTiedToSoFar told options script start is_alone [] [] []
tied-start None options script start is_alone length_is = tt
tied-start (Some told) options script start is_alone length_is = rw (length_is told refl) (start_tied options script is_alone told.log)

-- all answers are handed in
pub tied-end : (told : Option History) (options : Opts) (script : List Line) (start : ℕ) (is_alone : Type 0) (steps : List Step) → IsTiedToSoFar told options script start is_alone [] steps (state_after options script steps).positions → IsTiedTo told options script start is_alone steps
tied-end None options script start is_alone steps tied = tt
tied-end (Some told) options script start is_alone steps tied = record {
  calls = tied.each;
  changes = record {
    others = λ p logged above stands fixed. placed-none (state_after options script steps).positions p (tied.others p logged above stands fixed);
    alone = λ is p above below. placed-none (state_after options script steps).positions p (tied.alone is p above below);
  };
}
