-- What an event does to the jobs and their places in the history.
use Rattle.std.proofs.Common.{◌≡◌, ◌≢◌, ℕ, ◌<◌, ◌≤◌, List, [], ◌∷◌, Bool, true, false, ◌||◌, ◌==◌, if◌then◌else◌, Some, ◌⊎◌, inl, inr, refl, sym, ap, ◌∙◌, subst, arith, eqb-true}
use Rattle.std.proofs.lemmas.Bool.{cases_eq}
use Rattle.std.specs.List.{AllByRecursion}
use Rattle.bucket_model.specs.declared.answer.Brief.{Brief}
use Rattle.bucket_model.specs.declared.history.Logged.{Logged}
use Rattle.bucket_model.specs.History.{HasEntry}
use Rattle.mount_model.specs.State.{Job, JobPhase, Ready, Out, Gone, job_at, in_phase, change_job}
use Rattle.mount_model.specs.Run.{is_among}
use Rattle.write_laws.specs.Accounted.{Place, StandsAt, IsBehind, IsAnswered, AreAccounted}
use Rattle.write_laws.proofs.Found.{found-number, found-moved, to_phase, moves-phase, phase-same, phase-other}
use Rattle.write_laws.proofs.Moved.{Advances}
use Rattle.write_laws.proofs.Filled.{same-found}

-- what a list of positions below a bound has among it lies below
pub among-below : (position bound : ℕ) (positions : List ℕ) → AllByRecursion (λ p. p < bound) positions → is_among position positions ≡ true → position < bound
among-below position bound [] all is = absurd (cc)
among-below position bound (first ∷ positions) all is = go (first == position) refl is (among-below position bound positions all.1)
  where
    go : (b : Bool) → (first == position) ≡ b → (b || is_among position positions) ≡ true → (is_among position positions ≡ true → position < bound) → position < bound
    go true same is ih = let e = eqb-true first position same in let here : first < bound = all.0 in omega arith
    go false same is ih = ih is

-- a job in this phase, and no other
pub phase-of : (n : ℕ) (phase : JobPhase) (k : ℕ) (jobs : List Job) (job : Job) → job_at k jobs ≡ Some job → ((k ≡ n) × (to_phase n phase job ≡ in_phase phase job)) ⊎ ((k ≢ n) × (to_phase n phase job ≡ job))
phase-of n phase k jobs job stands = elim (cases_eq k n) [
  | inl same ↦ inl (same, phase-same n phase job (found-number k jobs job stands ∙ same))
  | inr apart ↦ inr (apart, phase-other n phase job (λ e. apart (sym (found-number k jobs job stands) ∙ e)))
]

-- the job of this number isn't gone
not-gone : (n : ℕ) (jobs : List Job) (job : Job) → job_at n jobs ≡ Some job → job.phase ≢ Gone → (k : ℕ) (other : Job) → job_at k jobs ≡ Some other → other.phase ≡ Gone → k ≡ n → ⊥
not-gone n jobs job stands live k other found gone same = live (ap (λ (j : Job). j.phase) (same-found jobs n job other stands (ap (λ (m : ℕ). job_at m jobs) (sym same) ∙ found)) ∙ gone)

-- what was answered stays
answered-stays : (log : List Logged) (start n : ℕ) (phase : JobPhase) (jobs : List Job) (job : Job) (k position : ℕ) → job_at n jobs ≡ Some job → job.phase ≢ Gone → IsAnswered log start k position jobs → IsAnswered log start k position (change_job n phase jobs)
answered-stays log start n phase jobs job k position stands live is = elim (phase-of n phase k jobs is.job is.stands) [
  | inl here ↦ absurd (not-gone n jobs job stands live k is.job is.stands is.gone here.0)
  | inr other ↦ record { job = is.job; stands = found-moved (to_phase n phase) (moves-phase n phase) k jobs is.job is.stands ∙ ap (λ (j : Job). Some j) other.1; gone = is.gone; late = is.late; logged = is.logged; entry = is.entry; calls = is.calls }
]

-- a job is taken
pub take-advances : (log : List Logged) (start : ℕ) (stood : ℕ → List ℕ → Type 0) (taken : ℕ → List ℕ) (places : List Place) (jobs : List Job) (positions : List ℕ) (n from : ℕ) (job : Job) → AreAccounted log start stood taken places jobs → job_at n jobs ≡ Some job → job.phase ≡ Ready → start ≤ from → AllByRecursion (λ p. p < from) positions → ((k p : ℕ) → StandsAt k p places → is_among p positions ≡ true) → Advances log start places places jobs (to_phase n (Out from))
take-advances log start stood taken places jobs positions n from job all stands ready late below seen = record {
  grows = λ k p place. place;
  answered = λ k p place. answered-stays log start n (Out from) jobs job k p stands live (all.answered k p place);
  one_place = all.one_place;
  one_job = all.one_job;
  out = λ k some other found is. elim (phase-of n (Out from) k jobs some found) [
    | inl here ↦ (let phase : Out from ≡ Out other = ap (λ (j : Job). j.phase) (sym here.1) ∙ is in let same : from ≡ other = cc in omega (arith, same, late))
    | inr there ↦ all.out k some other found (ap (λ (j : Job). j.phase) (sym there.1) ∙ is)
  ];
  behind = λ position other k some place found old. elim (phase-of n (Out from) k jobs some found) [
    | inl here ↦ record {
      out = λ new is. let phase : Out from ≡ Out new = ap (λ (j : Job). j.phase) (sym here.1) ∙ is in let same : from ≡ new = cc in let less = among-below position from positions below (seen other position place) in omega (arith, same, less);
      done = old.done;
    }
    | inr there ↦ subst (λ (j : Job). IsBehind places position k j.phase) (sym there.1) old
  ];
  gone = λ k some found gone. elim (phase-of n (Out from) k jobs some found) [
    | inl here ↦ absurd (not-gone n jobs job stands live k some found gone here.0)
    | inr there ↦ (ap (λ (j : Job). j.phase) there.1 ∙ gone, λ position place. place)
  ];
}
  where
    live : job.phase ≢ Gone
    live gone = let both : Ready ≡ Gone = sym ready ∙ gone in absurd (cc)

-- and answered
abbrev pub places_if : Bool → ℕ → ℕ → List Place → List Place
places_if counted n position places = if counted then record { job = n; position = position } ∷ places else places

pub done-advances : (log : List Logged) (start : ℕ) (stood : ℕ → List ℕ → Type 0) (taken : ℕ → List ℕ) (places : List Place) (jobs : List Job) (positions : List ℕ) (n from position : ℕ) (said : Brief) (job : Job) (counted : Bool) → AreAccounted log start stood taken places jobs → job_at n jobs ≡ Some job → job.phase ≡ Out from → ((k p : ℕ) → StandsAt k p places → is_among p positions ≡ true) → (counted ≡ true → from ≤ position) → (counted ≡ true → is_among position positions ≡ false) → (counted ≡ true → HasEntry log position job.call said) → Advances log start places (places_if counted n position places) jobs (to_phase n Gone)
done-advances log start stood taken places jobs positions n from position said job true all stands is_out seen late new entry = record {
  grows = λ k p place. inr place;
  answered = λ k p place. elim place [
    | inl here ↦ subst (λ (m : ℕ). IsAnswered log start m p (change_job n Gone jobs)) here.0 (subst (λ (q : ℕ). IsAnswered log start n q (change_job n Gone jobs)) here.1 own)
    | inr old ↦ answered-stays log start n Gone jobs job k p stands live (all.answered k p old)
  ];
  one_place = λ k p q one two. elim one [
    | inl first ↦ elim two [
      | inl second ↦ sym first.1 ∙ second.1
      | inr old ↦ absurd (unplaced k q (sym first.0) old)
    ]
    | inr old ↦ elim two [
      | inl second ↦ absurd (unplaced k p (sym second.0) old)
      | inr other ↦ all.one_place k p q old other
    ]
  ];
  one_job = λ k m p one two. elim one [
    | inl first ↦ elim two [
      | inl second ↦ sym first.0 ∙ second.0
      | inr old ↦ absurd (unseen m p (sym first.1) old)
    ]
    | inr old ↦ elim two [
      | inl second ↦ absurd (unseen k p (sym second.1) old)
      | inr other ↦ all.one_job k m p old other
    ]
  ];
  out = λ k some other found is. elim (phase-of n Gone k jobs some found) [
    | inl here ↦ absurd (let phase : Gone ≡ Out other = ap (λ (j : Job). j.phase) (sym here.1) ∙ is in cc)
    | inr there ↦ all.out k some other found (ap (λ (j : Job). j.phase) (sym there.1) ∙ is)
  ];
  behind = λ first other k some place found old. record {
    out = λ some_from is. elim (phase-of n Gone k jobs some found) [
      | inl here ↦ absurd (let phase : Gone ≡ Out some_from = ap (λ (j : Job). j.phase) (sym here.1) ∙ is in cc)
      | inr there ↦ old.out some_from (ap (λ (j : Job). j.phase) (sym there.1) ∙ is)
    ];
    done = λ p stands_at. elim stands_at [
      | inl here ↦ (let same = same-found jobs n job some stands (ap (λ (m : ℕ). job_at m jobs) here.0 ∙ found) in
          let less : first < from = old.out from (ap (λ (j : Job). j.phase) (sym same) ∙ is_out) in
          let most : from ≤ position = late refl in
          omega (arith, here.1, less, most))
      | inr older ↦ old.done p older
    ];
  };
  gone = λ k some found gone. elim (phase-of n Gone k jobs some found) [
    | inl here ↦ absurd (not-gone n jobs job stands live k some found gone here.0)
    | inr there ↦ (ap (λ (j : Job). j.phase) there.1 ∙ gone, λ p place. elim place [ inl here ↦ absurd (there.0 (sym here.0)) | inr old ↦ old ])
  ];
}
  where
    live : job.phase ≢ Gone
    live gone = let both : Out from ≡ Gone = sym is_out ∙ gone in absurd (cc)

    own : IsAnswered log start n position (change_job n Gone jobs)
    own =
        let stood_at = entry refl in
        let least = all.out n job from stands is_out in
        let most : from ≤ position = late refl in
        record {
          job = in_phase Gone job;
          stands = found-moved (to_phase n Gone) (moves-phase n Gone) n jobs job stands ∙ ap (λ (j : Job). Some j) (phase-same n Gone job (found-number n jobs job stands));
          gone = refl;
          late = omega arith;
          logged = stood_at.logged;
          entry = stood_at.stands;
          calls = stood_at.call;
        }

    unplaced : (k p : ℕ) → k ≡ n → StandsAt k p places → ⊥
    unplaced k p same old = let is = all.answered k p old in not-gone n jobs job stands live k is.job is.stands is.gone same

    unseen : (k p : ℕ) → p ≡ position → StandsAt k p places → ⊥
    unseen k p same old = let is = seen k p old in let none = new refl in let both : is_among position positions ≡ true = ap (λ (q : ℕ). is_among q positions) (sym same) ∙ is in absurd (cc)
done-advances log start stood taken places jobs positions n from position said job false all stands is_out seen late new entry = record {
  grows = λ k p place. place;
  answered = λ k p place. answered-stays log start n Gone jobs job k p stands live (all.answered k p place);
  one_place = all.one_place;
  one_job = all.one_job;
  out = λ k some other found is. elim (phase-of n Gone k jobs some found) [
    | inl here ↦ absurd (let phase : Gone ≡ Out other = ap (λ (j : Job). j.phase) (sym here.1) ∙ is in cc)
    | inr there ↦ all.out k some other found (ap (λ (j : Job). j.phase) (sym there.1) ∙ is)
  ];
  behind = λ first other k some place found old. record {
    out = λ some_from is. elim (phase-of n Gone k jobs some found) [
      | inl here ↦ absurd (let phase : Gone ≡ Out some_from = ap (λ (j : Job). j.phase) (sym here.1) ∙ is in cc)
      | inr there ↦ old.out some_from (ap (λ (j : Job). j.phase) (sym there.1) ∙ is)
    ];
    done = old.done;
  };
  gone = λ k some found gone. elim (phase-of n Gone k jobs some found) [
    | inl here ↦ absurd (not-gone n jobs job stands live k some found gone here.0)
    | inr there ↦ (ap (λ (j : Job). j.phase) there.1 ∙ gone, λ p place. place)
  ];
}
  where
    live : job.phase ≢ Gone
    live gone = let both : Out from ≡ Gone = sym is_out ∙ gone in absurd (cc)
