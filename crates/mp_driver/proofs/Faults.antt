-- The faults of a record and of held answers, against a store's count.
use Rattle.std.proofs.Common.{◌≡◌, ℕ, ◌+◌, ◌≤◌, ◌-◌, ◌^◌, Bool, true, false, if◌then◌else◌, List, [], Option, refl, ap, subst, ◌∙◌, inl, inr, arith}
use Rattle.std.proofs.lemmas.Bool.{cases_lt}
use Rattle.std.proofs.lemmas.List.Sums.{sum_by_push}
use Rattle.mp_types.specs.Count.{HasRisen}
use Rattle.bucket_model.specs.declared.answer.Brief.{Brief}
use Rattle.bucket_model.specs.declared.answer.Brief.TheVariants.{Found, Missing, Yes, No, Page, Bytes, Changed, Gone, Made, Upload, Stored, NoUpload, Fault, NoMemory}
use Rattle.bucket_model.specs.Answers.{brief_of}
use Rattle.bucket_model.specs.History.{History}
use Rattle.mount_model.specs.declared.event.Event.{Event}
use Rattle.mount_model.specs.declared.event.Event.TheVariants.{Begin, Take, Done}
use Rattle.mount_model.specs.Step.{Step}
use Rattle.mount_core.specs.Core.{CoreState, Advances}
use Rattle.mp_driver.specs.declared.held.HeldAnswer.{HeldAnswer}
use Rattle.mp_driver.specs.Calls.{Calls}
use Rattle.mp_driver.specs.Drive.{HasRisenBy, faults_in, has_failed, is_fault}
use Rattle.mp_driver.specs.Held.{IsWith, faults_among}

-- one event more
pub faults-advanced : (event : Event) (bytes : List ℕ) (old new : CoreState) → Advances event bytes old new → faults_in new.steps ≡ faults_in old.steps + (if has_failed event then 1 else 0)
faults-advanced event bytes old new adv =
    ap faults_in adv.steps ∙ (sum_by_push (λ (step : Step). if has_failed step.event then 1 else 0) old.steps adv.step ∙ ap (λ (e : Event). faults_in old.steps + (if has_failed e then 1 else 0)) adv.event_is)

-- a begin and a take have none

pub begun_same : (line time : ℕ) (bytes : List ℕ) (old new : CoreState) → Advances (Begin line time) bytes old new → faults_in new.steps ≡ faults_in old.steps
begun_same line time bytes old new adv = omega (arith, faults-advanced (Begin line time) bytes old new adv)

taken_same : (job time from : ℕ) (bytes : List ℕ) (old new : CoreState) → Advances (Take job time from) bytes old new → faults_in new.steps ≡ faults_in old.steps
taken_same job time from bytes old new adv = omega (arith, faults-advanced (Take job time from) bytes old new adv)

fault-is : (answer : Brief) → is_fault answer ≡ true → answer ≡ Fault
fault-is Fault is = refl
fault-is (Found etag size) is = absurd (cc)
fault-is Missing is = absurd (cc)
fault-is Yes is = absurd (cc)
fault-is No is = absurd (cc)
fault-is (Page page) is = absurd (cc)
fault-is (Bytes count) is = absurd (cc)
fault-is Changed is = absurd (cc)
fault-is Gone is = absurd (cc)
fault-is (Made etag) is = absurd (cc)
fault-is (Upload upload) is = absurd (cc)
fault-is Stored is = absurd (cc)
fault-is NoUpload is = absurd (cc)
fault-is NoMemory is = absurd (cc)

risen-by : (b : Bool) (many before was now : ℕ) → (b ≡ true → HasRisen was now) → was ≤ now → HasRisenBy many before was → HasRisenBy (many + (if b then 1 else 0)) before now
risen-by false many before was now risen grows (inl enough) = inl (omega arith)
risen-by false many before was now risen grows (inr full) = inr (omega arith)
risen-by true many before was now risen grows (inl enough) = let one = risen refl in elim (cases_lt was (2 ^ 64 - 1)) [
  | inl less ↦ inl (omega arith)
  | inr full ↦ inr (omega arith)
]
risen-by true many before was now risen grows (inr full) = inr (omega arith)

-- the faults of the record and of held answers, after each kind of turn

pub few-begun : (many line time before now : ℕ) (bytes : List ℕ) (old new : CoreState) → Advances (Begin line time) bytes old new → HasRisenBy (faults_in old.steps + many) before now → HasRisenBy (faults_in new.steps + many) before now
few-begun many line time before now bytes old new adv few = rw (begun_same line time bytes old new adv) few

pub few-called : (job position behind before was now : ℕ) (is_alone : Type 0) (told later : Option History) (got : HeldAnswer) (less more : List HeldAnswer) (old new : CoreState) → Calls job position behind was now is_alone told later got old new → IsWith got less more → HasRisenBy (faults_in old.steps + faults_among less) before was → HasRisenBy (faults_in new.steps + faults_among more) before now
few-called job position behind before was now is_alone told later got less more old new called with few =
    let same = taken_same job called.time position [] old new called.take in
    let risen = risen-by (is_fault (brief_of got.answer)) (faults_in old.steps + faults_among less) before was now (λ is. called.fault (fault-is (brief_of got.answer) is)) called.faults_grow few in
    let sum : faults_in old.steps + faults_among less + (if is_fault (brief_of got.answer) then 1 else 0) ≡ faults_in new.steps + faults_among more = omega (arith, same, with.faults) in
    subst (λ (n : ℕ). HasRisenBy n before now) sum risen

pub few-done : (before now : ℕ) (bytes : List ℕ) (got : HeldAnswer) (less more : List HeldAnswer) (old new : CoreState) → Advances (Done got.job got.position (brief_of got.answer)) bytes old new → IsWith got less more → HasRisenBy (faults_in old.steps + faults_among more) before now → HasRisenBy (faults_in new.steps + faults_among less) before now
few-done before now bytes got less more old new adv with few =
    let one = faults-advanced (Done got.job got.position (brief_of got.answer)) bytes old new adv in
    let sum : faults_in old.steps + faults_among more ≡ faults_in new.steps + faults_among less = omega (arith, one, with.faults) in
    subst (λ (n : ℕ). HasRisenBy n before now) sum few

-- nothing has happened
pub few-start : (before : ℕ) (core : CoreState) → core.steps ≡ [] → HasRisenBy (faults_in core.steps) before before
few-start before core new = let none : faults_in core.steps ≡ 0 = ap faults_in new in inl (omega arith)

-- no answer is held

pub few-none : (before now : ℕ) (core : CoreState) → HasRisenBy (faults_in core.steps) before now → HasRisenBy (faults_in core.steps + faults_among []) before now
few-none before now core few = let sum : faults_in core.steps ≡ faults_in core.steps + faults_among [] = omega arith in subst (λ (n : ℕ). HasRisenBy n before now) sum few

pub few-all : (before now : ℕ) (core : CoreState) → HasRisenBy (faults_in core.steps + faults_among []) before now → HasRisenBy (faults_in core.steps) before now
few-all before now core few = let sum : faults_in core.steps + faults_among [] ≡ faults_in core.steps = omega arith in subst (λ (n : ℕ). HasRisenBy n before now) sum few
