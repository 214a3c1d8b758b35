-- Held answers, and one answer more or less among them.
use Rattle.std.proofs.Common.{◌≡◌, ◌≢◌, ℕ, zero, suc, ◌+◌, ◌<◌, ◌≤◌, ◌==◌, ltb, Bool, true, false, cond, if◌then◌else◌, List, [], ◌∷◌, ◌++◌, length, take, drop, Option, Some, None, refl, sym, ap, ◌∙◌, subst, arith, eq-eqb, eqb-true, ne_eqb}
use Rattle.std.specs.List.{slice_get, slice_index_or, AllByRecursion, insert, remove}
use Rattle.std.specs.List.Sorted.{IsPartitionPoint, IsPartitionedBy}
use Rattle.std.proofs.lemmas.Bool.{lt-ltb, ltb-true, ltb-false}
use Rattle.std.proofs.lemmas.List.{take-append-drop}
use Rattle.std.proofs.lemmas.List.Sums.{sum_by-append, sum_by-cons}
use Rattle.bucket_model.specs.Answers.{brief_of}
use Rattle.mp_driver.specs.declared.held.HeldAnswer.{HeldAnswer}
use Rattle.mp_driver.specs.Drive.{is_fault}
use Rattle.mp_driver.specs.Held.{answer_for, faults_among, AreByJob, IsWith}

-- whose answer is found
pub answer_for-job : (job : ℕ) (held : List HeldAnswer) (got : HeldAnswer) → answer_for job held ≡ Some got → got.job ≡ job
answer_for-job job [] got is = absurd (cc)
answer_for-job job (first ∷ held) got is = by_test (first.job == job) refl is (answer_for-job job held got)
  where
    by_test : (b : Bool) → (first.job == job) ≡ b → cond b (Some first) (answer_for job held) ≡ Some got → (answer_for job held ≡ Some got → got.job ≡ job) → got.job ≡ job
    by_test true test is later = let same : first ≡ got = cc in ap (λ (h : HeldAnswer). h.job) (sym same) ∙ eqb-true first.job job test
    by_test false test is later = later is

-- no answer for a job, at the first one and behind it

none-cons : (job : ℕ) (first : HeldAnswer) (held : List HeldAnswer) → answer_for job (first ∷ held) ≡ None → (first.job ≢ job) × (answer_for job held ≡ None)
none-cons job first held none = by_test (first.job == job) refl none
  where
    by_test : (b : Bool) → (first.job == job) ≡ b → cond b (Some first) (answer_for job held) ≡ None → (first.job ≢ job) × (answer_for job held ≡ None)
    by_test true test none = absurd (cc)
    by_test false test none = (λ same. let is : (first.job == job) ≡ true = eq-eqb first.job job same in absurd (cc), none)

cons-none : (job : ℕ) (first : HeldAnswer) (held : List HeldAnswer) → first.job ≢ job → answer_for job held ≡ None → answer_for job (first ∷ held) ≡ None
cons-none job first held other none = let test : (first.job == job) ≡ false = ne_eqb first.job job other in rw test none

-- one answer in the middle

answer_for-middle : (job : ℕ) (front back : List HeldAnswer) (got : HeldAnswer) → job ≢ got.job → answer_for job (front ++ got ∷ back) ≡ answer_for job (front ++ back)
answer_for-middle job [] back got other = let test : (got.job == job) ≡ false = ne_eqb got.job job (λ same. other (sym same)) in rw test refl
answer_for-middle job (first ∷ front) back got other = ap (λ (o : Option HeldAnswer). cond (first.job == job) (Some first) o) (answer_for-middle job front back got other)

answer_for-own : (front back : List HeldAnswer) (got : HeldAnswer) → answer_for got.job (front ++ back) ≡ None → answer_for got.job (front ++ got ∷ back) ≡ Some got
answer_for-own [] back got none = let test : (got.job == got.job) ≡ true = eq-eqb got.job got.job refl in rw test refl
answer_for-own (first ∷ front) back got none =
    let split = none-cons got.job first (front ++ back) none in
    let test : (first.job == got.job) ≡ false = ne_eqb first.job got.job split.0 in
    rw test (answer_for-own front back got split.1)

-- what holds of all, with one in the middle

all-put : (P : HeldAnswer → Type 0) (front back : List HeldAnswer) (got : HeldAnswer) → AllByRecursion P (front ++ back) → P got → AllByRecursion P (front ++ got ∷ back)
all-put P [] back got all own = (own, all)
all-put P (first ∷ front) back got all own = (all.0, all-put P front back got all.1 own)

all-gone : (P : HeldAnswer → Type 0) (front back : List HeldAnswer) (got : HeldAnswer) → AllByRecursion P (front ++ got ∷ back) → P got × AllByRecursion P (front ++ back)
all-gone P [] back got all = all
all-gone P (first ∷ front) back got all = let more = all-gone P front back got all.1 in (more.0, (all.0, more.1))

-- answers by rising job

none-below : (job : ℕ) (held : List HeldAnswer) → AllByRecursion (λ (other : HeldAnswer). job < other.job) held → answer_for job held ≡ None
none-below job [] above = refl
none-below job (first ∷ held) above = let low = above.0 in cons-none job first held (λ same. absurd (omega arith)) (none-below job held above.1)

by_job-put : (front back : List HeldAnswer) (got : HeldAnswer) → AreByJob (front ++ back) → AllByRecursion (λ (other : HeldAnswer). other.job < got.job) front → AllByRecursion (λ (other : HeldAnswer). got.job < other.job) back → AreByJob (front ++ got ∷ back)
by_job-put [] back got by_job below above = (above, by_job)
by_job-put (first ∷ front) back got by_job below above = (all-put (λ (other : HeldAnswer). first.job < other.job) front back got by_job.0 below.0, by_job-put front back got by_job.1 below.1 above)

by_job-gone : (front back : List HeldAnswer) (got : HeldAnswer) → AreByJob (front ++ got ∷ back) → AreByJob (front ++ back) × (answer_for got.job (front ++ back) ≡ None)
by_job-gone [] back got by_job = (by_job.1, none-below got.job back by_job.0)
by_job-gone (first ∷ front) back got by_job =
    let later = by_job-gone front back got by_job.1 in
    let split = all-gone (λ (other : HeldAnswer). first.job < other.job) front back got by_job.0 in
    let low : first.job < got.job = split.0 in
    ((split.1, later.0), cons-none got.job first (front ++ back) (λ same. absurd (omega arith)) later.1)

-- the place by the job

all_above : (job : ℕ) (held : List HeldAnswer) → answer_for job held ≡ None → ((k : ℕ) (d : HeldAnswer) → k < length held → ltb (slice_index_or held k d).job job ≡ false) → AllByRecursion (λ (other : HeldAnswer). job < other.job) held
all_above job [] none above = tt
all_above job (first ∷ held) none above =
    let split = none-cons job first held none in
    let low : job ≤ first.job = ltb-false first.job job (above 0 first (omega arith)) in
    let other = split.0 in
    (omega arith, all_above job held split.1 (λ k d within. above (suc k) d (omega arith)))

parted : (job : ℕ) (held : List HeldAnswer) (i : ℕ) → answer_for job held ≡ None → ((k : ℕ) (d : HeldAnswer) → k < i → ltb (slice_index_or held k d).job job ≡ true) → ((k : ℕ) (d : HeldAnswer) → i ≤ k → k < length held → ltb (slice_index_or held k d).job job ≡ false) → AllByRecursion (λ (other : HeldAnswer). other.job < job) (take i held) × AllByRecursion (λ (other : HeldAnswer). job < other.job) (drop i held)
parted job [] zero none below above = (tt, tt)
parted job [] (suc i) none below above = (tt, tt)
parted job (first ∷ held) zero none below above = (tt, all_above job (first ∷ held) none (λ k d within. above k d (omega arith) within))
parted job (first ∷ held) (suc i) none below above =
    let split = none-cons job first held none in
    let later = parted job held i split.1 (λ k d low. below (suc k) d (omega arith)) (λ k d high within. above (suc k) d (omega arith) (omega arith)) in
    ((ltb-true first.job job (below 0 first (omega arith)), later.0), later.1)

first_is_least : (held : List HeldAnswer) (k : ℕ) (d first : HeldAnswer) → AllByRecursion (λ (other : HeldAnswer). first.job < other.job) held → k < length held → first.job < (slice_index_or held k d).job
first_is_least [] k d first above within = absurd (omega arith)
first_is_least (next ∷ held) zero d first above within = above.0
first_is_least (next ∷ held) (suc k) d first above within = first_is_least held k d first above.1 (omega arith)

-- a search by the job may cut them in two
pub are_parted : (job : ℕ) (held : List HeldAnswer) → AreByJob held → IsPartitionedBy (λ (other : HeldAnswer). ltb other.job job) held
are_parted job [] by_job i j d le within test = absurd (omega arith)
are_parted job (first ∷ held) by_job zero zero d le within test = test
are_parted job (first ∷ held) by_job zero (suc j) d le within test =
    let least = first_is_least held j d first by_job.0 (omega arith) in
    let low = ltb-true (slice_index_or held j d).job job test in
    lt-ltb first.job job (omega arith)
are_parted job (first ∷ held) by_job (suc i) zero d le within test = absurd (omega arith)
are_parted job (first ∷ held) by_job (suc i) (suc j) d le within test = are_parted job held by_job.1 i j d (omega arith) (omega arith) test

abbrev fault_weight : HeldAnswer → ℕ
fault_weight got = if is_fault (brief_of got.answer) then 1 else 0

faults-middle : (front back : List HeldAnswer) (got : HeldAnswer) → faults_among (front ++ got ∷ back) ≡ faults_among (front ++ back) + (if is_fault (brief_of got.answer) then 1 else 0)
faults-middle front back got =
    omega (arith, sum_by-append fault_weight front (got ∷ back), sum_by-append fault_weight front back, sum_by-cons fault_weight got back)

with-middle : (front back : List HeldAnswer) (got : HeldAnswer) → answer_for got.job (front ++ back) ≡ None → IsWith got (front ++ back) (front ++ got ∷ back)
with-middle front back got none = record {
  absent = none;
  own = answer_for-own front back got none;
  others = λ job other. answer_for-middle job front back got other;
  faults = faults-middle front back got;
}

-- put in at its place, and taken out of it

pub with-insert : (held : List HeldAnswer) (place : ℕ) (got : HeldAnswer) → answer_for got.job held ≡ None → IsWith got held (insert held place got)
with-insert held place got none =
    let front = take place held in
    let back = drop place held in
    let whole : front ++ back ≡ held = take-append-drop place held in
    subst (λ (less : List HeldAnswer). IsWith got less (front ++ got ∷ back)) whole (with-middle front back got (rw whole none))

pub by_job-insert : (held : List HeldAnswer) (place : ℕ) (got : HeldAnswer) → answer_for got.job held ≡ None → AreByJob held → IsPartitionPoint (λ (other : HeldAnswer). ltb other.job got.job ≡ true) (λ (other : HeldAnswer). ltb other.job got.job ≡ false) held place → AreByJob (insert held place got)
by_job-insert held place got none by_job point =
    let both = parted got.job held place none (λ k d low. point.0 k d (omega arith) low) point.1 in
    let whole : take place held ++ drop place held ≡ held = take-append-drop place held in
    by_job-put (take place held) (drop place held) got (rw whole by_job) both.0 both.1

parts : (held : List HeldAnswer) (place : ℕ) (got : HeldAnswer) → slice_get held place ≡ Some got → take place held ++ got ∷ drop (suc place) held ≡ held
parts [] place got is = absurd (cc)
parts (first ∷ held) zero got is = let same : got ≡ first = cc in ap (λ (h : HeldAnswer). h ∷ held) same
parts (first ∷ held) (suc place) got is = ap (λ (t : List HeldAnswer). first ∷ t) (parts held place got is)

pub with-remove : (held : List HeldAnswer) (place : ℕ) (got : HeldAnswer) → slice_get held place ≡ Some got → AreByJob held → IsWith got (remove held place) held × AreByJob (remove held place)
with-remove held place got is by_job =
    let front = take place held in
    let back = drop (suc place) held in
    let whole : front ++ got ∷ back ≡ held = parts held place got is in
    let gone = by_job-gone front back got (rw whole by_job) in
    (subst (λ (more : List HeldAnswer). IsWith got (front ++ back) more) whole (with-middle front back got gone.1), gone.0)

-- one answer alone
pub with-one : (got : HeldAnswer) → IsWith got [] (got ∷ [])
with-one got = with-middle [] [] got refl
