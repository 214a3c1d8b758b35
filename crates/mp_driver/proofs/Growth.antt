-- What a longer history leaves as it was.
use Rattle.std.proofs.Common.{◌≡◌, ℕ, Bool, true, false, List, [], ◌∷◌, ◌++◌, Option, Some, None, sym, subst, append-nil, append_assoc, length-append}
use Rattle.mp_types.specs.declared.options.Opts.{Opts}
use Rattle.mp_types.proofs.Lists.{slice_get-seam}
use Rattle.bucket_model.specs.declared.call.Call.{Call}
use Rattle.bucket_model.specs.declared.answer.Answer.{Answer}
use Rattle.bucket_model.specs.declared.answer.Brief.{Brief}
use Rattle.bucket_model.specs.declared.history.Logged.{Logged}
use Rattle.bucket_model.specs.Answers.{brief_of, is_counted}
use Rattle.bucket_model.specs.Bucket.{ObjectVersion, IsSlice}
use Rattle.bucket_model.specs.History.{HasEntry, History}
use Rattle.store_trait.specs.Told.{AddsFor, BringsSlice, Tells}
use Rattle.mount_model.specs.declared.request.Line.{Line}
use Rattle.mount_model.specs.Step.{Step}
use Rattle.mount_model.specs.State.{Job, Out, job_at}
use Rattle.mount_model.specs.Reads.{AreReads}
use Rattle.mp_driver.specs.declared.held.HeldAnswer.{HeldAnswer}
use Rattle.mount_model.specs.Reads.{ReadsOver}
use Rattle.mp_driver.proofs.Between.{IsMore, Grows, HasToldEntry, IsOwed}
use Rattle.mp_driver.proofs.Positions.{slice_get-more}
use Rattle.mp_driver.proofs.Versions.{AreReads-more, IsSlice-more}

-- each call only adds

adds-more : (b : Bool) (is_alone : Type 0) (called : Call) (place : ℕ) (answer : Brief) (was now : History) → AddsFor b is_alone called place answer was now → IsMore was now
adds-more true is_alone called place answer was now adds = record { entries = adds.earlier ++ adds.own ∷ adds.later; log = adds.log; versions = adds.versions }
adds-more false is_alone called place answer was now adds = record { entries = adds.others; log = adds.log; versions = adds.versions }

pub tells-grow : (is_alone : Type 0) (called : Call) (place : ℕ) (answer : Brief) (was now : Option History) → Tells is_alone called place answer was now → Grows was now
tells-grow is_alone called place answer None None tells = tt
tells-grow is_alone called place answer None (Some now) tells = absurd tells
tells-grow is_alone called place answer (Some was) None tells = absurd tells
tells-grow is_alone called place answer (Some was) (Some now) tells = adds-more (is_counted answer) is_alone called place answer was now tells

-- nothing is added
pub grows-none : (told : Option History) → Grows told told
grows-none None = tt
grows-none (Some told) = record { entries = []; log = sym (append-nil told.log); versions = ([], sym (append-nil told.versions)) }

-- an entry stays

pub HasEntry-more : (log more : List Logged) (position : ℕ) (called : Call) (answer : Brief) → HasEntry log position called answer → HasEntry (log ++ more) position called answer
HasEntry-more log more position called answer has = record { logged = has.logged; stands = slice_get-more log more position has.logged has.stands; call = has.call; brief = has.brief }

entry-more : (was now : Option History) (position : ℕ) (called : Call) (answer : Brief) → Grows was now → HasToldEntry was position called answer → HasToldEntry now position called answer
entry-more None None position called answer grows has = tt
entry-more None (Some now) position called answer grows has = absurd grows
entry-more (Some was) None position called answer grows has = absurd grows
entry-more (Some was) (Some now) position called answer grows has = subst (λ (log : List Logged). HasEntry log position called answer) (sym grows.log) (HasEntry-more was.log grows.entries position called answer has)

-- a call's own entry

adds-entry : (b : Bool) (is_alone : Type 0) (called : Call) (place : ℕ) (answer : Brief) (was now : History) → b ≡ true → AddsFor b is_alone called place answer was now → HasEntry now.log place called answer
adds-entry true is_alone called place answer was now counted adds = subst (λ (log : List Logged). HasEntry log place called answer) (sym adds.log) (record {
  logged = adds.own;
  stands = rw (← adds.at_place, ← length-append was.log adds.earlier, ← append_assoc was.log adds.earlier (adds.own ∷ adds.later)) (slice_get-seam (was.log ++ adds.earlier) adds.later adds.own);
  call = adds.asks;
  brief = adds.answers;
})
adds-entry false is_alone called place answer was now counted adds = absurd (cc)

pub tells-entry : (is_alone : Type 0) (called : Call) (place : ℕ) (answer : Brief) (was now : Option History) → is_counted answer ≡ true → Tells is_alone called place answer was now → HasToldEntry now place called answer
tells-entry is_alone called place answer None None counted tells = tt
tells-entry is_alone called place answer None (Some now) counted tells = absurd tells
tells-entry is_alone called place answer (Some was) None counted tells = absurd tells
tells-entry is_alone called place answer (Some was) (Some now) counted tells = adds-entry (is_counted answer) is_alone called place answer was now counted tells

-- bytes stay those of a version

slice-more : (was now : Option History) (called : Call) (said : Answer) → Grows was now → BringsSlice called said was → BringsSlice called said now
slice-more None None called said grows brings = tt
slice-more None (Some now) called said grows brings = absurd grows
slice-more (Some was) None called said grows brings = absurd grows
slice-more (Some was) (Some now) called said grows brings = subst (λ (versions : List ObjectVersion). IsSlice versions called said) (sym grows.versions.1) (IsSlice-more was.versions grows.versions.0 called said brings)

pub reads-more : (was now : Option History) (options : Opts) (script : List Line) (steps : List Step) → Grows was now → ReadsOver was options script steps → ReadsOver now options script steps
reads-more None None options script steps grows reads = tt
reads-more None (Some now) options script steps grows reads = absurd grows
reads-more (Some was) None options script steps grows reads = absurd grows
reads-more (Some was) (Some now) options script steps grows reads = subst (λ (versions : List ObjectVersion). AreReads versions options script steps) (sym grows.versions.1) (AreReads-more was.versions grows.versions.0 options script steps reads)

-- a held answer is owed, also where the history is longer and the jobs are others, if jobs that are out stay so
pub owed-more : (was now : Option History) (old new : List Job) (got : HeldAnswer) → Grows was now → ((job : Job) (from : ℕ) → job_at got.job old ≡ Some job → job.phase ≡ Out from → job_at got.job new ≡ Some job) → IsOwed was old got → IsOwed now new got
owed-more was now old new got grows keeps owed = record {
  job = owed.job;
  stands = keeps owed.job owed.from owed.stands owed.is_out;
  from = owed.from;
  is_out = owed.is_out;
  kind = owed.kind;
  behind = owed.behind;
  slice = slice-more was now owed.job.call got.answer grows owed.slice;
  entry = λ counted. entry-more was now got.position owed.job.call (brief_of got.answer) grows (owed.entry counted);
}
