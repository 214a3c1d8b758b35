-- A job that completes an upload, at the end of a run: the history has just its parts, so that it makes the object of them.
use Rattle.std.proofs.Common.{◌≡◌, ℕ, ◌<◌, ◌≤◌, List, take, slice_get, true, Option, Some, None, inl, inr, refl, sym, ap, ◌∙◌, subst, arith}
use Rattle.std.proofs.lemmas.Bool.{cases_eq}
use Rattle.mp_types.specs.declared.options.Opts.{Opts}
use Rattle.bucket_model.specs.Answers.{upload_in}
use Rattle.bucket_model.specs.declared.call.Call.{Call}
use Rattle.bucket_model.specs.declared.call.Call.TheVariants as call
use Rattle.bucket_model.specs.declared.history.Name.{Name}
use Rattle.bucket_model.specs.declared.history.Name.TheVariants as name
use Rattle.bucket_model.specs.declared.history.Logged.{Logged}
use Rattle.bucket_model.specs.Bucket.{ObjectVersion, Whole, version_made, version_named}
use Rattle.bucket_model.specs.History.{IsLegalHistory, replay}
use Rattle.upload_history.specs.Entries.{HasCall, HasParts, whole_from}
use Rattle.upload_history.proofs.Laws.{version_is}
use Rattle.mount_model.specs.declared.request.Line.{Line}
use Rattle.mount_model.specs.declared.event.Owner.TheVariants as owner
use Rattle.mount_model.specs.Step.{Step}
use Rattle.mount_model.specs.State.{ClientState, Job, job_at, state_after}
use Rattle.mount_model.specs.Run.{is_among}
use Rattle.mount_model.specs.Tied.{HasItsUploads, WasGiven}
use Rattle.mount_model.specs.Written.{HasStood, IsCompletion, IsMadeAt, IsOfWriter}
use Rattle.run_laws.specs.Counts.{is_complete, if_writer, made_job, calls_made}
use Rattle.run_laws.proofs.Keyed.{total-two}
use Rattle.run_laws.proofs.Jobs.{job_number, if_writer-own}
use Rattle.write_laws.specs.Accounted.{Place, StandsAt, HasCreated, IsWholeJob, AreAccounted, IsAccounted, taken_in}
use Rattle.write_laws.proofs.Filled.{same-found}
use Rattle.write_laws.proofs.Accepted.{created-once}
use Rattle.write_laws.proofs.Run.{IsSound}

-- whose entry it is
pub record IsOfJob (places : List Place) (jobs : List Job) (position : ℕ) (called : Call) : Type 0 where
  pub number : ℕ
  pub job : Job
  pub stands : job_at number jobs ≡ Some job
  pub place : StandsAt number position places
  pub calls : job.call ≡ called

pub logged-same : (log : List Logged) (position : ℕ) (one two : Logged) → slice_get log position ≡ Some one → slice_get log position ≡ Some two → one ≡ two
logged-same log position one two first second = let both : Some one ≡ Some two = sym first ∙ second in cc

pub placed-job : (log : List Logged) (start : ℕ) (stood : ℕ → List ℕ → Type 0) (taken : ℕ → List ℕ) (places : List Place) (jobs : List Job) (number position : ℕ) (called : Call) → AreAccounted log start stood taken places jobs → StandsAt number position places → HasCall log position called → IsOfJob places jobs position called
placed-job log start stood taken places jobs number position called all place has =
    let is = all.answered number position place in
    let same = logged-same log position is.logged has.logged is.entry has.stands in
    record { number = number; job = is.job; stands = is.stands; place = place; calls = sym is.calls ∙ ap (λ (l : Logged). l.entry.call) same ∙ has.calls }

pub our-job : (log : List Logged) (start : ℕ) (stood : ℕ → List ℕ → Type 0) (taken : ℕ → List ℕ) (places : List Place) (now : ClientState) (position : ℕ) (called : Call) → IsAccounted log start stood taken places now → is_among position now.positions ≡ true → HasCall log position called → IsOfJob places now.jobs position called
our-job log start stood taken places now position called accounted among has =
    let found = accounted.placed position among in
    placed-job log start stood taken places now.jobs found.0 position called accounted.jobs found.1 has

-- an upload is of one writer
one-writer : (log : List Logged) (start : ℕ) (stood : ℕ → List ℕ → Type 0) (taken : ℕ → List ℕ) (places : List Place) (jobs : List Job) (first second named : ℕ) (key some : List ℕ) → IsLegalHistory log → AreAccounted log start stood taken places jobs → HasCreated log places jobs first named key → HasCreated log places jobs second named some → first ≡ second
one-writer log start stood taken places jobs first second named key some legal all one two =
    let position_is = created-once log legal one.position two.position named key some one.creates two.creates in
    let number_is = all.one_job one.number two.number one.position one.place (subst (λ (p : ℕ). StandsAt two.number p places) (sym position_is) two.place) in
    let job_is = same-found jobs two.number one.job two.job (ap (λ (k : ℕ). job_at k jobs) (sym number_is) ∙ one.stands) two.stands in
    let owners : owner.Writer first ≡ owner.Writer second = sym one.owned ∙ ap (λ (j : Job). j.owner) job_is ∙ two.owned in
    cc

one-complete : (opened n m : ℕ) (jobs : List Job) (first second : Job) (one other count more : ℕ) → calls_made is_complete opened jobs ≤ 1 → job_at n jobs ≡ Some first → job_at m jobs ≡ Some second → first.owner ≡ owner.Writer opened → second.owner ≡ owner.Writer opened → first.call ≡ call.Complete one count → second.call ≡ call.Complete other more → n ≡ m
one-complete opened n m jobs first second one other count more once stands there owned theirs calls completes = elim (cases_eq n m) [
  | inl same ↦ same
  | inr apart ↦ absurd (let two = total-two job_number (made_job is_complete opened) n m jobs first second apart stands there in
      let a : made_job is_complete opened first ≡ 1 = ap (λ o. if_writer opened o (is_complete first.call)) owned ∙ if_writer-own opened (is_complete first.call) ∙ ap is_complete calls in
      let b : made_job is_complete opened second ≡ 1 = ap (λ o. if_writer opened o (is_complete second.call)) theirs ∙ if_writer-own opened (is_complete second.call) ∙ ap is_complete completes in
      omega arith)
]

-- what is known at the end of a run
pub record IsEnd (log : List Logged) (start : ℕ) (options : Opts) (script : List Line) (steps : List Step) (places : List Place) : Type 0 where
  pub legal : IsLegalHistory log
  pub sound : IsSound log start options script places steps
  pub uploads : HasItsUploads start log (state_after options script steps).positions

-- a job that completed an upload, with its answer
pub record HasCompleted (log : List Logged) (start : ℕ) (options : Opts) (script : List Line) (steps : List Step) (places : List Place) (position upload count : ℕ) : Type 0 where
  pub number : ℕ
  pub job : Job
  pub found : job_at number (state_after options script steps).jobs ≡ Some job
  pub place : StandsAt number position places
  pub calls : job.call ≡ call.Complete upload count
  pub is : IsWholeJob log (HasStood options script steps) (taken_in options script steps) places (state_after options script steps).jobs upload count number job

-- what is an upload's completion, and what version it makes

completion-is : (called : Call) → IsCompletion called → (upload : ℕ) × (count : ℕ) × (called ≡ call.Complete upload count)
completion-is (call.Complete upload count) is = (upload, count, refl)
completion-is (call.Head key) is = absurd is
completion-is (call.Probe key) is = absurd is
completion-is (call.List prefix after max) is = absurd is
completion-is (call.Get key etag from to) is = absurd is
completion-is (call.Delete key) is = absurd is
completion-is (call.Put key bytes) is = absurd is
completion-is (call.Create key) is = absurd is
completion-is (call.Part upload number bytes) is = absurd is
completion-is (call.Abort upload) is = absurd is

named-is : (made : Option Name) (whole : Whole) (v : ObjectVersion) → version_named made whole ≡ Some v → (v.key ≡ whole.key) × (v.bytes ≡ whole.bytes)
named-is None whole v is = absurd (cc)
named-is (Some (name.Version etag)) whole v is =
    let same : record { key = whole.key; etag = etag; bytes = whole.bytes } ≡ v = cc in
    (ap (λ (x : ObjectVersion). x.key) (sym same), ap (λ (x : ObjectVersion). x.bytes) (sym same))
named-is (Some (name.Upload upload)) whole v is = absurd (cc)

module _ (log : List Logged) (start : ℕ) (options : Opts) (script : List Line) (steps : List Step) (places : List Place) (end : IsEnd log start options script steps places) where
  pub completed-job : (position upload count : ℕ) → IsOfJob places (state_after options script steps).jobs position (call.Complete upload count) → HasCompleted log start options script steps places position upload count
  completed-job position upload count of =
      record { number = of.number; job = of.job; found = of.stands; place = of.place; calls = of.calls; is = end.sound.accounted.jobs.whole of.number of.job upload count of.stands of.calls }

  pub completed-behind : (position upload count : ℕ) → (has : HasCompleted log start options script steps places position upload count) → has.is.created.position < position
  completed-behind position upload count has =
      let all = end.sound.accounted.jobs in
      let of = all.uploads has.number has.job upload has.found (ap upload_in has.calls) in
      let same = created-once log end.legal has.is.created.position of.created.position upload has.is.key of.key has.is.created.creates of.created.creates in
      let less = of.behind.done position has.place in
      omega (arith, same, less)

  pub completed-parts : (position upload count : ℕ) → (has : HasCompleted log start options script steps places position upload count) → HasParts log upload has.is.created.position position has.is.parts
  completed-parts position upload count has = record {
    each = λ index bytes listed.
        let stored = has.is.each index bytes listed in
        record { position = stored.position; behind = stored.behind_first; before = stored.before_last.done position has.place; logged = stored.entry.logged; stands = stored.entry.stands; calls = stored.entry.call; answered = stored.entry.brief };
    only = λ at which bytes behind before entry.
        let of = our at (call.Part upload which bytes) behind refl entry in
        has.is.only of.number of.job upload which bytes of.stands (owned of.number of.job of.stands (ap upload_in of.calls)) of.calls;
    no_complete = λ at some behind before entry.
        let of = our at (call.Complete upload some) behind refl entry in
        let same = one-complete has.is.opened has.number of.number jobs has.job of.job upload upload count some (end.sound.alive.writers.once has.is.opened).completes has.found of.stands has.is.owned (owned of.number of.job of.stands (ap upload_in of.calls)) has.calls of.calls in
        let place_is = all.one_place has.number position at has.place (subst (λ (k : ℕ). StandsAt k at places) (sym same) of.place) in
        absurd (omega (arith, place_is, before));
    no_abort = λ at behind before entry.
        let of = our at (call.Abort upload) behind refl entry in
        let late = all.aborts of.number of.job has.number has.job has.is.opened upload upload count of.stands (owned of.number of.job of.stands (ap upload_in of.calls)) of.calls has.found has.is.owned has.calls in
        let less = (late.1 position has.place).done at of.place in
        absurd (omega (arith, less, before));
  }
    where
      jobs : List Job
      jobs = (state_after options script steps).jobs

      all : AreAccounted log start (HasStood options script steps) (taken_in options script steps) places (state_after options script steps).jobs
      all = end.sound.accounted.jobs

      -- the upload was given to a job, so that each call that names it is a job's
      given : WasGiven log (state_after options script steps).positions upload
      given =
          let created = has.is.created in
          record {
            position = created.position;
            own = end.sound.accounted.seen created.number created.position created.place;
            logged = created.told.logged;
            stands = created.told.stands;
            gives = created.told.brief;
          }

      our : (at : ℕ) (called : Call) → has.is.created.position < at → upload_in called ≡ Some upload → HasCall log at called → IsOfJob places (state_after options script steps).jobs at called
      our at called behind names entry =
          let created = all.answered has.is.created.number has.is.created.position has.is.created.place in
          let late = created.late in
          let among = end.uploads at entry.logged upload (omega (arith, late, behind)) entry.stands (ap upload_in entry.calls ∙ names) given in
          our-job log start (HasStood options script steps) (taken_in options script steps) places (state_after options script steps) at called end.sound.accounted among entry

      owned : (number : ℕ) (job : Job) → job_at number (state_after options script steps).jobs ≡ Some job → upload_in job.call ≡ Some upload → job.owner ≡ owner.Writer has.is.opened
      owned number job stands names =
          let of = all.uploads number job upload stands names in
          of.owned ∙ ap owner.Writer (one-writer log start (HasStood options script steps) (taken_in options script steps) places (state_after options script steps).jobs of.opened has.is.opened upload of.key has.is.key end.legal all of.created has.is.created)

  -- so that it makes the object of them
  pub completed-makes : (position upload count : ℕ) (logged : Logged) → (has : HasCompleted log start options script steps places position upload count) → slice_get log position ≡ Some logged → logged.entry.call ≡ call.Complete upload count → version_made (replay (take position log)) logged ≡ version_named logged.made (whole_from has.is.key has.is.parts)
  completed-makes position upload count logged has stands calls =
      version_is log upload has.is.created.position position has.is.key has.is.parts logged end.legal has.is.created.creates (completed-parts position upload count has) (completed-behind position upload count has) stands (calls ∙ ap (call.Complete upload) has.is.count_is)

  -- each object of an upload of the run is whole
  pub whole-objects : (position : ℕ) (key bytes : List ℕ) → is_among position (state_after options script steps).positions ≡ true → IsMadeAt log position key bytes → IsOfWriter options script steps key bytes
  whole-objects position key bytes among made =
      let called = completion-is made.logged.entry.call made.completes in
      let upload : ℕ = called.0 in
      let count : ℕ = called.1 in
      let entry : HasCall log position (call.Complete upload count) = record { logged = made.logged; stands = made.stands; calls = called.2 } in
      let of = our-job log start (HasStood options script steps) (taken_in options script steps) places (state_after options script steps) position (call.Complete upload count) end.sound.accounted among entry in
      let has = completed-job position upload count of in
      let makes = completed-makes position upload count made.logged has made.stands called.2 in
      let same = named-is made.logged.made (whole_from has.is.key has.is.parts) (record { key = key; etag = made.etag; bytes = bytes }) (sym makes ∙ made.makes) in
      record {
        opened = has.is.opened;
        stood = subst (λ (k : List ℕ). HasStood options script steps has.is.opened k) (sym same.0) has.is.stands;
        of_bytes = sym has.is.bytes ∙ sym same.1;
      }
