-- What holds of all jobs holds when jobs come into other phases, and when answers come.
use Rattle.std.proofs.Common.{◌≡◌, ℕ, ◌+◌, ◌≤◌, List, map, Some, sym, ap, ◌∙◌, subst}
use Rattle.bucket_model.specs.Answers.{upload_in}
use Rattle.bucket_model.specs.declared.history.Logged.{Logged}
use Rattle.mount_model.specs.State.{Job, Out, Gone, job_at}
use Rattle.write_laws.specs.Accounted.{Place, StandsAt, IsBehind, IsAnswered, HasCreated, IsOfUpload, IsStoredBefore, IsWholeJob, AreAccounted}
use Rattle.write_laws.proofs.Found.{Moves, found-moved, moved-found}

-- more answers, and jobs in other phases
pub record Advances (log : List Logged) (start : ℕ) (places now : List Place) (jobs : List Job) (f : Job → Job) : Type 0 where
  pub grows : (number position : ℕ) → StandsAt number position places → StandsAt number position now
  pub answered : (number position : ℕ) → StandsAt number position now → IsAnswered log start number position (map f jobs)
  pub one_place : (number position other : ℕ) → StandsAt number position now → StandsAt number other now → position ≡ other
  pub one_job : (number other position : ℕ) → StandsAt number position now → StandsAt other position now → number ≡ other
  pub out : (number : ℕ) (job : Job) (from : ℕ) → job_at number jobs ≡ Some job → (f job).phase ≡ Out from → start ≤ from
  pub behind : (position other number : ℕ) (job : Job) → StandsAt other position places → job_at number jobs ≡ Some job → IsBehind places position number job.phase → IsBehind now position number (f job).phase
  pub gone : (number : ℕ) (job : Job) → job_at number jobs ≡ Some job → job.phase ≡ Gone → ((f job).phase ≡ Gone) × ((position : ℕ) → StandsAt number position now → StandsAt number position places)

pub owner-moved : (f : Job → Job) → Moves f → (job : Job) → (f job).owner ≡ job.owner
owner-moved f moves job = ap (λ (j : Job). j.owner) (moves job)

pub call-moved : (f : Job → Job) → Moves f → (job : Job) → (f job).call ≡ job.call
call-moved f moves job = ap (λ (j : Job). j.call) (moves job)

module _ (log : List Logged) (start : ℕ) (stood : ℕ → List ℕ → Type 0) (taken : ℕ → List ℕ) (places now : List Place) (jobs : List Job) (f : Job → Job) (moves : Moves f) (goes : Advances log start places now jobs f) where
  created-moved : (opened upload : ℕ) (key : List ℕ) → HasCreated log places jobs opened upload key → HasCreated log now (map f jobs) opened upload key
  created-moved opened upload key has = record {
    number = has.number;
    job = f has.job;
    stands = found-moved f moves has.number jobs has.job has.stands;
    owned = owner-moved f moves has.job ∙ has.owned;
    position = has.position;
    place = goes.grows has.number has.position has.place;
    creates = has.creates;
    told = has.told;
  }

  stored-moved : (upload first number : ℕ) (bytes : List ℕ) (last : ℕ) (job : Job) → job_at last jobs ≡ Some job → IsStoredBefore log places upload first number bytes last job.phase → IsStoredBefore log now upload first number bytes last (f job).phase
  stored-moved upload first number bytes last job stands is = record {
    other = is.other;
    position = is.position;
    place = goes.grows is.other is.position is.place;
    behind_first = is.behind_first;
    entry = is.entry;
    before_last = goes.behind is.position is.other last job is.place stands is.before_last;
  }

  upload-moved : (upload number : ℕ) (job : Job) → job_at number jobs ≡ Some job → IsOfUpload log places jobs upload number job → IsOfUpload log now (map f jobs) upload number (f job)
  unfolding created-moved
  upload-moved upload number job stands is = record {
    opened = is.opened;
    owned = owner-moved f moves job ∙ is.owned;
    key = is.key;
    created = created-moved is.opened upload is.key is.created;
    behind = goes.behind is.created.position is.created.number number job is.created.place stands is.behind;
  }

  whole-moved : (upload count number : ℕ) (job : Job) → job_at number jobs ≡ Some job → IsWholeJob log stood taken places jobs upload count number job → IsWholeJob log stood taken now (map f jobs) upload count number (f job)
  unfolding created-moved
  whole-moved upload count number job stands is = record {
    opened = is.opened;
    owned = owner-moved f moves job ∙ is.owned;
    key = is.key;
    stands = is.stands;
    created = created-moved is.opened upload is.key is.created;
    parts = is.parts;
    bytes = is.bytes;
    count_is = is.count_is;
    each = λ index some is_part. stored-moved upload is.created.position (index + 1) some number job stands (is.each index some is_part);
    only = λ at later named which some found owned calls.
        let before = moved-found f moves at jobs later found in
        is.only at before.0 named which some before.1 (sym (owner-moved f moves before.0) ∙ ap (λ (j : Job). j.owner) (sym before.2) ∙ owned) (sym (call-moved f moves before.0) ∙ ap (λ (j : Job). j.call) (sym before.2) ∙ calls);
  }

  pub all-moved : AreAccounted log start stood taken places jobs → AreAccounted log start stood taken now (map f jobs)
  all-moved all = record {
    answered = goes.answered;
    one_place = goes.one_place;
    one_job = goes.one_job;
    out = λ number later from found is.
        let before = moved-found f moves number jobs later found in
        goes.out number before.0 from before.1 (ap (λ (j : Job). j.phase) (sym before.2) ∙ is);
    uploads = λ number later upload found names.
        let before = moved-found f moves number jobs later found in
        subst (IsOfUpload log now (map f jobs) upload number) (sym before.2)
        (upload-moved upload number before.0 before.1 (all.uploads number before.0 upload before.1 (ap upload_in (sym (call-moved f moves before.0)) ∙ ap (λ (j : Job). upload_in j.call) (sym before.2) ∙ names)));
    whole = λ number later upload count found calls.
        let before = moved-found f moves number jobs later found in
        subst (IsWholeJob log stood taken now (map f jobs) upload count number) (sym before.2)
        (whole-moved upload count number before.0 before.1 (all.whole number before.0 upload count before.1 (sym (call-moved f moves before.0) ∙ ap (λ (j : Job). j.call) (sym before.2) ∙ calls)));
    aborts = λ number later at other opened upload named count found owned calls there theirs completes.
        let before = moved-found f moves number jobs later found in
        let first = moved-found f moves at jobs other there in
        let old = all.aborts number before.0 at first.0 opened upload named count before.1
        (sym (owner-moved f moves before.0) ∙ ap (λ (j : Job). j.owner) (sym before.2) ∙ owned)
        (sym (call-moved f moves before.0) ∙ ap (λ (j : Job). j.call) (sym before.2) ∙ calls)
        first.1
        (sym (owner-moved f moves first.0) ∙ ap (λ (j : Job). j.owner) (sym first.2) ∙ theirs)
        (sym (call-moved f moves first.0) ∙ ap (λ (j : Job). j.call) (sym first.2) ∙ completes) in
        let stays = goes.gone at first.0 first.1 old.0 in (
          ap (λ (j : Job). j.phase) first.2 ∙ stays.0,
          λ position place. subst (λ (j : Job). IsBehind now position number j.phase) (sym before.2) (goes.behind position at number before.0 (stays.1 position place) before.1 (old.1 position (stays.1 position place))),
        );
  }
