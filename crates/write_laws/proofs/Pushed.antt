-- What holds of all jobs holds with one more, where that fits.
use Rattle.std.proofs.Common.{◌≡◌, ◌≢◌, ℕ, List, [], ◌∷◌, ◌++◌, Some, None, inl, inr, sym, ap, ◌∙◌, subst}
use Rattle.bucket_model.specs.Answers.{upload_in}
use Rattle.bucket_model.specs.declared.call.Call.TheVariants as call
use Rattle.bucket_model.specs.declared.history.Logged.{Logged}
use Rattle.mount_model.specs.declared.event.Owner.TheVariants as owner
use Rattle.mount_model.specs.State.{Job, Out, Gone, job_at}
use Rattle.write_laws.specs.Accounted.{Place, IsBehind, HasCreated, IsOfUpload, IsWholeJob, AreAccounted}
use Rattle.write_laws.proofs.Found.{found-front, new-found}

-- It fits what is there: its upload was created by its writer, no part is asked for behind the object, and an abort not
-- before the answer to that.
pub record Joins (log : List Logged) (stood : ℕ → List ℕ → Type 0) (taken : ℕ → List ℕ) (places : List Place) (jobs : List Job) (new : Job) : Type 0 where
  pub unknown : job_at new.number jobs ≡ None
  pub waits : (from : ℕ) → new.phase ≢ Out from
  pub uploads : (upload : ℕ) → upload_in new.call ≡ Some upload → (opened : ℕ) × (key : List ℕ) × (new.owner ≡ owner.Writer opened) × HasCreated log places jobs opened upload key
  pub whole : (upload count : ℕ) → new.call ≡ call.Complete upload count → IsWholeJob log stood taken places jobs upload count new.number new
  pub part : (named which : ℕ) (some : List ℕ) → new.call ≡ call.Part named which some → (at : ℕ) (other : Job) (opened upload count : ℕ) → job_at at jobs ≡ Some other → other.call ≡ call.Complete upload count → other.owner ≡ owner.Writer opened → new.owner ≡ owner.Writer opened → ⊥
  pub abort : (upload : ℕ) → new.call ≡ call.Abort upload → (at : ℕ) (other : Job) (opened named count : ℕ) → job_at at jobs ≡ Some other → other.owner ≡ owner.Writer opened → new.owner ≡ owner.Writer opened → other.call ≡ call.Complete named count → other.phase ≡ Gone
  pub complete : (upload count : ℕ) → new.call ≡ call.Complete upload count → (at : ℕ) (other : Job) (opened named : ℕ) → job_at at jobs ≡ Some other → other.owner ≡ owner.Writer opened → new.owner ≡ owner.Writer opened → other.call ≡ call.Abort named → ⊥

pub created-pushed : (log : List Logged) (places : List Place) (jobs more : List Job) (opened upload : ℕ) (key : List ℕ) → HasCreated log places jobs opened upload key → HasCreated log places (jobs ++ more) opened upload key
created-pushed log places jobs more opened upload key has = record {
  number = has.number;
  job = has.job;
  stands = found-front has.number jobs more has.job has.stands;
  owned = has.owned;
  position = has.position;
  place = has.place;
  creates = has.creates;
  told = has.told;
}

upload-pushed : (log : List Logged) (places : List Place) (jobs more : List Job) (upload number : ℕ) (job : Job) → IsOfUpload log places jobs upload number job → IsOfUpload log places (jobs ++ more) upload number job
unfolding created-pushed
upload-pushed log places jobs more upload number job is = record { opened = is.opened; owned = is.owned; key = is.key; created = created-pushed log places jobs more is.opened upload is.key is.created; behind = is.behind }

module _ (log : List Logged) (start : ℕ) (stood : ℕ → List ℕ → Type 0) (taken : ℕ → List ℕ) (places : List Place) (jobs : List Job) (new : Job) (joins : Joins log stood taken places jobs new) where
  -- the new one is no part of this one's writer
  whole-pushed : (upload count number : ℕ) (job : Job) → (is : IsWholeJob log stood taken places jobs upload count number job) → ((named which : ℕ) (some : List ℕ) → new.call ≡ call.Part named which some → new.owner ≡ owner.Writer is.opened → ⊥) → IsWholeJob log stood taken places (jobs ++ new ∷ []) upload count number job
  unfolding created-pushed
  whole-pushed upload count number job is other = record {
    opened = is.opened;
    owned = is.owned;
    key = is.key;
    stands = is.stands;
    created = created-pushed log places jobs (new ∷ []) is.opened upload is.key is.created;
    parts = is.parts;
    bytes = is.bytes;
    count_is = is.count_is;
    each = is.each;
    only = λ at later named which some found owned calls. elim (new-found at jobs new later found) [
      | inl old ↦ is.only at later named which some old owned calls
      | inr last ↦ absurd (other named which some (ap (λ (j : Job). j.call) (sym last.1) ∙ calls) (ap (λ (j : Job). j.owner) (sym last.1) ∙ owned))
    ];
  }

  -- a new job has no answer, and isn't out
  new-behind : (position : ℕ) → AreAccounted log start stood taken places jobs → IsBehind places position new.number new.phase
  new-behind position all = record {
    out = λ from is. absurd (joins.waits from is);
    done = λ place stands. absurd (let answered = all.answered new.number place stands in let both : None ≡ Some answered.job = sym joins.unknown ∙ answered.stands in cc);
  }

  pub all-pushed : AreAccounted log start stood taken places jobs → AreAccounted log start stood taken places (jobs ++ new ∷ [])
  unfolding created-pushed
  all-pushed all = record {
    answered = λ number position stands.
        let is = all.answered number position stands in
        record { job = is.job; stands = found-front number jobs (new ∷ []) is.job is.stands; gone = is.gone; late = is.late; logged = is.logged; entry = is.entry; calls = is.calls };
    one_place = all.one_place;
    one_job = all.one_job;
    out = λ number job from found is. elim (new-found number jobs new job found) [
      | inl old ↦ all.out number job from old is
      | inr last ↦ absurd (joins.waits from (ap (λ (j : Job). j.phase) (sym last.1) ∙ is))
    ];
    uploads = λ number job upload found names. elim (new-found number jobs new job found) [
      | inl old ↦ upload-pushed log places jobs (new ∷ []) upload number job (all.uploads number job upload old names)
      | inr last ↦ subst (IsOfUpload log places (jobs ++ new ∷ []) upload number) (sym last.1) (subst (λ (k : ℕ). IsOfUpload log places (jobs ++ new ∷ []) upload k new) (sym last.0) (new_upload upload (ap (λ (j : Job). upload_in j.call) (sym last.1) ∙ names)))
    ];
    whole = λ number job upload count found calls. elim (new-found number jobs new job found) [
      | inl old ↦ old_whole number job upload count old calls
      | inr last ↦ subst (IsWholeJob log stood taken places (jobs ++ new ∷ []) upload count number) (sym last.1) (subst (λ (k : ℕ). IsWholeJob log stood taken places (jobs ++ new ∷ []) upload count k new) (sym last.0) (new_whole upload count (ap (λ (j : Job). j.call) (sym last.1) ∙ calls)))
    ];
    aborts = λ number job at other opened upload named count found owned calls there theirs completes. elim (new-found number jobs new job found) [
      | inl old ↦ elim (new-found at jobs new other there) [
        | inl first ↦ all.aborts number job at other opened upload named count old owned calls first theirs completes
        | inr last ↦ absurd (joins.complete named count (ap (λ (j : Job). j.call) (sym last.1) ∙ completes) number job opened upload old owned (ap (λ (j : Job). j.owner) (sym last.1) ∙ theirs) calls)
      ]
      | inr last ↦ elim (new-found at jobs new other there) [
        | inl first ↦ (
          joins.abort upload (ap (λ (j : Job). j.call) (sym last.1) ∙ calls) at other opened named count first theirs (ap (λ (j : Job). j.owner) (sym last.1) ∙ owned) completes,
          λ position place. subst (λ (j : Job). IsBehind places position number j.phase) (sym last.1) (subst (λ (k : ℕ). IsBehind places position k new.phase) (sym last.0) (new-behind position all)),
        )
        | inr both ↦ absurd (let one : new.call ≡ call.Abort upload = ap (λ (j : Job). j.call) (sym last.1) ∙ calls in let two : new.call ≡ call.Complete named count = ap (λ (j : Job). j.call) (sym both.1) ∙ completes in cc)
      ]
    ];
  }
    where
      new_upload : (upload : ℕ) → upload_in new.call ≡ Some upload → IsOfUpload log places (jobs ++ new ∷ []) upload new.number new
      new_upload upload names =
          let has = joins.uploads upload names in
          record { opened = has.0; owned = has.2; key = has.1; created = created-pushed log places jobs (new ∷ []) has.0 upload has.1 has.3; behind = new-behind has.3.position all }

      old_whole : (number : ℕ) (job : Job) (upload count : ℕ) → job_at number jobs ≡ Some job → job.call ≡ call.Complete upload count → IsWholeJob log stood taken places (jobs ++ new ∷ []) upload count number job
      old_whole number job upload count old calls =
          let is = all.whole number job upload count old calls in
          whole-pushed upload count number job is (λ named which some part theirs. joins.part named which some part number job is.opened upload count old calls is.owned theirs)

      new_whole : (upload count : ℕ) → new.call ≡ call.Complete upload count → IsWholeJob log stood taken places (jobs ++ new ∷ []) upload count new.number new
      new_whole upload count calls = whole-pushed upload count new.number new (joins.whole upload count calls) (λ named which some part theirs. let clash : call.Complete upload count ≡ call.Part named which some = sym calls ∙ part in cc)
