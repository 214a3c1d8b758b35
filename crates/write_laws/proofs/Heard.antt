-- What holds of a writer's upload and its jobs when the writer hears an answer.
use Rattle.std.proofs.Common.{◌≡◌, ◌≢◌, ℕ, ◌+◌, ◌<◌, ◌≤◌, List, Bool, true, false, Some, inl, inr, refl, sym, ap, ◌∙◌, subst, arith}
use Rattle.std.proofs.lemmas.Bool.{cases_eq}
use Rattle.mp_types.specs.declared.errno.Errno.{Errno}
use Rattle.bucket_model.specs.declared.call.Call.{Call}
use Rattle.bucket_model.specs.declared.call.Call.TheVariants as call
use Rattle.bucket_model.specs.declared.answer.Brief.{Brief}
use Rattle.bucket_model.specs.declared.answer.Brief.TheVariants as answer
use Rattle.bucket_model.specs.declared.history.Logged.{Logged}
use Rattle.bucket_model.specs.Answers.{is_counted, upload_in}
use Rattle.bucket_model.specs.History.{HasEntry}
use Rattle.upload_rules.specs.declared.upload.UpState.{UpState}
use Rattle.upload_rules.specs.declared.upload.UpState.TheVariants.{Open, Finished, Done, Failed}
use Rattle.upload_rules.specs.declared.upload.Created.{Created}
use Rattle.upload_rules.specs.declared.upload.Created.TheVariants.{GivenUp}
use Rattle.upload_rules.specs.Upload.{Upload, with_failure, with_id, with_stored, completed, given_up}
use Rattle.upload_rules.proofs.Due.{upload}
use Rattle.mount_model.specs.declared.event.Owner.TheVariants as owner
use Rattle.mount_model.specs.Conversation.{errno_of}
use Rattle.mount_model.specs.Writers.{has_failed, hears_answer}
use Rattle.mount_model.specs.State.{Job, Out, Gone, job_at, change_job}
use Rattle.run_laws.specs.Counts.{any_call, is_create, is_complete, if_writer, made_job, calls_made, calls_out}
use Rattle.run_laws.specs.Uploads.{Tally, IsGoing, IsSpent, IsBroken, IsTallied}
use Rattle.run_laws.specs.Writers.{tally}
use Rattle.run_laws.proofs.Keyed.{total-two}
use Rattle.run_laws.proofs.Jobs.{job_number, out-one, if_writer-own}
use Rattle.upload_history.specs.Entries.{IsCreatedAt}
use Rattle.write_laws.specs.Accounted.{Place, StandsAt, HasCreated, HasPart, AreOfWriter, IsFilled}
use Rattle.write_laws.proofs.Found.{found-number, Moves, found-moved, to_phase, moves-phase, phase-other}
use Rattle.write_laws.proofs.Filled.{Follows, Grows, follows-moved, created-follows, of-writer-follows, made-follows, same-found, failed_in}

-- an answer to a job of this writer, which is out
pub record IsAnswerTo (log : List Logged) (places now : List Place) (jobs : List Job) (opened : ℕ) (u : Upload) (number : ℕ) (job : Job) (position : ℕ) (said : Brief) : Type 0 where
  pub stands : job_at number jobs ≡ Some job
  pub owned : job.owner ≡ owner.Writer opened
  pub from : ℕ
  pub is_out : job.phase ≡ Out from
  pub grows : Grows places now
  pub place : is_counted said ≡ true → StandsAt number position now
  pub entry : is_counted said ≡ true → HasEntry log position job.call said
  pub tells : (named : ℕ) (other : List ℕ) → job.call ≡ call.Create other → said ≡ answer.Upload named → IsCreatedAt log position named other
  pub gives : (named : ℕ) (other : List ℕ) → job.call ≡ call.Create other → said ≡ answer.Upload named → HasEntry log position (call.Create other) (answer.Upload named)
  pub tallied : IsTallied u (tally opened jobs)
  pub pending : u.pending ≡ calls_out any_call opened jobs
  pub creates_once : calls_made is_create opened jobs ≤ 1
  -- the jobs that created an upload are gone, and so not this one
  pub creators : (named : ℕ) (other : List ℕ) → (has : HasCreated log places jobs opened named other) → (has.job.call ≡ call.Create other) × (has.job.phase ≡ Gone)
  pub uploads : (at : ℕ) (some : Job) (named : ℕ) → job_at at jobs ≡ Some some → some.owner ≡ owner.Writer opened → upload_in some.call ≡ Some named → (other : List ℕ) × HasCreated log places jobs opened named other

-- a failure before the object is made is one
fails-at : (errno : Errno) (part : ℕ) (state : UpState) (created : Created) (asked sent stored : ℕ) (rest : List ℕ) (pending : ℕ) (closing : Bool) (t : Tally) → 0 < pending → IsTallied (upload part state created asked sent stored rest pending closing) t → has_failed (with_failure errno (upload part state created asked sent stored rest pending closing)) ≡ true
fails-at errno part Open created asked sent stored rest pending closing t some tallied = refl
fails-at errno part Finished created asked sent stored rest pending closing t some tallied = refl
fails-at errno part Done created asked sent stored rest pending closing t some tallied = let spent : IsSpent (upload part Done created asked sent stored rest pending closing) t = tallied.by_state in absurd (omega arith)
fails-at errno part (Failed first) created asked sent stored rest pending closing t some tallied = refl

pub failure-failed : (errno : Errno) (u : Upload) (t : Tally) → 0 < u.pending → IsTallied u t → has_failed (with_failure errno u) ≡ true
failure-failed errno u t some tallied = fails-at errno u.part u.state u.created u.asked u.sent u.stored u.rest u.pending u.closing t some tallied

-- where the object is asked for and the answer isn't there, the writer hasn't failed
alive-at : (part : ℕ) (state : UpState) (created : Created) (asked sent stored : ℕ) (rest : List ℕ) (pending : ℕ) (closing : Bool) (t : Tally) → 1 ≤ t.completes_out → IsTallied (upload part state created asked sent stored rest pending closing) t → (has_failed (upload part state created asked sent stored rest pending closing) ≡ false) × (created ≢ GivenUp)
alive-at part Open created asked sent stored rest pending closing t some tallied = let going : IsGoing (upload part Open created asked sent stored rest pending closing) t = tallied.by_state.0 in (refl, going.kept)
alive-at part Finished created asked sent stored rest pending closing t some tallied = let going : IsGoing (upload part Finished created asked sent stored rest pending closing) t = tallied.by_state.0 in (refl, going.kept)
alive-at part Done created asked sent stored rest pending closing t some tallied = let spent : IsSpent (upload part Done created asked sent stored rest pending closing) t = tallied.by_state in absurd (let sum = tallied.pending in omega arith)
alive-at part (Failed first) created asked sent stored rest pending closing t some tallied = let broken : IsBroken (upload part (Failed first) created asked sent stored rest pending closing) t = tallied.by_state in absurd (omega arith)

completing-alive : (u : Upload) (t : Tally) → 1 ≤ t.completes_out → IsTallied u t → (has_failed u ≡ false) × (u.created ≢ GivenUp)
completing-alive u t some tallied = alive-at u.part u.state u.created u.asked u.sent u.stored u.rest u.pending u.closing t some tallied

-- a state with failure isn't done
failed-undone : (u : Upload) → has_failed u ≡ true → u.state ≢ Done
failed-undone u failed done = absurd (let alive : has_failed u ≡ false = ap failed_in done in cc)

-- a writer asks for its upload once
pub one-create : (opened n m : ℕ) (jobs : List Job) (first second : Job) (one other : List ℕ) → calls_made is_create opened jobs ≤ 1 → job_at n jobs ≡ Some first → job_at m jobs ≡ Some second → first.owner ≡ owner.Writer opened → second.owner ≡ owner.Writer opened → first.call ≡ call.Create one → second.call ≡ call.Create other → n ≡ m
one-create opened n m jobs first second one other once stands there owned theirs calls creates = elim (cases_eq n m) [
  | inl same ↦ same
  | inr apart ↦ absurd (let two = total-two job_number (made_job is_create opened) n m jobs first second apart stands there in
      let a : made_job is_create opened first ≡ 1 = ap (λ o. if_writer opened o (is_create first.call)) owned ∙ if_writer-own opened (is_create first.call) ∙ ap is_create calls in
      let b : made_job is_create opened second ≡ 1 = ap (λ o. if_writer opened o (is_create second.call)) theirs ∙ if_writer-own opened (is_create second.call) ∙ ap is_create creates in
      omega arith)
]

-- the jobs then
abbrev behind_of : ℕ → List Job → List Job
behind_of number jobs = change_job number Gone jobs

hears-follows : (opened number : ℕ) (jobs : List Job) → Follows opened jobs (behind_of number jobs)
hears-follows opened number jobs = follows-moved opened jobs (to_phase number Gone) (moves-phase number Gone)

-- a part whose job isn't this one stays, and one whose job it is is stored
part-heard : (log : List Logged) (places now : List Place) (jobs : List Job) (opened number which : ℕ) (bytes : List ℕ) (job : Job) → job_at number jobs ≡ Some job → Grows places now → ((named : ℕ) → job.call ≡ call.Part named which bytes → (position : ℕ) × StandsAt number position now × HasEntry log position (call.Part named which bytes) answer.Stored) → HasPart log places jobs opened which bytes → HasPart log now (behind_of number jobs) opened which bytes
part-heard log places now jobs opened number which bytes job stands grows stored has = elim (cases_eq has.at number) [
  | inl same ↦ (let is : has.job ≡ job = same-found jobs number has.job job (ap (λ (k : ℕ). job_at k jobs) (sym same) ∙ has.stands) stands in
      let has_stored = stored has.upload (ap (λ (j : Job). j.call) (sym is) ∙ has.calls) in
      record {
        at = has.at;
        job = f has.job;
        stands = found-moved f moves has.at jobs has.job has.stands;
        owned = ap (λ (j : Job). j.owner) (moves has.job) ∙ has.owned;
        upload = has.upload;
        calls = ap (λ (j : Job). j.call) (moves has.job) ∙ has.calls;
        stored = λ gone. (has_stored.0, subst (λ (k : ℕ). StandsAt k has_stored.0 now) (sym same) has_stored.1, has_stored.2);
      })
  | inr apart ↦ (let stays : f has.job ≡ has.job = phase-other number Gone has.job (λ e. apart (sym (found-number has.at jobs has.job has.stands) ∙ e)) in
      record {
        at = has.at;
        job = has.job;
        stands = found-moved f moves has.at jobs has.job has.stands ∙ ap (λ (j : Job). Some j) stays;
        owned = has.owned;
        upload = has.upload;
        calls = has.calls;
        stored = λ gone. let old = has.stored gone in (old.0, grows has.at old.0 old.1, old.2);
      })
]
  where
    f : Job → Job
    f = to_phase number Gone

    moves : Moves (to_phase number Gone)
    moves = moves-phase number Gone

module _ (log : List Logged) (places now : List Place) (jobs : List Job) (opened : ℕ) (key taken : List ℕ) (u : Upload) (number : ℕ) (job : Job) where
  -- the ways to hear

  failed-heard : (position : ℕ) (said : Brief) (errno : Errno) → IsAnswerTo log places now jobs opened u number job position said → IsFilled log places jobs opened key taken u → IsFilled log now (behind_of number jobs) opened key taken (with_failure errno u)
  failed-heard position said errno a is =
      let out = a.is_out in
      let one = out-one any_call number opened jobs job a.stands a.owned (λ gone. absurd (cc)) in
      let pending = a.pending in
      let failed = failure-failed errno u (tally opened jobs) (omega arith) a.tallied in
      let same = fails-same errno u in
      record {
        parts = is.parts;
        count = is.count ∙ sym same.0;
        bytes = λ alive. absurd (cc);
        jobs_are = subst (AreOfWriter log now (behind_of number jobs) opened key is.parts) (sym same.1) (of-writer-follows log places now jobs (behind_of number jobs) opened key is.parts u.created (hears-follows opened number jobs) a.grows is.jobs_are);
        found = λ alive. absurd (cc);
        made = λ done. absurd (failed-undone (with_failure errno u) failed done);
      }
    where
      fails-same : (errno : Errno) (u : Upload) → ((with_failure errno u).asked ≡ u.asked) × ((with_failure errno u).created ≡ u.created)
      fails-same errno u = by u.part u.state u.created u.asked u.sent u.stored u.rest u.pending u.closing
        where
          by : (part : ℕ) (state : UpState) (created : Created) (asked sent stored : ℕ) (rest : List ℕ) (pending : ℕ) (closing : Bool) → ((with_failure errno (upload part state created asked sent stored rest pending closing)).asked ≡ asked) × ((with_failure errno (upload part state created asked sent stored rest pending closing)).created ≡ created)
          by part Open created asked sent stored rest pending closing = (refl, refl)
          by part Finished created asked sent stored rest pending closing = (refl, refl)
          by part Done created asked sent stored rest pending closing = (refl, refl)
          by part (Failed first) created asked sent stored rest pending closing = (refl, refl)

  created-heard : (position named : ℕ) (other : List ℕ) → job.call ≡ call.Create other → IsAnswerTo log places now jobs opened u number job position (answer.Upload named) → IsFilled log places jobs opened key taken u → IsFilled log now (behind_of number jobs) opened key taken (with_id named u)
  created-heard position named other calls a is =
      let keyed : other ≡ key = is.jobs_are.keys number job other a.stands a.owned calls in
      record {
        parts = is.parts;
        count = is.count;
        bytes = is.bytes;
        jobs_are = record {
          numbered = old.numbered;
          known = λ upload same. let e : named ≡ upload = cc in subst (λ (k : ℕ). HasCreated log now behind opened k key) e (record {
            number = number;
            job = f job;
            stands = found-moved f moves number jobs job a.stands;
            owned = ap (λ (j : Job). j.owner) (moves job) ∙ a.owned;
            position = position;
            place = a.place refl;
            creates = subst (IsCreatedAt log position named) keyed (a.tells named other calls refl);
            told = subst (λ (k : List ℕ). HasEntry log position (call.Create k) (answer.Upload named)) keyed (a.gives named other calls refl);
          });
          named = λ at later upload stands owned names. absurd (unnamed at later upload stands owned names);
          keys = old.keys;
        };
        found = λ alive index some listed. part-heard log places now jobs opened number (index + 1) some job a.stands a.grows (λ upload part. absurd (let clash : call.Create other ≡ call.Part upload (index + 1) some = sym calls ∙ part in cc)) (is.found alive index some listed);
        made = λ done. made-follows log places now jobs behind opened key (hears-follows opened number jobs) a.grows (is.made done);
      }
    where
      f : Job → Job
      f = to_phase number Gone

      moves : Moves (to_phase number Gone)
      moves = moves-phase number Gone

      behind : List Job
      behind = behind_of number jobs

      old : AreOfWriter log now (behind_of number jobs) opened key is.parts u.created
      old = of-writer-follows log places now jobs (behind_of number jobs) opened key is.parts u.created (hears-follows opened number jobs) a.grows is.jobs_are

      -- before the first answer no job names an upload
      unnamed : (at : ℕ) (later : Job) (upload : ℕ) → job_at at (behind_of number jobs) ≡ Some later → later.owner ≡ owner.Writer opened → upload_in later.call ≡ Some upload → ⊥
      unnamed at later upload stands owned names =
          let before = (hears-follows opened number jobs).back at later stands owned in
          let has = a.uploads at before.job upload before.stands (before.owner_is ∙ owned) (ap upload_in before.call_is ∙ names) in
          let creator = a.creators upload has.0 has.1 in
          let same = one-create opened has.1.number number jobs has.1.job job has.0 other a.creates_once has.1.stands a.stands has.1.owned a.owned creator.0 calls in
          let is_it : has.1.job ≡ job = same-found jobs number has.1.job job (ap (λ (k : ℕ). job_at k jobs) (sym same) ∙ has.1.stands) a.stands in
          let gone : job.phase ≡ Gone = ap (λ (j : Job). j.phase) (sym is_it) ∙ creator.1 in
          let out = a.is_out in
          absurd (cc)

  stored-heard : (position named which : ℕ) (bytes : List ℕ) → job.call ≡ call.Part named which bytes → IsAnswerTo log places now jobs opened u number job position answer.Stored → IsFilled log places jobs opened key taken u → IsFilled log now (behind_of number jobs) opened key taken (with_stored u)
  stored-heard position named which bytes calls a is = record {
    parts = is.parts;
    count = is.count;
    bytes = is.bytes;
    jobs_are = of-writer-follows log places now jobs (behind_of number jobs) opened key is.parts u.created (hears-follows opened number jobs) a.grows is.jobs_are;
    found = λ alive index some listed. part-heard log places now jobs opened number (index + 1) some job a.stands a.grows (λ upload part. (position, a.place refl, subst (λ (c : Call). HasEntry log position c answer.Stored) part (a.entry refl))) (is.found alive index some listed);
    made = λ done. made-follows log places now jobs (behind_of number jobs) opened key (hears-follows opened number jobs) a.grows (is.made done);
  }

  made-heard : (position named count : ℕ) (etag : List ℕ) → job.call ≡ call.Complete named count → IsAnswerTo log places now jobs opened u number job position (answer.Made etag) → IsFilled log places jobs opened key taken u → IsFilled log now (behind_of number jobs) opened key taken (completed u)
  made-heard position named count etag calls a is =
      let f : Job → Job = to_phase number Gone in
      let moves : Moves (to_phase number Gone) = moves-phase number Gone in
      let out = a.is_out in
      let one = out-one is_complete number opened jobs job a.stands a.owned (λ gone. absurd (cc)) in
      let is_one : is_complete job.call ≡ 1 = ap is_complete calls in
      let alive = completing-alive u (tally opened jobs) (let some : 1 ≤ calls_out is_complete opened jobs = omega arith in some) a.tallied in
      record {
        parts = is.parts;
        count = is.count;
        bytes = λ still. is.bytes alive.0;
        jobs_are = of-writer-follows log places now jobs (behind_of number jobs) opened key is.parts u.created (hears-follows opened number jobs) a.grows is.jobs_are;
        found = λ still index some listed. part-heard log places now jobs opened number (index + 1) some job a.stands a.grows (λ upload part. absurd (let clash : call.Complete named count ≡ call.Part upload (index + 1) some = sym calls ∙ part in cc)) (is.found alive.0 index some listed);
        made = λ done. record {
          at = number;
          job = f job;
          stands = found-moved f moves number jobs job a.stands;
          owned = ap (λ (j : Job). j.owner) (moves job) ∙ a.owned;
          upload = named;
          count = count;
          calls = ap (λ (j : Job). j.call) (moves job) ∙ calls;
          created = created-follows log places now jobs (behind_of number jobs) opened named key (hears-follows opened number jobs) a.grows (elim (is.jobs_are.named number job named a.stands a.owned (ap upload_in calls)) [
            | inl known ↦ is.jobs_are.known named known
            | inr given ↦ absurd (alive.1 given)
          ]);
          position = position;
          place = a.place refl;
          etag = etag;
          entry = subst (λ (c : Call). HasEntry log position c (answer.Made etag)) calls (a.entry refl);
        };
      }

  given-heard : (position named : ℕ) (said : Brief) → job.call ≡ call.Abort named → IsAnswerTo log places now jobs opened u number job position said → IsFilled log places jobs opened key taken u → IsFilled log now (behind_of number jobs) opened key taken (given_up u)
  given-heard position named said calls a is =
      let old = of-writer-follows log places now jobs (behind_of number jobs) opened key is.parts u.created (hears-follows opened number jobs) a.grows is.jobs_are in
      record {
        parts = is.parts;
        count = is.count;
        bytes = is.bytes;
        jobs_are = record { numbered = old.numbered; known = λ upload same. absurd (cc); named = λ at later upload stands owned names. inr refl; keys = old.keys };
        found = λ alive index some listed. part-heard log places now jobs opened number (index + 1) some job a.stands a.grows (λ upload part. absurd (let clash : call.Abort named ≡ call.Part upload (index + 1) some = sym calls ∙ part in cc)) (is.found alive index some listed);
        made = λ done. made-follows log places now jobs (behind_of number jobs) opened key (hears-follows opened number jobs) a.grows (is.made done);
      }

  -- whatever it hears
  pub heard-filled : (position : ℕ) (called : Call) (said : Brief) → job.call ≡ called → IsAnswerTo log places now jobs opened u number job position said → IsFilled log places jobs opened key taken u → IsFilled log now (change_job number Gone jobs) opened key taken (hears_answer called said u)
  heard-filled position (call.Create other) (answer.Upload named) calls a is = created-heard position named other calls a is
  heard-filled position (call.Create other) said calls a is = failed-heard position said (errno_of said) a is
  heard-filled position (call.Part named which bytes) answer.Stored calls a is = stored-heard position named which bytes calls a is
  heard-filled position (call.Part named which bytes) said calls a is = failed-heard position said (errno_of said) a is
  heard-filled position (call.Complete named count) (answer.Made etag) calls a is = made-heard position named count etag calls a is
  heard-filled position (call.Complete named count) said calls a is = failed-heard position said (errno_of said) a is
  heard-filled position (call.Abort named) said calls a is = given-heard position named said calls a is
  heard-filled position (call.Head other) said calls a is = failed-heard position said (errno_of said) a is
  heard-filled position (call.Probe other) said calls a is = failed-heard position said (errno_of said) a is
  heard-filled position (call.List prefix after max) said calls a is = failed-heard position said (errno_of said) a is
  heard-filled position (call.Get other etag from to) said calls a is = failed-heard position said (errno_of said) a is
  heard-filled position (call.Delete other) said calls a is = failed-heard position said (errno_of said) a is
  heard-filled position (call.Put other bytes) said calls a is = failed-heard position said (errno_of said) a is
