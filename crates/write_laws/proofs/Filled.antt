-- What holds of a writer's upload and its jobs, when jobs and upload change.
use Rattle.std.proofs.Common.{◌≡◌, ◌≢◌, ℕ, zero, suc, ◌+◌, ◌-◌, List, [], ◌∷◌, ◌++◌, map, length, drop, slice_get, Bool, true, false, Some, None, ◌⊎◌, inl, inr, refl, sym, ap, ◌∙◌, subst, arith, append_assoc}
use Rattle.std.proofs.lemmas.List.{length-append}
use Rattle.mp_types.specs.declared.errno.Errno.{Errno}
use Rattle.bucket_model.specs.Answers.{upload_in}
use Rattle.bucket_model.specs.declared.call.Call.TheVariants as call
use Rattle.bucket_model.specs.declared.history.Logged.{Logged}
use Rattle.upload_rules.specs.declared.upload.UpState.{UpState}
use Rattle.upload_rules.specs.declared.upload.UpState.TheVariants.{Open, Finished, Done, Failed}
use Rattle.upload_rules.specs.declared.upload.Created.{Created}
use Rattle.upload_rules.specs.declared.upload.Created.TheVariants.{NotAsked, Asked, Known, GivenUp}
use Rattle.upload_rules.specs.declared.upload.UpAsk.TheVariants.{Create, Part}
use Rattle.upload_rules.specs.Upload.{Upload, new_upload, due, next_part, with_ask, with_bytes, with_back, with_closing, fails_with}
use Rattle.upload_rules.specs.Run.{joined, HasFailed}
use Rattle.upload_rules.proofs.Due.{due-is}
use Rattle.upload_rules.proofs.Parts.{joined-push, take-then-drop}
use Rattle.mount_model.specs.declared.event.Owner.TheVariants as owner
use Rattle.mount_model.specs.Conversation.{ended}
use Rattle.mount_model.specs.Writers.{has_failed, settled, back_times}
use Rattle.mount_model.specs.State.{Job, Gone, job_at}
use Rattle.upload_history.specs.Entries.{IsNumbered}
use Rattle.run_laws.proofs.Changes.{fails-by, ended-by, lacking-by, backs-by}
use Rattle.write_laws.specs.Accounted.{Place, StandsAt, HasCreated, HasPart, HasMade, AreOfWriter, IsFilled}
use Rattle.write_laws.proofs.Found.{found-front, new-found, found-new, Moves, found-moved, moved-found}
use Rattle.write_laws.proofs.Moved.{owner-moved, call-moved}
use Rattle.write_laws.proofs.Pushed.{created-pushed}

-- the jobs of this writer are the same, in phases of whatever kind

pub record IsSameJob (jobs : List Job) (number : ℕ) (old : Job) : Type 0 where
  pub job : Job
  pub stands : job_at number jobs ≡ Some job
  pub owner_is : job.owner ≡ old.owner
  pub call_is : job.call ≡ old.call

pub record Follows (opened : ℕ) (jobs now : List Job) : Type 0 where
  pub there : (number : ℕ) (job : Job) → job_at number jobs ≡ Some job → job.owner ≡ owner.Writer opened → IsSameJob now number job
  pub back : (number : ℕ) (later : Job) → job_at number now ≡ Some later → later.owner ≡ owner.Writer opened → IsSameJob jobs number later

-- and none is gone that was not
abbrev pub KeepsGone : ℕ → List Job → List Job → Type 0
KeepsGone opened jobs now = (number : ℕ) (job later : Job) → job_at number jobs ≡ Some job → job.owner ≡ owner.Writer opened → job_at number now ≡ Some later → later.phase ≡ Gone → job.phase ≡ Gone

abbrev pub Grows : List Place → List Place → Type 0
Grows places now = (number position : ℕ) → StandsAt number position places → StandsAt number position now

pub follows-same : (opened : ℕ) (jobs : List Job) → Follows opened jobs jobs
follows-same opened jobs = record { there = λ number job stands owned. record { job = job; stands = stands; owner_is = refl; call_is = refl }; back = λ number job stands owned. record { job = job; stands = stands; owner_is = refl; call_is = refl } }

pub same-found : (jobs : List Job) (number : ℕ) (job other : Job) → job_at number jobs ≡ Some job → job_at number jobs ≡ Some other → job ≡ other
same-found jobs number job other one two = let both : Some job ≡ Some other = sym one ∙ two in cc

pub gone-same : (opened : ℕ) (jobs : List Job) → KeepsGone opened jobs jobs
gone-same opened jobs number job later stands owned found gone = ap (λ (j : Job). j.phase) (same-found jobs number job later stands found) ∙ gone

pub follows-then : (opened : ℕ) (jobs mid now : List Job) → Follows opened jobs mid → Follows opened mid now → Follows opened jobs now
follows-then opened jobs mid now first second = record {
  there = λ number job stands owned.
      let one = first.there number job stands owned in
      let two = second.there number one.job one.stands (one.owner_is ∙ owned) in
      record { job = two.job; stands = two.stands; owner_is = two.owner_is ∙ one.owner_is; call_is = two.call_is ∙ one.call_is };
  back = λ number job stands owned.
      let two = second.back number job stands owned in
      let one = first.back number two.job two.stands (two.owner_is ∙ owned) in
      record { job = one.job; stands = one.stands; owner_is = one.owner_is ∙ two.owner_is; call_is = one.call_is ∙ two.call_is };
}

pub gone-then : (opened : ℕ) (jobs mid now : List Job) → Follows opened jobs mid → KeepsGone opened jobs mid → KeepsGone opened mid now → KeepsGone opened jobs now
gone-then opened jobs mid now follows first second number job later stands owned found gone =
    let one = follows.there number job stands owned in
    first number job one.job stands owned one.stands (second number one.job later one.stands (one.owner_is ∙ owned) found gone)

pub follows-moved : (opened : ℕ) (jobs : List Job) (f : Job → Job) → Moves f → Follows opened jobs (map f jobs)
follows-moved opened jobs f moves = record {
  there = λ number job stands owned. record { job = f job; stands = found-moved f moves number jobs job stands; owner_is = owner-moved f moves job; call_is = call-moved f moves job };
  back = λ number job stands owned.
      let before = moved-found f moves number jobs job stands in
      record { job = before.0; stands = before.1; owner_is = sym (owner-moved f moves before.0) ∙ ap (λ (j : Job). j.owner) (sym before.2); call_is = sym (call-moved f moves before.0) ∙ ap (λ (j : Job). j.call) (sym before.2) };
}

-- another's job was asked for
pub follows-other : (opened : ℕ) (jobs : List Job) (new : Job) → new.owner ≢ owner.Writer opened → Follows opened jobs (jobs ++ new ∷ [])
follows-other opened jobs new apart = record {
  there = λ number job stands owned. record { job = job; stands = found-front number jobs (new ∷ []) job stands; owner_is = refl; call_is = refl };
  back = λ number job stands owned. elim (new-found number jobs new job stands) [
    | inl old ↦ record { job = job; stands = old; owner_is = refl; call_is = refl }
    | inr last ↦ absurd (apart (ap (λ (j : Job). j.owner) (sym last.1) ∙ owned))
  ];
}

pub gone-pushed : (opened : ℕ) (jobs more : List Job) → KeepsGone opened jobs (jobs ++ more)
gone-pushed opened jobs more number job later stands owned found gone = ap (λ (j : Job). j.phase) (same-found (jobs ++ more) number job later (found-front number jobs more job stands) found) ∙ gone

-- what holds then

pub created-follows : (log : List Logged) (places now : List Place) (jobs behind : List Job) (opened named : ℕ) (key : List ℕ) → Follows opened jobs behind → Grows places now → HasCreated log places jobs opened named key → HasCreated log now behind opened named key
created-follows log places now jobs behind opened named key follows grows has =
    let there = follows.there has.number has.job has.stands has.owned in
    record { number = has.number; job = there.job; stands = there.stands; owned = there.owner_is ∙ has.owned; position = has.position; place = grows has.number has.position has.place; creates = has.creates; told = has.told }

pub of-writer-follows : (log : List Logged) (places now : List Place) (jobs behind : List Job) (opened : ℕ) (key : List ℕ) (parts : List (List ℕ)) (by : Created) → Follows opened jobs behind → Grows places now → AreOfWriter log places jobs opened key parts by → AreOfWriter log now behind opened key parts by
of-writer-follows log places now jobs behind opened key parts by follows grows are = record {
  numbered = λ at job named which some stands owned calls. let old = follows.back at job stands owned in are.numbered at old.job named which some old.stands (old.owner_is ∙ owned) (old.call_is ∙ calls);
  known = λ named is. created-follows log places now jobs behind opened named key follows grows (are.known named is);
  named = λ at job named stands owned names. let old = follows.back at job stands owned in are.named at old.job named old.stands (old.owner_is ∙ owned) (ap upload_in old.call_is ∙ names);
  keys = λ at job other stands owned calls. let old = follows.back at job stands owned in are.keys at old.job other old.stands (old.owner_is ∙ owned) (old.call_is ∙ calls);
}

pub made-follows : (log : List Logged) (places now : List Place) (jobs behind : List Job) (opened : ℕ) (key : List ℕ) → Follows opened jobs behind → Grows places now → HasMade log places jobs opened key → HasMade log now behind opened key
made-follows log places now jobs behind opened key follows grows has =
    let there = follows.there has.at has.job has.stands has.owned in
    record { at = has.at; job = there.job; stands = there.stands; owned = there.owner_is ∙ has.owned; upload = has.upload; count = has.count; calls = there.call_is ∙ has.calls; created = created-follows log places now jobs behind opened has.upload key follows grows has.created; position = has.position; place = grows has.at has.position has.place; etag = has.etag; entry = has.entry }

pub part-follows : (log : List Logged) (places now : List Place) (jobs behind : List Job) (opened number : ℕ) (bytes : List ℕ) → Follows opened jobs behind → Grows places now → KeepsGone opened jobs behind → HasPart log places jobs opened number bytes → HasPart log now behind opened number bytes
part-follows log places now jobs behind opened number bytes follows grows keeps has =
    let there = follows.there has.at has.job has.stands has.owned in
    record {
      at = has.at;
      job = there.job;
      stands = there.stands;
      owned = there.owner_is ∙ has.owned;
      upload = has.upload;
      calls = there.call_is ∙ has.calls;
      stored = λ gone. let old = has.stored (keeps has.at has.job there.job has.stands has.owned there.stands gone) in (old.0, grows has.at old.0 old.1, old.2);
    }

pub filled-follows : (log : List Logged) (places now : List Place) (jobs behind : List Job) (opened : ℕ) (key taken : List ℕ) (u : Upload) → Follows opened jobs behind → Grows places now → (has_failed u ≡ false → KeepsGone opened jobs behind) → IsFilled log places jobs opened key taken u → IsFilled log now behind opened key taken u
filled-follows log places now jobs behind opened key taken u follows grows keeps is = record {
  parts = is.parts;
  count = is.count;
  bytes = is.bytes;
  jobs_are = of-writer-follows log places now jobs behind opened key is.parts u.created follows grows is.jobs_are;
  found = λ alive index some listed. part-follows log places now jobs behind opened (index + 1) some follows grows (keeps alive) (is.found alive index some listed);
  made = λ done. made-follows log places now jobs behind opened key follows grows (is.made done);
}

-- the upload changes, and not what it holds

pub record HoldsSame (u v : Upload) : Type 0 where
  pub asked_is : v.asked ≡ u.asked
  pub created_is : v.created ≡ u.created
  pub rest_is : has_failed v ≡ false → (has_failed u ≡ false) × (v.rest ≡ u.rest)
  pub done_is : v.state ≡ Done → u.state ≡ Done

pub filled-same : (log : List Logged) (places : List Place) (jobs : List Job) (opened : ℕ) (key taken : List ℕ) (u v : Upload) → HoldsSame u v → IsFilled log places jobs opened key taken u → IsFilled log places jobs opened key taken v
filled-same log places jobs opened key taken u v same is = record {
  parts = is.parts;
  count = is.count ∙ sym same.asked_is;
  bytes = λ alive. let rest = same.rest_is alive in ap (λ (t : List ℕ). joined is.parts ++ t) rest.1 ∙ is.bytes rest.0;
  jobs_are = subst (AreOfWriter log places jobs opened key is.parts) (sym same.created_is) is.jobs_are;
  found = λ alive. is.found (same.rest_is alive).0;
  made = λ done. is.made (same.done_is done);
}

pub same-then : (u v w : Upload) → HoldsSame u v → HoldsSame v w → HoldsSame u w
same-then u v w first second = record {
  asked_is = second.asked_is ∙ first.asked_is;
  created_is = second.created_is ∙ first.created_is;
  rest_is = λ alive. let two = second.rest_is alive in let one = first.rest_is two.0 in (one.0, two.1 ∙ one.1);
  done_is = λ done. first.done_is (second.done_is done);
}

pub same-self : (u : Upload) → HoldsSame u u
same-self u = record { asked_is = refl; created_is = refl; rest_is = λ alive. (alive, refl); done_is = λ done. done }

pub same-fails : (errno : Errno) (u : Upload) → HoldsSame u (fails_with errno u)
same-fails = fails-by HoldsSame same-self (λ errno u. record { asked_is = refl; created_is = refl; rest_is = λ alive. absurd (cc); done_is = λ done. absurd (cc) })

pub same-back : (u : Upload) → HoldsSame u (with_back u)
same-back u = record { asked_is = refl; created_is = refl; rest_is = λ alive. (alive, refl); done_is = λ done. done }

pub same-backs : (drops : ℕ) (u : Upload) → HoldsSame u (back_times drops u)
same-backs = backs-by HoldsSame same-self same-then same-back

pub same-settled : (u : Upload) → HoldsSame u (settled u)
same-settled u = lacking-by HoldsSame same-self same-fails u (due u)

-- whether a writer in this state has failed
abbrev pub failed_in : UpState → Bool
failed_in (Failed errno) = true
failed_in other = false

pub same-ended : (u : Upload) → HoldsSame u (ended u)
same-ended = ended-by HoldsSame (λ u closed. same-self u) (λ u opened. record { asked_is = refl; created_is = refl; rest_is = λ alive. (ap failed_in opened, refl); done_is = λ done. absurd (cc) })

pub same-closing : (u : Upload) → HoldsSame u (with_closing u)
same-closing u = record { asked_is = refl; created_is = refl; rest_is = λ alive. (alive, refl); done_is = λ done. done }

-- bytes come

alive-at : (state : UpState) (u : Upload) → u.state ≡ state → (HasFailed u → ⊥) → has_failed u ≡ false
alive-at (Failed errno) u at alive = absurd (alive (errno, at))
alive-at Open u at alive = ap failed_in at
alive-at Finished u at alive = ap failed_in at
alive-at Done u at alive = ap failed_in at

pub alive-is : (u : Upload) → (HasFailed u → ⊥) → has_failed u ≡ false
alive-is u alive = alive-at u.state u refl alive

pub filled-bytes : (log : List Logged) (places : List Place) (jobs : List Job) (opened : ℕ) (key taken more : List ℕ) (u : Upload) → u.state ≡ Open → IsFilled log places jobs opened key taken u → IsFilled log places jobs opened key (taken ++ more) (with_bytes more u)
filled-bytes log places jobs opened key taken more u opened_is is = record {
  parts = is.parts;
  count = is.count;
  bytes = λ alive. sym (append_assoc (joined is.parts) u.rest more) ∙ ap (λ (t : List ℕ). t ++ more) (is.bytes alive);
  jobs_are = is.jobs_are;
  found = is.found;
  made = is.made;
}

-- a new writer has nothing
pub filled-new : (log : List Logged) (places : List Place) (jobs : List Job) (opened part : ℕ) (key taken : List ℕ) → taken ≡ [] → ((number : ℕ) (job : Job) → job_at number jobs ≡ Some job → job.owner ≡ owner.Writer opened → ⊥) → IsFilled log places jobs opened key taken (new_upload part)
filled-new log places jobs opened part key taken none unmade = record {
  parts = [];
  count = refl;
  bytes = λ alive. sym none;
  jobs_are = record {
    numbered = λ at job named which some stands owned calls. absurd (unmade at job stands owned);
    known = λ named is. absurd (cc);
    named = λ at job named stands owned names. absurd (unmade at job stands owned);
    keys = λ at job other stands owned calls. absurd (unmade at job stands owned);
  };
  found = λ alive index some listed. absurd (cc);
  made = λ done. absurd (cc);
}

-- parts with one more

pub listed-front : {X : Type 0} (xs : List X) (x : X) (index : ℕ) (some : X) → slice_get xs index ≡ Some some → slice_get (xs ++ x ∷ []) index ≡ Some some
listed-front [] x index some is = absurd (cc)
listed-front (y ∷ xs) x zero some is = is
listed-front (y ∷ xs) x (suc index) some is = listed-front xs x index some is

pub listed-last : {X : Type 0} (xs : List X) (x : X) → slice_get (xs ++ x ∷ []) (length xs) ≡ Some x
listed-last [] x = refl
listed-last (y ∷ xs) x = listed-last xs x

pub listed-of : {X : Type 0} (xs : List X) (x : X) (index : ℕ) (some : X) → slice_get (xs ++ x ∷ []) index ≡ Some some → (slice_get xs index ≡ Some some) ⊎ ((index ≡ length xs) × (x ≡ some))
listed-of [] x zero some is = inr (refl, let e : x ≡ some = cc in e)
listed-of [] x (suc index) some is = absurd (cc)
listed-of (y ∷ xs) x zero some is = inl is
listed-of (y ∷ xs) x (suc index) some is = elim (listed-of xs x index some is) [ inl old ↦ inl old | inr last ↦ inr (ap suc last.0, last.1) ]

part-front : (parts : List (List ℕ)) (last : List ℕ) (number : ℕ) (bytes : List ℕ) → IsNumbered parts number bytes → IsNumbered (parts ++ last ∷ []) number bytes
part-front parts last number bytes is = record { index = is.index; number_is = is.number_is; listed = listed-front parts last is.index bytes is.listed }

-- one more job of its own

of-writer-pushed : (log : List Logged) (places : List Place) (jobs : List Job) (opened : ℕ) (key : List ℕ) (parts now : List (List ℕ)) (by behind : Created) (new : Job) → AreOfWriter log places jobs opened key parts by → ((number : ℕ) (bytes : List ℕ) → IsNumbered parts number bytes → IsNumbered now number bytes) → ((named which : ℕ) (some : List ℕ) → new.call ≡ call.Part named which some → IsNumbered now which some) → ((named : ℕ) → behind ≡ Known named → by ≡ Known named) → ((at : ℕ) (job : Job) (named : ℕ) → job_at at jobs ≡ Some job → job.owner ≡ owner.Writer opened → upload_in job.call ≡ Some named → (behind ≡ Known named) ⊎ (behind ≡ GivenUp)) → ((named : ℕ) → upload_in new.call ≡ Some named → behind ≡ Known named) → ((other : List ℕ) → new.call ≡ call.Create other → other ≡ key) → AreOfWriter log places (jobs ++ new ∷ []) opened key now behind
of-writer-pushed log places jobs opened key parts now by behind new are front part known old_named named keyed = record {
  numbered = λ at job other which some stands owned calls. elim (new-found at jobs new job stands) [
    | inl old ↦ front which some (are.numbered at job other which some old owned calls)
    | inr last ↦ part other which some (ap (λ (j : Job). j.call) (sym last.1) ∙ calls)
  ];
  known = λ other is. created-pushed log places jobs (new ∷ []) opened other key (are.known other (known other is));
  named = λ at job other stands owned names. elim (new-found at jobs new job stands) [
    | inl old ↦ old_named at job other old owned names
    | inr last ↦ inl (named other (ap (λ (j : Job). upload_in j.call) (sym last.1) ∙ names))
  ];
  keys = λ at job other stands owned calls. elim (new-found at jobs new job stands) [
    | inl old ↦ are.keys at job other old owned calls
    | inr last ↦ keyed other (ap (λ (j : Job). j.call) (sym last.1) ∙ calls)
  ];
}

part-pushed : (log : List Logged) (places : List Place) (jobs more : List Job) (opened number : ℕ) (bytes : List ℕ) → HasPart log places jobs opened number bytes → HasPart log places (jobs ++ more) opened number bytes
part-pushed log places jobs more opened number bytes has = record { at = has.at; job = has.job; stands = found-front has.at jobs more has.job has.stands; owned = has.owned; upload = has.upload; calls = has.calls; stored = has.stored }

pub made-pushed : (log : List Logged) (places : List Place) (jobs more : List Job) (opened : ℕ) (key : List ℕ) → HasMade log places jobs opened key → HasMade log places (jobs ++ more) opened key
made-pushed log places jobs more opened key has = record { at = has.at; job = has.job; stands = found-front has.at jobs more has.job has.stands; owned = has.owned; upload = has.upload; count = has.count; calls = has.calls; created = created-pushed log places jobs more opened has.upload key has.created; position = has.position; place = has.place; etag = has.etag; entry = has.entry }

-- a call that is no part
pub filled-call : (log : List Logged) (places : List Place) (jobs : List Job) (opened : ℕ) (key taken : List ℕ) (u v : Upload) (new : Job) → HoldsSame u v → ((named which : ℕ) (some : List ℕ) → new.call ≢ call.Part named which some) → ((named : ℕ) → upload_in new.call ≡ Some named → u.created ≡ Known named) → ((other : List ℕ) → new.call ≡ call.Create other → other ≡ key) → IsFilled log places jobs opened key taken u → IsFilled log places (jobs ++ new ∷ []) opened key taken v
filled-call log places jobs opened key taken u v new same no_part named keyed is = filled-same log places (jobs ++ new ∷ []) opened key taken u v same (record {
  parts = is.parts;
  count = is.count;
  bytes = is.bytes;
  jobs_are = of-writer-pushed log places jobs opened key is.parts is.parts u.created u.created new is.jobs_are (λ number bytes part. part) (λ other which some calls. absurd (no_part other which some calls)) (λ other known. known) is.jobs_are.named named keyed;
  found = λ alive index some listed. part-pushed log places jobs (new ∷ []) opened (index + 1) some (is.found alive index some listed);
  made = λ done. made-pushed log places jobs (new ∷ []) opened key (is.made done);
})

-- the next part
pub filled-part : (log : List Logged) (places : List Place) (jobs : List Job) (opened : ℕ) (key taken : List ℕ) (u : Upload) (new : Job) (named number from to : ℕ) → job_at new.number jobs ≡ None → new.phase ≢ Gone → new.owner ≡ owner.Writer opened → new.call ≡ call.Part named number (next_part u) → u.created ≡ Known named → due u ≡ Some (Part number from to) → IsFilled log places jobs opened key taken u → IsFilled log places (jobs ++ new ∷ []) opened key taken (with_ask (Part number from to) u)
filled-part log places jobs opened key taken u new named number from to unknown live owned calls known is_due is =
    let d = due-is u (Part number from to) is_due in
    let next : List ℕ = next_part u in
    let all : List (List ℕ) = is.parts ++ next ∷ [] in
    let count = is.count in
    let size : to - from ≡ length next = omega (arith, d.from_is, d.to_is) in
    let next_and_behind : next ++ drop (to - from) u.rest ≡ u.rest = rw size (take-then-drop u.part u.rest) in
    record {
      parts = all;
      count = omega (arith, count, length-append is.parts (next ∷ []));
      bytes = λ alive. ap (λ (t : List ℕ). t ++ drop (to - from) u.rest) (joined-push is.parts next) ∙ append_assoc (joined is.parts) next (drop (to - from) u.rest) ∙ ap (λ (t : List ℕ). joined is.parts ++ t) next_and_behind ∙ is.bytes alive;
      jobs_are = of-writer-pushed log places jobs opened key is.parts all u.created u.created new is.jobs_are (part-front is.parts next)
          (λ other which some part. let same : call.Part named number next ≡ call.Part other which some = sym calls ∙ part in
          let number_is : number ≡ which = cc in
          let bytes_are : next ≡ some = cc in
          record { index = length is.parts; number_is = omega (arith, d.number_is, count, number_is); listed = listed-last is.parts next ∙ ap (λ (t : List ℕ). Some t) bytes_are })
          (λ other same. same) is.jobs_are.named
          (λ other names. let same : Some named ≡ Some other = ap upload_in (sym calls) ∙ names in known ∙ (let e : named ≡ other = cc in ap Known e))
          (λ other creates. let clash : call.Part named number next ≡ call.Create other = sym calls ∙ creates in absurd (cc));
      found = λ alive index some listed. elim (listed-of is.parts next index some listed) [
        | inl old ↦ part-pushed log places jobs (new ∷ []) opened (index + 1) some (is.found alive index some old)
        | inr last ↦ record {
          at = new.number;
          job = new;
          stands = found-new jobs new unknown;
          owned = owned;
          upload = named;
          calls = calls ∙ ap (λ (k : ℕ). call.Part named k next) (let same : number ≡ index + 1 = omega (arith, d.number_is, count, last.0) in same) ∙ ap (λ (t : List ℕ). call.Part named (index + 1) t) last.1;
          stored = λ gone. absurd (live gone);
        }
      ];
      made = λ done. made-pushed log places jobs (new ∷ []) opened key (is.made done);
    }

-- a new upload is asked for: its writer has no job that names one
pub filled-create : (log : List Logged) (places : List Place) (jobs : List Job) (opened : ℕ) (key taken : List ℕ) (u : Upload) (new : Job) → new.call ≡ call.Create key → u.created ≡ NotAsked → IsFilled log places jobs opened key taken u → IsFilled log places (jobs ++ new ∷ []) opened key taken (with_ask Create u)
filled-create log places jobs opened key taken u new calls not_asked is = record {
  parts = is.parts;
  count = is.count;
  bytes = is.bytes;
  jobs_are = of-writer-pushed log places jobs opened key is.parts is.parts u.created Asked new is.jobs_are (λ number bytes part. part)
      (λ other which some part. let clash : call.Create key ≡ call.Part other which some = sym calls ∙ part in absurd (cc))
      (λ other known. absurd (cc))
      (λ at job other stands owned names. absurd (elim (is.jobs_are.named at job other stands owned names) [ inl known ↦ cc | inr given ↦ cc ]))
      (λ other names. let same : None ≡ Some other = ap upload_in (sym calls) ∙ names in absurd (cc))
      (λ other creates. let same : call.Create key ≡ call.Create other = sym calls ∙ creates in let e : key ≡ other = cc in sym e);
  found = λ alive index some listed. part-pushed log places jobs (new ∷ []) opened (index + 1) some (is.found alive index some listed);
  made = λ done. made-pushed log places jobs (new ∷ []) opened key (is.made done);
}
