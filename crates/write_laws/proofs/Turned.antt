-- What holds of a writer's upload and its jobs behind its turn: it asks for what is due, drops what is ready where it has
-- failed, and is given up.
use Rattle.std.proofs.Common.{◌≡◌, ◌≢◌, ℕ, zero, suc, ◌+◌, ◌≤◌, List, [], ◌∷◌, ◌++◌, fold, length, Bool, true, false, if◌then◌else◌, Some, None, ◌⊎◌, inl, inr, refl, sym, ap, ◌∙◌, subst, arith, append_assoc, append-nil}
use Rattle.std.proofs.lemmas.List.{length-append, nil_from_length}
use Rattle.bucket_model.specs.Answers.{upload_in}
use Rattle.bucket_model.specs.declared.call.Call.{Call}
use Rattle.bucket_model.specs.declared.call.Call.TheVariants as call
use Rattle.bucket_model.specs.declared.answer.Brief.TheVariants as answer
use Rattle.bucket_model.specs.declared.history.Logged.{Logged}
use Rattle.bucket_model.specs.History.{HasEntry}
use Rattle.upload_rules.specs.declared.upload.UpState.{UpState}
use Rattle.upload_rules.specs.declared.upload.UpState.TheVariants.{Open, Finished, Done, Failed}
use Rattle.upload_rules.specs.declared.upload.Created.{Created}
use Rattle.upload_rules.specs.declared.upload.Created.TheVariants.{NotAsked, Asked, Known, GivenUp}
use Rattle.upload_rules.specs.declared.upload.UpAsk.{UpAsk}
use Rattle.upload_rules.specs.declared.upload.UpAsk.TheVariants.{Create, Part, Complete, Abort}
use Rattle.upload_rules.specs.Upload.{Upload, due, next_part, is_full, with_ask}
use Rattle.upload_rules.specs.Run.{joined}
use Rattle.upload_rules.proofs.Due.{upload, part-left, IsCompleteDue, due-is}
use Rattle.mount_model.specs.declared.event.Owner.TheVariants as owner
use Rattle.mount_model.specs.declared.event.Ask.{Ask}
use Rattle.mount_model.specs.declared.event.Answered.{Answered}
use Rattle.mount_model.specs.Step.{Step}
use Rattle.mount_model.specs.Handles.{Writer}
use Rattle.mount_model.specs.Writers.{Asking, id_in, asking_for, first_asks, ask_times, has_failed, settled, back_times}
use Rattle.mount_model.specs.State.{ClientState, Job, JobPhase, Ready, Out, Gone, job_at, jobs_at, ready_for, calls_in, gives_up, behind_asks, behind_drops, behind_step, calls_of, jobs_made, jobs_of_writer, AreNumbered}
use Rattle.mount_model.specs.Run.{jobs_called, TakesTurnOfWriter}
use Rattle.mount_model.proofs.Numbered.{numbered-push}
use Rattle.run_laws.specs.Counts.{any_call, is_complete, is_abort, calls_out, calls_made}
use Rattle.run_laws.specs.Uploads.{Tally, IsGoing, IsTallied}
use Rattle.run_laws.specs.Writers.{tally}
use Rattle.run_laws.proofs.Jobs.{Rises-jobs, out-one, made-one}
use Rattle.run_laws.proofs.Dropped.{drop_one, if_dropped, dropped, dropped-is, dropped-out, dropped-numbered, dropped-length, drops-count}
use Rattle.run_laws.proofs.Places.{pending-settled, pending-back}
use Rattle.run_laws.proofs.Asked.{AsksAll, asked_jobs, asked-append, asked-front, asked-length, writer_job, IsInTurn, asks-along, ask-turn}
use Rattle.run_laws.proofs.WriterTurn.{HappensInTurn}
use Rattle.upload_history.specs.Entries.{IsCreatedAt}
use Rattle.write_laws.specs.Accounted.{Place, IsBehind, IsWholeJob, AreAccounted, IsFilled}
use Rattle.write_laws.proofs.Found.{found-none, found-moved, moves-dropped, dropped-phase}
use Rattle.write_laws.proofs.Moved.{Advances, all-moved}
use Rattle.write_laws.proofs.Pushed.{Joins, all-pushed}
use Rattle.write_laws.proofs.Filled.{follows-moved, filled-follows, filled-same, filled-call, filled-part, filled-create, same-settled, same-backs, HoldsSame, alive-is}

-- what is due

chosen : {A : Type 0} (P : A → Type 0) (b : Bool) (x y : A) → (if b then Some x else None) ≡ Some y → P x → P y
chosen P true x y is holds = subst P (let same : x ≡ y = cc in same) holds
chosen P false x y is holds = absurd (cc)

-- all but a new upload is asked for under the id that is known
due-known : (u : Upload) (ask : UpAsk) → due u ≡ Some ask → (ask ≡ Create) ⊎ (u.created ≡ Known (id_in u.created))
due-known u ask is = at u.part u.state u.created u.asked u.sent u.stored u.rest u.pending u.closing is
  where
    at : (part : ℕ) (state : UpState) (created : Created) (asked sent stored : ℕ) (rest : List ℕ) (pending : ℕ) (closing : Bool) → due (upload part state created asked sent stored rest pending closing) ≡ Some ask → (ask ≡ Create) ⊎ (created ≡ Known (id_in created))
    at part state (Known id) asked sent stored rest pending closing is = inr refl
    at part Open NotAsked asked sent stored rest pending closing is = inl (chosen (λ (a : UpAsk). a ≡ Create) (is_full (upload part Open NotAsked asked sent stored rest pending closing)) Create ask is refl)
    at part Open Asked asked sent stored rest pending closing is = absurd (cc)
    at part Open GivenUp asked sent stored rest pending closing is = absurd (cc)
    at part Finished NotAsked asked sent stored rest pending closing is = inl (let same : Create ≡ ask = cc in sym same)
    at part Finished Asked asked sent stored rest pending closing is = absurd (cc)
    at part Finished GivenUp asked sent stored rest pending closing is = absurd (cc)
    at part Done NotAsked asked sent stored rest pending closing is = absurd (cc)
    at part Done Asked asked sent stored rest pending closing is = absurd (cc)
    at part Done GivenUp asked sent stored rest pending closing is = absurd (cc)
    at part (Failed errno) NotAsked asked sent stored rest pending closing is = absurd (cc)
    at part (Failed errno) Asked asked sent stored rest pending closing is = absurd (cc)
    at part (Failed errno) GivenUp asked sent stored rest pending closing is = absurd (cc)

-- behind the ask for the object no part is due
no-part : (u : Upload) (t : Tally) (number from to : ℕ) → IsTallied u t → 1 ≤ t.completes → due u ≡ Some (Part number from to) → ⊥
no-part u t number from to tallied some is = at u.part u.state u.created u.asked u.sent u.stored u.rest u.pending u.closing tallied is
  where
    at : (part : ℕ) (state : UpState) (created : Created) (asked sent stored : ℕ) (rest : List ℕ) (pending : ℕ) (closing : Bool) → IsTallied (upload part state created asked sent stored rest pending closing) t → due (upload part state created asked sent stored rest pending closing) ≡ Some (Part number from to) → ⊥
    at part Open created asked sent stored rest pending closing tallied is = let none = tallied.by_state.1 in omega arith
    at part Finished created asked sent stored rest pending closing tallied is =
        let u : Upload = upload part Finished created asked sent stored rest pending closing in
        let d = due-is u (Part number from to) is in
        elim tallied.by_state.1 [
          | inl none ↦ omega arith
          | inr completing ↦ elim d.grows [
            | inl opened ↦ absurd (cc)
            | inr has ↦ (let none = completing.none_left in let some_part = completing.some_part in elim (part-left (length rest) asked has) [ inl left ↦ omega arith | inr first ↦ omega arith ])
          ]
        ]
    at part Done created asked sent stored rest pending closing tallied is = absurd (cc)
    at part (Failed errno) created asked sent stored rest pending closing tallied is = (due-is (upload part (Failed errno) created asked sent stored rest pending closing) (Part number from to) is).alive (errno, refl)

-- and behind an abort no object
no-complete : (u : Upload) (t : Tally) (parts : ℕ) → IsTallied u t → 1 ≤ t.aborts → due u ≡ Some (Complete parts) → ⊥
no-complete u t parts tallied some is = at u.part u.state u.created u.asked u.sent u.stored u.rest u.pending u.closing tallied is
  where
    at : (part : ℕ) (state : UpState) (created : Created) (asked sent stored : ℕ) (rest : List ℕ) (pending : ℕ) (closing : Bool) → IsTallied (upload part state created asked sent stored rest pending closing) t → due (upload part state created asked sent stored rest pending closing) ≡ Some (Complete parts) → ⊥
    at part Open created asked sent stored rest pending closing tallied is = let going : IsGoing (upload part Open created asked sent stored rest pending closing) t = tallied.by_state.0 in omega arith
    at part Finished created asked sent stored rest pending closing tallied is = let going : IsGoing (upload part Finished created asked sent stored rest pending closing) t = tallied.by_state.0 in omega arith
    at part Done created asked sent stored rest pending closing tallied is = absurd (cc)
    at part (Failed errno) created asked sent stored rest pending closing tallied is = (due-is (upload part (Failed errno) created asked sent stored rest pending closing) (Complete parts) is).alive (errno, refl)

-- where no call is out, each job of the writer is gone
pub none-out : (opened : ℕ) (jobs : List Job) → calls_out any_call opened jobs ≡ 0 → (k : ℕ) (job : Job) → job_at k jobs ≡ Some job → job.owner ≡ owner.Writer opened → job.phase ≡ Gone
none-out opened jobs none k job stands owned = go job.phase refl
  where
    go : (phase : JobPhase) → job.phase ≡ phase → job.phase ≡ Gone
    go Gone at = at
    go Ready at = absurd (let one = out-one any_call k opened jobs job stands owned (λ gone. absurd (let both : Ready ≡ Gone = sym at ∙ gone in cc)) in omega arith)
    go (Out from) at = absurd (let one = out-one any_call k opened jobs job stands owned (λ gone. absurd (let both : Out from ≡ Gone = sym at ∙ gone in cc)) in omega arith)

completes-made : (opened : ℕ) (jobs : List Job) (k : ℕ) (job : Job) (named count : ℕ) → job_at k jobs ≡ Some job → job.owner ≡ owner.Writer opened → job.call ≡ call.Complete named count → 1 ≤ calls_made is_complete opened jobs
completes-made opened jobs k job named count stands owned calls = let one = made-one is_complete k opened jobs job stands owned in let is : is_complete job.call ≡ 1 = ap is_complete calls in omega arith

aborts-made : (opened : ℕ) (jobs : List Job) (k : ℕ) (job : Job) (named : ℕ) → job_at k jobs ≡ Some job → job.owner ≡ owner.Writer opened → job.call ≡ call.Abort named → 1 ≤ calls_made is_abort opened jobs
aborts-made opened jobs k job named stands owned calls = let one = made-one is_abort k opened jobs job stands owned in let is : is_abort job.call ≡ 1 = ap is_abort calls in omega arith

-- an upload in its writer's turn

-- an upload is created once
abbrev pub IsCreatedOnce : List Logged → Type 0
IsCreatedOnce log = (position other named : ℕ) (key some : List ℕ) → IsCreatedAt log position named key → IsCreatedAt log other named some → position ≡ other

own-writer : (opened other : ℕ) → owner.Writer opened ≡ owner.Writer other → other ≡ opened
own-writer opened other is = cc

known-as : (u : Upload) (named : ℕ) → u.created ≡ Known (id_in u.created) → Some (id_in u.created) ≡ Some named → u.created ≡ Known named
known-as u named known names = known ∙ (let e : id_in u.created ≡ named = cc in ap Known e)

unknown-next : (number : ℕ) (jobs : List Job) → AreNumbered 1 jobs → number ≡ length jobs + 1 → job_at number jobs ≡ None
unknown-next number jobs numbers is = found-none 1 number jobs numbers (omega arith)

by-known : (u : Upload) (ask : UpAsk) → due u ≡ Some ask → ask ≢ Create → u.created ≡ Known (id_in u.created)
by-known u ask is other = elim (due-known u ask is) [ inl same ↦ absurd (other same) | inr known ↦ known ]

abbrev ends : Bool → Upload → Upload
ends given u = if given then with_ask Abort u else u

abbrev tail_of : Bool → List ℕ → Upload → List Asking
tail_of given key u = if given then asking_for key u Abort ∷ [] else []

tail-numbers : (given : Bool) (number opened : ℕ) (key : List ℕ) (u : Upload) (jobs : List Job) → number ≡ length jobs + 1 → AreNumbered 1 jobs → AreNumbered 1 (jobs ++ asked_jobs number opened (tail_of given key u))
tail-numbers true number opened key u jobs is numbers = numbered-push 1 jobs (writer_job number opened (asking_for key u Abort).call) (omega arith) numbers
tail-numbers false number opened key u jobs is numbers = rw append-nil numbers

module _ (log : List Logged) (start : ℕ) (stood : ℕ → List ℕ → Type 0) (taken : ℕ → List ℕ) (places : List Place) where
  pub record IsInHand (opened : ℕ) (key : List ℕ) (u : Upload) (jobs : List Job) : Type 0 where
    pub all : AreAccounted log start stood taken places jobs
    pub filled : IsFilled log places jobs opened key (taken opened) u

  -- one ask

  create-joins : (jobs : List Job) (opened number : ℕ) (key : List ℕ) → job_at number jobs ≡ None → Joins log stood taken places jobs (writer_job number opened (call.Create key))
  create-joins jobs opened number key unknown = record {
    unknown = unknown;
    waits = λ from is. absurd (cc);
    uploads = λ named names. absurd (cc);
    whole = λ named count calls. absurd (cc);
    part = λ named which some calls. absurd (cc);
    abort = λ named calls. absurd (cc);
    complete = λ named count calls. absurd (cc);
  }

  part-joins : (jobs : List Job) (opened number : ℕ) (key : List ℕ) (u : Upload) (which from to : ℕ) → job_at number jobs ≡ None → u.created ≡ Known (id_in u.created) → due u ≡ Some (Part which from to) → IsTallied u (tally opened jobs) → IsInHand opened key u jobs → Joins log stood taken places jobs (writer_job number opened (call.Part (id_in u.created) which (next_part u)))
  part-joins jobs opened number key u which from to unknown known is tallied hand = record {
    unknown = unknown;
    waits = λ from is. absurd (cc);
    uploads = λ named names. (opened, key, refl, hand.filled.jobs_are.known named (known-as u named known names));
    whole = λ named count calls. absurd (cc);
    part = λ named number some calls at other line other_named count stands completes theirs own.
        no-part u (tally opened jobs) which from to tallied (completes-made opened jobs at other other_named count stands (theirs ∙ ap owner.Writer (own-writer opened line own)) completes) is;
    abort = λ named calls. absurd (cc);
    complete = λ named count calls. absurd (cc);
  }

  -- a new job has no answer
  unseen-behind : (jobs : List Job) (number position : ℕ) → job_at number jobs ≡ None → AreAccounted log start stood taken places jobs → IsBehind places position number Ready
  unseen-behind jobs number position unknown all = record {
    out = λ from is. absurd (cc);
    done = λ place stands. absurd (let answered = all.answered number place stands in let both : None ≡ Some answered.job = sym unknown ∙ answered.stands in cc);
  }

  -- the object is due: all bytes are in its parts, and each of them is stored
  whole-job : (jobs : List Job) (opened number : ℕ) (key : List ℕ) (u : Upload) (count : ℕ) → IsCreatedOnce log → stood opened key → job_at number jobs ≡ None → u.created ≡ Known (id_in u.created) → IsCompleteDue u count → u.pending ≡ calls_out any_call opened jobs → IsInHand opened key u jobs → IsWholeJob log stood taken places jobs (id_in u.created) count number (writer_job number opened (call.Complete (id_in u.created) count))
  whole-job jobs opened number key u count once stands_so unknown known d pending hand =
      let filled = hand.filled in
      let named : ℕ = id_in u.created in
      let alive = alive-is u d.alive in
      let none_left : u.rest ≡ [] = nil_from_length u.rest d.none_left.0 in
      let created = filled.jobs_are.known named known in
      let gone = none-out opened jobs (let none : calls_out any_call opened jobs ≡ 0 = sym pending ∙ d.none_out in none) in
      record {
        opened = opened;
        owned = refl;
        key = key;
        stands = stands_so;
        created = created;
        parts = filled.parts;
        bytes = sym (append-nil (joined filled.parts)) ∙ ap (λ (t : List ℕ). joined filled.parts ++ t) (sym none_left) ∙ filled.bytes alive;
        count_is = d.parts_is ∙ sym filled.count;
        each = λ index some listed.
            let has = filled.found alive index some listed in
            let stored = has.stored (gone has.at has.job has.stands has.owned) in
            let names : upload_in has.job.call ≡ Some has.upload = ap upload_in has.calls in
            let of = hand.all.uploads has.at has.job has.upload has.stands names in
            let same : has.upload ≡ named = elim (filled.jobs_are.named has.at has.job has.upload has.stands has.owned names) [
              | inl is ↦ (let both : Known has.upload ≡ Known named = sym is ∙ known in cc)
              | inr given ↦ absurd (let both : Known named ≡ GivenUp = sym known ∙ given in cc)
            ] in
            let place_is = once created.position of.created.position named key of.key created.creates (subst (λ (k : ℕ). IsCreatedAt log of.created.position k of.key) same of.created.creates) in
            record {
              other = has.at;
              position = stored.0;
              place = stored.1;
              behind_first = let less = of.behind.done stored.0 stored.1 in omega (arith, place_is, less);
              entry = subst (λ (k : ℕ). HasEntry log stored.0 (call.Part k (index + 1) some) answer.Stored) same stored.2;
              before_last = unseen-behind jobs number stored.0 unknown hand.all;
            };
        only = filled.jobs_are.numbered;
      }

  complete-joins : (jobs : List Job) (opened number : ℕ) (key : List ℕ) (u : Upload) (parts : ℕ) → IsCreatedOnce log → stood opened key → job_at number jobs ≡ None → u.created ≡ Known (id_in u.created) → due u ≡ Some (Complete parts) → IsTallied u (tally opened jobs) → u.pending ≡ calls_out any_call opened jobs → IsInHand opened key u jobs → Joins log stood taken places jobs (writer_job number opened (call.Complete (id_in u.created) parts))
  complete-joins jobs opened number key u parts once stands_so unknown known is tallied pending hand = record {
    unknown = unknown;
    waits = λ from is. absurd (cc);
    uploads = λ named names. (opened, key, refl, hand.filled.jobs_are.known named (known-as u named known names));
    whole = λ named count calls.
        let e : id_in u.created ≡ named = cc in
        let k : parts ≡ count = cc in
        subst (λ (c : ℕ). IsWholeJob log stood taken places jobs named c number (writer_job number opened (call.Complete (id_in u.created) parts))) k
        (subst (λ (i : ℕ). IsWholeJob log stood taken places jobs i parts number (writer_job number opened (call.Complete (id_in u.created) parts))) e
        (whole-job jobs opened number key u parts once stands_so unknown known (due-is u (Complete parts) is) pending hand));
    part = λ named which some calls. absurd (cc);
    abort = λ named calls. absurd (cc);
    complete = λ named count calls at other line other_named stands theirs own aborts.
        no-complete u (tally opened jobs) parts tallied (aborts-made opened jobs at other other_named stands (theirs ∙ ap owner.Writer (own-writer opened line own)) aborts) is;
  }

  abort-joins : (jobs : List Job) (opened number : ℕ) (key : List ℕ) (u : Upload) → job_at number jobs ≡ None → u.created ≡ Known (id_in u.created) → due u ≡ Some Abort → u.pending ≡ calls_out any_call opened jobs → IsInHand opened key u jobs → Joins log stood taken places jobs (writer_job number opened (call.Abort (id_in u.created)))
  abort-joins jobs opened number key u unknown known is pending hand = record {
    unknown = unknown;
    waits = λ from is. absurd (cc);
    uploads = λ named names. (opened, key, refl, hand.filled.jobs_are.known named (known-as u named known names));
    whole = λ named count calls. absurd (cc);
    part = λ named which some calls. absurd (cc);
    abort = λ named calls at other line other_named count stands theirs own completes.
        none-out opened jobs (let d = due-is u Abort is in sym pending ∙ d.none_out) at other stands (theirs ∙ ap owner.Writer (own-writer opened line own));
    complete = λ named count calls. absurd (cc);
  }

  abort-hand : (opened number : ℕ) (key : List ℕ) (u : Upload) (jobs : List Job) → number ≡ length jobs + 1 → due u ≡ Some Abort → AreNumbered 1 jobs → u.pending ≡ calls_out any_call opened jobs → IsInHand opened key u jobs → IsInHand opened key (with_ask Abort u) (jobs ++ writer_job number opened (asking_for key u Abort).call ∷ [])
  abort-hand opened number key u jobs next is numbers pending hand =
      let unknown = unknown-next number jobs numbers next in
      let known = by-known u Abort is (λ e. absurd (cc)) in
      let new : Job = writer_job number opened (call.Abort (id_in u.created)) in
      let same : HoldsSame u (with_ask Abort u) = record { asked_is = refl; created_is = refl; rest_is = λ alive. (alive, refl); done_is = λ done. done } in
      record {
        all = all-pushed log start stood taken places jobs new (abort-joins jobs opened number key u unknown known is pending hand) hand.all;
        filled = filled-call log places jobs opened key (taken opened) u (with_ask Abort u) new same (λ named which some calls. absurd (cc)) (λ named names. known-as u named known names) (λ other calls. absurd (cc)) hand.filled;
      }

  ask-hand : (opened number : ℕ) (key : List ℕ) (u : Upload) (ask : UpAsk) (jobs : List Job) → IsCreatedOnce log → stood opened key → number ≡ length jobs + 1 → due u ≡ Some ask → IsInTurn opened u jobs → IsInHand opened key u jobs → IsInHand opened key (with_ask ask u) (jobs ++ writer_job number opened (asking_for key u ask).call ∷ [])
  ask-hand opened number key u Create jobs once stands_so next is turn hand =
      let unknown = unknown-next number jobs turn.numbers next in
      let new : Job = writer_job number opened (call.Create key) in
      record {
        all = all-pushed log start stood taken places jobs new (create-joins jobs opened number key unknown) hand.all;
        filled = filled-create log places jobs opened key (taken opened) u new refl (due-is u Create is) hand.filled;
      }
  ask-hand opened number key u (Part which from to) jobs once stands_so next is turn hand =
      let unknown = unknown-next number jobs turn.numbers next in
      let known = by-known u (Part which from to) is (λ e. absurd (cc)) in
      let new : Job = writer_job number opened (call.Part (id_in u.created) which (next_part u)) in
      record {
        all = all-pushed log start stood taken places jobs new (part-joins jobs opened number key u which from to unknown known is turn.tallied hand) hand.all;
        filled = filled-part log places jobs opened key (taken opened) u new (id_in u.created) which from to unknown (λ gone. absurd (cc)) refl refl known is hand.filled;
      }
  ask-hand opened number key u (Complete parts) jobs once stands_so next is turn hand =
      let unknown = unknown-next number jobs turn.numbers next in
      let known = by-known u (Complete parts) is (λ e. absurd (cc)) in
      let new : Job = writer_job number opened (call.Complete (id_in u.created) parts) in
      let same : HoldsSame u (with_ask (Complete parts) u) = record { asked_is = refl; created_is = refl; rest_is = λ alive. (alive, refl); done_is = λ done. done } in
      record {
        all = all-pushed log start stood taken places jobs new (complete-joins jobs opened number key u parts once stands_so unknown known is turn.tallied turn.pending hand) hand.all;
        filled = filled-call log places jobs opened key (taken opened) u (with_ask (Complete parts) u) new same (λ named which some calls. absurd (cc)) (λ named names. known-as u named known names) (λ other calls. absurd (cc)) hand.filled;
      }
  ask-hand opened number key u Abort jobs once stands_so next is turn hand = abort-hand opened number key u jobs next is turn.numbers turn.pending hand

  -- all that are asked for
  asks-hand : (opened : ℕ) (key : List ℕ) (count number : ℕ) (u : Upload) (jobs : List Job) → IsCreatedOnce log → stood opened key → AsksAll count u → number ≡ length jobs + 1 → IsInTurn opened u jobs → IsInHand opened key u jobs → IsInHand opened key (ask_times count u) (jobs ++ asked_jobs number opened (first_asks count key u))
  asks-hand opened key zero number u jobs once stands_so all next turn hand = rw append-nil hand
  asks-hand opened key (suc count) number u jobs once stands_so all next turn hand =
      let ask : UpAsk = all.0 in
      let at : due u ≡ Some ask = all.1 in
      let called : Call = (asking_for key u ask).call in
      let one : List Job = jobs ++ writer_job number opened called ∷ [] in
      let count_one = length-append jobs (writer_job number opened called ∷ []) in
      let one_turn = ask-turn opened number key u ask jobs next at turn in
      let one_hand = ask-hand opened number key u ask jobs once stands_so next at turn hand in
      let more = asks-hand opened key count (number + 1) (with_ask ask u) one once stands_so all.3 (omega arith) one_turn one_hand in
      let rest : List Job = asked_jobs (number + 1) opened (first_asks count key (with_ask ask u)) in
      let jobs_are : one ++ rest ≡ jobs ++ writer_job number opened called ∷ rest = append_assoc jobs (writer_job number opened called ∷ []) rest in
      rw at (subst (IsInHand opened key (ask_times count (with_ask ask u))) jobs_are more)

  -- its ready jobs are dropped

  pub drop-advances : (jobs : List Job) (opened : ℕ) → AreAccounted log start stood taken places jobs → Advances log start places places jobs (if_dropped opened)
  drop-advances jobs opened all = record {
    grows = λ k p place. place;
    answered = λ k p place.
        let is = all.answered k p place in
        record { job = is.job; stands = found-moved (if_dropped opened) (moves-dropped opened) k jobs is.job is.stands ∙ ap (λ (j : Job). Some j) (same_if_gone is.job is.gone); gone = is.gone; late = is.late; logged = is.logged; entry = is.entry; calls = is.calls };
    one_place = all.one_place;
    one_job = all.one_job;
    out = λ k job from found is. elim (dropped-phase opened job) [
      | inl same ↦ all.out k job from found (ap (λ (j : Job). j.phase) (sym same) ∙ is)
      | inr gone ↦ absurd (let phase : Gone ≡ Out from = ap (λ (j : Job). j.phase) (sym gone.1) ∙ is in cc)
    ];
    behind = λ position other k job place found old. elim (dropped-phase opened job) [
      | inl same ↦ subst (λ (j : Job). IsBehind places position k j.phase) (sym same) old
      | inr gone ↦ record { out = λ from is. absurd (let phase : Gone ≡ Out from = ap (λ (j : Job). j.phase) (sym gone.1) ∙ is in cc); done = old.done }
    ];
    gone = λ k job found gone. (ap (λ (j : Job). j.phase) (same_if_gone job gone) ∙ gone, λ p place. place);
  }
    where
      same_if_gone : (job : Job) → job.phase ≡ Gone → if_dropped opened job ≡ job
      same_if_gone job gone = elim (dropped-phase opened job) [
        | inl same ↦ same
        | inr ready ↦ absurd (let phase : Ready ≡ Gone = sym ready.0 ∙ gone in cc)
      ]

  -- what the drops leave, by whether it has failed
  record HasLeft (opened : ℕ) (key : List ℕ) (u : Upload) (jobs behind : List Job) (drops : List ℕ) : Type 0 where
    left : List Job
    left_is : fold drop_one (jobs ++ behind) drops ≡ left ++ behind
    hand : IsInHand opened key (back_times (length drops) u) left
    numbers : AreNumbered 1 left
    pending : (back_times (length drops) u).pending ≡ calls_out any_call opened left
    same_length : length left ≡ length jobs

  has-left : (opened : ℕ) (key : List ℕ) (u : Upload) (jobs behind : List Job) (failed : Bool) → has_failed u ≡ failed → AreNumbered 1 jobs → AreNumbered 1 (jobs ++ behind) → u.pending ≡ calls_out any_call opened jobs → IsInHand opened key u jobs → HasLeft opened key u jobs behind (if failed then ready_for opened jobs else [])
  has-left opened key u jobs behind true is numbers all_numbers pending hand =
      let drops : List ℕ = ready_for opened jobs in
      let back = pending-back (length drops) u in
      let out = dropped-out any_call opened jobs in
      let count = drops-count opened jobs in
      record {
        left = dropped opened jobs;
        left_is = dropped-is 0 opened jobs behind (Rises-jobs 0 (jobs ++ behind) all_numbers);
        hand = record {
          all = all-moved log start stood taken places places jobs (if_dropped opened) (moves-dropped opened) (drop-advances jobs opened hand.all) hand.all;
          filled = filled-same log places (dropped opened jobs) opened key (taken opened) u (back_times (length drops) u) (same-backs (length drops) u)
              (filled-follows log places places jobs (dropped opened jobs) opened key (taken opened) u (follows-moved opened jobs (if_dropped opened) (moves-dropped opened)) (λ k p place. place) (λ alive. absurd (let both : true ≡ false = sym is ∙ alive in cc)) hand.filled);
        };
        numbers = dropped-numbered 1 opened jobs numbers;
        pending = omega arith;
        same_length = dropped-length opened jobs;
      }
  has-left opened key u jobs behind false is numbers all_numbers pending hand = record { left = jobs; left_is = refl; hand = hand; numbers = numbers; pending = pending; same_length = refl }

  -- the whole turn

  end-hand : (opened number : ℕ) (key : List ℕ) (u : Upload) (jobs : List Job) (given : Bool) → number ≡ length jobs + 1 → (given ≡ true → due u ≡ Some Abort) → AreNumbered 1 jobs → u.pending ≡ calls_out any_call opened jobs → IsInHand opened key u jobs → IsInHand opened key (ends given u) (jobs ++ asked_jobs number opened (tail_of given key u))
  end-hand opened number key u jobs true next may numbers pending hand = abort-hand opened number key u jobs next (may refl) numbers pending hand
  end-hand opened number key u jobs false next may numbers pending hand = rw append-nil hand

  plain-hand : (opened number : ℕ) (key : List ℕ) (u : Upload) (jobs : List Job) (count : ℕ) (given : Bool) (drops : List ℕ) → IsCreatedOnce log → stood opened key → AsksAll count u → drops ≡ (if has_failed (settled (ask_times count u)) then ready_for opened (jobs ++ asked_jobs number opened (first_asks count key u)) else []) → (given ≡ true → due (back_times (length drops) (settled (ask_times count u))) ≡ Some Abort) → number ≡ length jobs + 1 → IsInTurn opened u jobs → IsInHand opened key u jobs → IsInHand opened key (ends given (back_times (length drops) (settled (ask_times count u)))) (fold drop_one (jobs ++ asked_jobs number opened (first_asks count key u ++ tail_of given key (back_times (length drops) (settled (ask_times count u))))) drops)
  plain-hand opened number key u jobs count given drops once stands_so all drops_are may next turn hand =
      let asked_now : Upload = ask_times count u in
      let settled_now : Upload = settled asked_now in
      let dropped_now : Upload = back_times (length drops) settled_now in
      let askings : List Asking = first_asks count key u in
      let first : List Job = jobs ++ asked_jobs number opened askings in
      let asked = asks-along opened key count number u jobs all next turn in
      let asked_hand = asks-hand opened key count number u jobs once stands_so all next turn hand in
      let settled_hand : IsInHand opened key settled_now first = record { all = asked_hand.all; filled = filled-same log places first opened key (taken opened) asked_now settled_now (same-settled asked_now) asked_hand.filled } in
      let last : ℕ = number + length askings in
      let more : List Job = asked_jobs last opened (tail_of given key dropped_now) in
      let first_length = length-append jobs (asked_jobs number opened askings) in
      let asked_length = asked-length number opened askings in
      let last_is : last ≡ length first + 1 = omega arith in
      let numbers = tail-numbers given last opened key dropped_now first last_is asked.turn.numbers in
      let pending = pending-settled asked_now ∙ asked.turn.pending in
      let left : HasLeft opened key settled_now first more drops = subst (HasLeft opened key settled_now first more) (sym drops_are) (has-left opened key settled_now first more (has_failed settled_now) refl asked.turn.numbers numbers pending settled_hand) in
      let left_length = left.same_length in
      let ended = end-hand opened last key dropped_now left.left given (let same : last ≡ length left.left + 1 = omega arith in same) may left.numbers left.pending left.hand in
      let jobs_are : fold drop_one (jobs ++ asked_jobs number opened (askings ++ tail_of given key dropped_now)) drops ≡ left.left ++ more = ap (λ t. fold drop_one (jobs ++ t) drops) (asked-append number opened askings (tail_of given key dropped_now)) ∙ ap (λ t. fold drop_one t drops) (sym (append_assoc jobs (asked_jobs number opened askings) more)) ∙ left.left_is in
      subst (IsInHand opened key (ends given dropped_now)) (sym jobs_are) ended

  -- a writer's turn in a step
  pub turn-hand : (state : ClientState) (step : Step) (w : Writer) (own : List Answered) → IsCreatedOnce log → stood w.line w.key → TakesTurnOfWriter state step w own → HappensInTurn (calls_in step.asks) w.upload step.drops → length (jobs_at state.jobs step.event) ≡ length state.jobs → IsInTurn w.line w.upload (jobs_at state.jobs step.event) → IsInHand w.line w.key w.upload (jobs_at state.jobs step.event) → IsInHand w.line w.key (behind_step step w.upload) (fold drop_one (jobs_at state.jobs step.event ++ jobs_of_writer step w) step.drops)
  turn-hand state step w own once stands_so takes happens same turn hand =
      let jobs : List Job = jobs_at state.jobs step.event in
      let number : ℕ = length state.jobs + 1 in
      let count : ℕ = calls_in step.asks in
      let askings : List Asking = first_asks count w.key w.upload in
      let tail : List Asking = tail_of (gives_up step.asks) w.key (behind_drops count (length step.drops) w.upload) in
      let called : jobs_called step w ≡ asked_jobs number w.line askings = ap (λ (t : List Ask). jobs_made w.line t (calls_of askings)) takes.asks ∙ asked-front number w.line askings tail in
      let drops_are : step.drops ≡ (if has_failed (behind_asks count w.upload) then ready_for w.line (jobs ++ asked_jobs number w.line askings) else []) = takes.drops ∙ ap (λ t. if has_failed (behind_asks count w.upload) then ready_for w.line (jobs ++ t) else []) called in
      let jobs_are : jobs_of_writer step w ≡ asked_jobs number w.line (askings ++ tail) = ap (λ (t : List Ask). jobs_made w.line t (calls_of (askings ++ tail))) takes.asks in
      subst (λ t. IsInHand w.line w.key (behind_step step w.upload) (fold drop_one (jobs ++ t) step.drops)) (sym jobs_are)
      (plain-hand w.line number w.key w.upload jobs count (gives_up step.asks) step.drops once stands_so happens.asks drops_are takes.gives_up (let is : number ≡ length jobs + 1 = omega arith in is) turn hand)
