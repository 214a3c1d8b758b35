-- What a step adds to the bytes that writers accepted, and to what is seen of lines and answers.
use Rattle.std.proofs.Common.{◌≡◌, ◌≢◌, ℕ, ◌<◌, ◌≤◌, List, [], ◌∷◌, ◌++◌, fold, length, take, slice_get, Bool, true, false, ◌||◌, ◌==◌, Some, ◌⊎◌, inl, inr, refl, sym, ap, ◌∙◌, subst, arith, append_assoc, append-nil, eqb-true, eq-eqb}
use Rattle.std.proofs.lemmas.Bool.{cases_eq}
use Rattle.std.proofs.lemmas.Option.{get_or_from_slice_get, slice_get_within}
use Rattle.std.proofs.lemmas.List.{get_or-take, length-take-le}
use Rattle.std.specs.List.{Contains}
use Rattle.std.specs.FinMap as table
use Rattle.mp_types.specs.HandleName.{HandleName}
use Rattle.bucket_model.specs.declared.call.Call.TheVariants as call
use Rattle.bucket_model.specs.declared.answer.Brief.TheVariants as answer
use Rattle.bucket_model.specs.declared.history.Logged.{Logged}
use Rattle.bucket_model.specs.History.{HasEntry, IsLegalEntry, IsLegalHistory}
use Rattle.upload_history.specs.Entries.{IsCreatedAt}
use Rattle.upload_history.proofs.Along.{legal_at}
use Rattle.upload_history.proofs.Laws.{upload_told}
use Rattle.upload_rules.specs.declared.upload.UpState.TheVariants.{Open}
use Rattle.upload_rules.specs.Upload.{Upload}
use Rattle.mount_model.specs.declared.handle.Handle.TheVariants.{Writing}
use Rattle.mount_model.specs.declared.event.Event.{Event}
use Rattle.mount_model.specs.declared.event.Owner.TheVariants as owner
use Rattle.mount_model.specs.declared.event.Answered.{Answered}
use Rattle.mount_model.specs.declared.standing.Phase.{Phase}
use Rattle.mount_model.specs.declared.standing.Phase.TheVariants.{Replied}
use Rattle.mount_model.specs.declared.standing.Standing.{Standing}
use Rattle.mount_model.specs.Step.{Step}
use Rattle.mount_model.specs.Handles.{Writer}
use Rattle.mount_model.specs.Conversation.{Next, Asks, Replies, Makes, Removes, Opens, Creates, Lists, Gives, Writes, Ends, Waits}
use Rattle.mount_model.specs.State.{ClientState, Job, job_at, line_at, change_line, lines_at, with_answered, with_replies, view_of, handle_name, TurnOf, turn_at, after}
use Rattle.mount_model.specs.Run.{is_among, IsLegalStep}
use Rattle.mount_model.specs.Written.{accepted_in, accepted_from}
use Rattle.run_laws.specs.Alive.{IsAlive}
use Rattle.run_laws.specs.Counts.{is_complete, calls_made}
use Rattle.run_laws.specs.Uploads.{Tally, IsTalliedIn, IsTallied}
use Rattle.run_laws.specs.Writers.{tally, HasReply}
use Rattle.run_laws.proofs.Lines.{line_at-same, line_at-other}
use Rattle.run_laws.proofs.Jobs.{made-one}
use Rattle.run_laws.proofs.Handles.{handle-at}
use Rattle.run_laws.proofs.Writers.{stands_as}
use Rattle.run_laws.proofs.Conversation.{writes-so}
use Rattle.run_laws.proofs.Opened.{IsOpened}
use Rattle.run_laws.proofs.Effects.{not-replied}
use Rattle.run_laws.proofs.Steps.{next_now, StepIs, LineStep, WriterStep, TakeStep, step-is}
use Rattle.write_laws.specs.Accounted.{Place, IsWholeJob, AreAccounted}
use Rattle.write_laws.proofs.Turned.{IsCreatedOnce}

-- the history

contains-front : (log : List Logged) (position other : ℕ) (logged : Logged) → other < position → position ≤ length log → slice_get log other ≡ Some logged → Contains (take position log) logged
contains-front log position other logged less within stands = (other, (let size = length-take-le position log within in omega arith), get_or-take position log other logged less ∙ get_or_from_slice_get log other logged logged stands)

-- no later entry creates an upload again
created-before : (log : List Logged) (position other named : ℕ) (key some : List ℕ) → IsLegalHistory log → IsCreatedAt log position named key → IsCreatedAt log other named some → other < position → ⊥
created-before log position other named key some legal one two less =
    let within = slice_get_within log position one.logged one.stands in
    let entry : IsLegalEntry (take position log) one.logged = legal_at log position one.logged legal one.stands in
    entry.new_upload named one.makes two.logged (contains-front log position other two.logged less (omega arith) two.stands) two.makes

pub created-once : (log : List Logged) → IsLegalHistory log → IsCreatedOnce log
created-once log legal position other named key some one two = elim (order position other) [
  | inl same ↦ same
  | inr apart ↦ elim apart [
    | inl less ↦ absurd (created-before log position other named key some legal one two less)
    | inr more ↦ absurd (created-before log other position named some key legal two one more)
  ]
]
  where
    order : (m n : ℕ) → (m ≡ n) ⊎ ((n < m) ⊎ (m < n))
    order m n = grind arith

pub tells-created : (log : List Logged) (position named : ℕ) (key : List ℕ) → IsLegalHistory log → HasEntry log position (call.Create key) (answer.Upload named) → IsCreatedAt log position named key
tells-created log position named key legal entry = upload_told log position named key entry.logged legal entry.stands entry.call entry.brief

-- bytes

pub accepted-push : (opened : ℕ) (state : ClientState) (steps : List Step) (step : Step) → accepted_from opened state (steps ++ step ∷ []) ≡ accepted_from opened state steps ++ accepted_in opened step (turn_at (fold after state steps) step.event)
accepted-push opened state [] step = append-nil (accepted_in opened step (turn_at state step.event))
accepted-push opened state (first ∷ steps) step = ap (λ (t : List ℕ). accepted_in opened first (turn_at state first.event) ++ t) (accepted-push opened (after state first) steps step) ∙ sym (append_assoc (accepted_in opened first (turn_at state first.event)) (accepted_from opened (after state first) steps) (accepted_in opened step (turn_at (fold after (after state first) steps) step.event)))

-- the writer of a line accepts none in this step, or it is the turn of a line that writes to it
pub data Accepts (state : ClientState) (step : Step) (line : ℕ) : Type 0 where
  NoBytes : accepted_in line step (turn_at state step.event) ≡ [] → Accepts state step line
  SomeBytes : (opened : IsOpened state step.event) (count : ℕ) (w : Writer) → next_now state step.event opened ≡ Writes count w → w.line ≡ line → Accepts state step line

pub accepts : (state : ClientState) (step : Step) (line : ℕ) → IsAlive state → IsLegalStep state step → Accepts state step line
accepts state step line alive legal = go (step-is state step alive legal)
  where
    by_next : (opened : IsOpened state step.event) (next : Next) → next_now state step.event opened ≡ next → Accepts state step line
    by_next opened next is = by next is (ap (accepted_in line step) opened.turn ∙ ap (λ (x : Next). accepted_in line step (TurnOf opened.line opened.who x)) is)
      where
        by : (next : Next) → next_now state step.event opened ≡ next → accepted_in line step (turn_at state step.event) ≡ accepted_in line step (TurnOf opened.line opened.who next) → Accepts state step line
        by (Writes count w) is turn = by_line (w.line == line) refl
          where
            by_line : (b : Bool) → (w.line == line) ≡ b → Accepts state step line
            by_line true same = SomeBytes opened count w is (eqb-true w.line line same)
            by_line false same = NoBytes (turn ∙ rw same refl)
        by (Asks called) is turn = NoBytes turn
        by (Replies said) is turn = NoBytes turn
        by (Makes key) is turn = NoBytes turn
        by (Removes key) is turn = NoBytes turn
        by (Opens version) is turn = NoBytes turn
        by (Creates key) is turn = NoBytes turn
        by (Lists entries) is turn = NoBytes turn
        by (Gives count) is turn = NoBytes turn
        by (Ends w) is turn = NoBytes turn
        by Waits is turn = NoBytes turn

    go : StepIs state step legal.own → Accepts state step line
    go (LineStep opened ended) = by_next opened (next_now state step.event opened) refl
    go (WriterStep heard takes) = NoBytes (ap (accepted_in line step) heard.turn)
    go (TakeStep number time from is found no_asks no_own no_drops) = NoBytes (ap (λ (e : Event). accepted_in line step (turn_at state e)) is)

-- the writer that a line writes to stands, and is open
pub record IsOpenFor (state : ClientState) (line : ℕ) : Type 0 where
  pub name : HandleName
  pub before : Writer
  pub stands : table.get state.shared.handles name ≡ Some (Writing before)
  pub of_line : before.line ≡ line
  pub opened : before.upload.state ≡ Open

pub writes-open : (state : ClientState) (step : Step) (opened : IsOpened state step.event) (count : ℕ) (w : Writer) (line : ℕ) → next_now state step.event opened ≡ Writes count w → w.line ≡ line → IsOpenFor state line
writes-open state step opened count w line is same =
    let so = writes-so (view_of state.shared opened.line) opened.line.request opened.heard count w is in
    record {
      name = handle_name opened.line;
      before = so.before;
      stands = sym (handle-at opened.line so.name state.shared.handles so.names) ∙ so.live;
      of_line = ap (λ (v : Writer). v.line) (sym so.now_is) ∙ same;
      opened = so.opened;
    }

open-completes : (u : Upload) (t : Tally) → u.state ≡ Open → IsTallied u t → t.completes ≡ 0
open-completes u t is tallied = let by_state : IsTalliedIn Open u t = subst (λ s. IsTalliedIn s u t) is tallied.by_state in by_state.1

-- where the object was asked for no bytes come
pub whole-accepts : (state : ClientState) (step : Step) (line : ℕ) (number : ℕ) (job : Job) (named count : ℕ) → IsAlive state → IsLegalStep state step → job_at number state.jobs ≡ Some job → job.owner ≡ owner.Writer line → job.call ≡ call.Complete named count → accepted_in line step (turn_at state step.event) ≡ []
whole-accepts state step line number job named count alive legal stands owned calls = go (accepts state step line alive legal)
  where
    go : Accepts state step line → accepted_in line step (turn_at state step.event) ≡ []
    go (NoBytes none) = none
    go (SomeBytes opened some w is same) = absurd (
        let open_for = writes-open state step opened some w line is same in
        let writer = alive.writers.each open_for.name open_for.before open_for.stands in
        let none : calls_made is_complete open_for.before.line state.jobs ≡ 0 = open-completes open_for.before.upload (tally open_for.before.line state.jobs) open_for.opened writer.tallied in
        let least = made-one is_complete number open_for.before.line state.jobs job stands (owned ∙ ap owner.Writer (sym open_for.of_line)) in
        let one : is_complete job.call ≡ 1 = ap is_complete calls in
        omega arith)

-- nor before the line has its reply
pub fresh-accepts : (state : ClientState) (step : Step) (line : ℕ) → IsAlive state → IsLegalStep state step → (accepted_in line step (turn_at state step.event) ≡ []) ⊎ HasReply state.lines line
fresh-accepts state step line alive legal = go (accepts state step line alive legal)
  where
    go : Accepts state step line → (accepted_in line step (turn_at state step.event) ≡ []) ⊎ HasReply state.lines line
    go (NoBytes none) = inl none
    go (SomeBytes opened some w is same) =
        let open_for = writes-open state step opened some w line is same in
        let writer = alive.writers.each open_for.name open_for.before open_for.stands in
        inr (record { line = writer.opener; stands = ap (λ (n : ℕ). line_at n state.lines) (sym open_for.of_line) ∙ writer.stands })

-- replies stay

reply-kept : (n m : ℕ) (f : Phase → Phase) (lines : List Standing) → f Replied ≡ Replied → HasReply lines n → HasReply (change_line m f lines) n
reply-kept n m f lines keeps has = elim (cases_eq n m) [
  | inl same ↦ (let there : line_at m lines ≡ stands_as has.line Replied = ap (λ (k : ℕ). line_at k lines) (sym same) ∙ has.stands in
      record { line = has.line; stands = ap (λ (k : ℕ). line_at k (change_line m f lines)) same ∙ line_at-same m f lines (record { line = has.line; phase = Replied }) there ∙ ap (stands_as has.line) keeps })
  | inr apart ↦ record { line = has.line; stands = line_at-other m n f lines apart ∙ has.stands }
]

replies-kept : (n : ℕ) (lines : List Standing) (replies : List Answered) → HasReply lines n → HasReply (with_replies lines replies) n
replies-kept n lines [] has = has
replies-kept n lines (reply ∷ replies) has = replies-kept n (with_answered lines reply) replies (reply-kept n reply.line (λ phase. Replied) lines refl has)

pub reply-stays : (state : ClientState) (step : Step) (n : ℕ) → IsAlive state → IsLegalStep state step → HasReply state.lines n → HasReply (after state step).lines n
reply-stays state step n alive legal has = replies-kept n (lines_at state.lines state.jobs step.event) step.replies (go (step-is state step alive legal))
  where
    go : StepIs state step legal.own → HasReply (lines_at state.lines state.jobs step.event) n
    go (LineStep opened ended) =
        let apart : n ≢ opened.n = λ same. not-replied state step.event opened has.line (ap (λ (k : ℕ). line_at k state.lines) (sym same) ∙ has.stands) in
        record { line = has.line; stands = ap (line_at n) opened.lines_are ∙ line_at-other opened.n n opened.goes state.lines apart ∙ has.stands }
    go (WriterStep heard takes) = record { line = has.line; stands = ap (line_at n) heard.lines_are ∙ has.stands }
    go (TakeStep number time from is found no_asks no_own no_drops) = record { line = has.line; stands = ap (λ (e : Event). line_at n (lines_at state.lines state.jobs e)) is ∙ has.stands }

-- more positions

pub among-push : (position last : ℕ) (positions : List ℕ) → is_among position positions ≡ true → is_among position (positions ++ last ∷ []) ≡ true
among-push position last [] is = absurd (cc)
among-push position last (first ∷ positions) is = go (first == position) is (among-push position last positions)
  where
    go : (b : Bool) → (b || is_among position positions) ≡ true → (is_among position positions ≡ true → is_among position (positions ++ last ∷ []) ≡ true) → (b || is_among position (positions ++ last ∷ [])) ≡ true
    go true is ih = refl
    go false is ih = ih is

pub among-last : (last : ℕ) (positions : List ℕ) → is_among last (positions ++ last ∷ []) ≡ true
among-last last [] = let same : (last == last) ≡ true = eq-eqb last last refl in rw same refl
among-last last (first ∷ positions) = go (first == last) (among-last last positions)
  where
    go : (b : Bool) → is_among last (positions ++ last ∷ []) ≡ true → (b || is_among last (positions ++ last ∷ [])) ≡ true
    go true is = refl
    go false is = is

pub among-of : (position last : ℕ) (positions : List ℕ) → is_among position (positions ++ last ∷ []) ≡ true → (is_among position positions ≡ true) ⊎ (last ≡ position)
among-of position last [] is = go (last == position) refl is
  where
    go : (b : Bool) → (last == position) ≡ b → (b || false) ≡ true → (false ≡ true) ⊎ (last ≡ position)
    go true same is = inr (eqb-true last position same)
    go false same is = absurd (cc)
among-of position last (first ∷ positions) is = go (first == position) is (among-of position last positions)
  where
    go : (b : Bool) → (b || is_among position (positions ++ last ∷ [])) ≡ true → (is_among position (positions ++ last ∷ []) ≡ true → (is_among position positions ≡ true) ⊎ (last ≡ position)) → ((b || is_among position positions) ≡ true) ⊎ (last ≡ position)
    go true is ih = inl refl
    go false is ih = ih is

-- writers that have stood, and bytes that were taken, are more then

whole-later : (log : List Logged) (stood later : ℕ → List ℕ → Type 0) (taken now : ℕ → List ℕ) (places : List Place) (jobs : List Job) (upload count number : ℕ) (job : Job) → ((line : ℕ) (key : List ℕ) → stood line key → later line key) → (is : IsWholeJob log stood taken places jobs upload count number job) → now is.opened ≡ taken is.opened → IsWholeJob log later now places jobs upload count number job
whole-later log stood later taken now places jobs upload count number job more is same = record {
  opened = is.opened;
  owned = is.owned;
  key = is.key;
  stands = more is.opened is.key is.stands;
  created = is.created;
  parts = is.parts;
  bytes = is.bytes ∙ sym same;
  count_is = is.count_is;
  each = is.each;
  only = is.only;
}

pub all-later : (log : List Logged) (start : ℕ) (stood later : ℕ → List ℕ → Type 0) (taken now : ℕ → List ℕ) (places : List Place) (jobs : List Job) → ((line : ℕ) (key : List ℕ) → stood line key → later line key) → ((line number : ℕ) (job : Job) (named count : ℕ) → job_at number jobs ≡ Some job → job.owner ≡ owner.Writer line → job.call ≡ call.Complete named count → now line ≡ taken line) → AreAccounted log start stood taken places jobs → AreAccounted log start later now places jobs
all-later log start stood later taken now places jobs more same all = record {
  answered = all.answered;
  one_place = all.one_place;
  one_job = all.one_job;
  out = all.out;
  uploads = all.uploads;
  whole = λ number job upload count stands calls.
      let is = all.whole number job upload count stands calls in
      whole-later log stood later taken now places jobs upload count number job more is (same is.opened number job upload count stands is.owned calls);
  aborts = all.aborts;
}
