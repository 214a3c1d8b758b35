-- What holds when an event has come, and of the writer that has its turn then.
use Rattle.std.proofs.Common.{◌≡◌, ◌≢◌, ℕ, List, [], ◌∷◌, ◌++◌, fold, length, Bool, true, false, ◌==◌, if◌then◌else◌, Some, inl, inr, refl, sym, ap, ◌∙◌, subst, append-nil, ne_eqb, eq-eqb}
use Rattle.std.specs.FinMap as table
use Rattle.mp_types.specs.HandleName.{HandleName}
use Rattle.bucket_model.specs.declared.call.Call.TheVariants as call
use Rattle.bucket_model.specs.declared.answer.Brief.{Brief}
use Rattle.bucket_model.specs.declared.answer.Brief.TheVariants as answer
use Rattle.bucket_model.specs.declared.history.Logged.{Logged}
use Rattle.bucket_model.specs.Answers.{is_counted}
use Rattle.bucket_model.specs.History.{HasEntry, IsLegalHistory}
use Rattle.upload_rules.specs.declared.upload.UpState.TheVariants.{Open}
use Rattle.upload_rules.specs.Upload.{Upload, with_bytes}
use Rattle.mount_model.specs.declared.handle.Handle.TheVariants.{Writing}
use Rattle.mount_model.specs.declared.handle.Waiter.{Waiter}
use Rattle.mount_model.specs.declared.handle.Waiter.TheVariants as waiter
use Rattle.mount_model.specs.declared.request.Reply.TheVariants as reply
use Rattle.mount_model.specs.declared.request.Line.{Line}
use Rattle.mount_model.specs.declared.event.Event.{Event}
use Rattle.mount_model.specs.declared.event.Event.TheVariants.{Begin, Take, Done}
use Rattle.mount_model.specs.declared.event.Owner.{Owner}
use Rattle.mount_model.specs.declared.event.Owner.TheVariants as owner
use Rattle.mount_model.specs.declared.event.Answered.{Answered}
use Rattle.mount_model.specs.Step.{Step}
use Rattle.mount_model.specs.Handles.{Writer}
use Rattle.mount_model.specs.Writers.{hears_answer}
use Rattle.mount_model.specs.Conversation.{Next, Replies, Writes, Ends, with_upload, waited_for, ended}
use Rattle.mount_model.specs.State.{ClientState, Job, Out, Gone, job_at, jobs_at, view_of, handle_name, Turn, TurnOf, TurnOfWriter, turn_at, behind_step, jobs_of_writer, positions_after, change_job, reply_in}
use Rattle.mount_model.specs.Run.{is_among, MayDone, MayCome, TakesTurnOfWriter, IsLegalStep}
use Rattle.mount_model.specs.Tied.{TiesEvent}
use Rattle.mount_model.specs.Written.{accepted_in, content_in}
use Rattle.run_laws.specs.Alive.{IsAlive}
use Rattle.run_laws.proofs.Jobs.{Rises-jobs, ready-found}
use Rattle.run_laws.proofs.Dropped.{drop_one}
use Rattle.run_laws.proofs.Handles.{handle-at}
use Rattle.run_laws.proofs.WriterTurn.{writer-happens}
use Rattle.run_laws.proofs.Conversation.{WritesSo, EndsSo, ends_as}
use Rattle.run_laws.proofs.Opened.{IsOpened, IsHeard, hears-opens}
use Rattle.run_laws.proofs.Steps.{next_now, heard_now, IsReadyFor, heard-ready, ends-ready, writes-ready}
use Rattle.write_laws.specs.Accounted.{Place, StandsAt, with_place, HasCreated, AreAccounted, IsFilled, IsAccounted}
use Rattle.write_laws.proofs.Found.{to_phase, moves-phase, found-moved}
use Rattle.write_laws.proofs.Moved.{all-moved}
use Rattle.write_laws.proofs.Filled.{Follows, KeepsGone, Grows, follows-same, gone-same, follows-moved, filled-follows, filled-same, filled-bytes, HoldsSame, same-then, same-ended, same-closing, same-found}
use Rattle.write_laws.proofs.Heard.{heard-filled}
use Rattle.write_laws.proofs.Events.{take-advances, done-advances, places_if, phase-of}
use Rattle.write_laws.proofs.Turned.{IsInHand, turn-hand}
use Rattle.write_laws.proofs.Others.{StaysFor, stays-then, turn-others}
use Rattle.write_laws.proofs.Named.{NamedNext, FailsSo, WritesMore, HasEnd, named-next}
use Rattle.write_laws.proofs.Accepted.{created-once, tells-created, among-push, among-last, among-of, all-later, whole-accepts}

-- what is known before a step, and which writers and bytes are more behind it
pub record IsBefore (log : List Logged) (start : ℕ) (stood later : ℕ → List ℕ → Type 0) (taken now : ℕ → List ℕ) (places : List Place) (state : ClientState) (step : Step) : Type 0 where
  pub legal_log : IsLegalHistory log
  pub alive : IsAlive state
  pub legal : IsLegalStep state step
  pub ties : TiesEvent start log state step.event
  pub accounted : IsAccounted log start stood taken places state
  pub more : (line : ℕ) (key : List ℕ) → stood line key → later line key
  pub stands : (name : HandleName) (w : Writer) → table.get state.shared.handles name ≡ Some (Writing w) → later w.line w.key
  pub bytes : (line : ℕ) → now line ≡ taken line ++ accepted_in line step (turn_at state step.event)

-- the event

-- places and positions

pub event-grows : (places : List Place) (event : Event) → Grows places (with_place places event)
event-grows places (Begin line time) number position place = place
event-grows places (Take job time from) number position place = place
event-grows places (Done job at said) number position place = go (is_counted said)
  where
    go : (b : Bool) → StandsAt number position (places_if b job at places)
    go true = inr place
    go false = place

done-place : (places : List Place) (number position : ℕ) (said : Brief) → is_counted said ≡ true → StandsAt number position (with_place places (Done number position said))
done-place places number position said counted = go (is_counted said) counted
  where
    go : (b : Bool) → b ≡ true → StandsAt number position (places_if b number position places)
    go true is = inl (refl, refl)
    go false is = absurd (cc)

pub event-placed : (places : List Place) (positions : List ℕ) (event : Event) → ((position : ℕ) → is_among position positions ≡ true → (number : ℕ) × StandsAt number position places) → (position : ℕ) → is_among position (positions_after positions event) ≡ true → (number : ℕ) × StandsAt number position (with_place places event)
event-placed places positions (Begin line time) placed position is = placed position is
event-placed places positions (Take job time from) placed position is = placed position is
event-placed places positions (Done job at said) placed position is = go (is_counted said) is
  where
    go : (b : Bool) → is_among position (if b then positions ++ at ∷ [] else positions) ≡ true → (number : ℕ) × StandsAt number position (places_if b job at places)
    go true is = elim (among-of position at positions is) [
      | inl old ↦ (let found = placed position old in (found.0, inr found.1))
      | inr same ↦ (job, inl (refl, same))
    ]
    go false is = placed position is

pub event-seen : (places : List Place) (positions : List ℕ) (event : Event) → ((number position : ℕ) → StandsAt number position places → is_among position positions ≡ true) → (number position : ℕ) → StandsAt number position (with_place places event) → is_among position (positions_after positions event) ≡ true
event-seen places positions (Begin line time) seen number position place = seen number position place
event-seen places positions (Take job time from) seen number position place = seen number position place
event-seen places positions (Done job at said) seen number position place = go (is_counted said) place
  where
    go : (b : Bool) → StandsAt number position (places_if b job at places) → is_among position (if b then positions ++ at ∷ [] else positions) ≡ true
    go true place = elim place [
      | inl here ↦ subst (λ (p : ℕ). is_among p (positions ++ at ∷ []) ≡ true) here.1 (among-last at positions)
      | inr old ↦ among-push position at positions (seen number position old)
    ]
    go false place = seen number position place

-- jobs

pub record KeepsEvent (log : List Logged) (start : ℕ) (later : ℕ → List ℕ → Type 0) (now : ℕ → List ℕ) (places : List Place) (state : ClientState) (event : Event) : Type 0 where
  pub all : AreAccounted log start later now (with_place places event) (jobs_at state.jobs event)
  pub follows : (line : ℕ) → Follows line state.jobs (jobs_at state.jobs event)
  pub keeps : (line : ℕ) → ((number position : ℕ) (said : Brief) (job : Job) → event ≡ Done number position said → job_at number state.jobs ≡ Some job → job.owner ≡ owner.Writer line → ⊥) → KeepsGone line state.jobs (jobs_at state.jobs event)

pub event-keeps : (log : List Logged) (start : ℕ) (later : ℕ → List ℕ → Type 0) (now : ℕ → List ℕ) (places : List Place) (state : ClientState) (event : Event) → IsAlive state → MayCome state event → TiesEvent start log state event → ((number position : ℕ) → StandsAt number position places → is_among position state.positions ≡ true) → AreAccounted log start later now places state.jobs → KeepsEvent log start later now places state event
event-keeps log start later now places state (Begin line time) alive may ties seen all = record { all = all; follows = λ opened. follows-same opened state.jobs; keeps = λ opened other. gone-same opened state.jobs }
event-keeps log start later now places state (Take number time from) alive may ties seen all =
    let found = ready-found 0 number state.jobs (Rises-jobs 0 state.jobs alive.numbered) may.1 in
    record {
      all = all-moved log start later now places places state.jobs (to_phase number (Out from)) (moves-phase number (Out from)) (take-advances log start later now places state.jobs state.positions number from found.job all found.stands found.phase ties may.2 seen) all;
      follows = λ opened. follows-moved opened state.jobs (to_phase number (Out from)) (moves-phase number (Out from));
      keeps = λ opened other k job behind stands owned there gone.
          let found_there = found-moved (to_phase number (Out from)) (moves-phase number (Out from)) k state.jobs job stands in
          let same = same-found (change_job number (Out from) state.jobs) k (to_phase number (Out from) job) behind found_there there in
          elim (phase-of number (Out from) k state.jobs job stands) [
            | inl here ↦ absurd (let phase : Out from ≡ Gone = ap (λ (j : Job). j.phase) (sym here.1 ∙ same) ∙ gone in cc)
            | inr apart ↦ ap (λ (j : Job). j.phase) (sym apart.1 ∙ same) ∙ gone
          ];
    }
event-keeps log start later now places state (Done number position said) alive may ties seen all = record {
  all = all-moved log start later now places (with_place places (Done number position said)) state.jobs (to_phase number Gone) (moves-phase number Gone) (done-advances log start later now places state.jobs state.positions number may.from position said may.job (is_counted said) all may.stands may.is_out seen may.behind may.is_new (λ counted. ties counted may.job may.stands)) all;
  follows = λ opened. follows-moved opened state.jobs (to_phase number Gone) (moves-phase number Gone);
  keeps = λ opened other k job behind stands owned there gone.
      let found_there = found-moved (to_phase number Gone) (moves-phase number Gone) k state.jobs job stands in
      let same = same-found (change_job number Gone state.jobs) k (to_phase number Gone job) behind found_there there in
      elim (phase-of number Gone k state.jobs job stands) [
        | inl here ↦ absurd (other number position said job refl (ap (λ (m : ℕ). job_at m state.jobs) (sym here.0) ∙ stands) owned)
        | inr apart ↦ ap (λ (j : Job). j.phase) (sym apart.1 ∙ same) ∙ gone
      ];
}

-- a turn is of a line or of a writer
one-turn : (turn : Turn) (line : Line) (who : Owner) (next : Next) (name : HandleName) (w : Writer) → turn ≡ TurnOf line who next → turn ≡ TurnOfWriter name w → ⊥
one-turn turn line who next name w one two = let both : TurnOf line who next ≡ TurnOfWriter name w = sym one ∙ two in absurd (cc)

-- where it is a line's turn, no writer's job has its answer
not-own : (state : ClientState) (event : Event) (line number position : ℕ) (said : Brief) (job : Job) → IsAlive state → MayCome state event → IsOpened state event → event ≡ Done number position said → job_at number state.jobs ≡ Some job → job.owner ≡ owner.Writer line → ⊥
not-own state event line number position said job alive may opened is stands owned =
    let may_done : MayDone state number position said = subst (MayCome state) is may in
    let same = same-found state.jobs number may_done.job job may_done.stands stands in
    let heard = hears-opens state number position line said alive may_done (ap (λ (j : Job). j.owner) same ∙ owned) in
    one-turn (turn_at state event) opened.line opened.who (next_now state event opened) heard.name (with_upload (hears_answer heard.called heard.said heard.before.upload) heard.before) opened.turn (ap (turn_at state) is ∙ heard.turn)

-- what the turn of a line accepts

pub turn-accepts : (state : ClientState) (step : Step) (opened : IsOpened state step.event) (next : Next) (line : ℕ) → next_now state step.event opened ≡ next → accepted_in line step (turn_at state step.event) ≡ accepted_in line step (TurnOf opened.line opened.who next)
turn-accepts state step opened next line is = ap (accepted_in line step) opened.turn ∙ ap (λ (x : Next). accepted_in line step (TurnOf opened.line opened.who x)) is

-- a write's bytes go behind those of the writer
record IsWritten (state : ClientState) (line : Line) (before w : Writer) : Type 0 where
  opened : before.upload.state ≡ Open
  now_is : w ≡ with_upload (with_bytes (content_in line.request) before.upload) before

is-written : (state : ClientState) (event : Event) (opened : IsOpened state event) (count : ℕ) (w : Writer) → next_now state event opened ≡ Writes count w → (so : WritesSo (view_of state.shared opened.line) opened.line.request count w) → IsWritten state opened.line so.before w
is-written state event opened count w is so = go (named-next (view_of state.shared opened.line) opened.line.request opened.heard so.name so.before so.names so.live)
  where
    go : NamedNext opened.line.number opened.line.request so.before (next_now state event opened) → IsWritten state opened.line so.before w
    go (FailsSo errno fails_so) = absurd (let both : Writes count w ≡ Replies (reply.Failed errno) = sym is ∙ fails_so in cc)
    go (WritesMore some is_open writes) = record { opened = is_open; now_is = let both : Writes count w ≡ Writes some (with_upload (with_bytes (content_in opened.line.request) so.before.upload) so.before) = sym is ∙ writes in cc }
    go (HasEnd who waits ends) = absurd (let both : Writes count w ≡ Ends (waited_for who (ends_as who so.before.upload) so.before) = sym is ∙ ends in cc)

writes-accepts : (step : Step) (line : Line) (who : Owner) (count some : ℕ) (w : Writer) (n : ℕ) → reply_in line.number step.replies ≡ Some (reply.Wrote some) → w.line ≡ n → accepted_in n step (TurnOf line who (Writes count w)) ≡ content_in line.request
writes-accepts step line who count some w n said same = let here : (w.line == n) ≡ true = eq-eqb w.line n same in rw (here, said) refl

writes-others : (step : Step) (line : Line) (who : Owner) (count : ℕ) (w : Writer) (n : ℕ) → w.line ≢ n → accepted_in n step (TurnOf line who (Writes count w)) ≡ []
writes-others step line who count w n apart = let differ : (w.line == n) ≡ false = ne_eqb w.line n apart in rw differ refl

module _ (log : List Logged) (start : ℕ) (later : ℕ → List ℕ → Type 0) (now : ℕ → List ℕ) (places : List Place) (state : ClientState) (step : Step) where
  -- a writer that has its turn

  pub record HasHand (name : HandleName) (w : Writer) (more : ℕ) (own : List Answered) : Type 0 where
    pub ready : IsReadyFor state step.event name w more
    pub takes : TakesTurnOfWriter state step w own
    pub hand : IsInHand log start later now (with_place places step.event) w.line w.key w.upload (jobs_at state.jobs step.event)
    pub stands : later w.line w.key
    pub others : (line : ℕ) → w.line ≢ line → StaysFor line state.jobs (jobs_at state.jobs step.event)
    pub quiet : (line : ℕ) → w.line ≢ line → accepted_in line step (turn_at state step.event) ≡ []

  -- behind its turn
  pub hand-behind : (name : HandleName) (w : Writer) (more : ℕ) (own : List Answered) → IsLegalHistory log → HasHand name w more own → IsInHand log start later now (with_place places step.event) w.line w.key (behind_step step w.upload) (fold drop_one (jobs_at state.jobs step.event ++ jobs_of_writer step w) step.drops)
  hand-behind name w more own legal_log has =
      let happens = writer-happens state step w own has.takes has.ready.same_length has.ready.in_turn has.ready.no_abort has.ready.not_open in
      turn-hand log start later now (with_place places step.event) state step w own (created-once log legal_log) has.stands has.takes happens has.ready.same_length has.ready.in_turn has.hand

  pub hand-others : (name : HandleName) (w : Writer) (more : ℕ) (own : List Answered) (line : ℕ) → HasHand name w more own → w.line ≢ line → StaysFor line state.jobs (fold drop_one (jobs_at state.jobs step.event ++ jobs_of_writer step w) step.drops)
  hand-others name w more own line has apart =
      stays-then line state.jobs (jobs_at state.jobs step.event) (fold drop_one (jobs_at state.jobs step.event ++ jobs_of_writer step w) step.drops) (has.others line apart) (turn-others line state step w own apart has.takes has.ready.same_length has.ready.in_turn.numbers)

-- in a step
module _ (log : List Logged) (start : ℕ) (stood later : ℕ → List ℕ → Type 0) (taken now : ℕ → List ℕ) (places : List Place) (state : ClientState) (step : Step) (b : IsBefore log start stood later taken now places state step) where
  pub all-now : AreAccounted log start later now places state.jobs
  all-now = all-later log start stood later taken now places state.jobs b.more
      (λ line number job named count stands owned calls. b.bytes line ∙ ap (λ (t : List ℕ). taken line ++ t) (whole-accepts state step line number job named count b.alive b.legal stands owned calls) ∙ append-nil (taken line))
      b.accounted.jobs

  pub event-now : KeepsEvent log start later now places state step.event
  event-now = event-keeps log start later now places state step.event b.alive b.legal.may_come b.ties b.accounted.seen (all-now)

  pub line-stays : (line : ℕ) → IsOpened state step.event → StaysFor line state.jobs (jobs_at state.jobs step.event)
  line-stays line opened =
      let event = event-now in
      record { follows = event.follows line; keeps = event.keeps line (λ number position said job is stands owned. not-own state step.event line number position said job b.alive b.legal.may_come opened is stands owned) }

  -- and where it is a writer's, none of another
  heard-stays : (line : ℕ) → (heard : IsHeard state step.event) → heard.before.line ≢ line → StaysFor line state.jobs (jobs_at state.jobs step.event)
  heard-stays line heard apart =
      let event = event-now in
      record {
        follows = event.follows line;
        keeps = event.keeps line (λ number position said job is stands owned.
            let both : Done heard.number heard.position heard.said ≡ Done number position said = sym heard.event_is ∙ is in
            let number_is : heard.number ≡ number = cc in
            let same = same-found state.jobs number heard.may.job job (ap (λ (m : ℕ). job_at m state.jobs) (sym number_is) ∙ heard.may.stands) stands in
            let owners : owner.Writer heard.before.line ≡ owner.Writer line = sym heard.owned ∙ ap (λ (j : Job). j.owner) same ∙ owned in
            apart (let e : heard.before.line ≡ line = cc in e));
      }

  -- one that hears an answer

  heard-fills : (heard : IsHeard state step.event) → IsFilled log (with_place places (Done heard.number heard.position heard.said)) (jobs_at state.jobs (Done heard.number heard.position heard.said)) heard.before.line heard.before.key (taken heard.before.line) (hears_answer heard.called heard.said heard.before.upload)
  heard-fills heard =
      let writer = b.alive.writers.each heard.name heard.before heard.stands in
      let all = b.accounted.jobs in
      let ties : TiesEvent start log state (Done heard.number heard.position heard.said) = subst (TiesEvent start log state) heard.event_is b.ties in
      let entry : is_counted heard.said ≡ true → HasEntry log heard.position heard.may.job.call heard.said = λ counted. ties counted heard.may.job heard.may.stands in
      let told_upload : (named : ℕ) (other : List ℕ) → heard.may.job.call ≡ call.Create other → heard.said ≡ answer.Upload named → HasEntry log heard.position (call.Create other) (answer.Upload named) = λ named other calls said.
      (let told = entry (ap is_counted said) in
      record { logged = told.logged; stands = told.stands; call = told.call ∙ calls; brief = told.brief ∙ said })
      in
      heard-filled log places (with_place places (Done heard.number heard.position heard.said)) state.jobs heard.before.line heard.before.key (taken heard.before.line) heard.before.upload heard.number heard.may.job heard.position heard.called heard.said (sym heard.called_is)
      (record {
        stands = heard.may.stands;
        owned = heard.owned;
        from = heard.may.from;
        is_out = heard.may.is_out;
        grows = event-grows places (Done heard.number heard.position heard.said);
        place = λ counted. done-place places heard.number heard.position heard.said counted;
        entry = entry;
        tells = λ named other calls said. tells-created log heard.position named other b.legal_log (told_upload named other calls said);
        gives = λ named other calls said. told_upload named other calls said;
        tallied = writer.tallied;
        pending = writer.pending;
        creates_once = (b.alive.writers.once heard.before.line).creates;
        creators = λ named other has. creator named other has;
        uploads = λ at some named stands owned names.
            let of = all.uploads at some named stands names in
            let owners : owner.Writer of.opened ≡ owner.Writer heard.before.line = sym of.owned ∙ owned in
            let same : of.opened ≡ heard.before.line = cc in
            (of.key, subst (λ (o : ℕ). HasCreated log places state.jobs o named of.key) same of.created);
      })
      (b.accounted.writers heard.name heard.before heard.stands)
    where
      creator : (named : ℕ) (other : List ℕ) → (has : HasCreated log places state.jobs heard.before.line named other) → (has.job.call ≡ call.Create other) × (has.job.phase ≡ Gone)
      creator named other has =
          let answered = b.accounted.jobs.answered has.number has.position has.place in
          let same = same-found state.jobs has.number answered.job has.job answered.stands has.stands in
          let both : Some answered.logged ≡ Some has.creates.logged = sym answered.entry ∙ has.creates.stands in
          let logged_is : answered.logged ≡ has.creates.logged = cc in (
            ap (λ (j : Job). j.call) (sym same) ∙ sym answered.calls ∙ ap (λ (l : Logged). l.entry.call) logged_is ∙ has.creates.calls,
            ap (λ (j : Job). j.phase) (sym same) ∙ answered.gone,
          )

  pub heard-hand : (own : List Answered) (heard : IsHeard state step.event) → TakesTurnOfWriter state step (heard_now state step.event heard) own → HasHand log start later now places state step heard.name (heard_now state step.event heard) 0 own
  heard-hand own heard takes =
      let event = event-now in
      let none : (line : ℕ) → accepted_in line step (turn_at state step.event) ≡ [] = λ line. ap (accepted_in line step) heard.turn in
      let same : now heard.before.line ≡ taken heard.before.line = b.bytes heard.before.line ∙ ap (λ (t : List ℕ). taken heard.before.line ++ t) (none heard.before.line) ∙ append-nil (taken heard.before.line) in
      let fills = heard-fills heard in
      record {
        ready = heard-ready state step.event b.alive heard;
        takes = takes;
        hand = record {
          all = event.all;
          filled = subst (λ (t : List ℕ). IsFilled log (with_place places step.event) (jobs_at state.jobs step.event) heard.before.line heard.before.key t (hears_answer heard.called heard.said heard.before.upload)) (sym same)
              (subst (λ (e : Event). IsFilled log (with_place places e) (jobs_at state.jobs e) heard.before.line heard.before.key (taken heard.before.line) (hears_answer heard.called heard.said heard.before.upload)) (sym heard.event_is) fills);
        };
        stands = b.stands heard.name heard.before heard.stands;
        others = λ line apart. heard-stays line heard apart;
        quiet = λ line apart. none line;
      }

  -- one that a line writes to, or has end

  -- what a writer holds stays through the event, where it is a line's turn
  opened-fills : (opened_line : ℕ) (key bytes : List ℕ) (u : Upload) → IsOpened state step.event → IsFilled log places state.jobs opened_line key bytes u → IsFilled log (with_place places step.event) (jobs_at state.jobs step.event) opened_line key bytes u
  opened-fills opened_line key bytes u opened filled =
      let stays = line-stays opened_line opened in
      filled-follows log places (with_place places step.event) state.jobs (jobs_at state.jobs step.event) opened_line key bytes u stays.follows (event-grows places step.event) (λ alive. stays.keeps) filled

  pub ends-hand : (own : List Answered) (opened : IsOpened state step.event) (w : Writer) → next_now state step.event opened ≡ Ends w → (so : EndsSo (view_of state.shared opened.line) opened.line.request w) → TakesTurnOfWriter state step w own → HasHand log start later now places state step (handle_name opened.line) w 0 own
  ends-hand own opened w is so takes =
      let event = event-now in
      let live : table.get state.shared.handles (handle_name opened.line) ≡ Some (Writing so.before) = sym (handle-at opened.line so.name state.shared.handles so.names) ∙ so.live in
      let none : (line : ℕ) → accepted_in line step (turn_at state step.event) ≡ [] = λ line. turn-accepts state step opened (Ends w) line is in
      let same : now so.before.line ≡ taken so.before.line = b.bytes so.before.line ∙ ap (λ (t : List ℕ). taken so.before.line ++ t) (none so.before.line) ∙ append-nil (taken so.before.line) in
      let filled = opened-fills so.before.line so.before.key (taken so.before.line) (ends_as so.who so.before.upload) opened
      (filled-same log places state.jobs so.before.line so.before.key (taken so.before.line) so.before.upload (ends_as so.who so.before.upload) (same-ends so.who so.before.upload) (b.accounted.writers (handle_name opened.line) so.before live)) in
      let line_is : w.line ≡ so.before.line = ap (λ (v : Writer). v.line) so.now_is in
      let key_is : w.key ≡ so.before.key = ap (λ (v : Writer). v.key) so.now_is in
      let upload_is : w.upload ≡ ends_as so.who so.before.upload = ap (λ (v : Writer). v.upload) so.now_is in
      record {
        ready = ends-ready state step.event opened w b.alive so;
        takes = takes;
        hand = record {
          all = event.all;
          filled = rw (line_is, key_is, upload_is, same) filled;
        };
        stands = rw (line_is, key_is) (b.stands (handle_name opened.line) so.before live);
        others = λ line apart. line-stays line opened;
        quiet = λ line apart. none line;
      }
    where
      same-ends : (who : Waiter) (u : Upload) → HoldsSame u (ends_as who u)
      same-ends (waiter.Close line) u = same-then u (ended u) (ends_as (waiter.Close line) u) (same-ended u) (same-closing (ended u))
      same-ends (waiter.Sync line) u = same-ended u
      same-ends waiter.Nobody u = same-ended u

  pub writes-hand : (own : List Answered) (opened : IsOpened state step.event) (count : ℕ) (w : Writer) → next_now state step.event opened ≡ Writes count w → (so : WritesSo (view_of state.shared opened.line) opened.line.request count w) → TakesTurnOfWriter state step w own → reply_in opened.line.number step.replies ≡ Some (reply.Wrote count) → HasHand log start later now places state step (handle_name opened.line) w (length so.bytes) own
  writes-hand own opened count w is so takes said =
      let event = event-now in
      let written = is-written state step.event opened count w is so in
      let live : table.get state.shared.handles (handle_name opened.line) ≡ Some (Writing so.before) = sym (handle-at opened.line so.name state.shared.handles so.names) ∙ so.live in
      let more : List ℕ = content_in opened.line.request in
      let line_is : w.line ≡ so.before.line = ap (λ (v : Writer). v.line) written.now_is in
      let key_is : w.key ≡ so.before.key = ap (λ (v : Writer). v.key) written.now_is in
      let upload_is : w.upload ≡ with_bytes more so.before.upload = ap (λ (v : Writer). v.upload) written.now_is in
      let same : now so.before.line ≡ taken so.before.line ++ more = b.bytes so.before.line ∙ ap (λ (t : List ℕ). taken so.before.line ++ t) (turn-accepts state step opened (Writes count w) so.before.line is ∙ writes-accepts step opened.line opened.who count count w so.before.line said line_is) in
      let filled = opened-fills so.before.line so.before.key (taken so.before.line ++ more) (with_bytes more so.before.upload) opened
      (filled-bytes log places state.jobs so.before.line so.before.key (taken so.before.line) more so.before.upload written.opened (b.accounted.writers (handle_name opened.line) so.before live)) in
      record {
        ready = writes-ready state step.event opened count w b.alive so;
        takes = takes;
        hand = record {
          all = event.all;
          filled = rw (line_is, key_is, upload_is, same) filled;
        };
        stands = rw (line_is, key_is) (b.stands (handle_name opened.line) so.before live);
        others = λ line apart. line-stays line opened;
        quiet = λ line apart. turn-accepts state step opened (Writes count w) line is ∙ writes-others step opened.line opened.who count w line apart;
      }
