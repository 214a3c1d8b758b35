-- What is told as written is there: the object was made, and all later calls are taken behind it.
use Rattle.std.proofs.Common.{◌≡◌, ℕ, suc, ◌+◌, List, [], ◌∷◌, ◌++◌, length, slice_get, Bool, true, false, if◌then◌else◌, Option, Some, refl, sym, ap, ◌∙◌, subst, arith, take, ◌<◌}
use Rattle.std.proofs.lemmas.Grind.{fold-append}
use Rattle.std.specs.List.{Contains, AllByRecursion}
use Rattle.mp_types.specs.declared.options.Opts.{Opts}
use Rattle.bucket_model.specs.Along.{Along}
use Rattle.bucket_model.specs.declared.call.Call.TheVariants as call
use Rattle.bucket_model.specs.declared.history.Name.{Name}
use Rattle.bucket_model.specs.declared.history.Name.TheVariants as name
use Rattle.bucket_model.specs.declared.history.Logged.{Logged}
use Rattle.bucket_model.specs.Answers.{is_counted}
use Rattle.bucket_model.specs.Bucket.{version_made, version_named}
use Rattle.bucket_model.specs.History.{IsLegalHistory, replay}
use Rattle.upload_history.specs.Entries.{HasCall, whole_from}
use Rattle.upload_history.proofs.Laws.{version_told}
use Rattle.upload_rules.specs.Run.{joined}
use Rattle.mount_model.specs.declared.handle.Handle.TheVariants.{Writing}
use Rattle.mount_model.specs.declared.request.Reply.TheVariants as reply
use Rattle.mount_model.specs.declared.request.Line.{Line}
use Rattle.mount_model.specs.declared.event.Event.{Event}
use Rattle.mount_model.specs.declared.event.Event.TheVariants as event
use Rattle.mount_model.specs.declared.event.Owner.TheVariants as owner
use Rattle.mount_model.specs.Step.{Step}
use Rattle.mount_model.specs.Handles.{Writer, handle_of}
use Rattle.mount_model.specs.State.{ClientState, Job, positions_after, reply_in, after, state_after}
use Rattle.mount_model.specs.Run.{AreRising, is_among, MayCome, IsLegalStep}
use Rattle.mount_model.specs.Written.{HasStood, IsCompletion, IsMadeAt, IsTakenBehind, IsThere, accepted}
use Rattle.run_laws.proofs.Lines.{lines_of_run}
use Rattle.write_laws.specs.Accounted.{Place, StandsAt, with_place, HasCreated, HasMade, IsWholeJob, AreAccounted, taken_in}
use Rattle.write_laws.proofs.Filled.{Grows}
use Rattle.write_laws.proofs.Events.{among-below}
use Rattle.write_laws.proofs.Accepted.{created-once, among-push}
use Rattle.write_laws.proofs.Turns.{hand-behind}
use Rattle.write_laws.proofs.Stepped.{step-accounted}
use Rattle.write_laws.proofs.Run.{Ties, places_behind, places-grow, IsSound, before-step}
use Rattle.write_laws.proofs.Whole.{IsEnd, HasCompleted, placed-job, completed-job, completed-parts, completed-makes, logged-same}
use Rattle.write_laws.proofs.Success.{success-hand}

-- later calls are taken behind

taken-behind : (state : ClientState) (e : Event) (drops : List ℕ) (position : ℕ) → is_among position state.positions ≡ true → MayCome state e → IsTakenBehind position e
taken-behind state (event.Begin line time) drops position among may = tt
taken-behind state (event.Take job time from) drops position among may = among-below position from state.positions may.2 among
taken-behind state (event.Done job at said) drops position among may = tt

among-after : (positions : List ℕ) (e : Event) (position : ℕ) → is_among position positions ≡ true → is_among position (positions_after positions e) ≡ true
among-after positions (event.Begin line time) position among = among
among-after positions (event.Take job time from) position among = among
among-after positions (event.Done job at said) position among = go (is_counted said)
  where
    go : (b : Bool) → is_among position (if b then positions ++ at ∷ [] else positions) ≡ true
    go true = among-push position at positions among
    go false = among

all-behind : (state : ClientState) (steps : List Step) (position : ℕ) → is_among position state.positions ≡ true → Along IsLegalStep after state steps → AllByRecursion (λ (s : Step). IsTakenBehind position s.event) steps
all-behind state [] position among run = tt
all-behind state (step ∷ steps) position among run = (taken-behind state step.event step.drops position among run.0.may_come, all-behind (after state step) steps position (among-after state.positions step.event position among) run.1)

-- lists with the same items at each place

lists-same : (xs ys : List (List ℕ)) → length xs ≡ length ys → ((index : ℕ) (some : List ℕ) → slice_get xs index ≡ Some some → slice_get ys index ≡ Some some) → xs ≡ ys
lists-same [] [] count each = refl
lists-same [] (y ∷ ys) count each = absurd (omega arith)
lists-same (x ∷ xs) [] count each = absurd (omega arith)
lists-same (x ∷ xs) (y ∷ ys) count each =
    let here : Some y ≡ Some x = each 0 x refl in
    let same : x ≡ y = cc in
    let more = lists-same xs ys (omega arith) (λ index some listed. each (suc index) some listed) in
    cc

-- the object stands there

-- an upload is for one key
one-key : (log : List Logged) (places others : List Place) (jobs behind : List Job) (first second upload : ℕ) (key some : List ℕ) → IsLegalHistory log → HasCreated log places jobs first upload key → HasCreated log others behind second upload some → key ≡ some
one-key log places others jobs behind first second upload key some legal one two =
    let position_is : one.position ≡ two.position = created-once log legal one.position two.position upload key some one.creates two.creates in
    let logged_is : one.creates.logged ≡ two.creates.logged = logged-same log two.position one.creates.logged two.creates.logged (ap (slice_get log) (sym position_is) ∙ one.creates.stands) two.creates.stands in
    let calls : call.Create key ≡ call.Create some = sym one.creates.calls ∙ ap (λ (l : Logged). l.entry.call) logged_is ∙ two.creates.calls in
    cc

module _ (log : List Logged) (start : ℕ) (options : Opts) (script : List Line) (steps : List Step) (places : List Place) (end : IsEnd log start options script steps places) where
  -- a completion has the parts that were stored before it, as they were known when it was asked for
  parts-same : (stood : ℕ → List ℕ → Type 0) (taken : ℕ → List ℕ) (earlier : List Place) (jobs : List Job) (position upload count at : ℕ) (job : Job) (first : IsWholeJob log stood taken earlier jobs upload count at job) (has : HasCompleted log start options script steps places position upload count) → StandsAt at position earlier → first.parts ≡ has.is.parts
  parts-same stood taken earlier jobs position upload count at job first has place =
      let parts = completed-parts log start options script steps places end position upload count has in
      let created_is : first.created.position ≡ has.is.created.position = created-once log end.legal first.created.position has.is.created.position upload first.key has.is.key first.created.creates has.is.created.creates in
      lists-same first.parts has.is.parts (sym first.count_is ∙ has.is.count_is) (λ index some listed.
      let stored = first.each index some listed in
      let less : first.created.position < stored.position = stored.behind_first in
      let numbered = parts.only stored.position (index + 1) some (omega (arith, created_is, less)) (stored.before_last.done position place) (record { logged = stored.entry.logged; stands = stored.entry.stands; calls = stored.entry.call }) in
      let index_is : numbered.index ≡ index = omega (arith, numbered.number_is) in
      subst (λ (i : ℕ). slice_get has.is.parts i ≡ Some some) index_is numbered.listed)

  told-made : (stood : ℕ → List ℕ → Type 0) (taken : ℕ → List ℕ) (earlier : List Place) (jobs : List Job) (opened : ℕ) (key : List ℕ) (made : HasMade log earlier jobs opened key) (first : IsWholeJob log stood taken earlier jobs made.upload made.count made.at made.job) (has : HasCompleted log start options script steps places made.position made.upload made.count) → IsMadeAt log made.position key (taken opened)
  told-made stood taken earlier jobs opened key made first has =
      let tells : made.entry.logged.made ≡ Some (name.Version made.etag) = version_told log made.position made.upload made.count made.etag made.entry.logged end.legal made.entry.stands made.entry.call made.entry.brief in
      let parts_are : first.parts ≡ has.is.parts = parts-same stood taken earlier jobs made.position made.upload made.count made.at made.job first has made.place in
      let owners : owner.Writer first.opened ≡ owner.Writer opened = sym first.owned ∙ made.owned in
      let opened_is : first.opened ≡ opened = cc in
      let bytes_are : joined has.is.parts ≡ taken opened = ap joined (sym parts_are) ∙ first.bytes ∙ ap taken opened_is in
      let key_is : has.is.key ≡ key = one-key log places earlier (state_after options script steps).jobs jobs has.is.opened opened made.upload has.is.key key end.legal has.is.created made.created in
      let makes : version_made (replay (take made.position log)) made.entry.logged ≡ version_named made.entry.logged.made (whole_from has.is.key has.is.parts) = completed-makes log start options script steps places end made.position made.upload made.count made.entry.logged has made.entry.stands made.entry.call in
      record {
        logged = made.entry.logged;
        stands = made.entry.stands;
        completes = subst IsCompletion (sym made.entry.call) tt;
        etag = made.etag;
        makes = makes ∙ named-as made.entry.logged.made made.etag has.is.key key (joined has.is.parts) (taken opened) tells key_is bytes_are;
      }
    where
      named-as : (made : Option Name) (etag key other bytes some : List ℕ) → made ≡ Some (name.Version etag) → key ≡ other → bytes ≡ some → version_named made (record { key = key; bytes = bytes }) ≡ Some (record { key = other; etag = etag; bytes = some })
      named-as made etag key other bytes some tells keys contents = rw (tells, keys, contents) refl

  -- where the writer was told so in an earlier step
  pub told-there : (stood : ℕ → List ℕ → Type 0) (taken : ℕ → List ℕ) (earlier : List Place) (jobs : List Job) (opened : ℕ) (key : List ℕ) (made : HasMade log earlier jobs opened key) → AreAccounted log start stood taken earlier jobs → Grows earlier places → IsMadeAt log made.position key (taken opened)
  told-there stood taken earlier jobs opened key made all grows =
      let entry : HasCall log made.position (call.Complete made.upload made.count) = record { logged = made.entry.logged; stands = made.entry.stands; calls = made.entry.call } in
      let of = placed-job log start (HasStood options script steps) (taken_in options script steps) places (state_after options script steps).jobs made.at made.position (call.Complete made.upload made.count) end.sound.accounted.jobs (grows made.at made.position made.place) entry in
      told-made stood taken earlier jobs opened key made (all.whole made.at made.job made.upload made.count made.stands made.calls) (completed-job log start options script steps places end made.position made.upload made.count of)

-- a writer that is told so in a step of the run
module _ (log : List Logged) (start : ℕ) (options : Opts) (script : List Line) (before later : List Step) (step : Step) (line : Line) (writer : Writer) where
  -- the steps up to this one, and the places before it
  up_to : List Step
  up_to = before ++ step ∷ []

  places : List Place
  places = places_behind [] before

  stands-there : (position opened : ℕ) (key : List ℕ) → opened ≡ writer.line → key ≡ writer.key → IsMadeAt log position key (accepted opened options script (before ++ step ∷ [])) → is_among position (after (state_after options script before) step).positions ≡ true → Along IsLegalStep after (after (state_after options script before) step) later → IsThere options script log before later step writer
  stands-there position opened key line_is key_is made among run = record {
    position = position;
    made = subst (λ (k : List ℕ). IsMadeAt log position k (accepted writer.line options script (before ++ step ∷ []))) key_is (subst (λ (n : ℕ). IsMadeAt log position key (accepted n options script (before ++ step ∷ []))) line_is made);
    behind = all-behind (after (state_after options script before) step) later position among run;
  }

  pub object-there : IsEnd log start options script (before ++ step ∷ later) (places_behind [] (before ++ step ∷ later)) → AreRising 0 script → IsSound log start options script (places_behind [] before) before → Along IsLegalStep after (state_after options script before) (step ∷ later) → Ties start log (state_after options script before) step → Contains script line → reply_in line.number step.replies ≡ Some reply.Success → handle_of line (state_after options script before).shared.handles ≡ Some (Writing writer) → IsThere options script log before later step writer
  unfolding up_to places
  object-there end rising sound run ties contains told live =
      let state : ClientState = state_after options script before in
      let b = before-step log start options script before step places end.legal sound.alive run.0 ties sound.accounted in
      let success = success-hand log start (HasStood options script before) (HasStood options script up_to) (taken_in options script before) (taken_in options script up_to) places state step b script line writer rising (lines_of_run options script before) contains told live in
      let hand = hand-behind log start (HasStood options script up_to) (taken_in options script up_to) places state step success.name success.w success.more success.own end.legal success.has in
      let made = hand.filled.made success.done in
      let places_are : places_behind [] (before ++ step ∷ later) ≡ places_behind (with_place places step.event) later = fold-append (λ (all : List Place) (s : Step). with_place all s.event) [] before (step ∷ later) in
      let grows : Grows (with_place places step.event) (places_behind [] (before ++ step ∷ later)) = λ number position place. subst (StandsAt number position) (sym places_are) (places-grow (with_place places step.event) later number position place) in
      let stepped = step-accounted log start (HasStood options script before) (HasStood options script up_to) (taken_in options script before) (taken_in options script up_to) places state step b in
      let there = told-there log start options script (before ++ step ∷ later) (places_behind [] (before ++ step ∷ later)) end (HasStood options script up_to) (taken_in options script up_to) (with_place places step.event) _ success.w.line success.w.key made hand.all grows in
      stands-there made.position success.w.line success.w.key success.line_is success.key_is there (stepped.seen made.at made.position made.place) run.1
