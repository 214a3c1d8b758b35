-- Each legal step keeps what is accounted for.
use Rattle.std.proofs.Common.{◌≡◌, ◌≢◌, ℕ, ◌+◌, List, [], ◌∷◌, ◌++◌, fold, length, Bool, true, false, ◌&&◌, ◌==◌, if◌then◌else◌, Option, Some, None, inl, inr, refl, sym, ap, ◌∙◌, subst, arith, append-nil}
use Rattle.std.specs.FinMap as table
use Rattle.mp_types.specs.HandleName.{HandleName}
use Rattle.bucket_model.specs.Answers.{upload_in}
use Rattle.bucket_model.specs.declared.call.Call.{Call}
use Rattle.bucket_model.specs.declared.call.Call.TheVariants as call
use Rattle.bucket_model.specs.declared.history.Logged.{Logged}
use Rattle.mp_rules.specs.Local.{with_file}
use Rattle.upload_rules.specs.Upload.{Upload, written}
use Rattle.mount_model.specs.declared.handle.Handle.TheVariants.{Reading, Writing}
use Rattle.mount_model.specs.declared.handle.Waiter.{Waiter}
use Rattle.mount_model.specs.declared.handle.Waiter.TheVariants as waiter
use Rattle.mount_model.specs.declared.request.Reply.{Reply}
use Rattle.mount_model.specs.declared.request.Reply.TheVariants as reply
use Rattle.mount_model.specs.declared.request.Line.{Line}
use Rattle.mount_model.specs.declared.event.Event.{Event}
use Rattle.mount_model.specs.declared.event.Event.TheVariants.{Take, Done}
use Rattle.mount_model.specs.declared.event.Owner.{Owner}
use Rattle.mount_model.specs.declared.event.Owner.TheVariants as owner
use Rattle.mount_model.specs.declared.event.Answered.{Answered}
use Rattle.mount_model.specs.Step.{Step}
use Rattle.mount_model.specs.Handles.{Handle, Writer}
use Rattle.mount_model.specs.Conversation.{Next, Asks, Replies, Makes, Removes, Opens, Creates, Lists, Gives, Writes, Ends, Waits}
use Rattle.mount_model.specs.State.{Shared, ClientState, Job, job_at, jobs_at, view_of, handle_name, Turn, TurnOf, turn_at, behind_step, jobs_of_writer, jobs_of_line, jobs_after, with_names, writes_first, writer_left, is_answered, by_reply, reply_in, shared_after, after}
use Rattle.mount_model.specs.Run.{due_awaits}
use Rattle.mount_model.specs.Written.{accepted_in, content_in}
use Rattle.run_laws.specs.Alive.{IsAlive}
use Rattle.run_laws.specs.Counts.{any_call}
use Rattle.run_laws.specs.Served.{IsOfLine}
use Rattle.run_laws.proofs.Jobs.{made-one}
use Rattle.run_laws.proofs.Dropped.{drop_one}
use Rattle.run_laws.proofs.Handles.{Look, with_at, at-same, at-other, names}
use Rattle.run_laws.proofs.Writers.{writers-apart}
use Rattle.run_laws.proofs.Conversation.{writes-so, ends-so}
use Rattle.run_laws.proofs.Turn.{Ending, AsksOne, RepliesOne, WritesOn, EndsIt, Rests, SaysSo, ByItself, MakesDir, RemovesDir, OpensHandle, CreatesFile, ListsEntries, GivesData, HasNoMemory, line_job}
use Rattle.run_laws.proofs.Opened.{IsOpened}
use Rattle.run_laws.proofs.Left.{left_under, writer_with}
use Rattle.run_laws.proofs.Effects.{asks-shared, waits-shared, Effect, Keeps, OpensOne, CreatesOne, ClosesOne, reply-effect, not-replied, line-unmade}
use Rattle.run_laws.proofs.Steps.{next_now, heard_now, StepIs, LineStep, WriterStep, TakeStep, step-is}
use Rattle.run_laws.proofs.Alive.{quiet-jobs, asks-jobs, turn-look, lines_behind, jobs_behind, shared_behind, own-reply}
use Rattle.write_laws.specs.Accounted.{Place, with_place, AreAccounted, IsFilled, IsAccounted}
use Rattle.write_laws.proofs.Found.{found-none}
use Rattle.write_laws.proofs.Pushed.{Joins, all-pushed}
use Rattle.write_laws.proofs.Filled.{filled-follows, filled-new}
use Rattle.write_laws.proofs.Others.{StaysFor, stays-then, stays-pushed}
use Rattle.write_laws.proofs.Named.{asks-none}
use Rattle.write_laws.proofs.Accepted.{fresh-accepts, reply-stays}
use Rattle.write_laws.proofs.Turns.{IsBefore, HasHand, event-grows, event-placed, event-seen, event-now, line-stays, hand-behind, hand-others, heard-hand, ends-hand, writes-hand, turn-accepts}

-- all jobs, and the writers under these names
record IsBehindStep (log : List Logged) (start : ℕ) (later : ℕ → List ℕ → Type 0) (now : ℕ → List ℕ) (places : List Place) (jobs : List Job) (look : Look) : Type 0 where
  all : AreAccounted log start later now places jobs
  writers : (q : HandleName) (v : Writer) → look q ≡ Some (Writing v) → IsFilled log places jobs v.line v.key (now v.line) v.upload

-- what a writer's turn leaves
left-is : (answered : Bool) (who : Waiter) (w v : Writer) (u : Upload) → left_under answered who w u ≡ Some (Writing v) → (v.line ≡ w.line) × (v.key ≡ w.key) × (v.upload ≡ u)
left-is true (waiter.Close line) w v u is = absurd (cc)
left-is true (waiter.Sync line) w v u is = writer-is w v u waiter.Nobody (let e : writer_with w u waiter.Nobody ≡ v = cc in e)
  where
    writer-is : (w v : Writer) (u : Upload) (who : Waiter) → writer_with w u who ≡ v → (v.line ≡ w.line) × (v.key ≡ w.key) × (v.upload ≡ u)
    writer-is w v u who e = (ap (λ (x : Writer). x.line) (sym e), ap (λ (x : Writer). x.key) (sym e), ap (λ (x : Writer). x.upload) (sym e))
left-is true waiter.Nobody w v u is = (let e : writer_with w u waiter.Nobody ≡ v = cc in (ap (λ (x : Writer). x.line) (sym e), ap (λ (x : Writer). x.key) (sym e), ap (λ (x : Writer). x.upload) (sym e)))
left-is false who w v u is = (let e : writer_with w u who ≡ v = cc in (ap (λ (x : Writer). x.line) (sym e), ap (λ (x : Writer). x.key) (sym e), ap (λ (x : Writer). x.upload) (sym e)))

-- the turn of a line that writes nothing

-- no bytes are taken
replies-accepts : (step : Step) (line : Line) (who : Owner) (next : Next) (said : Reply) (n : ℕ) → SaysSo next said → reply_in line.number step.replies ≡ Some said → accepted_in n step (TurnOf line who next) ≡ []
replies-accepts step line who next said n (ByItself own) is = refl
replies-accepts step line who next said n (MakesDir key) is = refl
replies-accepts step line who next said n (RemovesDir key) is = refl
replies-accepts step line who next said n (OpensHandle version) is = refl
replies-accepts step line who next said n (CreatesFile key) is = refl
replies-accepts step line who next said n (ListsEntries entries) is = refl
replies-accepts step line who next said n (GivesData count bytes) is = refl
replies-accepts step line who next said n (HasNoMemory lacked may) is = go lacked
  where
    go : (lacked : Next) → accepted_in n step (TurnOf line who lacked) ≡ []
    go (Writes count w) = rw is (by_line (w.line == n))
      where
        by_line : (b : Bool) → (if b && false then content_in line.request else []) ≡ []
        by_line true = refl
        by_line false = refl
    go (Asks called) = refl
    go (Replies other) = refl
    go (Makes key) = refl
    go (Removes key) = refl
    go (Opens version) = refl
    go (Creates key) = refl
    go (Lists entries) = refl
    go (Gives count) = refl
    go (Ends w) = refl
    go Waits = refl

-- a job of a line's own fits
no-upload : (called other : Call) (named : ℕ) → upload_in called ≡ None → called ≡ other → upload_in other ≡ Some named → ⊥
no-upload called other named none same names = let both : None ≡ Some named = sym none ∙ ap upload_in same ∙ names in absurd (cc)

line-joins : (log : List Logged) (later : ℕ → List ℕ → Type 0) (now : ℕ → List ℕ) (places : List Place) (jobs : List Job) (number : ℕ) (who : Owner) (line : ℕ) (called : Call) → job_at number jobs ≡ None → upload_in called ≡ None → Joins log later now places jobs (line_job number who line called)
line-joins log later now places jobs number who line called unknown none = record {
  unknown = unknown;
  waits = λ from is. absurd (cc);
  uploads = λ named names. absurd (no-upload called called named none refl names);
  whole = λ named count calls. absurd (no-upload called (call.Complete named count) named none calls refl);
  part = λ named which some calls. absurd (no-upload called (call.Part named which some) named none calls refl);
  abort = λ named calls. absurd (no-upload called (call.Abort named) named none calls refl);
  complete = λ named count calls. absurd (no-upload called (call.Complete named count) named none calls refl);
}

line-owner : (who : Owner) (line : ℕ) → IsOfLine who → who ≢ owner.Writer line
line-owner who line of_line is = subst IsOfLine is of_line

unmade : (state : ClientState) (step : Step) (opened : IsOpened state step.event) → IsAlive state → (number : ℕ) (job : Job) → job_at number (jobs_at state.jobs step.event) ≡ Some job → job.owner ≡ owner.Writer opened.n → ⊥
unmade state step opened alive number job stands owned =
    let none = line-unmade state step.event alive opened in
    let one = made-one any_call number opened.n (jobs_at state.jobs step.event) job stands owned in
    omega arith

module _ (log : List Logged) (start : ℕ) (stood later : ℕ → List ℕ → Type 0) (taken now : ℕ → List ℕ) (places : List Place) (state : ClientState) (step : Step) (b : IsBefore log start stood later taken now places state step) where
  -- a writer that has no turn
  old-fills : (behind : List Job) (q : HandleName) (v : Writer) → table.get state.shared.handles q ≡ Some (Writing v) → StaysFor v.line state.jobs behind → accepted_in v.line step (turn_at state step.event) ≡ [] → IsFilled log (with_place places step.event) behind v.line v.key (now v.line) v.upload
  old-fills behind q v stands stays none =
      let same : now v.line ≡ taken v.line = b.bytes v.line ∙ ap (λ (t : List ℕ). taken v.line ++ t) none ∙ append-nil (taken v.line) in
      subst (λ (t : List ℕ). IsFilled log (with_place places step.event) behind v.line v.key t v.upload) (sym same)
      (filled-follows log places (with_place places step.event) state.jobs behind v.line v.key (taken v.line) v.upload stays.follows (event-grows places step.event) (λ alive. stays.keeps) (b.accounted.writers q v stands))

  -- the turn of a writer

  hand-stepped : (name : HandleName) (w : Writer) (more : ℕ) (own : List Answered) (shared : Shared) → shared.handles ≡ state.shared.handles → HasHand log start later now places state step name w more own → IsBehindStep log start later now (with_place places step.event) (fold drop_one (jobs_at state.jobs step.event ++ jobs_of_writer step w) step.drops) (table.get (writer_left name w step shared).handles)
  hand-stepped name w more own shared same has =
      let behind = hand-behind log start later now places state step name w more own b.legal_log has in
      record {
        all = behind.all;
        writers = λ q v stands. elim (names q name) [
          | inl here ↦ (let is = left-is (is_answered own) w.waiter w v final (sym (ap (with_at name left look) here ∙ at-same name left look) ∙ turn-look state step name w more own shared has.ready has.takes same q ∙ stands) in
              rw (is.0, is.1, is.2) behind.filled)
          | inr apart ↦ (let old : look q ≡ Some (Writing v) = sym (at-other name left look q apart) ∙ turn-look state step name w more own shared has.ready has.takes same q ∙ stands in
              let differ : w.line ≢ v.line = λ e. apart (writers-apart state.lines state.jobs q name v has.ready.before (b.alive.writers.each q v old) (b.alive.writers.each name has.ready.before has.ready.stands) (sym e ∙ has.ready.same_line)) in
              old-fills jobs q v old (hand-others log start later now places state step name w more own v.line has differ) (has.quiet v.line differ))
        ];
      }
    where
      look : Look
      look = table.get state.shared.handles

      final : Upload
      final = behind_step step w.upload

      jobs : List Job
      jobs = fold drop_one (jobs_at state.jobs step.event ++ jobs_of_writer step w) step.drops

      left : Option Handle
      left = left_under (is_answered own) w.waiter w final

  -- the turn of a line that writes nothing

  -- the line asks
  asks-stepped : (opened : IsOpened state step.event) (called : Call) → next_now state step.event opened ≡ Asks called → IsBehindStep log start later now (with_place places step.event) (jobs_at state.jobs step.event ++ line_job (length state.jobs + 1) opened.who opened.n called ∷ []) (table.get state.shared.handles)
  asks-stepped opened called next =
      let number : ℕ = length state.jobs + 1 in
      let jobs : List Job = jobs_at state.jobs step.event in
      let new : Job = line_job number opened.who opened.n called in
      let event = event-now log start stood later taken now places state step b in
      let none = asks-none (view_of state.shared opened.line) opened.line.request opened.heard called next in
      let same_length = opened.same_length in
      let unknown : job_at number jobs ≡ None = found-none 1 number jobs opened.now.numbered (omega arith) in
      record {
        all = all-pushed log start later now (with_place places step.event) jobs new (line-joins log later now (with_place places step.event) jobs number opened.who opened.n called unknown none) event.all;
        writers = λ q v stands. old-fills (jobs ++ new ∷ []) q v stands
            (stays-then v.line state.jobs jobs (jobs ++ new ∷ []) (line-stays log start stood later taken now places state step b v.line opened) (stays-pushed v.line jobs new (line-owner opened.who v.line opened.of_line)))
            (turn-accepts state step opened (Asks called) v.line next);
      }

  -- the line waits for others
  rests-stepped : (opened : IsOpened state step.event) → next_now state step.event opened ≡ Waits → IsBehindStep log start later now (with_place places step.event) (jobs_at state.jobs step.event) (table.get state.shared.handles)
  rests-stepped opened next = record {
    all = (event-now log start stood later taken now places state step b).all;
    writers = λ q v stands. old-fills (jobs_at state.jobs step.event) q v stands (line-stays log start stood later taken now places state step b v.line opened) (turn-accepts state step opened Waits v.line next);
  }

  -- the line is answered

  -- a line without a reply has no writer so far
  unwritten : (opened : IsOpened state step.event) → accepted_in opened.n step (turn_at state step.event) ≡ [] → now opened.n ≡ []
  unwritten opened none = elim (b.accounted.fresh opened.n) [
    | inl fresh ↦ b.bytes opened.n ∙ ap (λ (t : List ℕ). t ++ accepted_in opened.n step (turn_at state step.event)) fresh ∙ none
    | inr replied ↦ absurd (not-replied state step.event opened replied.line replied.stands)
  ]

  replies-stepped : (opened : IsOpened state step.event) (said : Reply) → SaysSo (next_now state step.event opened) said → reply_in opened.line.number step.replies ≡ Some said → IsBehindStep log start later now (with_place places step.event) (jobs_at state.jobs step.event) (table.get (by_reply (next_now state step.event opened) opened.line step state.shared (Some said)).handles)
  replies-stepped opened said says told = record {
    all = (event-now log start stood later taken now places state step b).all;
    writers = λ q v stands. go (reply-effect (next_now state step.event opened) said opened.line step state.shared says) q v stands;
  }
    where
      shared : Shared
      shared = by_reply (next_now state step.event opened) opened.line step state.shared (Some said)

      look : Look
      look = table.get state.shared.handles

      none : (n : ℕ) → accepted_in n step (turn_at state step.event) ≡ []
      none n = turn-accepts state step opened (next_now state step.event opened) n refl ∙ replies-accepts step opened.line opened.who (next_now state step.event opened) said n says told

      old : (q : HandleName) (v : Writer) → look q ≡ Some (Writing v) → IsFilled log (with_place places step.event) (jobs_at state.jobs step.event) v.line v.key (now v.line) v.upload
      old q v stands = old-fills (jobs_at state.jobs step.event) q v stands (line-stays log start stood later taken now places state step b v.line opened) (none v.line)

      by : (o : Option Handle) → ((q : HandleName) → table.get shared.handles q ≡ with_at (handle_name opened.line) o look q) → ((v : Writer) → o ≡ Some (Writing v) → IsFilled log (with_place places step.event) (jobs_at state.jobs step.event) v.line v.key (now v.line) v.upload) → (q : HandleName) (v : Writer) → table.get shared.handles q ≡ Some (Writing v) → IsFilled log (with_place places step.event) (jobs_at state.jobs step.event) v.line v.key (now v.line) v.upload
      by o same new q v stands = elim (names q (handle_name opened.line)) [
        | inl here ↦ new v (sym (same q ∙ ap (with_at (handle_name opened.line) o look) here ∙ at-same (handle_name opened.line) o look) ∙ stands)
        | inr apart ↦ old q v (sym (same q ∙ at-other (handle_name opened.line) o look q apart) ∙ stands)
      ]

      created : (key : List ℕ) (v : Writer) → Some (Writing (writes_first opened.line key state.shared)) ≡ Some (Writing v) → IsFilled log (with_place places step.event) (jobs_at state.jobs step.event) v.line v.key (now v.line) v.upload
      created key v is =
          let first : Writer = writes_first opened.line key state.shared in
          let same : first ≡ v = cc in
          subst (λ (x : Writer). IsFilled log (with_place places step.event) (jobs_at state.jobs step.event) x.line x.key (now x.line) x.upload) same
          (filled-new log (with_place places step.event) (jobs_at state.jobs step.event) opened.line.number state.shared.options.part key (now opened.line.number)
          (ap now opened.number_is ∙ unwritten opened (none opened.n))
          (λ number job there owned. unmade state step opened b.alive number job there (owned ∙ ap owner.Writer opened.number_is)))

      go : Effect state.shared opened.line (next_now state step.event opened) shared → (q : HandleName) (v : Writer) → table.get shared.handles q ≡ Some (Writing v) → IsFilled log (with_place places step.event) (jobs_at state.jobs step.event) v.line v.key (now v.line) v.upload
      go (Keeps same) q v stands = old q v (same q ∙ stands)
      go (OpensOne version next same) q v stands = by (Some (Reading opened.line.number version)) same (λ w is. absurd (cc)) q v stands
      go (ClosesOne other next awaits same) q v stands = by None same (λ w is. absurd (cc)) q v stands
      go (CreatesOne key next same) q v stands = by (Some (Writing (writes_first opened.line key state.shared))) same (created key) q v stands

  -- each kind of step

  step-behind : IsBehindStep log start later now (with_place places step.event) (jobs_behind state step) (table.get (shared_behind state step).handles)
  step-behind = go (step-is state step b.alive b.legal)
    where
      by : (jobs : List Job) (shared : Shared) → jobs_behind state step ≡ jobs → shared_behind state step ≡ shared → IsBehindStep log start later now (with_place places step.event) jobs (table.get shared.handles) → IsBehindStep log start later now (with_place places step.event) (jobs_behind state step) (table.get (shared_behind state step).handles)
      by jobs shared jobs_are shared_is is =
          subst (λ (t : List Job). IsBehindStep log start later now (with_place places step.event) t (table.get (shared_behind state step).handles)) (sym jobs_are)
          (subst (λ (t : Shared). IsBehindStep log start later now (with_place places step.event) jobs (table.get t.handles)) (sym shared_is) is)

      line_step : (opened : IsOpened state step.event) → Ending state step opened.line opened.who (next_now state step.event opened) b.legal.own → IsBehindStep log start later now (with_place places step.event) (jobs_behind state step) (table.get (shared_behind state step).handles)
      line_step opened ended = by_ending ended
        where
          next : Next
          next = next_now state step.event opened

          more : List Answered
          more = due_awaits (lines_behind state step b.legal.own)

          shared-is : shared_behind state step ≡ by_reply next opened.line step state.shared (reply_in opened.line.number step.replies)
          shared-is = ap (λ (t : Turn). shared_after t step state.shared) opened.turn

          next-shared : (x : Next) → next ≡ x → shared_behind state step ≡ by_reply x opened.line step state.shared (reply_in opened.line.number step.replies)
          next-shared x is = shared-is ∙ ap (λ (n : Next). by_reply n opened.line step state.shared (reply_in opened.line.number step.replies)) is

          by_ending : Ending state step opened.line opened.who next b.legal.own → IsBehindStep log start later now (with_place places step.event) (jobs_behind state step) (table.get (shared_behind state step).handles)
          by_ending (AsksOne called is asks none no_drops) = by _ state.shared (asks-jobs state step opened called is asks no_drops) (next-shared (Asks called) is ∙ asks-shared called opened.line step state.shared (reply_in opened.line.number step.replies)) (asks-stepped opened called is)
          by_ending (RepliesOne said says no_asks one no_drops) =
              let told = own-reply opened.line.number step said b.legal.own more [] b.legal.replies one in
              by (jobs_at state.jobs step.event) (by_reply next opened.line step state.shared (Some said)) (quiet-jobs state step opened no_asks no_drops) (shared-is ∙ ap (by_reply next opened.line step state.shared) told) (replies-stepped opened said says told)
          by_ending (WritesOn count w answers is takes one) =
              let told = own-reply opened.line.number step (reply.Wrote count) b.legal.own more answers b.legal.replies one in
              let so = writes-so (view_of state.shared opened.line) opened.line.request opened.heard count w is in
              let shared : Shared = with_names (with_file w.key (written w.upload) state.shared.names) state.shared in
              by (fold drop_one (jobs_at state.jobs step.event ++ jobs_of_writer step w) step.drops) (writer_left (handle_name opened.line) w step shared)
              (ap (jobs_after state.jobs step) opened.turn ∙ ap (λ (x : Next). fold drop_one (jobs_at state.jobs step.event ++ jobs_of_line step opened.line x) step.drops) is)
              (next-shared (Writes count w) is ∙ ap (by_reply (Writes count w) opened.line step state.shared) told)
              (hand-stepped (handle_name opened.line) w (length so.bytes) answers shared refl (writes-hand log start stood later taken now places state step b answers opened count w is so takes told))
          by_ending (EndsIt w is takes) =
              let so = ends-so (view_of state.shared opened.line) opened.line.request opened.heard w is in
              by (fold drop_one (jobs_at state.jobs step.event ++ jobs_of_writer step w) step.drops) (writer_left (handle_name opened.line) w step state.shared)
              (ap (jobs_after state.jobs step) opened.turn ∙ ap (λ (x : Next). fold drop_one (jobs_at state.jobs step.event ++ jobs_of_line step opened.line x) step.drops) is)
              (next-shared (Ends w) is)
              (hand-stepped (handle_name opened.line) w 0 b.legal.own state.shared refl (ends-hand log start stood later taken now places state step b b.legal.own opened w is so takes))
          by_ending (Rests is no_asks none no_drops) = by (jobs_at state.jobs step.event) state.shared (quiet-jobs state step opened no_asks no_drops) (next-shared Waits is ∙ waits-shared opened.line step state.shared (reply_in opened.line.number step.replies)) (rests-stepped opened is)

      go : StepIs state step b.legal.own → IsBehindStep log start later now (with_place places step.event) (jobs_behind state step) (table.get (shared_behind state step).handles)
      go (LineStep opened ended) = line_step opened ended
      go (WriterStep heard takes) =
          let w : Writer = heard_now state step.event heard in
          by (fold drop_one (jobs_at state.jobs step.event ++ jobs_of_writer step w) step.drops) (writer_left heard.name w step state.shared)
          (ap (jobs_after state.jobs step) heard.turn)
          (ap (λ (t : Turn). shared_after t step state.shared) heard.turn)
          (hand-stepped heard.name w 0 b.legal.own state.shared refl (heard-hand log start stood later taken now places state step b b.legal.own heard takes))
      go (TakeStep number time from is found no_asks no_own no_drops) =
          let event = event-now log start stood later taken now places state step b in
          by (jobs_at state.jobs step.event) state.shared
          (ap (λ (e : Event). jobs_after state.jobs step (turn_at state e)) is ∙ ap (fold drop_one (jobs_at state.jobs step.event ++ [])) no_drops ∙ append-nil (jobs_at state.jobs step.event))
          (ap (λ (e : Event). shared_after (turn_at state e) step state.shared) is)
          (record {
            all = event.all;
            writers = λ q v stands. old-fills (jobs_at state.jobs step.event) q v stands
                (record { follows = event.follows v.line; keeps = event.keeps v.line (λ k position said job done there owned. let both : Take number time from ≡ Done k position said = sym is ∙ done in absurd (cc)) })
                (ap (λ (e : Event). accepted_in v.line step (turn_at state e)) is);
          })

  -- a step keeps all
  pub step-accounted : IsAccounted log start later now (with_place places step.event) (after state step)
  step-accounted =
      let behind = step-behind in
      record {
        jobs = behind.all;
        placed = event-placed places state.positions step.event b.accounted.placed;
        seen = event-seen places state.positions step.event b.accounted.seen;
        fresh = λ n. elim (b.accounted.fresh n) [
          | inr replied ↦ inr (reply-stays state step n b.alive b.legal replied)
          | inl none ↦ elim (fresh-accepts state step n b.alive b.legal) [
            | inl no_more ↦ inl (b.bytes n ∙ ap (λ (t : List ℕ). t ++ accepted_in n step (turn_at state step.event)) none ∙ no_more)
            | inr replied ↦ inr (reply-stays state step n b.alive b.legal replied)
          ]
        ];
        writers = behind.writers;
      }
