-- How the turns end in which a writer has its own.
use Rattle.std.proofs.Common.{◌≡◌, ℕ, ◌+◌, List, [], ◌∷◌, ◌++◌, length, Bool, Option, Some, None, refl, sym, ap, ◌∙◌, subst, arith, append_assoc, length-append}
use Rattle.std.specs.List.{AllByRecursion}
use Rattle.std.specs.FinMap.{get}
use Rattle.std.proofs.lemmas.List.Sums.{fold-append}
use Rattle.bucket_model.specs.declared.call.Call.{Call}
use Rattle.bucket_model.specs.declared.call.Call.TheVariants as call
use Rattle.mp_rules.specs.declared.facts.Question.TheVariants as question
use Rattle.bucket_model.specs.declared.answer.Brief.{Brief}
use Rattle.mp_types.specs.HandleName.{HandleName}
use Rattle.upload_rules.specs.Upload.{Upload}
use Rattle.mount_model.specs.declared.handle.Handle.TheVariants.{Writing}
use Rattle.mount_model.specs.declared.handle.Waiter.{Waiter}
use Rattle.mount_model.specs.declared.handle.Waiter.TheVariants as waiter
use Rattle.mount_model.specs.declared.request.Request.{Request}
use Rattle.mount_model.specs.declared.event.Ask.{Ask}
use Rattle.mount_model.specs.declared.event.Answered.{Answered}
use Rattle.mount_model.specs.declared.event.Owner.{Owner}
use Rattle.mount_model.specs.declared.event.Owner.TheVariants as owner
use Rattle.mount_model.specs.declared.standing.Heard.{Heard}
use Rattle.mount_model.specs.declared.standing.Standing.{Standing}
use Rattle.mount_model.specs.declared.standing.Told.{Told}
use Rattle.mount_model.specs.Step.{Step, change_last, HasStep}
use Rattle.mount_model.specs.Reads.{GivesOnly}
use Rattle.mount_model.specs.Handles.{Writer, handle_of}
use Rattle.mount_model.specs.Writers.{Asking, answer_to, hears_answer, is_under_way}
use Rattle.mount_model.specs.Conversation.{View, Ends, close_next, next_of, sync_next, with_upload}
use Rattle.mount_model.specs.State.{ClientState, Shared, Job, Gone, Turn, TurnOf, TurnOfWriter, askings_of, calls_of, change_job, change_line, handle_name, holds, jobs_asked, jobs_at, jobs_made, jobs_of_writer, line_at, shared_after, turn_of_handle, turn_of_writer, view_of, with_answered, with_replies, writer_behind, writer_left}
use Rattle.mount_model.specs.Run.{TakesTurn, TakesTurnOfWriter, numbered}
use Rattle.mount_plan.specs.Meant.{with_last}
use Rattle.run_laws.proofs.Jobs.{length-change_job}
use Rattle.run_laws.proofs.Keyed.{all-append}
use Rattle.run_laws.proofs.Left.{AnswerIs, NoAnswer, OneAnswer, answer-is}
use Rattle.line_table.specs.Table.{HasBegun}
use Rattle.line_table.proofs.Kept.{change_line-same}
use Rattle.job_table.specs.LiveJobs.{LiveJobs, purpose_of}
use Rattle.job_table.specs.declared.purpose.Purpose.{Purpose}
use Rattle.job_table.specs.declared.purpose.Purpose.TheVariants as purpose
use Rattle.run_laws.specs.Writers.{waiting_line}
use Rattle.run_laws.proofs.Places.{is-ended, pending-hears}
use Rattle.file_handles.specs.Writing.{waits}
use Rattle.core_writes.specs.Turn.{IsTurn}
use Rattle.mount_core.specs.declared.work.Work.{Work}
use Rattle.mount_core.specs.Due.{is_waiting}
use Rattle.mount_core.specs.Shared.{shared_in}
use Rattle.mount_core.specs.Turn.{AreAll, HasWriter, Holds, MayTurn, SharedAlone, Takes, WriterTurned, gone_with, heard_last, lines_behind, next_behind, owner_behind, turn_behind, with_part}
use Rattle.mount_core.specs.Writing.{MayHear, WaitsFor}
use Rattle.mount_core.proofs.Dues.{next-seen, number-is, turn-is}
use Rattle.mount_core.proofs.Steps.{steps-behind, with_part-none}
use Rattle.mount_core.proofs.Turns.{plain-gives}
use Rattle.mount_core.proofs.Writers.{behind-options, has_writer, left-shared, named-holds}

-- a writer's turn is one that a step may have
pub turn_takes : (state : ClientState) (step : Step) (w : Writer) (u : Upload) (jobs : LiveJobs) (own : List Answered) → length (jobs_at state.jobs step.event) ≡ length state.jobs → IsTurn w (jobs_at state.jobs step.event) step u jobs own → TakesTurnOfWriter state step w own
turn_takes state step w u jobs own same is = record {
  asks = is.asks ∙ ap (λ (k : ℕ). numbered (k + 1) (owner.Writer w.line) (askings_of step w)) same;
  drops = is.drops;
  gives_up = is.gives_up;
  answers = is.answers ∙ ap (answer_to w.waiter) is.left;
}

-- each ask makes a job
length-made : (line job : ℕ) (who : Owner) (askings : List Asking) → length (jobs_made line (numbered job who askings) (calls_of askings)) ≡ length (numbered job who askings)
length-made line job who [] = refl
length-made line job who (asking ∷ askings) = let more = length-made line (job + 1) who askings in omega arith

jobs-made : (line job : ℕ) (who : Owner) (askings : List Asking) (asks : List Ask) → asks ≡ numbered job who askings → length (jobs_made line asks (calls_of askings)) ≡ length asks
jobs-made line job who askings asks is = rw is (length-made line job who askings)

length-gone : (jobs : List Job) (drops : List ℕ) → length (gone_with jobs drops) ≡ length jobs
length-gone jobs [] = refl
length-gone jobs (job ∷ drops) = length-gone (change_job job Gone jobs) drops ∙ length-change_job job Gone jobs

-- and the table of jobs holds them
pub turn_holds : (step : Step) (w : Writer) (u : Upload) (all : List Job) (jobs : LiveJobs) (own : List Answered) → IsTurn w all step u jobs own → Holds jobs (gone_with (all ++ jobs_of_writer step w) step.drops)
turn_holds step w u all jobs own is = record {
  held = is.held;
  count = is.count ∙ sym (length-gone (all ++ jobs_of_writer step w) step.drops ∙ length-append all (jobs_of_writer step w) ∙ ap (λ (k : ℕ). length all + k) (jobs-made w.line (length all + 1) (owner.Writer w.line) (askings_of step w) step.asks is.asks));
}

-- an answer to who waits gives no data

answer-gives : (bytes : List ℕ) (who : Waiter) (u : Upload) (own : List Answered) → own ≡ answer_to who u → AllByRecursion (GivesOnly bytes) own
answer-gives bytes who u own told = subst (AllByRecursion (GivesOnly bytes)) (sym told) (go (answer-is who u))
  where
    go : AnswerIs who u → AllByRecursion (GivesOnly bytes) (answer_to who u)
    go (NoAnswer none) = subst (AllByRecursion (GivesOnly bytes)) (sym none) tt
    go (OneAnswer line said waits one plain) = subst (AllByRecursion (GivesOnly bytes)) (sym one) (plain-gives bytes line said plain, tt)

-- The writer has been put under its name, in what lines saw then, where another stood before; the step has these replies,
-- and all else is as it was.
pub record IsPut (name : HandleName) (way : Bool) (w : Writer) (first : List Answered) (lines : List Standing) (shared : Shared) (old kept : Work) : Type 0 where
  pub before : Writer
  pub stands : get shared.handles name ≡ Some (Writing before)
  pub way_is : way ≡ is_under_way before.upload.state
  pub seen : shared_in kept ≡ holds name (Writing w) shared
  pub options : shared.options ≡ old.options
  pub steps : kept.record.steps ≡ change_last (with_part [] [] first) old.record.steps
  pub replied : kept.lines ≡ with_replies lines first
  pub jobs : kept.jobs ≡ old.jobs
  pub time : kept.time ≡ old.time

-- the turn is the writer's, behind these replies of a line
pub record IsTurnOf (turn : Turn) (name : HandleName) (w : Writer) (first : List Answered) (shared seen : Shared) : Type 0 where
  pub takes : (state : ClientState) (step : Step) (own : List Answered) → TakesTurnOfWriter state step w own → TakesTurn state step turn (first ++ own)
  pub jobs : (step : Step) → jobs_asked step turn ≡ jobs_of_writer step w
  pub leaves : (step : Step) (more : List Answered) → step.replies ≡ first ++ more → writer_left name w step shared ≡ shared_after turn step seen

pub takes_turned : (turn : Turn) (name : HandleName) (way : Bool) (w : Writer) (first : List Answered) (bytes : List ℕ) (lines : List Standing) (shared : Shared) (old kept new : Work) → HasStep old.record.steps →
    IsPut name way w first lines shared old kept →
    IsTurnOf turn name w first shared (shared_in old) →
    AllByRecursion (GivesOnly bytes) first →
    WriterTurned name way w kept new →
    Takes turn lines bytes old new
takes_turned turn name way w first bytes lines shared old kept new has put of_writer gives turned =
    let left : shared_in new ≡ writer_behind name w turned.upload shared = left-shared name w put.before turned.upload way turned.own shared (shared_in kept) (shared_in new) put.seen put.stands put.way_is turned.told turned.shared in
    record {
      drops = turned.drops;
      asks = turned.asks;
      own = first ++ turned.own;
      steps = steps-behind turned.drops turned.asks first turned.own old.record.steps kept.record.steps new.record.steps has put.steps turned.steps;
      replied = turned.lines ∙ ap (λ (l : List Standing). with_replies l turned.own) put.replied ∙ sym (fold-append with_answered lines first turned.own);
      legal = λ state step drops asks all len. of_writer.takes state step turned.own (turn_takes state step w turned.upload new.jobs turned.own len (turned.turn step (jobs_at state.jobs step.event) drops asks (all_kept (jobs_at state.jobs step.event) all)));
      jobs = λ step all drops asks are. subst (λ (made : List Job). Holds new.jobs (gone_with (all ++ made) step.drops)) (sym (of_writer.jobs step)) (turn_holds step w turned.upload all new.jobs turned.own (turned.turn step all drops asks (all_kept all are)));
      shared = λ step all more are drops asks replies.
          let is = turned.turn step all drops asks (all_kept all are) in
          left
          ∙ ap (λ (u : Upload). writer_behind name w u shared) is.left
          ∙ of_writer.leaves step (turned.own ++ more) (replies ∙ append_assoc first turned.own more);
      time = turned.time ∙ put.time;
      options = ap (λ (s : Shared). s.options) left ∙ behind-options name w turned.upload shared ∙ put.options;
      gives = all-append (GivesOnly bytes) first turned.own gives (answer-gives bytes w.waiter turned.upload turned.own turned.told);
    }
  where
    all_kept : (all : List Job) → AreAll old.jobs all → AreAll kept.jobs all
    all_kept all are = subst (λ (j : LiveJobs). AreAll j all) (sym put.jobs) are

-- an fsync or a close

next-waits : (n : ℕ) (who : Waiter) (work : Work) (to : WaitsFor n who work) (heard : Heard) → next_of (view_of (shared_in work) to.standing.line) to.standing.line.request heard ≡ Ends (waits who to.wait.writer)
next-waits n who work to heard = go who to.wait.is
  where
    view : View
    view = view_of (shared_in work) to.standing.line

    line_is : view.line ≡ n
    line_is = number-is n work.lines to.standing to.stands

    go : (who : Waiter) → is_waiting who n to.wait.name to.standing.line.request → next_of view to.standing.line.request heard ≡ Ends (waits who to.wait.writer)
    go waiter.Nobody is = absurd is
    go (waiter.Sync line) is =
        ap (λ (r : Request). next_of view r heard) is.1
        ∙ ap (sync_next view.line) to.wait.holds
        ∙ ap (λ (k : ℕ). Ends (waits (waiter.Sync k) to.wait.writer)) (line_is ∙ sym is.0)
    go (waiter.Close line) is =
        ap (λ (r : Request). next_of view r heard) is.1
        ∙ ap (close_next view.line) to.wait.holds
        ∙ ap (λ (k : ℕ). Ends (waits (waiter.Close k) to.wait.writer)) (line_is ∙ sym is.0)

-- a line that has begun is the one that stands there
pub begun-standing : (n : ℕ) (lines : List Standing) (s : Standing) (begun : HasBegun n lines) → line_at n lines ≡ Some s → s ≡ begun.standing
begun-standing n lines s begun stands = let same : Some s ≡ Some begun.standing = sym stands ∙ begun.stands in cc

pub takes_waited : (n : ℕ) (last : Option Told) (bytes : List ℕ) (who : Waiter) (name : HandleName) (way : Bool) (old kept new : Work) → HasBegun n old.lines → HasStep old.record.steps → (to : WaitsFor n who old) →
    last ≡ None →
    name ≡ handle_name to.standing.line →
    way ≡ is_under_way to.wait.writer.upload.state →
    shared_in kept ≡ holds name (Writing (waits who to.wait.writer)) (shared_in old) →
    SharedAlone old kept →
    WriterTurned name way (waits who to.wait.writer) kept new →
    Takes (turn_behind n last old) (lines_behind n last old) bytes old new
takes_waited n last bytes who name way old kept new begun has to none named way_is seen alone turned =
    let w : Writer = waits who to.wait.writer in
    let same : to.standing ≡ begun.standing = begun-standing n old.lines to.standing begun to.stands in
    let next : next_behind n last old ≡ Ends w = next-seen n last old begun ∙ ap (λ (s : Standing). next_of (view_of (shared_in old) s.line) s.line.request (with_last last begun.heard)) (sym same) ∙ next-waits n who old to (with_last last begun.heard) in
    let turn : turn_behind n last old ≡ TurnOf begun.standing.line (owner_behind n last old) (Ends w) = turn-is n last old begun (Ends w) next in
    let name_is : name ≡ handle_name begun.standing.line = named ∙ ap (λ (s : Standing). handle_name s.line) same in
    subst (λ (t : Turn). Takes t (lines_behind n last old) bytes old new) (sym turn) (takes_turned (TurnOf begun.standing.line (owner_behind n last old) (Ends w)) name way w [] bytes (lines_behind n last old) (shared_in old) old kept new has (record {
      before = to.wait.writer;
      stands = ap (get old.handles) named ∙ named-holds to.standing.line old.handles (Writing to.wait.writer) to.wait.holds;
      way_is = way_is;
      seen = seen;
      options = refl;
      steps = alone.steps ∙ sym (with_part-none old.record.steps has);
      replied = alone.lines ∙ sym (ap (λ (l : Option Told). change_line n (heard_last l) old.lines) none ∙ change_line-same n old.lines);
      jobs = alone.jobs;
      time = alone.time;
    }) (record {
      takes = λ state step own takes. takes;
      jobs = λ step. refl;
      leaves = λ step more replies. ap (λ (q : HandleName). writer_left q w step (shared_in old)) name_is;
    }) tt turned)

-- a writer hears an answer
pub takes_heard : (opened : ℕ) (bytes : List ℕ) (called : Call) (answer : Brief) (name : HandleName) (way : Bool) (s : Standing) (before : Writer) (old kept new : Work) → HasStep old.record.steps →
    line_at opened old.lines ≡ Some s →
    handle_of s.line old.handles ≡ Some (Writing before) →
    name ≡ handle_name s.line →
    way ≡ is_under_way before.upload.state →
    shared_in kept ≡ holds name (Writing (with_upload (hears_answer called answer before.upload) before)) (shared_in old) →
    SharedAlone old kept →
    WriterTurned name way (with_upload (hears_answer called answer before.upload) before) kept new →
    Takes (turn_of_writer (shared_in old) called answer (line_at opened old.lines)) old.lines bytes old new
takes_heard opened bytes called answer name way s before old kept new has stands holder named way_is seen alone turned =
    let w : Writer = with_upload (hears_answer called answer before.upload) before in
    let turn : turn_of_writer (shared_in old) called answer (line_at opened old.lines) ≡ TurnOfWriter name w =
    ap (turn_of_writer (shared_in old) called answer) stands
    ∙ ap (turn_of_handle (handle_name s.line) called answer) holder
    ∙ ap (λ (q : HandleName). TurnOfWriter q w) (sym named) in
    subst (λ (t : Turn). Takes t old.lines bytes old new) (sym turn) (takes_turned (TurnOfWriter name w) name way w [] bytes old.lines (shared_in old) old kept new has (record {
      before = before;
      stands = ap (get old.handles) named ∙ named-holds s.line old.handles (Writing before) holder;
      way_is = way_is;
      seen = seen;
      options = refl;
      steps = alone.steps ∙ sym (with_part-none old.record.steps has);
      replied = alone.lines;
      jobs = alone.jobs;
      time = alone.time;
    }) (record {
      takes = λ state step own takes. takes;
      jobs = λ step. refl;
      leaves = λ step more replies. refl;
    }) tt turned)

-- such a writer may have its turn

waits-line : (who : Waiter) (w : Writer) → (waits who w).line ≡ w.line
waits-line waiter.Nobody w = refl
waits-line (waiter.Sync line) w = refl
waits-line (waiter.Close line) w = refl

waits-pending : (who : Waiter) (w : Writer) → (waits who w).upload.pending ≡ w.upload.pending
waits-pending waiter.Nobody w = refl
waits-pending (waiter.Sync line) w = (is-ended w.upload).pending
waits-pending (waiter.Close line) w = (is-ended w.upload).pending

waits-number : (who : Waiter) (n name number : ℕ) (asked : Request) (w : Writer) → is_waiting who n name asked → waiting_line (waits who w).waiter ≡ Some number → n ≡ number
waits-number waiter.Nobody n name number asked w is waiting = absurd is
waits-number (waiter.Sync line) n name number asked w is waiting = let same : line ≡ number = cc in sym is.0 ∙ same
waits-number (waiter.Close line) n name number asked w is waiting = let same : line ≡ number = cc in sym is.0 ∙ same

pub may_wait : (n : ℕ) (who : Waiter) (name : HandleName) (old kept : Work) (to : WaitsFor n who old) → HasBegun n old.lines → MayTurn to.wait.writer old → shared_in kept ≡ holds name (Writing (waits who to.wait.writer)) (shared_in old) → SharedAlone old kept → HasWriter name kept
may_wait n who name old kept to begun may seen alone =
    let w : Writer = to.wait.writer in
    has_writer name (waits who w) old kept (shared_in old) seen alone.jobs (rw (waits-line who w, waits-pending who w) may.at_work) (λ number waiting. subst (HasBegun number) (sym alone.lines) (subst (λ (k : ℕ). HasBegun k old.lines) (waits-number who n to.wait.name number to.standing.line.request w to.wait.is waiting) begun))

pub may_hear : (opened : ℕ) (purpose : Purpose) (called : Call) (answer : Brief) (name : HandleName) (old kept : Work) → (may : MayHear opened purpose old) → shared_in kept ≡ holds name (Writing (with_upload (hears_answer called answer may.writer.upload) may.writer)) (shared_in old) → SharedAlone old kept → HasWriter name kept
may_hear opened purpose called answer name old kept may seen alone =
    let w : Writer = may.writer in
    has_writer name (with_upload (hears_answer called answer w.upload) w) old kept (shared_in old) seen alone.jobs (omega (arith, may.at_work, pending-hears called answer w.upload)) (λ number waiting. subst (HasBegun number) (sym alone.lines) (may.waited number waiting))

-- some call is for each purpose
pub call_for : (purpose : Purpose) → (called : Call) × (purpose_of called ≡ purpose)
call_for (purpose.Question (question.Head key)) = (call.Head key, refl)
call_for (purpose.Question (question.Probe key)) = (call.Probe key, refl)
call_for purpose.Create = (call.Create [], refl)
call_for purpose.Part = (call.Part 0 0 [], refl)
call_for purpose.Complete = (call.Complete 0 0, refl)
call_for purpose.Abort = (call.Abort 0, refl)
call_for purpose.Other = (call.Delete [], refl)
