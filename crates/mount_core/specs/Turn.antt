-- What one turn, and the awaits behind it, do to the parts of the mount.
use Rattle.std.specs.Prelude.{◌≡◌, ◌≢◌, ℕ, ◌≤◌, List, [], ◌++◌, length, fold, Bool, if◌then◌else◌, Option, Some, None, IsSome, Ok, ◌⊎◌}
use Rattle.std.specs.List.{AllByRecursion}
use Rattle.std.specs.FinMap as table
use Rattle.mp_types.specs.HandleName.{HandleName, max_handles}
use Rattle.mp_types.specs.Path.{joined}
use Rattle.upload_rules.specs.declared.upload.UpState.TheVariants.{Open as IsOpen}
use Rattle.upload_rules.specs.Upload.{Upload}
use Rattle.mount_model.specs.declared.handle.Handle.TheVariants.{Writing}
use Rattle.mount_model.specs.declared.request.Request.{Request}
use Rattle.mount_model.specs.declared.request.Request.TheVariants.{RemoveDir}
use Rattle.mount_model.specs.declared.request.Line.{Line}
use Rattle.mount_model.specs.declared.event.Ask.{Ask}
use Rattle.mount_model.specs.declared.event.Answered.{Answered}
use Rattle.mount_model.specs.declared.event.Owner.{Owner}
use Rattle.mount_model.specs.declared.event.Owner.TheVariants as owner
use Rattle.mount_model.specs.declared.standing.Phase.{Phase}
use Rattle.mount_model.specs.declared.standing.Standing.{Standing}
use Rattle.mount_model.specs.declared.standing.Told.{Told}
use Rattle.mount_model.specs.Step.{Step, change_last}
use Rattle.mount_model.specs.State.{ClientState, Shared, Job, Gone, Turn, line_at, change_line, change_job, heard, jobs_at, jobs_asked, next_in, turn_of_line, with_replies, with_names, names_behind, handle_behind, is_answered, shared_after, AreNumbered}
use Rattle.mount_model.specs.Conversation.{Next, Ends, Waits, Gives}
use Rattle.mount_model.specs.Writers.{answer_to}
use Rattle.mount_model.specs.Handles.{Writer, name_in, handle_of, owner_for}
use Rattle.mount_model.specs.Reads.{GivesOnly}
use Rattle.mount_model.specs.Run.{TakesTurn}
use Rattle.run_laws.specs.Writers.{waiting_line}
use Rattle.line_table.specs.Table.{HasBegun}
use Rattle.job_table.specs.LiveJobs.{LiveJobs, held_of, ready_of_writer}
use Rattle.core_writes.specs.Turn.{IsTurn}
use Rattle.mount_core.specs.declared.due.Due.{Due}
use Rattle.mount_core.specs.declared.work.Work.{Work}
use Rattle.mount_core.specs.Due.{DueMeans, DueIsOf}
use Rattle.mount_core.specs.Shared.{shared_in}

-- the last answer, which may not have been put behind the others
abbrev pub heard_last : Option Told → Phase → Phase
heard_last None phase = phase
heard_last (Some told) phase = heard told phase

-- what the line of a number does next behind its last answer, whose jobs it asks for, and its turn

abbrev pub lines_behind : ℕ → Option Told → Work → List Standing
lines_behind number last work = change_line number (heard_last last) work.lines

abbrev pub next_at : Shared → Option Standing → Next
next_at shared None = Waits
next_at shared (Some s) = next_in shared s

abbrev pub owner_at : Shared → ℕ → Option Standing → Owner
owner_at shared number None = owner.Line number
owner_at shared number (Some s) = owner_for s.line.number s.line.request (handle_of s.line shared.handles)

abbrev pub next_behind : ℕ → Option Told → Work → Next
next_behind number last work = next_at (shared_in work) (line_at number (lines_behind number last work))

abbrev pub owner_behind : ℕ → Option Told → Work → Owner
owner_behind number last work = owner_at (shared_in work) number (line_at number (lines_behind number last work))

abbrev pub turn_behind : ℕ → Option Told → Work → Turn
turn_behind number last work = turn_of_line (shared_in work) (line_at number (lines_behind number last work))

abbrev pub with_part : List ℕ → List Ask → List Answered → Step → Step
with_part drops asks replies step = record step { drops = step.drops ++ drops; asks = step.asks ++ asks; replies = step.replies ++ replies }

-- all jobs so far, of which a table holds those that are ready or out
pub record AreAll (jobs : LiveJobs) (all : List Job) : Type 0 where
  pub numbered : AreNumbered 1 all
  pub held : jobs.held ≡ held_of all
  pub count : jobs.count ≡ length all

-- these are the jobs of a table, but for their order in a run
pub record Holds (jobs : LiveJobs) (all : List Job) : Type 0 where
  pub held : jobs.held ≡ held_of all
  pub count : jobs.count ≡ length all

abbrev pub gone_with : List Job → List ℕ → List Job
gone_with jobs drops = fold (λ all job. change_job job Gone all) jobs drops

-- these lines got these replies in the last step
pub record Answers (replies : List Answered) (old new : Work) : Type 0 where
  pub steps : new.record.steps ≡ change_last (with_part [] [] replies) old.record.steps
  pub lines : new.lines ≡ with_replies old.lines replies
  pub jobs : new.jobs ≡ old.jobs
  pub time : new.time ≡ old.time

-- handles and names may have changed, and all else is as before
pub record SharedAlone (old new : Work) : Type 0 where
  pub steps : new.record.steps ≡ old.record.steps
  pub lines : new.lines ≡ old.lines
  pub jobs : new.jobs ≡ old.jobs
  pub time : new.time ≡ old.time
  pub options : new.options ≡ old.options

-- The turn has been taken: the last step has its drops, asks and replies, which are those that a legal step may have,
-- and lines, jobs, handles and names are as they are behind it.
pub record Takes (turn : Turn) (lines : List Standing) (bytes : List ℕ) (old new : Work) : Type 0 where
  pub drops : List ℕ
  pub asks : List Ask
  pub own : List Answered
  pub steps : new.record.steps ≡ change_last (with_part drops asks own) old.record.steps
  pub replied : new.lines ≡ with_replies lines own
  pub legal : (state : ClientState) (step : Step) → step.drops ≡ drops → step.asks ≡ asks → AreAll old.jobs (jobs_at state.jobs step.event) → length (jobs_at state.jobs step.event) ≡ length state.jobs → TakesTurn state step turn own
  pub jobs : (step : Step) (all : List Job) → step.drops ≡ drops → step.asks ≡ asks → AreAll old.jobs all → Holds new.jobs (gone_with (all ++ jobs_asked step turn) step.drops)
  pub shared : (step : Step) (all : List Job) (more : List Answered) → AreAll old.jobs all → step.drops ≡ drops → step.asks ≡ asks → step.replies ≡ own ++ more → shared_in new ≡ shared_after turn step (shared_in old)
  pub time : new.time ≡ old.time
  pub options : new.options ≡ old.options
  pub gives : AllByRecursion (GivesOnly bytes) own

-- the line gives a name that is free, and there is a place for its handle
pub record HasPlace (line : Line) (work : Work) : Type 0 where
  pub name : ℕ
  pub names : name_in line.request ≡ Some name
  pub free : handle_of line work.handles ≡ None
  pub place : table.len work.handles ≢ max_handles

abbrev pub MayOpen : ℕ → Work → Type 0
MayOpen number work = (s : Standing) → line_at number work.lines ≡ Some s → HasPlace s.line work

-- the request removes the directory of this key
pub record RemovesKey (asked : Request) (key : List ℕ) : Type 0 where
  pub names : List (List ℕ)
  pub is : asked ≡ RemoveDir (Ok names)
  pub key_is : key ≡ joined names

-- the line of this number does
pub record RemovesDir (number : ℕ) (key : List ℕ) (lines : List Standing) : Type 0 where
  pub standing : Standing
  pub stands : line_at number lines ≡ Some standing
  pub removes : RemovesKey standing.line.request key

-- The writer that a line names may have a turn: each of its jobs that is ready is a call that isn't back, nobody waits for
-- it, and while it takes bytes, its file stands among the names.
pub record MayTurn (writer : Writer) (work : Work) : Type 0 where
  pub at_work : length (ready_of_writer writer.line work.jobs.held) ≤ writer.upload.pending
  pub unwaited : (number : ℕ) → waiting_line writer.waiter ≡ Some number → ⊥
  pub named : writer.upload.state ≡ IsOpen → IsSome (table.get work.names.files writer.key)

abbrev pub NamedMayTurn : ℕ → Work → Type 0
NamedMayTurn number work = (s : Standing) (writer : Writer) → line_at number work.lines ≡ Some s → handle_of s.line work.handles ≡ Some (Writing writer) → MayTurn writer work

-- a writer stands under this name
pub record HasWriter (name : HandleName) (work : Work) : Type 0 where
  pub writer : Writer
  pub stands : table.get work.handles name ≡ Some (Writing writer)
  pub at_work : length (ready_of_writer writer.line work.jobs.held) ≤ writer.upload.pending
  pub waited : (number : ℕ) → waiting_line writer.waiter ≡ Some number → HasBegun number work.lines

-- The writer that stands under a name has had its turn. Where it was under way before, its name goes as its end says.
pub record WriterTurned (name : HandleName) (was_under_way : Bool) (writer : Writer) (old new : Work) : Type 0 where
  pub drops : List ℕ
  pub asks : List Ask
  pub own : List Answered
  pub steps : new.record.steps ≡ change_last (with_part drops asks own) old.record.steps
  pub lines : new.lines ≡ with_replies old.lines own
  pub upload : Upload
  pub told : own ≡ answer_to writer.waiter upload
  pub turn : (step : Step) (all : List Job) → step.drops ≡ drops → step.asks ≡ asks → AreAll old.jobs all → IsTurn writer all step upload new.jobs own
  pub shared : shared_in new ≡ handle_behind name writer upload (is_answered own) (if was_under_way then with_names (names_behind upload.state writer.key old.names) (shared_in old) else shared_in old)
  pub time : new.time ≡ old.time

-- a line that is to go on by itself asks or replies
abbrev pub Speaks : Next → Type 0
Speaks Waits = ⊥
Speaks (Ends writer) = ⊥
Speaks other = Unit {0}

-- what is due is what the line does next behind its last answer; bytes that it gives are these
pub record MayGoOn (number : ℕ) (due : Due) (last : Option Told) (bytes : List ℕ) (work : Work) : Type 0 where
  pub means : DueMeans due (owner_behind number last work) (next_behind number last work)
  pub whose : (s : Standing) → line_at number work.lines ≡ Some s → DueIsOf due number s.line.request (handle_of s.line work.handles)
  pub not_idle : (last ≡ None) ⊎ Speaks (next_behind number last work)
  pub gives : (count : ℕ) → next_behind number last work ≡ Gives count → length bytes ≡ count
