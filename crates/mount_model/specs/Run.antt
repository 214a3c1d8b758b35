-- Legal steps, and runs.
use Rattle.std.specs.Prelude.{◌≡◌, ℕ, ◌+◌, ◌<◌, ◌≤◌, List, [], ◌∷◌, ◌++◌, length, Bool, true, false, ◌==◌, if◌then◌else◌, Some, ◌⊎◌}
use Rattle.std.specs.List.{list_any, AllByRecursion}
use Rattle.mp_types.specs.declared.errno.Errno.TheVariants.{Enomem}
use Rattle.mp_types.specs.declared.options.Opts.{Opts}
use Rattle.bucket_model.specs.declared.call.Call.{Call}
use Rattle.bucket_model.specs.declared.call.Call.TheVariants as call
use Rattle.bucket_model.specs.declared.answer.Brief.{Brief}
use Rattle.bucket_model.specs.Along.{Along}
use Rattle.bucket_model.specs.Answers.{fits, is_counted}
use Rattle.upload_rules.specs.declared.upload.UpAsk.TheVariants.{Abort}
use Rattle.upload_rules.specs.Upload.{due}
use Rattle.mount_model.specs.declared.request.Request.{Request}
use Rattle.mount_model.specs.declared.request.Request.TheVariants as request
use Rattle.mount_model.specs.declared.request.Reply.{Reply}
use Rattle.mount_model.specs.declared.request.Reply.TheVariants as reply
use Rattle.mount_model.specs.declared.request.Line.{Line}
use Rattle.mount_model.specs.declared.event.Event.{Event}
use Rattle.mount_model.specs.declared.event.Event.TheVariants.{Begin, Take, Done}
use Rattle.mount_model.specs.declared.event.Owner.{Owner}
use Rattle.mount_model.specs.declared.event.Owner.TheVariants as owner
use Rattle.mount_model.specs.declared.event.AskedCall.{AskedCall}
use Rattle.mount_model.specs.declared.event.AskedCall.TheVariants as asked
use Rattle.mount_model.specs.declared.event.Ask.{Ask}
use Rattle.mount_model.specs.declared.event.Answered.{Answered}
use Rattle.mount_model.specs.declared.standing.Phase.{Phase}
use Rattle.mount_model.specs.declared.standing.Phase.TheVariants.{Waiting, Begun, Replied}
use Rattle.mount_model.specs.declared.standing.Standing.{Standing}
use Rattle.mount_model.specs.Step.{Step}
use Rattle.mount_model.specs.Handles.{Writer}
use Rattle.mount_model.specs.Writers.{Asking, answer_to, first_asks, has_failed}
use Rattle.mount_model.specs.Conversation.{Next, Asks, Replies, Makes, Removes, Opens, Creates, Lists, Gives, Writes, Ends, Waits}
use Rattle.mount_model.specs.State.{ClientState, Job, JobPhase, Ready, Out, Gone, Turn, TurnOf, TurnOfWriter, NoTurn, opening, after, state_after, job_at, jobs_at, lines_at, with_replies, ready_for, turn_at, calls_in, gives_up, behind_asks, behind_drops, behind_step, askings_of, calls_of, jobs_made}

-- which lines may begin

abbrev pub is_among : ℕ → List ℕ → Bool
is_among number numbers = list_any (λ n. n == number) numbers

-- a line may begin where it waits and each line of its actor above has its reply: each actor does one thing at a time
abbrev pub startable_from : List ℕ → List Standing → List ℕ
startable_from busy [] = []
startable_from busy (s ∷ lines) = by_phase s.phase (startable_from busy lines) (startable_from (s.line.actor ∷ busy) lines)
  where
    by_phase : Phase → List ℕ → List ℕ → List ℕ
    by_phase Waiting same more = if is_among s.line.actor busy then same else s.line.number ∷ more
    by_phase (Begun heard) same more = more
    by_phase Replied same more = same

-- the numbers of the lines that may begin, in order
abbrev pub startable : List Standing → List ℕ
startable lines = startable_from [] lines

-- which jobs may be taken, in order
abbrev pub ready : List Job → List ℕ
ready [] = []
ready (job ∷ jobs) = by_phase job.phase (ready jobs)
  where
    by_phase : JobPhase → List ℕ → List ℕ
    by_phase Ready more = job.number ∷ more
    by_phase other more = more

-- which events may come

-- the job is out since a take at this position, and this answer fits its call; its place in the history is a new one behind that
pub record MayDone (state : ClientState) (number position : ℕ) (answer : Brief) : Type 0 where
  pub job : Job
  pub stands : job_at number state.jobs ≡ Some job
  pub from : ℕ
  pub is_out : job.phase ≡ Out from
  pub kind : fits job.call answer ≡ true
  pub behind : is_counted answer ≡ true → from ≤ position
  pub is_new : is_counted answer ≡ true → is_among position state.positions ≡ false

-- times don't fall, and a call is made behind all answers that the mount has seen
abbrev pub MayCome : ClientState → Event → Type 0
MayCome state (Begin line time) = (state.time ≤ time) × (is_among line (startable state.lines) ≡ true)
MayCome state (Take job time from) = (state.time ≤ time) × (is_among job (ready state.jobs) ≡ true) × AllByRecursion (λ position. position < from) state.positions
MayCome state (Done job position answer) = MayDone state job position answer

-- what the line whose turn it is does

-- a line's own call as the record tells it
abbrev pub asked_of : Call → AskedCall
asked_of (call.Head key) = asked.Head key
asked_of (call.Probe key) = asked.Probe key
asked_of (call.List prefix after max) = asked.List prefix after max
asked_of (call.Get key etag from to) = asked.Get key etag from to
asked_of (call.Delete key) = asked.Delete key
asked_of (call.Put key bytes) = asked.Put key (length bytes)
asked_of (call.Create key) = asked.Create key
asked_of (call.Part upload number bytes) = asked.Part upload number 0 (length bytes)
asked_of (call.Complete upload parts) = asked.Complete upload parts
asked_of (call.Abort upload) = asked.Abort upload

abbrev pub AsksFor : ℕ → Owner → Call → Step → List Answered → Type 0
AsksFor job owner called step own = (step.asks ≡ record { job = job; owner = owner; call = asked_of called } ∷ []) × (own ≡ []) × (step.drops ≡ [])

abbrev pub Says : ℕ → Reply → Step → List Answered → Type 0
Says line said step own = (step.asks ≡ []) × (own ≡ record { line = line; reply = said } ∷ []) × (step.drops ≡ [])

-- where a call is due, or a handle, a directory or what a listing shows, or room for what is written, and there is no memory for it, the line is answered so
abbrev pub LacksMemory : ℕ → Step → List Answered → Type 0
LacksMemory line step own = Says line (reply.Failed Enomem) step own

-- so many bytes; which ones is not said here, but by what the read's handle opened
abbrev pub SaysData : ℕ → ℕ → Step → List Answered → Type 0
SaysData line count step own = (bytes : List ℕ) × (length bytes ≡ count) × Says line (reply.Data bytes) step own

abbrev pub IsIdle : Step → List Answered → Type 0
IsIdle step own = (step.asks ≡ []) × (own ≡ []) × (step.drops ≡ [])

-- asks that are numbered from this job on
abbrev pub numbered : ℕ → Owner → List Asking → List Ask
numbered job owner [] = []
numbered job owner (asking ∷ askings) = record { job = job; owner = owner; call = asking.told } ∷ numbered (job + 1) owner askings

-- the jobs that a step asks for, but for an abort
abbrev pub jobs_called : Step → Writer → List Job
jobs_called step writer = jobs_made writer.line step.asks (calls_of (first_asks (calls_in step.asks) writer.key writer.upload))

-- A writer asks for the first of what is due, or all. Where it has failed, its ready jobs are dropped, also those that it has
-- just asked for. An abort is asked for only where it is due. Who waits is answered, where the answer can be told.
pub record TakesTurnOfWriter (state : ClientState) (step : Step) (writer : Writer) (own : List Answered) : Type 0 where
  pub asks : step.asks ≡ numbered (length state.jobs + 1) (owner.Writer writer.line) (askings_of step writer)
  pub drops : step.drops ≡ (if has_failed (behind_asks (calls_in step.asks) writer.upload) then ready_for writer.line (jobs_at state.jobs step.event ++ jobs_called step writer) else [])
  pub gives_up : gives_up step.asks ≡ true → due (behind_drops (calls_in step.asks) (length step.drops) writer.upload) ≡ Some Abort
  pub answers : own ≡ answer_to writer.waiter (behind_step step writer.upload)

abbrev pub TakesTurnOfLine : ClientState → Step → Line → Owner → Next → List Answered → Type 0
TakesTurnOfLine state step line owner (Asks called) own = AsksFor (length state.jobs + 1) owner called step own ⊎ LacksMemory line.number step own
TakesTurnOfLine state step line owner (Replies said) own = Says line.number said step own
TakesTurnOfLine state step line owner (Makes key) own = Says line.number reply.Success step own ⊎ LacksMemory line.number step own
TakesTurnOfLine state step line owner (Removes key) own = Says line.number reply.Success step own
TakesTurnOfLine state step line owner (Opens version) own = Says line.number (reply.Open version.size) step own ⊎ LacksMemory line.number step own
TakesTurnOfLine state step line owner (Creates key) own = Says line.number (reply.Open 0) step own ⊎ LacksMemory line.number step own
TakesTurnOfLine state step line owner (Lists entries) own = Says line.number (reply.Listed entries) step own ⊎ LacksMemory line.number step own
TakesTurnOfLine state step line owner (Gives count) own = SaysData line.number count step own
TakesTurnOfLine state step line owner (Writes count writer) own =
    ((answers : List Answered) × TakesTurnOfWriter state step writer answers × (own ≡ record { line = line.number; reply = reply.Wrote count } ∷ answers))
    ⊎ LacksMemory line.number step own
TakesTurnOfLine state step line owner (Ends writer) own = TakesTurnOfWriter state step writer own
TakesTurnOfLine state step line owner Waits own = IsIdle step own

abbrev pub TakesTurn : ClientState → Step → Turn → List Answered → Type 0
TakesTurn state step (TurnOf line owner next) own = TakesTurnOfLine state step line owner next own
TakesTurn state step (TurnOfWriter name writer) own = TakesTurnOfWriter state step writer own
TakesTurn state step NoTurn own = IsIdle step own

-- An await is answered once all lines above it have their replies: the first line without a reply, where it is
-- an await that has begun, is answered, and then the next.
abbrev pub due_awaits : List Standing → List Answered
due_awaits [] = []
due_awaits (s ∷ lines) = by_phase s.phase (due_awaits lines)
  where
    by_phase : Phase → List Answered → List Answered
    by_phase Waiting more = []
    by_phase (Begun heard) more = by_request s.line.request
      where
        by_request : Request → List Answered
        by_request request.Await = record { line = s.line.number; reply = reply.Success } ∷ more
        by_request other = []
    by_phase Replied more = more

-- The step may come in this state: its event may, and its drops, asks and replies are those of the line or the writer whose
-- turn it is, and the replies to the awaits that are due behind it.
pub record IsLegalStep (state : ClientState) (step : Step) : Type 0 where
  pub may_come : MayCome state step.event
  pub own : List Answered
  pub turn : TakesTurn state step (turn_at state step.event) own
  pub replies : step.replies ≡ own ++ due_awaits (with_replies (lines_at state.lines state.jobs step.event) own)

-- each step is legal where it stands
abbrev pub IsRunSoFar : Opts → List Line → List Step → Type 0
IsRunSoFar options script steps = Along IsLegalStep after (opening options script) steps

-- each line has its reply, and no job is ready or out
pub record IsQuiet (state : ClientState) : Type 0 where
  pub answered : AllByRecursion (λ s. s.phase ≡ Replied) state.lines
  pub gone : AllByRecursion (λ job. job.phase ≡ Gone) state.jobs

pub record IsRun (options : Opts) (script : List Line) (steps : List Step) : Type 0 where
  pub so_far : IsRunSoFar options script steps
  pub quiet : IsQuiet (state_after options script steps)

-- a script's lines have rising numbers
abbrev pub AreRising : ℕ → List Line → Type 0
AreRising above [] = Unit {0}
AreRising above (line ∷ lines) = (above < line.number) × AreRising line.number lines
