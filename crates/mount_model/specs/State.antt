-- The state of the mount after some steps.
use Rattle.std.specs.Prelude.{◌≡◌, ℕ, ◌+◌, List, [], ◌∷◌, ◌++◌, length, map, filter, find, fold, ◌&&◌, ◌==◌, not, Bool, true, false, if◌then◌else◌, Option, Some, None, option_map}
use Rattle.std.specs.List.{list_any}
use Rattle.std.specs.FinMap as table
use Rattle.mp_types.specs.declared.options.Opts.{Opts}
use Rattle.mp_types.specs.HandleName.{HandleName}
use Rattle.mp_rules.specs.Local.{LocalNames, no_names, with_dir, without_name, with_file, without_file, without_dirs_above}
use Rattle.bucket_model.specs.declared.call.Call.{Call}
use Rattle.bucket_model.specs.declared.answer.Brief.{Brief}
use Rattle.bucket_model.specs.Answers.{is_counted}
use Rattle.upload_rules.specs.declared.upload.UpState.{UpState}
use Rattle.upload_rules.specs.declared.upload.UpState.TheVariants as state
use Rattle.upload_rules.specs.declared.upload.UpAsk.TheVariants.{Abort}
use Rattle.upload_rules.specs.Upload.{Upload, new_upload, written, with_ask}
use Rattle.mount_model.specs.declared.handle.Handle.TheVariants.{Reading, Writing}
use Rattle.mount_model.specs.declared.handle.Waiter.{Waiter}
use Rattle.mount_model.specs.declared.handle.Waiter.TheVariants as waiter
use Rattle.mount_model.specs.declared.request.Request.{Request}
use Rattle.mount_model.specs.declared.request.Request.TheVariants as request
use Rattle.mount_model.specs.declared.request.Reply.{Reply}
use Rattle.mount_model.specs.declared.request.Reply.TheVariants as reply
use Rattle.mount_model.specs.declared.request.Line.{Line}
use Rattle.mount_model.specs.declared.event.Event.{Event}
use Rattle.mount_model.specs.declared.event.Event.TheVariants.{Begin, Take, Done}
use Rattle.mount_model.specs.declared.event.Owner.{Owner}
use Rattle.mount_model.specs.declared.event.Owner.TheVariants as owner
use Rattle.mount_model.specs.declared.event.AskedCall.{AskedCall}
use Rattle.mount_model.specs.declared.event.AskedCall.TheVariants as asked
use Rattle.mount_model.specs.declared.event.Ask.{Ask}
use Rattle.mount_model.specs.declared.event.Answered.{Answered}
use Rattle.mount_model.specs.declared.standing.Phase.{Phase}
use Rattle.mount_model.specs.declared.standing.Phase.TheVariants.{Waiting, Begun, Replied}
use Rattle.mount_model.specs.declared.standing.Standing.{Standing}
use Rattle.mount_model.specs.declared.standing.Told.{Told}
use Rattle.mount_model.specs.Step.{Step}
use Rattle.mount_model.specs.Heard.{nothing_heard, with_told, question_of, told_by}
use Rattle.mount_model.specs.Conversation.{Next, Asks, Replies, Makes, Removes, Opens, Creates, Writes, Ends, Waits, View, next_of, with_upload}
use Rattle.mount_model.specs.Handles.{Handles, Handle, Writer, name_in, handle_of, owner_for}
use Rattle.mount_model.specs.Writers.{Asking, asking_for, ask_times, first_asks, hears_answer, is_under_way, settled, back_times, answer_to}

-- a job is ready once asked, out once taken, and gone once its answer came or once it was dropped
pub data JobPhase : Type 0 where
  Ready : JobPhase
  Out : ℕ → JobPhase
  Gone : JobPhase

-- a job: whose it is, the line whose turn asked for it, or which opened its writer, and the whole call that it makes
pub record Job : Type 0 where
  pub number : ℕ
  pub owner : Owner
  pub line : ℕ
  pub call : Call
  pub phase : JobPhase

-- the jobs have the numbers from this one on, one after the other
abbrev pub AreNumbered : ℕ → List Job → Type 0
AreNumbered number [] = Unit {0}
AreNumbered number (job ∷ jobs) = (job.number ≡ number) × AreNumbered (number + 1) jobs

-- what all lines see of the mount: its options, the live handles, and the mount's own names
pub record Shared : Type 0 where
  pub options : Opts
  pub handles : Handles
  pub names : LocalNames

-- the time, the lines and how far each has come, all jobs so far, the positions of the answers so far, and what all lines see
pub record ClientState : Type 0 where
  pub time : ℕ
  pub lines : List Standing
  pub jobs : List Job
  pub positions : List ℕ
  pub shared : Shared

abbrev pub shared_at_first : Opts → Shared
shared_at_first options = record { options = options; handles = table.empty; names = no_names }

-- no line has begun
abbrev pub opening : Opts → List Line → ClientState
opening options script = record { time = 0; lines = map (λ line. record { line = line; phase = Waiting }) script; jobs = []; positions = []; shared = shared_at_first options }

-- looking up and changing by number

abbrev pub line_at : ℕ → List Standing → Option Standing
line_at number lines = find (λ s. s.line.number == number) lines

abbrev pub change_line : ℕ → (Phase → Phase) → List Standing → List Standing
change_line number f lines = map (λ (s : Standing). if s.line.number == number then record s { phase = f s.phase } else s) lines

abbrev pub job_at : ℕ → List Job → Option Job
job_at number jobs = find (λ job. job.number == number) jobs

abbrev pub in_phase : JobPhase → Job → Job
in_phase phase job = record job { phase = phase }

abbrev pub change_job : ℕ → JobPhase → List Job → List Job
change_job number phase jobs = map (λ job. if job.number == number then in_phase phase job else job) jobs

-- the jobs of a writer that are ready, by the line that opened it
abbrev pub is_ready_for : ℕ → Job → Bool
is_ready_for line job = by_phase job.phase && by_owner job.owner
  where
    by_phase : JobPhase → Bool
    by_phase Ready = true
    by_phase other = false

    by_owner : Owner → Bool
    by_owner (owner.Writer opened) = opened == line
    by_owner other = false

abbrev pub ready_for : ℕ → List Job → List ℕ
ready_for line jobs = map (λ (job : Job). job.number) (filter (is_ready_for line) jobs)

-- what an event itself does

abbrev pub time_after : ℕ → Event → ℕ
time_after old (Begin line time) = time
time_after old (Take job time from) = time
time_after old (Done job position answer) = old

abbrev pub positions_after : List ℕ → Event → List ℕ
positions_after positions (Done job position answer) = if is_counted answer then positions ++ position ∷ [] else positions
positions_after positions other = positions

abbrev pub jobs_at : List Job → Event → List Job
jobs_at jobs (Begin line time) = jobs
jobs_at jobs (Take job time from) = change_job job (Out from) jobs
jobs_at jobs (Done job position answer) = change_job job Gone jobs

-- one more answer to a line's own calls
abbrev pub heard : Told → Phase → Phase
heard told (Begun before) = Begun (with_told told before)
heard told other = other

-- the answer to a writer's job is heard by the writer, and any other by the line whose turn asked for the job
abbrev pub hears : Option Job → Brief → List Standing → List Standing
hears None answer lines = lines
hears (Some job) answer lines = by_owner job.owner
  where
    by_owner : Owner → List Standing
    by_owner (owner.Writer opened) = lines
    by_owner other = change_line job.line (heard (told_by (question_of job.call) answer)) lines

abbrev pub lines_at : List Standing → List Job → Event → List Standing
lines_at lines jobs (Begin line time) = change_line line (λ phase. Begun nothing_heard) lines
lines_at lines jobs (Take job time from) = lines
lines_at lines jobs (Done job position answer) = hears (job_at job jobs) answer lines

-- whose turn a step is

abbrev pub view_of : Shared → Line → View
view_of shared line = record { line = line.number; options = shared.options; handle = handle_of line shared.handles; live = table.len shared.handles; names = shared.names }

-- what a line does next, where it has begun and has no reply
abbrev pub next_in : Shared → Standing → Next
next_in shared s = by_phase s.phase
  where
    by_phase : Phase → Next
    by_phase (Begun heard) = next_of (view_of shared s.line) s.line.request heard
    by_phase other = Waits

-- the handle that the line names
abbrev pub handle_name : Line → HandleName
handle_name line = by_name (name_in line.request)
  where
    by_name : Option ℕ → HandleName
    by_name (Some name) = (line.actor, name)
    by_name None = (line.actor, 0)

-- the turn of a line, with the owner of what it asks for; of the writer of a handle, as it is behind the event; or of none
pub data Turn : Type 0 where
  TurnOf : Line → Owner → Next → Turn
  TurnOfWriter : HandleName → Writer → Turn
  NoTurn : Turn

abbrev pub turn_of_line : Shared → Option Standing → Turn
turn_of_line shared None = NoTurn
turn_of_line shared (Some s) = TurnOf s.line (owner_for s.line.number s.line.request (handle_of s.line shared.handles)) (next_in shared s)

-- the writer of this handle hears an answer
abbrev pub turn_of_handle : HandleName → Call → Brief → Option Handle → Turn
turn_of_handle name called answer (Some (Writing writer)) = TurnOfWriter name (with_upload (hears_answer called answer writer.upload) writer)
turn_of_handle name called answer other = NoTurn

abbrev pub turn_of_writer : Shared → Call → Brief → Option Standing → Turn
turn_of_writer shared called answer None = NoTurn
turn_of_writer shared called answer (Some s) = turn_of_handle (handle_name s.line) called answer (handle_of s.line shared.handles)

abbrev pub turn_of_job : Shared → Option Job → Brief → List Standing → Turn
turn_of_job shared None answer lines = NoTurn
turn_of_job shared (Some job) answer lines = by_owner job.owner
  where
    by_owner : Owner → Turn
    by_owner (owner.Writer opened) = turn_of_writer shared job.call answer (line_at opened lines)
    by_owner other = turn_of_line shared (line_at job.line lines)

-- that of the line that begins, or of the owner of the job that has its answer
abbrev pub turn_of : Shared → List Job → List Standing → Event → Turn
turn_of shared jobs lines (Begin line time) = turn_of_line shared (line_at line lines)
turn_of shared jobs lines (Take job time from) = NoTurn
turn_of shared jobs lines (Done job position answer) = turn_of_job shared (job_at job jobs) answer lines

abbrev pub turn_at : ClientState → Event → Turn
turn_at state event = turn_of state.shared state.jobs (lines_at state.lines state.jobs event) event

-- what a step asks for

abbrev pub is_abort : Ask → Bool
is_abort ask = by_call ask.call
  where
    by_call : AskedCall → Bool
    by_call (asked.Abort upload) = true
    by_call other = false

-- how many of a writer's asks are no aborts, and whether one is
abbrev pub calls_in : List Ask → ℕ
calls_in asks = length (filter (λ ask. not (is_abort ask)) asks)

abbrev pub gives_up : List Ask → Bool
gives_up asks = list_any is_abort asks

-- A writer asks for what is due. Where there is no memory for all of it, it has failed. It drops what is ready then.
abbrev pub behind_asks : ℕ → Upload → Upload
behind_asks calls upload = settled (ask_times calls upload)

abbrev pub behind_drops : ℕ → ℕ → Upload → Upload
behind_drops calls drops upload = back_times drops (behind_asks calls upload)

-- and it may be given up then
abbrev pub behind_step : Step → Upload → Upload
behind_step step upload =
    let dropped : Upload = behind_drops (calls_in step.asks) (length step.drops) upload in
    if gives_up step.asks then with_ask Abort dropped else dropped

-- all that a writer asks for
abbrev pub askings_of : Step → Writer → List Asking
askings_of step writer =
    first_asks (calls_in step.asks) writer.key writer.upload
    ++ (if gives_up step.asks then asking_for writer.key (behind_drops (calls_in step.asks) (length step.drops) writer.upload) Abort ∷ [] else [])

-- the jobs that a step asks for, and their calls
abbrev pub jobs_made : ℕ → List Ask → List Call → List Job
jobs_made line (ask ∷ asks) (called ∷ calls) = record { number = ask.job; owner = ask.owner; line = line; call = called; phase = Ready } ∷ jobs_made line asks calls
jobs_made line asks calls = []

abbrev pub calls_of : List Asking → List Call
calls_of askings = map (λ (a : Asking). a.call) askings

abbrev pub jobs_of_writer : Step → Writer → List Job
jobs_of_writer step writer = jobs_made writer.line step.asks (calls_of (askings_of step writer))

abbrev pub jobs_of_line : Step → Line → Next → List Job
jobs_of_line step line (Asks called) = jobs_made line.number step.asks (called ∷ [])
jobs_of_line step line (Writes count writer) = jobs_of_writer step writer
jobs_of_line step line (Ends writer) = jobs_of_writer step writer
jobs_of_line step line other = []

abbrev pub jobs_asked : Step → Turn → List Job
jobs_asked step (TurnOf line owner next) = jobs_of_line step line next
jobs_asked step (TurnOfWriter name writer) = jobs_of_writer step writer
jobs_asked step NoTurn = []

abbrev pub jobs_after : List Job → Step → Turn → List Job
jobs_after jobs step turn = fold (λ all job. change_job job Gone all) (jobs_at jobs step.event ++ jobs_asked step turn) step.drops

-- what a step does to the lines

abbrev pub with_answered : List Standing → Answered → List Standing
with_answered lines reply = change_line reply.line (λ phase. Replied) lines

abbrev pub with_replies : List Standing → List Answered → List Standing
with_replies lines replies = fold with_answered lines replies

-- what a step does to what all lines see

abbrev pub with_handles : Handles → Shared → Shared
with_handles handles shared = record shared { handles = handles }

abbrev pub with_names : LocalNames → Shared → Shared
with_names names shared = record shared { names = names }

abbrev pub holds : HandleName → Handle → Shared → Shared
holds name handle shared = with_handles (table.insert shared.handles name handle) shared

abbrev pub lets_go : HandleName → Shared → Shared
lets_go name shared = with_handles (table.remove shared.handles name) shared

abbrev pub writes_first : Line → List ℕ → Shared → Writer
writes_first line key shared = record { line = line.number; key = key; upload = new_upload shared.options.part; waiter = waiter.Nobody }

-- a reply that succeeds has its effect
abbrev pub has_effect : Next → Line → Shared → Shared
has_effect (Makes key) line shared = with_names (with_dir key shared.names) shared
has_effect (Removes key) line shared = with_names (without_name key shared.names) shared
has_effect (Opens version) line shared = holds (handle_name line) (Reading line.number version) shared
has_effect (Creates key) line shared = with_names (with_file key 0 shared.names) (holds (handle_name line) (Writing (writes_first line key shared)) shared)
has_effect other line shared = shared

-- where a file's writer is done, the bucket has the file, and so the directories above it; where it has failed, it is no more
abbrev pub names_behind : UpState → List ℕ → LocalNames → LocalNames
names_behind state.Done key names = without_dirs_above key (without_file key names)
names_behind (state.Failed errno) key names = without_file key names
names_behind other key names = names

abbrev pub was_under_way : Option Handle → Bool
was_under_way (Some (Writing writer)) = is_under_way writer.upload.state
was_under_way other = false

abbrev pub is_answered : List Answered → Bool
is_answered [] = false
is_answered answers = true

-- a handle goes with the reply to its close
abbrev pub handle_behind : HandleName → Writer → Upload → Bool → Shared → Shared
handle_behind name writer upload answered shared = by_waiter answered writer.waiter
  where
    keeps : Waiter → Shared
    keeps who = holds name (Writing (record writer { upload = upload; waiter = who })) shared

    by_waiter : Bool → Waiter → Shared
    by_waiter true (waiter.Close line) = lets_go name shared
    by_waiter true other = keeps waiter.Nobody
    by_waiter false who = keeps who

abbrev pub writer_behind : HandleName → Writer → Upload → Shared → Shared
writer_behind name writer upload shared =
    handle_behind name writer upload (is_answered (answer_to writer.waiter upload))
    (if was_under_way (table.get shared.handles name) then with_names (names_behind upload.state writer.key shared.names) shared else shared)

abbrev pub writer_left : HandleName → Writer → Step → Shared → Shared
writer_left name writer step shared = writer_behind name writer (behind_step step writer.upload) shared

-- a close that needs no writer
abbrev pub closes : Line → Shared → Shared
closes line shared = by_request line.request
  where
    by_request : Request → Shared
    by_request (request.Close name) = lets_go (line.actor, name) shared
    by_request other = shared

abbrev pub by_reply : Next → Line → Step → Shared → Option Reply → Shared
by_reply (Ends writer) line step shared said = writer_left (handle_name line) writer step shared
by_reply (Writes count writer) line step shared (Some (reply.Wrote length)) = writer_left (handle_name line) writer step (with_names (with_file writer.key (written writer.upload) shared.names) shared)
by_reply (Replies said) line step shared (Some reply.Success) = closes line shared
by_reply next line step shared (Some reply.Success) = has_effect next line shared
by_reply next line step shared (Some (reply.Open size)) = has_effect next line shared
by_reply next line step shared other = shared

abbrev pub reply_in : ℕ → List Answered → Option Reply
reply_in line replies = option_map (λ (a : Answered). a.reply) (find (λ (a : Answered). a.line == line) replies)

abbrev pub shared_after : Turn → Step → Shared → Shared
shared_after (TurnOf line owner next) step shared = by_reply next line step shared (reply_in line.number step.replies)
shared_after (TurnOfWriter name writer) step shared = writer_left name writer step shared
shared_after NoTurn step shared = shared

abbrev pub after : ClientState → Step → ClientState
after state step = record {
  time = time_after state.time step.event;
  lines = with_replies (lines_at state.lines state.jobs step.event) step.replies;
  jobs = jobs_after state.jobs step (turn_at state step.event);
  positions = positions_after state.positions step.event;
  shared = shared_after (turn_at state step.event) step state.shared;
}

-- the state after these steps of a run of the script
abbrev pub state_after : Opts → List Line → List Step → ClientState
state_after options script steps = fold after (opening options script) steps
