-- How many calls a request may still make, and how much is left to do in a state.
use Rattle.std.specs.Prelude.{ℕ, ◌+◌, ◌*◌, ◌-◌, List, [], ◌∷◌, ◌++◌, length, ◌==◌, if◌then◌else◌, Option, Some, None, Result, Ok, Err}
use Rattle.std.specs.FinMap as table
use Rattle.mp_types.specs.HandleName.{HandleName}
use Rattle.mp_types.specs.Content.{bytes_of}
use Rattle.mp_types.specs.declared.path.PathFault.{PathFault}
use Rattle.mp_types.specs.Path.{slash}
use Rattle.mp_rules.specs.declared.facts.Question.{Question}
use Rattle.mp_rules.specs.declared.facts.Question.TheVariants.{Head, Probe}
use Rattle.mp_rules.specs.declared.facts.Fact.{Fact}
use Rattle.mp_rules.specs.Walk.{fact_in}
use Rattle.bucket_model.specs.declared.answer.Brief.{Brief}
use Rattle.mount_model.specs.declared.request.Request.{Request}
use Rattle.mount_model.specs.declared.request.Request.TheVariants as request
use Rattle.mount_model.specs.declared.request.Request.TheVariants.{Put, Stat, OpenRead, OpenWrite, OpenTruncate, Read, Write, Delete, MakeDir, RemoveDir, Unlink}
use Rattle.mount_model.specs.declared.request.Line.{Line}
use Rattle.mount_model.specs.declared.handle.Handle.TheVariants.{Writing}
use Rattle.mount_model.specs.declared.standing.Heard.{Heard}
use Rattle.mount_model.specs.declared.standing.Phase.{Phase}
use Rattle.mount_model.specs.declared.standing.Phase.TheVariants.{Waiting, Begun, Replied}
use Rattle.mount_model.specs.declared.standing.Standing.{Standing}
use Rattle.mount_model.specs.Heard.{nothing_heard}
use Rattle.mount_model.specs.Conversation.{max_pages}
use Rattle.mount_model.specs.Handles.{Handle}
use Rattle.mount_model.specs.State.{ClientState, Job, JobPhase, Ready, Out, Gone, handle_name}
use Rattle.run_laws.specs.Counts.{total}
use Rattle.run_laws.specs.Uploads.{calls_left_of}
use Rattle.run_laws.specs.Writers.{tally}

-- the most calls that a request may still make after what its line has heard

-- no more, once an answer is there that is no fact
abbrev pub unless_answered : List Brief → ℕ → ℕ
unless_answered [] left = left
unless_answered (answer ∷ answers) left = 0

abbrev pub one_left : List Brief → ℕ
one_left answers = unless_answered answers 1

abbrev pub if_unknown : Option Fact → ℕ
if_unknown None = 1
if_unknown (Some fact) = 0

-- 1 where the question isn't answered yet
abbrev pub if_open : (Question → Option Fact) → Question → ℕ
if_open facts question = if_unknown (facts question)

-- the open questions about one key
abbrev pub open_at : (Question → Option Fact) → List ℕ → ℕ
open_at facts key = if_open facts (Probe key) + if_open facts (Head key)

-- those about this key and the names below it
abbrev pub open_from : (Question → Option Fact) → List ℕ → List (List ℕ) → ℕ
open_from facts key [] = open_at facts key
open_from facts key (name ∷ names) = open_at facts key + open_from facts (key ++ slash ∷ name) names

-- those about the path of these names: none about the root
abbrev pub open_along : (Question → Option Fact) → List (List ℕ) → ℕ
open_along facts [] = 0
open_along facts (name ∷ names) = open_from facts name names

-- and so many calls behind them, by what stands at the path
abbrev pub path_left : ℕ → Result (List (List ℕ)) PathFault → Heard → ℕ
path_left behind (Err why) heard = 0
path_left behind (Ok names) heard = unless_answered heard.answers (open_along (fact_in heard.facts) names + behind)

-- A listing's pages come behind them. Each page is an answer, and with the first one no question is open.
abbrev pub list_left : Result (List (List ℕ)) PathFault → Heard → ℕ
list_left (Err why) heard = 0
list_left (Ok names) heard = unless_answered heard.answers (open_along (fact_in heard.facts) names) + (max_pages - length heard.answers)

-- a writer's calls aren't its lines' own
abbrev pub calls_left : Request → Heard → ℕ
calls_left (Put key content) heard = one_left heard.answers
calls_left (Stat path) heard = path_left 0 path heard
calls_left (request.List path) heard = list_left path heard
calls_left (OpenRead name path) heard = path_left 0 path heard
calls_left (OpenWrite name path) heard = path_left 0 path heard
calls_left (OpenTruncate name path) heard = path_left 0 path heard
calls_left (Read name offset count) heard = one_left heard.answers
calls_left (Delete key) heard = one_left heard.answers
calls_left (MakeDir path) heard = path_left 0 path heard
calls_left (RemoveDir path) heard = path_left 0 path heard
calls_left (Unlink path) heard = path_left 1 path heard
calls_left other heard = 0

-- and so many calls its writer may need for it: a new file one part of no bytes, its upload, its object and its end, and
-- each byte a part
abbrev pub writer_calls : Request → ℕ
writer_calls (OpenWrite name path) = 4
writer_calls (OpenTruncate name path) = 4
writer_calls (Write name offset content) = length (bytes_of content)
writer_calls other = 0

-- Steps still to come: to begin, and two for each call, to take it and to hear its answer. The calls of a writer are
-- counted at the line that opened it, while its handle is live.

abbrev pub work_of : Phase → Request → ℕ
work_of Waiting request = 2 * (calls_left request nothing_heard + writer_calls request) + 3
work_of (Begun heard) request = 2 * (calls_left request heard + writer_calls request)
work_of Replied request = 0

abbrev pub line_work : Standing → ℕ
line_work s = work_of s.phase s.line.request

abbrev pub phase_work : JobPhase → ℕ
phase_work Ready = 2
phase_work (Out from) = 1
phase_work Gone = 0

abbrev pub job_work : Job → ℕ
job_work job = phase_work job.phase

-- what the writer of this handle may still ask for, where this line opened it
abbrev pub handle_calls : ℕ → List Job → Option Handle → ℕ
handle_calls number jobs (Some (Writing w)) = if w.line == number then calls_left_of w.upload (tally number jobs) else 0
handle_calls number jobs other = 0

abbrev pub writer_work : List Job → (HandleName → Option Handle) → Line → ℕ
writer_work jobs handle_at line = 2 * handle_calls line.number jobs (handle_at (handle_name line))

abbrev pub work_left : ClientState → ℕ
work_left state = total line_work state.lines + total job_work state.jobs + total (λ s. writer_work state.jobs (table.get state.shared.handles) s.line) state.lines
