-- What a job has to do with its line, from when it is asked for until its answer comes. While a question is out, another
-- process may make or remove a directory, and its line would then ask something else.
use Rattle.std.specs.Prelude.{◌≡◌, ◌≢◌, ℕ, ◌<◌, Some}
use Rattle.bucket_model.specs.declared.answer.Brief.{Brief}
use Rattle.mount_model.specs.declared.request.Request.{Request}
use Rattle.mount_model.specs.declared.request.Request.TheVariants.{Read}
use Rattle.mount_model.specs.declared.standing.Heard.{Heard}
use Rattle.mount_model.specs.declared.standing.Phase.TheVariants.{Begun}
use Rattle.mount_model.specs.declared.standing.Standing.{Standing}
use Rattle.mount_model.specs.Heard.{with_told, question_of, told_by}
use Rattle.mount_model.specs.Conversation.{Asks}
use Rattle.mount_model.specs.State.{ClientState, Job, Gone, line_at, job_at, next_in}
use Rattle.run_laws.specs.Listings.{MayList, AsksItself, HeardPages}
use Rattle.run_laws.specs.Served.{IsOfLine}
use Rattle.run_laws.specs.Work.{calls_left}

abbrev pub IsRead : Request → Type 0
IsRead (Read name offset count) = Unit {0}
IsRead other = ⊥

-- where its line reads, the job makes the call that the line does next
abbrev pub MakesRead : ClientState → Job → Type 0
MakesRead state job = (standing : Standing) → line_at job.line state.lines ≡ Some standing → IsRead standing.line.request → next_in state.shared standing ≡ Asks job.call

-- whatever the answer to the job is, it leaves the line fewer calls
abbrev pub LeavesFewer : ClientState → Job → Type 0
LeavesFewer state job = (standing : Standing) (heard : Heard) (answer : Brief) → line_at job.line state.lines ≡ Some standing → standing.phase ≡ Begun heard → calls_left standing.line.request (with_told (told_by (question_of job.call) answer) heard) < calls_left standing.line.request heard

-- the job lists only where its line does, and a line that lists asks for itself and has heard nothing but pages
abbrev pub MakesListing : ClientState → Job → Type 0
MakesListing state job = (standing : Standing) (heard : Heard) → line_at job.line state.lines ≡ Some standing → standing.phase ≡ Begun heard → MayList job.call standing.line.request × AsksItself standing.line.request job.owner job.line × HeardPages standing.line.request heard.answers

-- so it is with each job of a line's own that is ready or out
pub record IsFaithful (state : ClientState) : Type 0 where
  pub reads : (number : ℕ) (job : Job) → job_at number state.jobs ≡ Some job → IsOfLine job.owner → job.phase ≢ Gone → MakesRead state job
  pub falls : (number : ℕ) (job : Job) → job_at number state.jobs ≡ Some job → IsOfLine job.owner → job.phase ≢ Gone → LeavesFewer state job
  pub lists : (number : ℕ) (job : Job) → job_at number state.jobs ≡ Some job → IsOfLine job.owner → job.phase ≢ Gone → MakesListing state job
