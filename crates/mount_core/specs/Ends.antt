-- How the turn of a line ends that has no writer go on.
use Rattle.std.specs.Prelude.{◌≡◌, ℕ, ◌+◌, List, [], ◌∷◌, ◌++◌, Option, Some}
use Rattle.bucket_model.specs.declared.call.Call.{Call}
use Rattle.mount_model.specs.declared.request.Reply.{Reply}
use Rattle.mount_model.specs.declared.request.Line.{Line}
use Rattle.mount_model.specs.declared.event.Owner.{Owner}
use Rattle.mount_model.specs.declared.standing.Phase.TheVariants.{Replied}
use Rattle.mount_model.specs.declared.standing.Standing.{Standing}
use Rattle.mount_model.specs.declared.standing.Told.{Told}
use Rattle.mount_model.specs.Step.{Step, change_last, with_ask}
use Rattle.mount_model.specs.State.{ClientState, line_at, change_line, by_reply}
use Rattle.mount_model.specs.Conversation.{Next}
use Rattle.mount_model.specs.Reads.{GivesOnly}
use Rattle.mount_model.specs.Run.{TakesTurnOfLine, asked_of}
use Rattle.line_table.specs.Table.{HasBegun}
use Rattle.job_table.specs.LiveJobs.{purpose_of}
use Rattle.mount_core.specs.declared.work.Work.{Work}
use Rattle.mount_core.specs.Shared.{shared_in}
use Rattle.mount_core.specs.Turn.{lines_behind, Answers}

-- the line has asked for this call, as a new job
pub record Asks (number : ℕ) (asker : Owner) (called : Call) (last : Option Told) (old new : Work) : Type 0 where
  pub steps : new.record.steps ≡ change_last (with_ask (record { job = old.jobs.count + 1; owner = asker; call = asked_of called })) old.record.steps
  pub lines : new.lines ≡ lines_behind number last old
  pub jobs : new.jobs ≡ record { count = old.jobs.count + 1; held = old.jobs.held ++ record { number = old.jobs.count + 1; owner = asker; line = number; call = Some called; purpose = purpose_of called } ∷ [] }
  pub time : new.time ≡ old.time

-- there was no memory for the call: the line may still be answered, and all else is as before
pub record AsksNot (number : ℕ) (old new : Work) : Type 0 where
  pub steps : new.record.steps ≡ old.record.steps
  pub begun : HasBegun number new.lines
  pub lines : change_line number (λ phase. Replied) new.lines ≡ change_line number (λ phase. Replied) old.lines
  pub jobs : new.jobs ≡ old.jobs
  pub time : new.time ≡ old.time

-- the line got a reply that its turn may give, without data, and the reply has done what it does
pub record Ends (number : ℕ) (next : Next) (old new : Work) : Type 0 where
  pub said : Reply
  pub answers : Answers (record { line = number; reply = said } ∷ []) old new
  pub turn : (state : ClientState) (step : Step) (line : Line) (who : Owner) → line.number ≡ number → step.asks ≡ [] → step.drops ≡ [] → TakesTurnOfLine state step line who next (record { line = number; reply = said } ∷ [])
  pub plain : (bytes : List ℕ) → GivesOnly bytes (record { line = number; reply = said })
  pub options : new.options ≡ old.options
  pub does : (s : Standing) (step : Step) → line_at number old.lines ≡ Some s → shared_in new ≡ by_reply next s.line step (shared_in old) (Some said)
