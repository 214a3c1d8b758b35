-- What a core is to its callers: options, a script, and the steps of a run of it so far.
use Rattle.std.specs.Prelude.{◌≡◌, ℕ, ◌<◌, List, [], ◌∷◌, ◌++◌, map, length}
use Rattle.std.specs.List.{AllByRecursion}
use Rattle.mp_types.specs.declared.options.Opts.{Opts}
use Rattle.mp_types.specs.Options.{AreWithin}
use Rattle.mount_model.specs.declared.request.Line.{Line}
use Rattle.mount_model.specs.declared.event.Event.{Event}
use Rattle.mount_model.specs.Step.{Step}
use Rattle.mount_model.specs.State.{ClientState, state_after}
use Rattle.mount_model.specs.Reads.{GivesOnly}
use Rattle.mount_model.specs.Run.{IsLegalStep, IsRunSoFar, AreRising}
use Rattle.job_table.specs.LiveJobs.{held_of}
use Rattle.mount_core.specs.declared.work.Work.{Work}
use Rattle.mount_core.specs.Shared.{shared_in}
use Rattle.run_laws.specs.Work.{work_left}

pub record CoreState : Type 0 where
  pub options : Opts
  pub script : List Line
  pub steps : List Step

-- the state of the mount after the steps so far
abbrev pub state_of : CoreState → ClientState
state_of core = state_after core.options core.script core.steps

-- The record after the event is the record before it with exactly one step more, that event's, and the step is legal.
-- Data that it gives are these bytes. There is less left to do.
pub record Advances (event : Event) (bytes : List ℕ) (old new : CoreState) : Type 0 where
  pub options : new.options ≡ old.options
  pub script : new.script ≡ old.script
  pub step : Step
  pub steps : new.steps ≡ old.steps ++ step ∷ []
  pub event_is : step.event ≡ event
  pub legal : IsLegalStep (state_of old) step
  pub gives : AllByRecursion (GivesOnly bytes) step.replies
  pub less : work_left (state_of new) < work_left (state_of old)

-- how the parts of a core stand for its script and steps
pub record IsCore (work : Work) (core : CoreState) : Type 0 where
  pub within : AreWithin core.options
  pub rising : AreRising 0 core.script
  pub so_far : IsRunSoFar core.options core.script core.steps
  pub time : work.time ≡ (state_of core).time
  pub lines : work.lines ≡ (state_of core).lines
  pub held : work.jobs.held ≡ held_of (state_of core).jobs
  pub count : work.jobs.count ≡ length (state_of core).jobs
  pub shared : shared_in work ≡ (state_of core).shared

abbrev pub core_of : Work → CoreState
core_of work = record { options = work.options; script = map (λ s. s.line) work.lines; steps = work.record.steps }
