-- What writers make is whole, over the history that an honest store tells.
use Rattle.std.proofs.Common.{◌≡◌, ℕ, List, Option, Some, None, refl}
use Rattle.mp_types.specs.declared.options.Opts.{Opts}
use Rattle.mp_types.specs.Options.{AreWithin}
use Rattle.bucket_model.specs.History.{History, IsLegalHistory}
use Rattle.mount_model.specs.declared.request.Line.{Line}
use Rattle.mount_model.specs.Step.{Step}
use Rattle.mount_model.specs.Run.{AreRising, IsRunSoFar}
use Rattle.mount_model.specs.Tied.{IsTiedTo}
use Rattle.mount_model.specs.Written.{WrittenOver}
use Rattle.write_laws.proofs.Written.{are-written, has-its-uploads}

pub written-over : (told : Option History) (options : Opts) (script : List Line) (start : ℕ) (is_alone : Type 0) (steps : List Step) → AreWithin options → AreRising 0 script → IsRunSoFar options script steps → IsTiedTo told options script start is_alone steps → ((history : History) → told ≡ Some history → IsLegalHistory history.log) → WrittenOver told options script steps
written-over None options script start is_alone steps within rising run tied legal = tt
written-over (Some told) options script start is_alone steps within rising run tied legal = are-written options script start told.log steps within rising run tied.calls (has-its-uploads start is_alone told.log _ tied.changes) (legal told refl)
