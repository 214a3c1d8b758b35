use Rattle.write_laws.proofs.Written.{are-written}
use Rattle.write_laws.proofs.written_objects_are_whole.Goals as goal

pub returns : goal.returns
returns c = λ options script start log steps. are-written options script start log steps
