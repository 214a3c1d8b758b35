use Rattle.run_laws.proofs.Lines.{lines_of_run}
use Rattle.run_laws.proofs.lines_stay.Goals as goal

pub returns : goal.returns
returns c = lines_of_run
