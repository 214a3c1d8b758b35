use Rattle.run_laws.proofs.Ends.{work_falls, run_ends}
use Rattle.run_laws.proofs.each_run_ends.Goals as goal

pub returns-clause-step : goal.returns-clause-step
returns-clause-step c = work_falls

pub returns-clause-run : goal.returns-clause-run
returns-clause-run c = run_ends
