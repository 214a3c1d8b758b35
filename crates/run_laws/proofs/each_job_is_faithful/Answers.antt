use Rattle.run_laws.proofs.Faithful.{faithful-step, faithful}
use Rattle.run_laws.proofs.each_job_is_faithful.Goals as goal

pub returns-clause-step : goal.returns-clause-step
returns-clause-step c = faithful-step

pub returns-clause-run : goal.returns-clause-run
returns-clause-run c = faithful
