use Rattle.run_laws.proofs.Served.{served, one_job, working}
use Rattle.run_laws.proofs.each_job_has_its_line.Goals as goal

pub returns-clause-owned : goal.returns-clause-owned
returns-clause-owned c = served

pub returns-clause-alone : goal.returns-clause-alone
returns-clause-alone c = one_job

pub returns-clause-at_work : goal.returns-clause-at_work
returns-clause-at_work c = working
