use Rattle.run_laws.proofs.Faithful.{job_makes_call}
use Rattle.run_laws.proofs.each_read_makes_its_call.Goals as goal

pub returns : goal.returns
returns c = job_makes_call
