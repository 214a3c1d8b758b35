use Rattle.run_laws.proofs.Alive.{alive}
use Rattle.run_laws.proofs.each_state_is_alive.Goals as goal

pub returns : goal.returns
returns c = alive
