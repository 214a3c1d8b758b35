use Rattle.run_laws.proofs.Served.{asks_once}
use Rattle.run_laws.proofs.writers_ask_once.Goals as goal

pub returns : goal.returns
returns c = asks_once
