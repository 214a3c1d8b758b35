use Rattle.run_laws.proofs.Order.{run_in_order}
use Rattle.run_laws.proofs.each_step_is_in_order.Goals as goal

pub returns : goal.returns
returns c = run_in_order
