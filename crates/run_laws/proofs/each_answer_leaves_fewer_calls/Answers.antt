use Rattle.run_laws.proofs.Faithful.{answer_leaves_fewer}
use Rattle.run_laws.proofs.each_answer_leaves_fewer_calls.Goals as goal

pub returns : goal.returns
returns c = answer_leaves_fewer
