use Rattle.run_laws.proofs.Once.{begins_once, replies_behind, replied_once, each_replied}
use Rattle.run_laws.proofs.each_line_is_answered_once.Goals as goal

pub returns-clause-begun : goal.returns-clause-begun
returns-clause-begun c = begins_once

pub returns-clause-behind : goal.returns-clause-behind
returns-clause-behind c = replies_behind

pub returns-clause-phase : goal.returns-clause-phase
returns-clause-phase c = replied_once

pub returns-clause-each : goal.returns-clause-each
returns-clause-each c = each_replied
