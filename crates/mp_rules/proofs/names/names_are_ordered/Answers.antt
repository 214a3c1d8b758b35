use Rattle.mp_rules.proofs.Order.{total, distinct}
use Rattle.mp_rules.proofs.names.names_are_ordered.Goals as goal

pub returns-clause-total : goal.returns-clause-total
returns-clause-total c = total

pub returns-clause-distinct : goal.returns-clause-distinct
returns-clause-distinct c = distinct
