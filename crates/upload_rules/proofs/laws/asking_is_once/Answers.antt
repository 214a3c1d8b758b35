use Rattle.upload_rules.proofs.Once.{no-create, no-complete, no-abort, create-once}
use Rattle.upload_rules.proofs.laws.asking_is_once.Goals as goal

pub returns-clause-create : goal.returns-clause-create
returns-clause-create c = no-create

pub returns-clause-complete : goal.returns-clause-complete
returns-clause-complete c = no-complete

pub returns-clause-abort : goal.returns-clause-abort
returns-clause-abort c = no-abort

pub returns-clause-life : goal.returns-clause-life
returns-clause-life c = create-once
