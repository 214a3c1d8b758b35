use Rattle.name_laws.proofs.Walks.{created, made, removed}
use Rattle.name_laws.proofs.names_are_made_once.Goals as goal

pub returns-clause-created : goal.returns-clause-created
returns-clause-created c = created

pub returns-clause-made : goal.returns-clause-made
returns-clause-made c = made

pub returns-clause-removed : goal.returns-clause-removed
returns-clause-removed c = removed
