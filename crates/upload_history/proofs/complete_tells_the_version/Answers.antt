use Rattle.upload_history.proofs.Laws.{whole_told, version_told}
use Rattle.upload_history.proofs.complete_tells_the_version.Goals as goal

pub returns-clause-whole : goal.returns-clause-whole
returns-clause-whole c = whole_told

pub returns-clause-made : goal.returns-clause-made
returns-clause-made c = version_told
