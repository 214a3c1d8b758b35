use Rattle.upload_history.proofs.Laws.{version_is}
use Rattle.upload_history.proofs.complete_makes_the_version.Goals as goal

pub returns : goal.returns
returns c = version_is
