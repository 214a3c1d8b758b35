use Rattle.upload_history.proofs.Laws.{whole_made, count_made}
use Rattle.upload_history.proofs.parts_make_the_whole.Goals as goal

pub returns-clause-whole : goal.returns-clause-whole
returns-clause-whole c = whole_made

pub returns-clause-count : goal.returns-clause-count
returns-clause-count c = count_made
