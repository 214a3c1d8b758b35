use Rattle.upload_history.proofs.Laws.{upload_told}
use Rattle.upload_history.proofs.create_tells_the_upload.Goals as goal

pub returns : goal.returns
returns c = upload_told
