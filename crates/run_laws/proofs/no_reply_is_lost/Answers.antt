use Rattle.run_laws.proofs.Quiet.{no_reply_lost}
use Rattle.run_laws.proofs.no_reply_is_lost.Goals as goal

pub returns : goal.returns
returns c = no_reply_lost
