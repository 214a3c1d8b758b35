use Rattle.run_laws.proofs.Conversation.{asks_made}
use Rattle.run_laws.proofs.Made.{calls_made}
use Rattle.run_laws.proofs.calls_may_be_made.Goals as goal

pub returns-clause-asked : goal.returns-clause-asked
returns-clause-asked c = asks_made

pub returns-clause-run : goal.returns-clause-run
returns-clause-run c = calls_made
