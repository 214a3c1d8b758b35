use Rattle.run_laws.proofs.Listed.{asked_listing, answered_listing}
use Rattle.run_laws.proofs.each_listing_has_its_line.Goals as goal

pub returns-clause-asked : goal.returns-clause-asked
returns-clause-asked c = asked_listing

pub returns-clause-answered : goal.returns-clause-answered
returns-clause-answered c = answered_listing
