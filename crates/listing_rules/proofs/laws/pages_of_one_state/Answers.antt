use Rattle.std.proofs.Common.{ap}
use Rattle.listing_rules.specs.Names.{with_all_own}
use Rattle.listing_rules.proofs.Joined.{pages_show}
use Rattle.listing_rules.proofs.laws.pages_of_one_state.Goals as goal

pub returns : goal.returns
returns c = λ state prefix pages own are. ap (with_all_own prefix own) (pages_show prefix state pages are)
