use Rattle.upload_rules.proofs.Place.{life-few}
use Rattle.upload_rules.proofs.laws.parts_are_few.Goals as goal

pub returns : goal.returns
returns c = life-few
