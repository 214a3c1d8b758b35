use Rattle.upload_rules.proofs.Place.{life-place}
use Rattle.upload_rules.proofs.laws.parts_have_their_place.Goals as goal

pub returns : goal.returns
returns c = life-place
