use Rattle.upload_rules.proofs.Place.{life-bytes}
use Rattle.upload_rules.proofs.laws.parts_are_the_bytes.Goals as goal

pub returns : goal.returns
returns c = life-bytes
