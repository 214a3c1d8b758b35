use Rattle.mp_script.proofs.Pieces.{found, not_found}
use Rattle.mp_script.proofs.cut.cut.Goals as goal

pub returns-in-None : goal.returns-in-None
returns-in-None c = not_found c.args.separator c.args.text.now c.in-None.ensures

pub returns-in-Some : goal.returns-in-Some
returns-in-Some c =
    let place = c.in-Some.ensures.0 in
    found c.args.separator c.in-Some.at c.args.text.now c.split_at.result.0.now c.split_at.result.1.now c.split_at.ensures.front c.split_at.ensures.back place.high c.in-Some.ensures.1 place.before
