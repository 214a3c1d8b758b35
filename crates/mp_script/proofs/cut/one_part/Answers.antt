use Rattle.mp_script.proofs.Pieces.{split_one, one_more}
use Rattle.mp_script.proofs.cut.one_part.Goals as goal

pub returns-in-None : goal.returns-in-None
returns-in-None c = split_one c.args.separator c.args.text.now c.in-None.ensures

pub returns-in-Some : goal.returns-in-Some
returns-in-Some c = one_more c.args.separator c.args.text.now c.in-Some.field-0.before.now c.in-Some.field-0.after.now c.in-Some.ensures.0 c.in-Some.ensures.1
