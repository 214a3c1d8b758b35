use Rattle.mp_script.proofs.Pieces.{one_part, other_count, parts_are}
use Rattle.std.proofs.Common.{lit<}
use Rattle.mp_script.proofs.cut.two_parts.Goals as goal

pub returns-in-None : goal.returns-in-None
returns-in-None c = one_part c.args.separator c.args.text.now 2 c.in-None.ensures (lit< tt)

pub returns-in-None-one_part : goal.returns-in-None-one_part
returns-in-None-one_part c = other_count c.args.separator c.args.text.now c.in-Some.parted.before.now c.in-Some.parted.after.now 1 c.in-Some.ensures.0 c.in-Some.ensures.1 c.in-None-one_part.ensures

pub returns-in-Some-one_part : goal.returns-in-Some-one_part
returns-in-Some-one_part c = parts_are c.args.separator c.args.text.now c.in-Some.parted.before.now c.in-Some.parted.after.now _ c.in-Some.ensures.0 c.in-Some.ensures.1 c.in-Some-one_part.ensures
