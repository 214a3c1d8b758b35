use Rattle.mp_script.proofs.Pieces.{one_part, other_count, parts_are}
use Rattle.std.proofs.Common.{lit<}
use Rattle.mp_script.proofs.cut.three_parts.Goals as goal

pub returns-in-None : goal.returns-in-None
returns-in-None c = one_part c.args.separator c.args.text.now 3 c.in-None.ensures (lit< tt)

pub returns-in-None-two_parts : goal.returns-in-None-two_parts
returns-in-None-two_parts c = other_count c.args.separator c.args.text.now c.in-Some.parted.before.now c.in-Some.parted.after.now 2 c.in-Some.ensures.0 c.in-Some.ensures.1 c.in-None-two_parts.ensures

pub returns-in-Some-two_parts : goal.returns-in-Some-two_parts
returns-in-Some-two_parts c = parts_are c.args.separator c.args.text.now c.in-Some.parted.before.now c.in-Some.parted.after.now _ c.in-Some.ensures.0 c.in-Some.ensures.1 c.in-Some-two_parts.ensures
