use Rattle.std.proofs.Common.{◌<◌, length, sym, arith}
use Rattle.mp_script.proofs.Pieces.{ends_empty, pair_empty, none_empty}
use Rattle.mp_script.proofs.cut.has_empty_word.Goals as goal

pub returns-then-line-eq32-2 : goal.returns-then-line-eq32-2
returns-then-line-eq32-2 c =
    let some : 0 < length c.args.line.now = grind arith in
    sym (ends_empty c.args.line.now some c.if-line-eq32-2.true)

pub returns-in-None : goal.returns-in-None
returns-in-None c =
    let some : 0 < length c.args.line.now = grind arith in
    sym (none_empty c.args.line.now some c.if-line-eq32.false c.if-line-eq32-2.false c.in-None.ensures)

pub returns-in-Some : goal.returns-in-Some
returns-in-Some c = sym (pair_empty c.args.line.now c.in-Some.field-0 c.in-Some.ensures.1)
