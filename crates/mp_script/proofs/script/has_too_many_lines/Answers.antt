use Rattle.std.proofs.Common.{◌≡◌, ◌<◌, length, sym, ◌∙◌, arith}
use Rattle.mp_script.proofs.Pieces.{lines_over}
use Rattle.mp_script.proofs.script.has_too_many_lines.Goals as goal

pub returns-then-left-eq0 : goal.returns-then-left-eq0
returns-then-left-eq0 c =
    let some : 0 < length c.loop-rest.rest.now = grind arith in
    let none : c.loop-rest.left ≡ 0 = grind arith in
    sym (lines_over c.loop-rest.rest.now c.loop-rest.left some none) ∙ c.loop-rest.invariant
