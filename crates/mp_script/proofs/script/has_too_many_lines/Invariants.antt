use Rattle.std.proofs.Common.{◌≡◌, length, nat_lt}
use Rattle.mp_script.specs.ScriptText.{max_lines, lines_of}
use Rattle.mp_script.proofs.script.has_too_many_lines.Given as goal

abbrev pub invariant-loop-rest : goal.invariant-loop-rest
invariant-loop-rest l = nat_lt l.left (length (lines_of l.rest)) ≡ nat_lt max_lines (length (lines_of l.bytes))

abbrev pub decreases-loop-rest : goal.decreases-loop-rest
decreases-loop-rest l = length l.rest
