use Rattle.std.proofs.Common.{◌≡◌, ◌+◌, ◌≤◌, length}
use Rattle.mp_script.specs.ScriptText.{lines_of, script_from}
use Rattle.mp_script.specs.Reads.{put_before}
use Rattle.mp_script.proofs.script.read_lines.Given as goal

abbrev pub invariant-loop-rest : goal.invariant-loop-rest
invariant-loop-rest l = record { count : l.number + length l.rest ≤ 1 + length l.bytes; so_far : put_before l.lines.items (script_from l.number (lines_of l.rest)) ≡ script_from 1 (lines_of l.bytes) }

abbrev pub decreases-loop-rest : goal.decreases-loop-rest
decreases-loop-rest l = length l.rest
