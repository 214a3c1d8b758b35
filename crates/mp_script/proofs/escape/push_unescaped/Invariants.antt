use Rattle.std.proofs.Common.{◌≡◌, length}
use Rattle.mp_script.specs.ScriptText.{unescaped}
use Rattle.mp_script.specs.Words.{put_in_front}
use Rattle.mp_script.proofs.escape.push_unescaped.Given as goal

abbrev pub invariant-loop-rest : goal.invariant-loop-rest
invariant-loop-rest l = put_in_front l.bytes.items (unescaped l.rest) ≡ put_in_front l.fn.bytes.items (unescaped l.text)

abbrev pub decreases-loop-rest : goal.decreases-loop-rest
decreases-loop-rest l = length l.rest
