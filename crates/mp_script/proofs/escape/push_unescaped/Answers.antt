use Rattle.mp_script.proofs.Escapes.{one_more}
use Rattle.mp_script.proofs.escape.push_unescaped.Goals as goal

pub loop-rest-preserved : goal.loop-rest-preserved
loop-rest-preserved c = rw c.in_ok-push.ensures.items (one_more c.loop-rest.bytes.items c.in_ok-byte.byte c.in_ok-byte.after.now c.loop-rest.rest.now _ c.in_ok-byte.ensures.byte c.loop-rest.invariant)
