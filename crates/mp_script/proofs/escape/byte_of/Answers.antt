use Rattle.mp_script.proofs.Escapes.{pair}
use Rattle.mp_script.proofs.escape.byte_of.Goals as goal

pub returns-in-Ok : goal.returns-in-Ok
returns-in-Ok c = rw c.in-Ok.is at (pair c.args.high c.args.low c.from_hex.result c.from_hex.ensures)

pub returns-in-Err : goal.returns-in-Err
returns-in-Err c = rw c.in-Err.is at (pair c.args.high c.args.low c.from_hex.result c.from_hex.ensures)
