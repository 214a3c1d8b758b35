use Rattle.std.proofs.Common.{length, arith}
use Rattle.mp_types.proofs.Patterns.{all-pattern}
use Rattle.mp_types.proofs.octets.write_pattern.Goals as goal

-- src/octets.rt:18:1
pub returns : goal.returns
returns c = all-pattern c.args.first (length c.args.out.now) c.loop-byte.out c.loop-byte.auto.out (λ place within. c.loop-byte.invariant.1 place (omega (arith, c.loop-byte-test.false)))
