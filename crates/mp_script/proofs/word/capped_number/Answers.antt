use Rattle.std.proofs.Common.{arith}
use Rattle.mp_script.proofs.Numbers.{next_digit}
use Rattle.mp_script.proofs.word.capped_number.Goals as goal

pub loop-digit-preserved : goal.loop-digit-preserved
loop-digit-preserved c = record { small = omega arith; same = next_digit 18446744073709551615 c.loop-digit.number c.saturating_add-number.result c.loop-digit.digit-index _ c.args.digits.now c.loop-digit-test.true (omega arith) c.loop-digit.invariant.same }
