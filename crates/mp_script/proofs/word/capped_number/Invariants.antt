use Rattle.std.proofs.Common.{◌≡◌, ◌≤◌, min, drop}
use Rattle.std.specs.List.{fold}
use Rattle.mp_script.specs.ScriptText.{number_of}
use Rattle.mp_script.proofs.Numbers.{more}
use Rattle.mp_script.proofs.word.capped_number.Given as goal

abbrev pub invariant-loop-digit : goal.invariant-loop-digit
invariant-loop-digit l = record { small : l.number ≤ 18446744073709551615; same : min 18446744073709551615 (fold more l.number (drop l.digit-index l.digits)) ≡ min 18446744073709551615 (number_of l.digits) }
