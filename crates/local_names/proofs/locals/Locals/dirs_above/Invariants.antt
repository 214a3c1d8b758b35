use Rattle.std.proofs.Common.{length}
use denote.Text.{Utf8}
use denote.Shadow.{shadow}
use Rattle.local_names.proofs.GivenUp.{IsGivingUp}
use Rattle.local_names.proofs.locals.Locals.dirs_above.Given as goal

abbrev pub invariant-loop-above : goal.invariant-loop-above
invariant-loop-above l = shadow (Utf8 l.rest) × IsGivingUp l.fn.self l.self l.key l.rest

abbrev pub decreases-loop-above : goal.decreases-loop-above
decreases-loop-above l = length l.rest
