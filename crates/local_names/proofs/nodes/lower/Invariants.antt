use Rattle.std.proofs.Common.{length}
use denote.Text.{Utf8}
use denote.Shadow.{shadow}
use Rattle.local_names.proofs.Loops.{IsLowering}
use Rattle.local_names.proofs.nodes.lower.Given as goal

abbrev pub invariant-loop-above : goal.invariant-loop-above
invariant-loop-above l = shadow (Utf8 l.rest) × IsLowering l.fn.nodes l.nodes l.key l.rest

abbrev pub decreases-loop-above : goal.decreases-loop-above
decreases-loop-above l = length l.rest
