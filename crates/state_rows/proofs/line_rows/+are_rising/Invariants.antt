use Rattle.std.proofs.Common.{length}
use Rattle.state_rows.proofs.line_rows.+are_rising.Given as goal

abbrev pub decreases-are_rising : goal.decreases-are_rising
decreases-are_rising l = length l.lines.now
