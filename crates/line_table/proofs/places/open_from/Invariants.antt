use Rattle.std.proofs.Common.{◌≤◌, length, ◌-◌}
use Rattle.line_table.specs.Table.{open_place}
use Rattle.line_table.proofs.places.open_from.Given as goal

abbrev pub invariant-loop-place : goal.invariant-loop-place
invariant-loop-place l = l.place ≤ open_place l.lines

abbrev pub decreases-loop-place : goal.decreases-loop-place
decreases-loop-place l = length l.lines - l.place
