use Rattle.std.proofs.Common.{◌≡◌, ◌≤◌, ◌++◌, length, map, drop, vec_capacity}
use Rattle.mount_model.specs.Run.{startable, startable_from}
use Rattle.line_table.specs.Table.{waiting}
use Rattle.line_table.proofs.prepare.find_startable.Given as goal

abbrev pub invariant-loop-line : goal.invariant-loop-line
invariant-loop-line l = record {
  done : l.numbers.items ++ startable_from l.busy.keys (map waiting (drop l.line-index l.lines)) ≡ startable (map waiting l.lines);
  room : length l.lines ≤ vec_capacity l.numbers;
}
