use Rattle.std.proofs.Common.{◌≤◌, ◌++◌, flat_map, take}
use Rattle.mp_record.specs.Appends.{AppendsBut}
use Rattle.mp_record.specs.ItemText.{text_as}
use Rattle.mp_record.proofs.print.print_kind.Given as goal

abbrev pub invariant-loop-item : goal.invariant-loop-item
invariant-loop-item g l = record {
  appended : AppendsBut (g.K.Sink.held l.initial.sink) (l.initial.gathered.items ++ flat_map (text_as l.kind) (take l.item-index l.items)) l.gathered.items (g.K.Sink.held l.sink);
  faults : g.K.Sink.faults l.initial.sink ≤ g.K.Sink.faults l.sink;
}
