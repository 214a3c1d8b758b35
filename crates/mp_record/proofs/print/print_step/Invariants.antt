use Rattle.std.proofs.Common.{◌≤◌, ◌++◌, flat_map, take}
use Rattle.mp_record.specs.Appends.{AppendsBut}
use Rattle.mp_record.specs.ItemText.{text_of_kind}
use Rattle.mp_record.proofs.print.print_step.Given as goal

abbrev pub invariant-loop-kind : goal.invariant-loop-kind
invariant-loop-kind g l = record {
  appended : AppendsBut (g.K.Sink.held l.initial.sink) (l.initial.gathered.items ++ flat_map (text_of_kind l.items) (take l.kind-index l.kind-items)) l.gathered.items (g.K.Sink.held l.sink);
  faults : g.K.Sink.faults l.initial.sink ≤ g.K.Sink.faults l.sink;
}
