use Rattle.std.proofs.Common.{◌≤◌, length}
use Rattle.mp_record.specs.Appends.{AppendsBut}
use Rattle.mp_record.proofs.write.write_all.Given as goal

abbrev pub invariant-loop-rest : goal.invariant-loop-rest
invariant-loop-rest g l = record {
  appended : AppendsBut (g.K.Sink.held l.initial.sink) l.bytes l.rest (g.K.Sink.held l.sink);
  faults : g.K.Sink.faults l.initial.sink ≤ g.K.Sink.faults l.sink;
}

abbrev pub decreases-loop-rest : goal.decreases-loop-rest
decreases-loop-rest g l = length l.rest
