use Rattle.std.proofs.Common.{◌≡◌, ◌≤◌, ◌++◌, ℕ, List, length}
use Rattle.mount_model.specs.Step.{steps_of, IsRow}
use Rattle.mp_record.specs.RecordText.{record_text}
use Rattle.mp_record.specs.Appends.{AppendsBut}
use Rattle.mp_record.proofs.print.print_steps.Given as goal

abbrev pub invariant-loop-step : goal.invariant-loop-step
invariant-loop-step g l = record {
  row : IsRow l.rest;
  text : List ℕ;
  is : text ++ record_text (steps_of l.rest) ≡ l.initial.gathered.items ++ record_text (steps_of l.items);
  appended : AppendsBut (g.K.Sink.held l.initial.sink) text l.gathered.items (g.K.Sink.held l.sink);
  faults : g.K.Sink.faults l.initial.sink ≤ g.K.Sink.faults l.sink;
}

abbrev pub decreases-loop-step : goal.decreases-loop-step
decreases-loop-step g l = length l.rest
