use Rattle.std.proofs.Common.{◌≡◌, ◌≤◌, ◌++◌, ℕ, List}
use Rattle.std.specs.Slice.Iter.{chunks_rest, chunks_size}
use Rattle.hex.specs.Hex.{encode_lower}
use Rattle.mp_record.specs.Appends.{AppendsBut}
use Rattle.mp_record.proofs.print.print_digits.Given as goal

abbrev pub invariant-loop-piece : goal.invariant-loop-piece
invariant-loop-piece g l = record {
  can_next : (goal.iterator-loop-piece g).can_next l.piece-iterator;
  ends : (goal.iterator-loop-piece g).is_finite l.piece-iterator;
  size : chunks_size l.piece-iterator ≡ 512;
  text : List ℕ;
  is : text ++ encode_lower (chunks_rest l.piece-iterator) ≡ l.initial.gathered.items ++ encode_lower l.bytes;
  appended : AppendsBut (g.K.Sink.held l.initial.sink) text l.gathered.items (g.K.Sink.held l.sink);
  faults : g.K.Sink.faults l.initial.sink ≤ g.K.Sink.faults l.sink;
}
