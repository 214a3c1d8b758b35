use Rattle.std.proofs.Common.{◌≤◌, ◌<◌, ◌+◌, ◌-◌, length, vec_len}
use Rattle.mount_one.specs.Reading.{Gathers}
use Rattle.mount_one.proofs.reading.read_all.Given as goal

-- what was read and what is left is all that there was; a read goes at most one byte beyond the limit
abbrev pub invariant-loop-piece : goal.invariant-loop-piece
invariant-loop-piece g l = record {
  some : 0 < length l.piece.items;
  gathered : Gathers (g.S.Source.left l.fn.source) l.bytes.items (g.S.Source.left l.source);
  within : vec_len l.bytes ≤ l.limit + 1;
  grown : g.S.Source.faults l.fn.source ≤ g.S.Source.faults l.source;
}

abbrev pub decreases-loop-piece : goal.decreases-loop-piece
decreases-loop-piece g l = l.limit + 1 - vec_len l.bytes
