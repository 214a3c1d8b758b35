use Rattle.mem_store.proofs.Joins.{IsJoinedTo}
use Rattle.mem_store.proofs.parts.Parts.add_parts.Given as goal

abbrev pub invariant-loop-number : goal.invariant-loop-number
invariant-loop-number l = IsJoinedTo l.self l.count l.number l.bytes.items
