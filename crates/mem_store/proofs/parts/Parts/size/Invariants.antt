use Rattle.mem_store.proofs.Joins.{IsSizeTo}
use Rattle.mem_store.proofs.parts.Parts.size.Given as goal

abbrev pub invariant-loop-place : goal.invariant-loop-place
invariant-loop-place l = IsSizeTo l.self l.count l.place l.size
