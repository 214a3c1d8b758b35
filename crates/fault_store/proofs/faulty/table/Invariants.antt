use Rattle.std.proofs.Common.{◌≡◌, ℕ, vec_len}
use Rattle.std.specs.Option.{option_or}
use Rattle.fault_store.specs.Faulty.{first_listed, when_at}
use Rattle.fault_store.proofs.faulty.table.Given as goal

abbrev pub invariant-loop-number : goal.invariant-loop-number
invariant-loop-number l = (n : ℕ) → first_listed n l.fn.faults.items ≡ option_or (first_listed n l.faults.items) (when_at l.listed n)

abbrev pub decreases-loop-number : goal.decreases-loop-number
decreases-loop-number l = vec_len l.faults
