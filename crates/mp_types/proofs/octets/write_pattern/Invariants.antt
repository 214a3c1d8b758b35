use Rattle.std.proofs.Common.{◌≡◌, ◌+◌, ◌%◌, ◌<◌, ℕ, slice_index, length}
use Rattle.mp_types.proofs.octets.write_pattern.Given as goal

abbrev pub invariant-loop-byte : goal.invariant-loop-byte
invariant-loop-byte l = (l.next ≡ (l.first + l.byte-index) % 251) × ((k : ℕ) → k < l.byte-index → slice_index l.out k ≡ (l.first + k) % 251) × (length l.out ≡ length l.initial.out)
