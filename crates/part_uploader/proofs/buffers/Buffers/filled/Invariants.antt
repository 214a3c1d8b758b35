use Rattle.std.proofs.Common.{◌≡◌, ◌≤◌, ◌-◌, ◌++◌, length, drop}
use Rattle.std.specs.List.{All}
use Rattle.mp_types.specs.Content.{bytes_of}
use Rattle.upload_rules.specs.Run.{joined}
use Rattle.part_uploader.proofs.buffers.Buffers.filled.Given as goal

abbrev pub invariant-loop-place : goal.invariant-loop-place
invariant-loop-place l = record {
  within : l.place ≤ length (bytes_of l.«data»);
  whole : All (λ bytes. length bytes ≡ l.part) l.full.items;
  so_far : joined l.full.items ++ drop l.place (bytes_of l.«data») ≡ drop l.at (bytes_of l.«data»);
}

abbrev pub decreases-loop-place : goal.decreases-loop-place
decreases-loop-place l = length (bytes_of l.«data») - l.place
