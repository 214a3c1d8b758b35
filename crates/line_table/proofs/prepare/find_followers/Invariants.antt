use Rattle.std.proofs.Common.{◌≡◌, ◌≤◌, ℕ, length, drop, reverse}
use Rattle.std.specs.BTreeMap as tree
use Rattle.std.specs.Ordering.{nat_cmp}
use Rattle.line_table.specs.Table.{first_of, followers_of}
use Rattle.line_table.proofs.prepare.find_followers.Given as goal

abbrev pub invariant-loop-place : goal.invariant-loop-place
invariant-loop-place l = record {
  within : l.place ≤ length l.lines;
  done : l.followers.items ≡ reverse (followers_of (drop l.place l.lines));
  firsts : (actor : ℕ) → tree.get nat_cmp l.first actor ≡ first_of actor (drop l.place l.lines);
}

abbrev pub decreases-loop-place : goal.decreases-loop-place
decreases-loop-place l = l.place
