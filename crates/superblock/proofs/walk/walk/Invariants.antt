use Rattle.std.proofs.Common.{◌≡◌, ◌-◌, length, take, drop, option_copied}
use Rattle.mp_types.specs.Path.{names_in}
use Rattle.mp_rules.specs.Local.{local_at}
use Rattle.mp_rules.specs.Walk.{fact_in, walk, with_last}
use Rattle.superblock.specs.Prefix.{IsStop, names_behind}
use Rattle.superblock.specs.Walked.{walk_of}
use Rattle.superblock.proofs.walk.walk.Given as goal

abbrev pub invariant-loop-end : goal.invariant-loop-end
invariant-loop-end l = record {
  stop : IsStop l.path l.end;
  same : walk_of (fact_in (with_last (option_copied l.last) l.own)) (local_at l.names) (names_in l.path) ≡ walk (fact_in (with_last (option_copied l.last) l.own)) (local_at l.names) (take l.end l.path) (names_behind (drop l.end l.path));
}

abbrev pub decreases-loop-end : goal.decreases-loop-end
decreases-loop-end l = length l.path - l.end
