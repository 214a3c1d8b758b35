use Rattle.std.proofs.Common.{◌≡◌, ◌++◌, true, length, string_bytes}
use Rattle.std.specs.List.{starts_with}
use Rattle.std.specs.Prelude.{nat_eq}
use Rattle.local_names.specs.Children.{children_in, entries_from}
use Rattle.local_names.proofs.children.children.Given as goal

abbrev pub invariant-loop-from : goal.invariant-loop-from
invariant-loop-from l =
    (starts_with nat_eq (string_bytes l.from) l.prefix ≡ true)
    × (l.children.items ++ children_in l.prefix (entries_from (string_bytes l.from) l.nodes.entries) ≡ children_in l.prefix l.nodes.entries)

abbrev pub decreases-loop-from : goal.decreases-loop-from
decreases-loop-from l = length (entries_from (string_bytes l.from) l.nodes.entries)
