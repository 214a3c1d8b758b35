use Rattle.std.proofs.Common.{◌≡◌}
use Rattle.dir_reader.specs.Gathered.{found_in, with_children}
use Rattle.dir_reader.proofs.names.show_children.Given as goal

abbrev pub invariant-loop-name : goal.invariant-loop-name
invariant-loop-name l = found_in l.names ≡ with_children l.yielded (found_in l.fn.names)
