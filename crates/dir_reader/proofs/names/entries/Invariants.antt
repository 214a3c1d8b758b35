use Rattle.std.proofs.Common.{◌≡◌, ◌++◌, map as each}
use Rattle.listing_rules.specs.Names.{entry_of}
use Rattle.dir_reader.proofs.names.entries.Given as goal

abbrev pub invariant-loop-name : goal.invariant-loop-name
invariant-loop-name l = l.entries.items ++ each entry_of l.name-iterator ≡ each entry_of l.fn.names.entries
