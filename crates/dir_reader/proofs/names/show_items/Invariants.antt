use Rattle.std.proofs.Common.{◌≡◌, fold, take}
use Rattle.listing_rules.specs.Names.{with_item}
use Rattle.dir_reader.specs.Gathered.{found_in}
use Rattle.dir_reader.proofs.names.show_items.Given as goal

abbrev pub invariant-loop-item : goal.invariant-loop-item
invariant-loop-item l = found_in l.names ≡ fold (with_item l.prefix) (found_in l.fn.names) (take l.item-index l.items)
