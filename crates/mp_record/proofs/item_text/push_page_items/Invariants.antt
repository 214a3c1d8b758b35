use Rattle.std.proofs.Common.{◌≡◌, ◌++◌, flat_map, take}
use Rattle.mp_record.specs.RecordText.{item_text}
use Rattle.mp_record.proofs.item_text.push_page_items.Given as goal

abbrev pub invariant-loop-item : goal.invariant-loop-item
invariant-loop-item l = l.out.items ≡ l.initial.out.items ++ flat_map item_text (take l.item-index l.items)
