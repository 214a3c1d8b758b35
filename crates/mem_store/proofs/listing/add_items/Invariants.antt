use Rattle.mem_store.proofs.Listed.{IsListedTo}
use Rattle.mem_store.proofs.listing.add_items.Given as goal

abbrev pub invariant-loop-key : goal.invariant-loop-key
invariant-loop-key l = IsListedTo l.prefix l.after l.max l.objects l.items.items l.entries
