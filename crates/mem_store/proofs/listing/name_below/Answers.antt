use Rattle.mem_store.proofs.Cuts.{name_behind}
use Rattle.mem_store.proofs.listing.name_below.Goals as goal

pub returns-in-Some : goal.returns-in-Some
returns-in-Some c = name_behind c.args.prefix.now c.args.text.now c.in-Some.rest.now c.before_slash.result c.in-Some.ensures c.before_slash.ensures
