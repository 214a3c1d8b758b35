use Rattle.local_names.proofs.Under.{no_parent, parent_found}
use Rattle.local_names.proofs.above.parent.Goals as goal

pub returns-in-Some : goal.returns-in-Some
returns-in-Some c =
    let found = rw c.in-Some.is at c.rsplit_once.ensures.cases in
    parent_found c.args.key.now c.in-Some.above.now found.0 found.1 found.2 found.3

pub returns-in-None : goal.returns-in-None
returns-in-None c = λ q. no_parent c.args.key.now q (rw c.in-None.is at c.rsplit_once.ensures.cases)
