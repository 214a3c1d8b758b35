use Rattle.local_names.proofs.Names.{empty_is_kept}
use Rattle.local_names.proofs.locals.Locals.new.Goals as goal

pub invariant_of-result : goal.invariant_of-result
invariant_of-result c = empty_is_kept c.new.result c.new.ensures.empty
