use Rattle.std.proofs.Common.{length, refl}
use Rattle.std.proofs.lemmas.Option.{slice_get_read}
use Rattle.mp_driver.proofs.ByJob.{with-remove}
use Rattle.mp_driver.proofs.held.let_go.Goals as goal

pub returns-clause-value : goal.returns-clause-value
returns-clause-value c = slice_get_read c.args.held.now.items (length c.args.held.now.items) c.args.place c.remove.result refl c.requires.within c.remove.ensures.value

pub returns-clause-with : goal.returns-clause-with
returns-clause-with c = rw c.remove.ensures.items (with-remove c.args.held.now.items c.args.place c.remove.result (returns-clause-value c) c.requires.by_job).0

pub returns-clause-by_job : goal.returns-clause-by_job
returns-clause-by_job c = rw c.remove.ensures.items (with-remove c.args.held.now.items c.args.place c.remove.result (returns-clause-value c) c.requires.by_job).1
