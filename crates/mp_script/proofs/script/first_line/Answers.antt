use Rattle.mp_script.proofs.Pieces.{line_cut, only_line}
use Rattle.mp_script.proofs.script.first_line.Goals as goal

pub returns-in-Some-clause-lines : goal.returns-in-Some-clause-lines
returns-in-Some-clause-lines c = rw c.in-Some.ensures.0 (line_cut c.in-Some.parted.before.now c.in-Some.parted.after.now c.in-Some.ensures.1)

pub returns-in-None-clause-lines : goal.returns-in-None-clause-lines
returns-in-None-clause-lines c = only_line c.args.bytes.now c.requires c.in-None.ensures
