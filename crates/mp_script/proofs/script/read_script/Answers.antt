use Rattle.std.proofs.Common.{lit<}
use Rattle.mp_script.specs.ScriptText.{lines_of}
use Rattle.mp_script.proofs.Lines.{rises}
use Rattle.mp_script.proofs.script.read_script.Goals as goal

pub returns-clause-rising : goal.returns-clause-rising
returns-clause-rising c = rw c.from_vec.ensures (rises 0 1 (lines_of c.args.bytes.now) c.in_ok-lines.lines.items (lit< tt) c.in_ok-lines.ensures)
