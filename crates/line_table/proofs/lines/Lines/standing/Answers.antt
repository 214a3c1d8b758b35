use Rattle.std.proofs.Common.{sym}
use Rattle.line_table.proofs.Kept.{find_place}
use Rattle.line_table.proofs.lines.Lines.standing.Goals as goal

pub returns-in-Some-clause-value : goal.returns-in-Some-clause-value
returns-in-Some-clause-value c = rw (← c.self.view_is) (sym (find_place c.args.number c.self.inside.standings.items c.in-Some.i c.index.result.now c.self.invariant.rising (rw (← c.as_slice.ensures.value) c.in-Some.ensures) c.index.ensures))
