use Rattle.std.proofs.Common.{◌∙◌}
use Rattle.line_table.proofs.Opens.{replied_iff_past}
use Rattle.line_table.proofs.lines.Lines.all_replied.Goals as goal

pub returns : goal.returns
returns c = rw (← c.self.view_is) (replied_iff_past c.self.inside.standings.items c.self.inside.first_open c.len.result c.self.invariant.from_open (c.len.ensures ∙ c.self.inside.standings.ok.0))
