use Rattle.std.proofs.Common.{sym, ap, ◌∙◌}
use Rattle.std.specs.FinMap as map
use Rattle.mem_store.proofs.Numbered.{len-map_of}
use Rattle.mem_store.proofs.parts.Parts.len.Goals as goal

pub returns : goal.returns
returns c = c.len.ensures.len ∙ sym (len-map_of c.self.inside.by_number c.len.ensures.ordered) ∙ ap map.len c.self.view_is
