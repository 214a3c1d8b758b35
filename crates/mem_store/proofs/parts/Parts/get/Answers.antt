use Rattle.std.proofs.Common.{sym, ap, ◌∙◌}
use Rattle.std.specs.FinMap as map
use Rattle.mem_store.proofs.Numbered.{get-map_of}
use Rattle.mem_store.proofs.parts.Parts.get.Goals as goal

pub returns : goal.returns
returns c = c.get.ensures.value ∙ sym (get-map_of c.self.inside.by_number c.args.number) ∙ ap (λ m. map.get m c.args.number) c.self.view_is
