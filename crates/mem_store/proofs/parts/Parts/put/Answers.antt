use Rattle.std.proofs.Common.{ap, ◌∙◌}
use Rattle.std.specs.FinMap as map
use Rattle.mem_store.proofs.Numbered.{insert-map_of}
use Rattle.mem_store.proofs.parts.Parts.put.Goals as goal

pub returns-clause-ok : goal.returns-clause-ok
returns-clause-ok c =
    insert-map_of c.self.inside.by_number c.insert.new.self c.args.number c.args.bytes c.in_ok-insert.ensures.updates
    ∙ ap (λ m. map.insert m c.args.number c.args.bytes) c.self.view_is
