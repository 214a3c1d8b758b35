use Rattle.std.proofs.Common.{sym, ap, ◌∙◌}
use Rattle.mp_rules.specs.Local.{LocalNames, local_at}
use Rattle.local_names.specs.declared.nodes.Node.{Node}
use Rattle.local_names.specs.Nodes.{shown}
use Rattle.local_names.proofs.Shown.{local_shown}
use Rattle.local_names.proofs.locals.Locals.at.Goals as goal

pub returns : goal.returns
returns c =
    c.shown.ensures ∙ ap (λ (node : Node). shown node) c.node_at.ensures
    ∙ sym (local_shown c.self.inside.nodes c.self.invariant c.args.key.now c.requires)
    ∙ ap (λ (names : LocalNames). local_at names c.args.key.now) c.self.view_is
