use Rattle.std.proofs.Common.{sym, ap, ◌∙◌}
use Rattle.std.specs.Prelude.{nat_lt}
use Rattle.mp_rules.specs.Local.{LocalNames, has_name_below}
use Rattle.local_names.specs.declared.nodes.Node.{Node}
use Rattle.local_names.proofs.Names.{kept_below}
use Rattle.local_names.proofs.locals.Locals.has_below.Goals as goal

pub returns : goal.returns
returns c =
    ap (λ (node : Node). nat_lt 0 node.below) c.node_at.ensures
    ∙ sym (kept_below c.self.inside.nodes c.self.invariant c.args.key.now c.requires)
    ∙ ap (λ (names : LocalNames). has_name_below names c.args.key.now) c.self.view_is
