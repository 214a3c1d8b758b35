use Rattle.std.proofs.Common.{sym, ap, ◌∙◌}
use Rattle.mp_rules.specs.Local.{LocalNames, without_name}
use Rattle.local_names.specs.declared.nodes.Node.{Node}
use Rattle.local_names.specs.Names.{without_dir}
use Rattle.local_names.specs.Nodes.{is_dir}
use Rattle.local_names.proofs.Names.{removed_dir, without_no_dir}
use Rattle.local_names.proofs.locals.Locals.remove_dir.Goals as goal

pub returns-then-is_dir : goal.returns-then-is_dir
returns-then-is_dir c =
    let dir = sym (c.is_dir.ensures ∙ ap (λ (node : Node). is_dir node.kind) c.node_at.ensures) ∙ c.if-is_dir.true in
    c.remove.ensures.names
    ∙ ap (λ (names : LocalNames). without_name c.args.key.now names) (sym c.self.view_is)
    ∙ removed_dir c.self.inside.nodes c.args.key.now dir
    ∙ ap (λ (names : LocalNames). without_dir c.args.key.now names) c.self.view_is

pub returns-else-is_dir : goal.returns-else-is_dir
returns-else-is_dir c =
    let other = sym (c.is_dir.ensures ∙ ap (λ (node : Node). is_dir node.kind) c.node_at.ensures) ∙ c.if-is_dir.false in
    sym (ap (λ (names : LocalNames). without_dir c.args.key.now names) (sym c.self.view_is) ∙ without_no_dir c.self.inside.nodes c.args.key.now other ∙ c.self.view_is)
