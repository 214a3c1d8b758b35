use Rattle.std.proofs.Common.{sym, ap, ◌∙◌}
use Rattle.mp_rules.specs.Local.{LocalNames, without_file, without_name}
use Rattle.local_names.specs.declared.nodes.Node.{Node}
use Rattle.local_names.specs.Nodes.{is_file}
use Rattle.local_names.proofs.Names.{removed_file, without_no_file}
use Rattle.local_names.proofs.locals.Locals.remove_file.Goals as goal

pub returns-then-is_file : goal.returns-then-is_file
returns-then-is_file c =
    let file = sym (c.is_file.ensures ∙ ap (λ (node : Node). is_file node.kind) c.node_at.ensures) ∙ c.if-is_file.true in
    c.remove.ensures.names
    ∙ ap (λ (names : LocalNames). without_name c.args.key.now names) (sym c.self.view_is)
    ∙ removed_file c.self.inside.nodes c.args.key.now file
    ∙ ap (λ (names : LocalNames). without_file c.args.key.now names) c.self.view_is

pub returns-else-is_file : goal.returns-else-is_file
returns-else-is_file c =
    let other = sym (c.is_file.ensures ∙ ap (λ (node : Node). is_file node.kind) c.node_at.ensures) ∙ c.if-is_file.false in
    sym (ap (λ (names : LocalNames). without_file c.args.key.now names) (sym c.self.view_is) ∙ without_no_file c.self.inside.nodes c.args.key.now other ∙ c.self.view_is)
