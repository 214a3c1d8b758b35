use Rattle.std.proofs.Common.{rules, sym, ◌∙◌}
use Rattle.local_names.proofs.Tables.{removed, written}
use Rattle.local_names.proofs.nodes.set_node.Goals as goal

pub returns-then-is_bare : goal.returns-then-is_bare
returns-then-is_bare c = removed c.args.nodes.now c.remove.new.self c.args.key.now c.args.node c.remove.ensures.updates (sym c.is_bare.ensures ∙ c.if-is_bare.true)

pub returns : goal.returns
returns c =
    let updates = (c.get_mut.follows.holds c.args.node).3 (search rules) in
    written c.args.nodes.now (c.get_mut.follows.lender c.args.node) c.args.key.now c.args.node updates (sym c.is_bare.ensures ∙ c.if-is_bare.false)
