use Rattle.std.proofs.Common.{rules, sym}
use Rattle.mp_rules.specs.declared.entry.Local.TheVariants as local
use Rattle.local_names.specs.declared.nodes.Node.{Node}
use Rattle.local_names.proofs.Tables.{kinds_changed, counts_stay}
use Rattle.local_names.proofs.nodes.set_size.Goals as goal

pub returns-clause-kinds : goal.returns-clause-kinds
returns-clause-kinds c =
    let now : Node = record { kind = local.File c.args.size; below = c.in-Some.node.now.below } in
    let updates = (c.get_mut.follows.holds now).3 (search rules) in
    kinds_changed c.args.nodes.now (c.get_mut.follows.lender now) c.args.key.now (local.File c.args.size) c.in-Some.node.now (sym c.in-Some.ensures.value) updates

pub returns-clause-counts : goal.returns-clause-counts
returns-clause-counts c =
    let now : Node = record { kind = local.File c.args.size; below = c.in-Some.node.now.below } in
    let updates = (c.get_mut.follows.holds now).3 (search rules) in
    counts_stay c.args.nodes.now (c.get_mut.follows.lender now) c.args.key.now (local.File c.args.size) c.in-Some.node.now (sym c.in-Some.ensures.value) updates
