use Rattle.std.proofs.Common.{◌≡◌, rules, ap, arith}
use Rattle.local_names.specs.declared.nodes.Node.{Node}
use Rattle.local_names.specs.Nodes.{count_in}
use Rattle.local_names.proofs.Loops.{lowering_next, parent_counts}
use Rattle.local_names.proofs.nodes.lower.Goals as goal

pub loop-above-preserved : goal.loop-above-preserved
loop-above-preserved c =
    let some = parent_counts c.args.nodes.now c.loop-above.nodes c.args.key.now c.loop-above.rest.now c.in-Some.above.now c.in-Some.ensures c.loop-above.invariant.1 (c.requires c.in-Some.above.now) in
    let below : c.node_at-node.result.below ≡ count_in c.loop-above.nodes c.in-Some.above.now = ap (λ (n : Node). n.below) c.node_at-node.ensures in (
      search rules,
      lowering_next c.args.nodes.now c.loop-above.nodes c.set_node.new.nodes c.args.key.now c.loop-above.rest.now c.in-Some.above.now
          c.in-Some.ensures _ c.set_node.ensures (ap (λ (n : Node). n.kind) c.node_at-node.ensures)
          c.loop-above.invariant.1 (omega (arith, some, below)),
    )
