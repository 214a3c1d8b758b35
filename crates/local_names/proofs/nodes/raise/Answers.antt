use Rattle.std.proofs.Common.{rules, ap, ◌+◌}
use Rattle.local_names.specs.declared.nodes.Node.{Node}
use Rattle.local_names.proofs.Loops.{raising_next}
use Rattle.local_names.proofs.nodes.raise.Goals as goal

pub loop-above-preserved : goal.loop-above-preserved
loop-above-preserved c = (
  search rules,
  raising_next c.args.nodes.now c.loop-above.nodes c.set_node.new.nodes c.args.key.now c.loop-above.rest.now c.in-Some.above.now
      c.in-Some.ensures _ c.set_node.ensures (ap (λ (n : Node). n.kind) c.node_at-node.ensures)
      c.loop-above.invariant.1 (ap (λ (n : Node). n.below + 1) c.node_at-node.ensures),
)
