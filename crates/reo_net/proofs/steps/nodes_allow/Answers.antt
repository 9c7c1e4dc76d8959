use Rattle.std.proofs.Common.{below_more}
use Rattle.reo_net.specs.Steps.{datum, NodeAllows}
use Rattle.reo_net.proofs.steps.nodes_allow.Goals as goal

pub loop-node-preserved : goal.loop-node-preserved
loop-node-preserved c = below_more (λ node. NodeAllows c.args.net.now node (datum c.args.step.now)) c.loop-node.node c.loop-node.invariant (c.node_allows.ensures.0 c.if-not-node_allows.false)
