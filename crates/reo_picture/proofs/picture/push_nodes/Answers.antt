use Rattle.reo_picture.specs.Picture.{ended, node_line}
use Rattle.reo_picture.proofs.AddsLemmas.{range_next}
use Rattle.reo_picture.proofs.picture.push_nodes.Goals as goal

pub loop-node-preserved : goal.loop-node-preserved
loop-node-preserved c =
    range_next (λ node. ended (node_line c.args.net.now c.args.nodes.now c.args.cut.now node)) _ _ _ c.loop-node.node c.loop-node.invariant c.in_ok-push_node.ensures
