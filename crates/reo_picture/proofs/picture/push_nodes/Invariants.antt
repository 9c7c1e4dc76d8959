use Rattle.std.specs.List.{flat_map, range_with_len}
use Rattle.reo_trace.specs.Buffer.{HasTaken}
use Rattle.reo_picture.specs.Picture.{ended, node_line}
use Rattle.reo_picture.proofs.picture.push_nodes.Given as goal

abbrev pub invariant-loop-node : goal.invariant-loop-node
invariant-loop-node l = HasTaken l.initial.buffer l.buffer (flat_map (λ node. ended (node_line l.net l.nodes l.cut node)) (range_with_len 0 l.node))
