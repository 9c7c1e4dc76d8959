use Rattle.std.proofs.Common.{◌≡◌, take, filter_map}
use Rattle.reo_net.specs.Tables.{handing_edge}
use Rattle.reo_net.proofs.net.handing_edges.Given as goal

abbrev pub invariant-loop-channel : goal.invariant-loop-channel
invariant-loop-channel l = l.edges.items ≡ filter_map handing_edge (take l.channel-index l.channels)
