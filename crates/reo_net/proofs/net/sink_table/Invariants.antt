use Rattle.reo_net.specs.Tables.{Marks, IsPassBelow, comes_out}
use Rattle.reo_net.proofs.net.sink_table.Given as goal

abbrev pub invariant-loop-channel : goal.invariant-loop-channel
invariant-loop-channel l = Marks l.table.items l.nodes (IsPassBelow (λ channel. channel.b) comes_out l.channels l.channel-index)
