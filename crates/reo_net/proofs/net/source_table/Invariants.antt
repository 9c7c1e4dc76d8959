use Rattle.reo_net.specs.Tables.{Marks, IsSourceBelow}
use Rattle.reo_net.proofs.net.source_table.Given as goal

abbrev pub invariant-loop-channel : goal.invariant-loop-channel
invariant-loop-channel l = Marks l.table.items l.nodes (IsSourceBelow l.channels l.channel-index)
