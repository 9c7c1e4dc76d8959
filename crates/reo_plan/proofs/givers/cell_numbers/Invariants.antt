use Rattle.std.proofs.Common.{◌≡◌, map}
use Rattle.std.specs.List.{range_with_len}
use Rattle.reo_net.specs.Steps.{cell_of}
use Rattle.reo_plan.proofs.givers.cell_numbers.Given as goal

abbrev pub invariant-loop-channel : goal.invariant-loop-channel
invariant-loop-channel l = record {
  cells : l.cells.items ≡ map (cell_of l.net) (range_with_len 0 l.channel-index);
  cell : l.cell ≡ cell_of l.net l.channel-index;
}
