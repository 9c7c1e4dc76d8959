use Rattle.std.proofs.Common.{nat_eq, take}
use Rattle.reo_fabric.specs.inside.Counts.{AreCounts}
use Rattle.reo_fabric.proofs.rooms.fills_counts.Given as goal

abbrev pub invariant-loop-cell : goal.invariant-loop-cell
invariant-loop-cell l = AreCounts (λ region cell. nat_eq cell.filler region) l.fn.regions (take l.cell-index l.cells) l.counts.items
