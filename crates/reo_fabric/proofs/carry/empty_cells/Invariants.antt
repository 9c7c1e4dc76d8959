use Rattle.std.proofs.Common.{◌≡◌, drop, None}
use Rattle.reo_fabric.specs.inside.Writes.{written}
use Rattle.reo_fabric.proofs.carry.empty_cells.Given as goal

abbrev pub invariant-loop-cell : goal.invariant-loop-cell
invariant-loop-cell l = written (λ value. None) (drop l.cell-index l.takes) l.cells ≡ written (λ value. None) l.takes l.initial.cells
