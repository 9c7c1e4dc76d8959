use Rattle.std.proofs.Common.{◌≡◌, drop, Some}
use Rattle.reo_fabric.specs.inside.Writes.{written}
use Rattle.reo_fabric.proofs.carry.fill_cells.Given as goal

abbrev pub invariant-loop-cell : goal.invariant-loop-cell
invariant-loop-cell l = written Some (drop l.cell-index l.fills) l.cells ≡ written Some l.fills l.initial.cells
