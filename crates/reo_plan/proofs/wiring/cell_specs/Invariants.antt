use Rattle.std.proofs.Common.{◌≡◌, map, take}
use Rattle.reo_plan.specs.Fabric.{cell_spec}
use Rattle.reo_plan.proofs.wiring.cell_specs.Given as goal

abbrev pub invariant-loop-cell : goal.invariant-loop-cell
invariant-loop-cell l = l.specs.items ≡ map (cell_spec l.net) (take l.cell-index l.cells)
