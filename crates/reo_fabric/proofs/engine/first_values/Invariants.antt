use Rattle.std.proofs.Common.{◌≡◌, map, take}
use Rattle.reo_fabric.specs.Laws.{AreValues}
use Rattle.reo_fabric.proofs.engine.first_values.Given as goal

abbrev pub invariant-loop-cell : goal.invariant-loop-cell
invariant-loop-cell l = record {
  first : l.state.items ≡ map (λ cell. cell.first) (take l.cell-index l.cells);
  values : AreValues l.state.items;
}
