use Rattle.reo_coupling.specs.Steps.{SeesCell}
use Rattle.reo_coupling.proofs.EachPart.{see_cell_keeps}
use Rattle.reo_coupling.proofs.Seating.{whole, keeps_the_rule}
use Rattle.reo_coupling.proofs.laws.see_cell_keeps.Goals as goal

pub returns : goal.returns
returns c = record { parts = see_cell_keeps; whole = whole SeesCell see_cell_keeps; seats = keeps_the_rule SeesCell see_cell_keeps }
