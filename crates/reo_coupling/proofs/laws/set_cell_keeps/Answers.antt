use Rattle.reo_coupling.specs.Steps.{SetsCell}
use Rattle.reo_coupling.proofs.EachPart.{set_cell_keeps}
use Rattle.reo_coupling.proofs.Seating.{whole, keeps_the_rule}
use Rattle.reo_coupling.proofs.laws.set_cell_keeps.Goals as goal

pub returns : goal.returns
returns c = record { parts = set_cell_keeps; whole = whole SetsCell set_cell_keeps; seats = keeps_the_rule SetsCell set_cell_keeps }
