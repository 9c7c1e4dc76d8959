use Rattle.reo_coupling.specs.Steps.{Begins}
use Rattle.reo_coupling.proofs.EachPart.{begin_keeps}
use Rattle.reo_coupling.proofs.Seating.{whole, keeps_the_rule}
use Rattle.reo_coupling.proofs.laws.begin_keeps.Goals as goal

pub returns : goal.returns
returns c = record { parts = begin_keeps; whole = whole Begins begin_keeps; seats = keeps_the_rule Begins begin_keeps }
