use Rattle.reo_coupling.specs.Steps.{SeesPort}
use Rattle.reo_coupling.proofs.EachPart.{see_port_keeps}
use Rattle.reo_coupling.proofs.Seating.{whole, keeps_the_rule}
use Rattle.reo_coupling.proofs.laws.see_port_keeps.Goals as goal

pub returns : goal.returns
returns c = record { parts = see_port_keeps; whole = whole SeesPort see_port_keeps; seats = keeps_the_rule SeesPort see_port_keeps }
