use Rattle.reo_coupling.specs.Steps.{SetsGot}
use Rattle.reo_coupling.proofs.EachPart.{set_got_keeps}
use Rattle.reo_coupling.proofs.Seating.{whole, keeps_the_rule}
use Rattle.reo_coupling.proofs.laws.set_got_keeps.Goals as goal

pub returns : goal.returns
returns c = record { parts = set_got_keeps; whole = whole SetsGot set_got_keeps; seats = keeps_the_rule SetsGot set_got_keeps }
