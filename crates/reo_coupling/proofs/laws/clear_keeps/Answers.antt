use Rattle.reo_coupling.specs.PartySteps.{Clears}
use Rattle.reo_coupling.proofs.PartySteps.{clear_keeps}
use Rattle.reo_coupling.proofs.Seating.{party_keeps_the_rule}
use Rattle.reo_coupling.proofs.laws.clear_keeps.Goals as goal

pub returns : goal.returns
returns c = record { whole = clear_keeps; seats = party_keeps_the_rule Clears clear_keeps }
