use Rattle.reo_coupling.specs.PartySteps.{MakesOffer}
use Rattle.reo_coupling.proofs.PartySteps.{offer_keeps}
use Rattle.reo_coupling.proofs.Seating.{party_keeps_the_rule}
use Rattle.reo_coupling.proofs.laws.offer_keeps.Goals as goal

pub returns : goal.returns
returns c = record { whole = offer_keeps; seats = party_keeps_the_rule MakesOffer offer_keeps }
