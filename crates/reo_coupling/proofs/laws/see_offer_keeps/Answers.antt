use Rattle.reo_coupling.specs.Steps.{SeesOffer}
use Rattle.reo_coupling.proofs.EachPart.{see_offer_keeps}
use Rattle.reo_coupling.proofs.Seating.{whole, keeps_the_rule}
use Rattle.reo_coupling.proofs.laws.see_offer_keeps.Goals as goal

pub returns : goal.returns
returns c = record { parts = see_offer_keeps; whole = whole SeesOffer see_offer_keeps; seats = keeps_the_rule SeesOffer see_offer_keeps }
