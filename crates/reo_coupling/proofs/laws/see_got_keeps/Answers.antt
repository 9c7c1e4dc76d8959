use Rattle.reo_coupling.specs.PartySteps.{SeesGot}
use Rattle.reo_coupling.proofs.PartySteps.{see_got_keeps}
use Rattle.reo_coupling.proofs.Seating.{party_keeps_the_rule}
use Rattle.reo_coupling.proofs.laws.see_got_keeps.Goals as goal

pub returns : goal.returns
returns c = record { whole = see_got_keeps; seats = party_keeps_the_rule SeesGot see_got_keeps }
