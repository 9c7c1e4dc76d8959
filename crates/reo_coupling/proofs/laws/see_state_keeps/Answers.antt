use Rattle.reo_coupling.specs.PartySteps.{SeesState}
use Rattle.reo_coupling.proofs.PartySteps.{see_state_keeps}
use Rattle.reo_coupling.proofs.Seating.{party_keeps_the_rule}
use Rattle.reo_coupling.proofs.laws.see_state_keeps.Goals as goal

pub returns : goal.returns
returns c = record { whole = see_state_keeps; seats = party_keeps_the_rule SeesState see_state_keeps }
