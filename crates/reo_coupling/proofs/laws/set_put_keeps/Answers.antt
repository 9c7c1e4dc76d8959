use Rattle.reo_coupling.specs.PartySteps.{SetsPut}
use Rattle.reo_coupling.proofs.PartySteps.{set_put_keeps}
use Rattle.reo_coupling.proofs.Seating.{party_keeps_the_rule}
use Rattle.reo_coupling.proofs.laws.set_put_keeps.Goals as goal

pub returns : goal.returns
returns c = record { whole = set_put_keeps; seats = party_keeps_the_rule SetsPut set_put_keeps }
