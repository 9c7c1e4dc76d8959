use Rattle.reo_coupling.proofs.Seating.{splitting_keeps_the_rule, party_splitting_keeps_the_rule}
use Rattle.reo_coupling.proofs.laws.splitting_keeps.Goals as goal

pub returns : goal.returns
returns c = record { regions = splitting_keeps_the_rule; parties = party_splitting_keeps_the_rule }
