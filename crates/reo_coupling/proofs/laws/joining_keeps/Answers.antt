use Rattle.reo_coupling.proofs.Seating.{joining_keeps_the_rule, party_joining_keeps_the_rule}
use Rattle.reo_coupling.proofs.laws.joining_keeps.Goals as goal

pub returns : goal.returns
returns c = record { regions = joining_keeps_the_rule; parties = party_joining_keeps_the_rule }
