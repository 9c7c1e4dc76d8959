use Rattle.reo_coupling.specs.Steps.{ReadsClock}
use Rattle.reo_coupling.proofs.EachPart.{clock_keeps}
use Rattle.reo_coupling.proofs.Seating.{whole, keeps_the_rule}
use Rattle.reo_coupling.proofs.laws.clock_keeps.Goals as goal

pub returns : goal.returns
returns c = record { parts = clock_keeps; whole = whole ReadsClock clock_keeps; seats = keeps_the_rule ReadsClock clock_keeps }
