use Rattle.std.proofs.Common.{[]}
use Rattle.reo_fabric.specs.inside.Readings.{AreReadings}
use Rattle.reo_fabric.proofs.readings.without_places.Given as goal

abbrev pub invariant-loop-region : goal.invariant-loop-region
invariant-loop-region l = AreReadings l.region (λ region. []) (λ region. []) l.readings.items
