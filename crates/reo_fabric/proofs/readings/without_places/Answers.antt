use Rattle.std.proofs.Common.{◌+◌, sym, subst, []}
use Rattle.reo_fabric.specs.inside.Readings.{AreReadings}
use Rattle.reo_fabric.proofs.ReadingLemmas.{one_without}
use Rattle.reo_fabric.proofs.readings.without_places.Goals as goal

pub loop-region-preserved : goal.loop-region-preserved
loop-region-preserved c =
    subst (AreReadings (c.loop-region.region + 1) (λ region. []) (λ region. [])) (sym c.in_ok-push.ensures.items)
    (one_without c.loop-region.region c.loop-region.readings.items _ _ c.new.ensures c.new-in-loop-region.ensures c.loop-region.invariant)
