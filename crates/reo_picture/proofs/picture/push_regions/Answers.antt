use Rattle.reo_picture.specs.Picture.{ended, region_line}
use Rattle.reo_picture.proofs.AddsLemmas.{range_next}
use Rattle.reo_picture.proofs.picture.push_regions.Goals as goal

pub loop-region-preserved : goal.loop-region-preserved
loop-region-preserved c = range_next (λ region. ended (region_line region)) _ _ _ c.loop-region.region c.loop-region.invariant c.in_ok-push_region.ensures
