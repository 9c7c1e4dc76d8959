use Rattle.std.specs.List.{flat_map, range_with_len}
use Rattle.reo_trace.specs.Buffer.{HasTaken}
use Rattle.reo_picture.specs.Picture.{ended, region_line}
use Rattle.reo_picture.proofs.picture.push_regions.Given as goal

abbrev pub invariant-loop-region : goal.invariant-loop-region
invariant-loop-region l = HasTaken l.initial.buffer l.buffer (flat_map (λ region. ended (region_line region)) (range_with_len 0 l.region))
