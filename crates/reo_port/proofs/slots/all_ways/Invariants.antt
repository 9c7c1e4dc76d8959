use Rattle.std.proofs.Common.{◌≡◌, map, take}
use Rattle.reo_port.specs.Party.{way_of_owner}
use Rattle.reo_port.proofs.slots.all_ways.Given as goal

abbrev pub invariant-loop-spec : goal.invariant-loop-spec
invariant-loop-spec l = record { ways : l.ways.items ≡ map (λ spec. way_of_owner l.fn.party spec.owner spec.way) (take l.spec-index l.spec-items) }
