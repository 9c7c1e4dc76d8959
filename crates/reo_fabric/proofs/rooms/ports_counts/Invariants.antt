use Rattle.std.proofs.Common.{nat_eq, take}
use Rattle.reo_fabric.specs.inside.Counts.{AreCounts}
use Rattle.reo_fabric.proofs.rooms.ports_counts.Given as goal

abbrev pub invariant-loop-port : goal.invariant-loop-port
invariant-loop-port l = AreCounts (λ region port. nat_eq port.region region) l.fn.regions (take l.port-index l.ports) l.counts.items
