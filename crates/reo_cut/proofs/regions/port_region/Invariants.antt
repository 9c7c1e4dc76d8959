use Rattle.std.proofs.Common.{◌≡◌, ◌+◌, map, take, length}
use Rattle.reo_cut.specs.Labels.{label_at}
use Rattle.reo_cut.proofs.regions.port_region.Given as goal

abbrev pub invariant-loop-port : goal.invariant-loop-port
invariant-loop-port l = l.regions.items ≡ map (λ port. label_at l.numbers (length l.net.channels + port.node)) (take l.port-index l.ports)
