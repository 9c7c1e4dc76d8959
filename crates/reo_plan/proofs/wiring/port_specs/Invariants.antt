use Rattle.std.proofs.Common.{◌≡◌, map}
use Rattle.std.specs.List.{range_with_len}
use Rattle.reo_plan.specs.inside.Ports.{port_spec}
use Rattle.reo_plan.proofs.wiring.port_specs.Given as goal

abbrev pub invariant-loop-port : goal.invariant-loop-port
invariant-loop-port l = l.specs.items ≡ map (port_spec l.ports l.regions l.owners) (range_with_len 0 l.port)
