use Rattle.std.proofs.Common.{◌≡◌, map, take}
use Rattle.reo_fabric.specs.declared.port_state.PortState.TheVariants.{Idle}
use Rattle.reo_fabric.proofs.engine.idle_ports.Given as goal

abbrev pub invariant-loop-port : goal.invariant-loop-port
invariant-loop-port l = l.states.items ≡ map (λ port. Idle) (take l._port-index l.ports)
