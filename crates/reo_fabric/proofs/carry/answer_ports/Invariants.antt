use Rattle.std.proofs.Common.{◌≡◌, drop}
use Rattle.reo_fabric.specs.declared.port_state.PortState.TheVariants.{Answered}
use Rattle.reo_fabric.specs.inside.Writes.{written}
use Rattle.reo_fabric.proofs.carry.answer_ports.Given as goal

abbrev pub invariant-loop-port : goal.invariant-loop-port
invariant-loop-port l = written (λ value. Answered value l.number) (drop l.port-index l.places) l.ports ≡ written (λ value. Answered value l.number) l.places l.initial.ports
