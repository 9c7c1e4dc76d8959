use Rattle.reo_graph.specs.Paths.{IsLeast}
use Rattle.reo_net.specs.Tables.{IsPassBelow, is_marked}
use Rattle.reo_net.proofs.net.least_marked.Given as goal

abbrev pub invariant-loop-port : goal.invariant-loop-port
invariant-loop-port l = IsLeast (IsPassBelow (λ port. port.node) (is_marked l.sinks l.sources) l.ports l.port-index) l.least
