use Rattle.reo_graph.specs.Paths.{IsLeast}
use Rattle.reo_net.specs.Tables.{Marks, IsKeyBelow, IsKeyTwiceBelow}
use Rattle.reo_net.proofs.net.least_repeated.Given as goal

abbrev pub invariant-loop-port : goal.invariant-loop-port
invariant-loop-port l = record {
  marks : Marks l.seen.items l.nodes (IsKeyBelow (λ port. port.node) l.ports l.port-index);
  least : IsLeast (IsKeyTwiceBelow (λ port. port.node) l.ports l.port-index) l.least;
}
