use Rattle.std.proofs.Common.{arith, subst, sym}
use Rattle.reo_net.specs.Checks.{HasTwoPorts, IsMixed, IsChecked}
use Rattle.reo_net.specs.Loops.{IsOnLoop}
use Rattle.reo_graph.specs.Paths.{IsLeast}
use Rattle.reo_net.proofs.net.check.Goals as goal

pub invariant_of-result : goal.invariant_of-result
invariant_of-result c =
    let raw = c.args.raw.now in
    subst IsChecked (sym c.in_ok-circuit.ensures) (record {
      circuit = c.requires;
      few_channels = omega arith;
      few_ports = omega arith;
      one_port = subst (IsLeast (HasTwoPorts raw)) c.in_default.is c.in_ok-node.ensures;
      unmixed = subst (IsLeast (IsMixed raw)) c.in_default-2.is c.in_ok-node-2.ensures;
      acyclic = subst (IsLeast (IsOnLoop raw)) c.in_default-3.is c.in_ok-node-3.ensures;
    })
