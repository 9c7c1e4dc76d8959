use Rattle.std.proofs.Common.{ℕ, List, length, subst}
use Rattle.reo_net.specs.declared.circuit.Port.{Port}
use Rattle.reo_graph.specs.Paths.{IsLeast}
use Rattle.reo_net.specs.Checks.{HasTwoPorts}
use Rattle.reo_net.specs.Tables.{IsKeyTwiceBelow}
use Rattle.reo_graph.proofs.LeastLemmas.{IsLeast-same}
use Rattle.reo_net.proofs.CheckLemmas.{HasTwoPorts-from_keys, keys_from_HasTwoPorts}
use Rattle.reo_net.proofs.net.node_with_two_ports.Goals as goal

pub returns : goal.returns
returns c =
    let raw = c.args.raw.now in
    let P : List Port → ℕ → Type 0 = λ ports. IsKeyTwiceBelow (λ port. port.node) ports (length ports) in
    IsLeast-same (P raw.ports) (HasTwoPorts raw) c.in_ok-least.least (HasTwoPorts-from_keys raw) (keys_from_HasTwoPorts raw)
    (subst (λ ports. IsLeast (P ports) c.in_ok-least.least) c.as_slice.ensures c.in_ok-least.ensures)
