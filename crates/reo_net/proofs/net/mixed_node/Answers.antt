use Rattle.std.proofs.Common.{ℕ, List, Bool, length, subst}
use Rattle.reo_net.specs.declared.circuit.Port.{Port}
use Rattle.reo_net.specs.declared.circuit.Channel.{Channel}
use Rattle.reo_graph.specs.Paths.{IsLeast}
use Rattle.reo_net.specs.Checks.{IsMixed}
use Rattle.reo_net.specs.Tables.{Marks, IsPassBelow, IsSourceBelow, comes_out, is_marked}
use Rattle.reo_graph.proofs.LeastLemmas.{IsLeast-same}
use Rattle.reo_net.proofs.CheckLemmas.{IsMixed-from_pass, pass_from_IsMixed}
use Rattle.reo_net.proofs.net.mixed_node.Goals as goal

pub returns : goal.returns
returns c =
    let raw = c.args.raw.now in
    let sinks = c.in_ok-sinks.sinks.items in
    let sources = c.in_ok-sources.sources.items in
    let least = c.least_marked-least.result in
    let Q : List Bool → List Bool → List Port → ℕ → Type 0 = λ s t ports. IsPassBelow (λ port. port.node) (is_marked s t) ports (length ports) in
    let at_sinks = subst (λ (chs : List Channel). Marks sinks raw.nodes (IsPassBelow (λ channel. channel.b) comes_out chs (length chs))) c.as_slice.ensures c.in_ok-sinks.ensures in
    let at_sources = subst (λ (chs : List Channel). Marks sources raw.nodes (IsSourceBelow chs (length chs))) c.as_slice-2.ensures c.in_ok-sources.ensures in
    let by_items = subst (λ t. IsLeast (Q sinks t raw.ports) least) c.deref-2.ensures.value
    (subst (λ s. IsLeast (Q s c.deref-2.result.now raw.ports) least) c.deref.ensures.value
    (subst (λ ports. IsLeast (Q c.deref.result.now c.deref-2.result.now ports) least) c.as_slice-3.ensures c.least_marked-least.ensures)) in
    IsLeast-same (Q sinks sources raw.ports) (IsMixed raw) least (IsMixed-from_pass raw c.requires sinks sources at_sinks at_sources)
    (pass_from_IsMixed raw c.requires sinks sources at_sinks at_sources) by_items
