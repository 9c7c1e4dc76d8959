use Rattle.std.proofs.Common.{ℕ, List, subst, ◌∙◌, ap, filter_map}
use Rattle.reo_graph.specs.Paths.{IsLeast}
use Rattle.reo_graph.specs.Paths.{IsOnLoop as IsLooped}
use Rattle.reo_graph.proofs.LeastLemmas.{IsLeast-same}
use Rattle.reo_net.specs.declared.circuit.Channel.{Channel}
use Rattle.reo_net.specs.Tables.{handing_edge}
use Rattle.reo_net.specs.Loops.{IsOnLoop}
use Rattle.reo_net.proofs.LoopLemmas.{loop_of_edges, edges_of_loop}
use Rattle.reo_net.proofs.net.node_on_loop.Goals as goal

pub returns : goal.returns
returns c =
    let raw = c.args.raw.now in
    let edges = c.deref.ensures.value ∙ (c.in_ok-edges.ensures ∙ ap (λ (channels : List Channel). filter_map handing_edge channels) c.as_slice.ensures) in
    IsLeast-same (IsLooped (filter_map handing_edge raw.channels)) (IsOnLoop raw) c.in_ok-least.least (loop_of_edges raw) (edges_of_loop raw)
    (subst (λ (es : List (ℕ × ℕ)). IsLeast (IsLooped es) c.in_ok-least.least) edges c.in_ok-least.ensures)
