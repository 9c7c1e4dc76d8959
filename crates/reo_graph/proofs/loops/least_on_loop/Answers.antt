use Rattle.std.proofs.Common.{map, ap, Vec, Bool, Global, sym, ◌∙◌}
use Rattle.std.proofs.lemmas.List.{length-map}
use Rattle.reo_graph.proofs.EdgeLemmas.{looped_is_on_loop, rise_has_no_loop}
use Rattle.reo_graph.specs.Closure.{bit, goes}
use Rattle.reo_graph.specs.Edges.{rank_in}
use Rattle.reo_graph.proofs.loops.least_on_loop.Goals as goal

pub returns-then-are_ranks : goal.returns-then-are_ranks
returns-then-are_ranks c = rise_has_no_loop c.args.edges.now (λ vertex. vertex) c.if-are_ranks.ensures

pub returns-then-rises : goal.returns-then-rises
returns-then-rises c = rise_has_no_loop c.args.edges.now (rank_in c.in_ok-ranks_of.field-0.entries) c.if-rises.ensures

pub returns : goal.returns
returns c =
    let items : Vec Bool Global → _ = λ row. row.items in
    let table = map items c.in_ok-following_edges.field-0.items in
    looped_is_on_loop c.args.edges.now (map items c.in_ok-table.table.items) (map items c.as_slice.result.now) table _ c.in_ok-following_edges.ensures
    (λ k l. c.in_ok-table.ensures k l ∙ ap (λ n. goes (bit table) n k l) (sym (length-map _ items))) (ap (map items) c.as_slice.ensures.value) c.least_looped.ensures
