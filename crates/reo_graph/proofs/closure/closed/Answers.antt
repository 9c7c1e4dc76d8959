use Rattle.std.proofs.Common.{◌≡◌, ◌||◌, ◌&&◌, [], Vec, Bool, Global, List, map, get_or, sym, ap, ◌∙◌}
use Rattle.reo_graph.specs.Closure.{mark, bit}
use Rattle.reo_graph.proofs.ClosureLemmas.{goes_zero, goes_next}
use Rattle.reo_graph.proofs.closure.closed.Goals as goal

pub loop-via-init : goal.loop-via-init
loop-via-init c = λ i j. sym (goes_zero _ i j)

pub loop-via-preserved : goal.loop-via-preserved
loop-via-preserved c =
    let table = map (λ (row : Vec Bool Global). row.items) c.loop-via.table.items in
    let via = c.loop-via.via in
    let middle : c.deref-in-loop-via.result.now ≡ get_or table via [] =
    c.deref-in-loop-via.ensures.value ∙ (c.in_ok-middle.ensures.items ∙ (c.row_at.ensures ∙ ap (λ (rows : List (Vec Bool Global)). get_or (map (λ (row : Vec Bool Global). row.items) rows) via []) c.deref.ensures.value)) in
    λ i j.
    c.in_ok-go_through.ensures i j ∙ (ap (λ (row : List Bool). bit table i j || (bit table i via && mark row j)) middle ∙ goes_next _ _ via i j c.loop-via.invariant)
