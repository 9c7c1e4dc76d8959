use Rattle.std.proofs.Common.{◌≡◌, ◌<◌, ◌||◌, Vec, Global, Bool, List, length, map, sym, ap, ◌∙◌, arith}
use Rattle.std.proofs.lemmas.List.{set-get_or}
use Rattle.reo_graph.specs.Closure.{mark}
use Rattle.reo_graph.proofs.TableLemmas.{Half-marked, Half-unmarked}
use Rattle.reo_graph.proofs.closure.go_through.Goals as goal
use Rattle.reo_graph.proofs.closure.go_through.Goals.{then-is_marked+in_ok-add_marks, else-is_marked}

pub loop-row-preserved : goal.loop-row-preserved
loop-row-preserved c =
    let old = map (λ (row : Vec Bool Global). row.items) c.args.table.now.items in
    let table = c.loop-row.row-items in
    let i = c.loop-row.row-index in
    let middle = c.args.middle.now in
    let item = c.row-item.result in
    let within : i < length table = omega (arith, c.loop-row.auto.row-items) in
    let seen : c.deref.result.now ≡ item.items = c.deref.ensures.value ∙ ap (λ (row : Vec Bool Global). row.items) (sym c.row-item.is) in
    let test : mark item.items c.args.via ≡ c.is_marked.result = sym (c.is_marked.ensures ∙ ap (λ (row : List Bool). mark row c.args.via) seen) in
    elim c.if-is_marked.branch [
      | then-is_marked+in_ok-add_marks w ↦ Half-marked old table c.if-is_marked.row-items c.args.via i middle item w.add_marks.new.row within c.row-item.is (test ∙ w.if-is_marked.true) (λ j. w.in_ok-add_marks.ensures j ∙ ap (λ (row : Vec Bool Global). mark row.items j || mark middle j) (sym c.row-item.is)) w.row-items-is c.loop-row.invariant
      | else-is_marked w ↦ Half-unmarked old table c.if-is_marked.row-items c.args.via i middle item within c.row-item.is (test ∙ w.if-is_marked.false) (w.row-items-is ∙ set-get_or table i item) c.loop-row.invariant
    ]
