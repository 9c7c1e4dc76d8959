use Rattle.std.proofs.Common.{◌+◌, Some, None, sym, subst, ◌∙◌}
use Rattle.reo_product.specs.RegionWeb.{name_at}
use Rattle.reo_product.specs.Places.{FindsCell}
use Rattle.reo_product.proofs.CellLemmas.{AreFirstCells, first_none, first_some}
use Rattle.reo_product.proofs.web.cells_of.Goals as goal
use Rattle.reo_product.proofs.web.cells_of.Goals.{in-Some+in_ok-push, in_default}

pub loop-name-preserved : goal.loop-name-preserved
loop-name-preserved c =
    let net = c.args.net.now in
    let names = c.args.names.now in
    let i = c.loop-name.name-index in
    let name = name_at names i in
    elim c.match-cell_of.branch [
      | in-Some+in_ok-push w ↦ (
          let finds = subst (λ b. FindsCell names b name (Some w.in-Some.cell)) c.begins_buffer.ensures.is w.in-Some.ensures in
          let more = first_some net names c.requires.rising i c.loop-name.cells w.in-Some.cell c.loop-name-test.true c.loop-name.invariant finds in
          subst (AreFirstCells net names (i + 1)) (sym (w.cells-is ∙ w.in_ok-push.ensures.ok)) more)
      | in_default w ↦ (
          let finds = subst (λ b. FindsCell names b name None) c.begins_buffer.ensures.is w.in_default.ensures in
          let more = first_none net names i c.loop-name.cells c.loop-name-test.true c.loop-name.invariant finds in
          subst (AreFirstCells net names (i + 1)) (sym w.cells-is) more)
    ]
