use Rattle.std.proofs.Common.{◌≤◌, ◌+◌, Some, All, length, map, take, sym, ap, ◌∙◌, subst, arith}
use Rattle.std.proofs.lemmas.List.{length-map}
use Rattle.std.proofs.lemmas.Option.{slice_get-get_or}
use Rattle.reo_product.specs.declared.table.Firing.{Firing}
use Rattle.reo_product.specs.declared.table.RegionTable.{RegionTable}
use Rattle.reo_product.specs.Table.{names_in}
use Rattle.reo_plan.specs.Plan.{firings_in}
use Rattle.reo_plan.specs.inside.Plans.{AreRows, ArePlans, IsOfNames}
use Rattle.reo_plan.proofs.PlanLemmas.{plans_more}
use Rattle.reo_plan.proofs.compiler.plans_of.Goals as goal

pub loop-table-preserved : goal.loop-table-preserved
loop-table-preserved c =
    let tables = c.args.tables.now in
    let n = c.loop-table.table-index in
    let table = c.table-item.result in
    let small : length table.firings ≤ 4096 = subst (λ t. length t.firings ≤ 4096) (sym c.table-item.is) (c.requires.small n table (omega arith)) in
    record {
      empty = c.in_ok-rows.ensures.empty;
      plans = subst (ArePlans c.args.net.now (map firings_in (take (n + 1) tables))) (sym c.in_ok-push.ensures.ok)
          (plans_more c.args.net.now tables n table c.loop-table.plans c.in_ok-rows.rows (slice_get-get_or tables n table (omega arith) ∙ ap Some (sym c.table-item.is)) c.loop-table.invariant.plans
          (omega (arith, small, length-map table.firings names_in))
          (subst (λ fs. AreRows c.args.net.now (map names_in fs) c.in_ok-rows.rows) c.as_slice.ensures c.in_ok-rows.ensures.rows));
    }

pub rows_of-requires-clause-names : goal.rows_of-requires-clause-names
rows_of-requires-clause-names c =
    let table = c.table-item.result in
    subst (All (λ firing. IsOfNames c.args.net.now firing.names)) (sym c.as_slice.ensures)
    (subst (λ (t : RegionTable). All (λ (firing : Firing). IsOfNames c.args.net.now firing.names) t.firings) (sym c.table-item.is) (c.requires.names c.loop-table.table-index table (omega arith)))
