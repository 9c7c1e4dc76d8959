use Rattle.std.proofs.Common.{◌+◌, Some, map, take, sym, ap, ◌∙◌, subst, arith}
use Rattle.std.proofs.lemmas.Option.{slice_get-get_or}
use Rattle.reo_product.specs.declared.table.Firing.{Firing}
use Rattle.reo_product.specs.Table.{names_in}
use Rattle.reo_plan.specs.inside.Rows.{IsRow}
use Rattle.reo_plan.specs.inside.Plans.{AreRows, IsOfNames}
use Rattle.reo_plan.proofs.PlanLemmas.{rows_more}
use Rattle.reo_plan.proofs.compiler.rows_of.Goals as goal

pub loop-firing-preserved : goal.loop-firing-preserved
loop-firing-preserved c =
    let firings = c.args.firings.now in
    let n = c.loop-firing.firing-index in
    let firing = c.firing-item.result in
    record {
      empty = c.in_ok-row.ensures.empty;
      rows = subst (AreRows c.args.net.now (map names_in (take (n + 1) firings))) (sym c.in_ok-push.ensures.ok)
          (rows_more c.args.net.now firings n firing c.loop-firing.rows c.in_ok-row.row (slice_get-get_or firings n firing (omega arith) ∙ ap Some (sym c.firing-item.is)) c.loop-firing.invariant.rows
          (subst (λ ns. IsRow c.args.net.now ns c.in_ok-row.row) c.as_slice.ensures c.in_ok-row.ensures.row));
    }

pub row_of-requires-clause-names : goal.row_of-requires-clause-names
row_of-requires-clause-names c =
    let firing = c.firing-item.result in
    subst (IsOfNames c.args.net.now) (sym c.as_slice.ensures)
    (subst (λ (f : Firing). IsOfNames c.args.net.now f.names) (sym c.firing-item.is) (c.requires.names c.loop-firing.firing-index firing (omega arith)))
