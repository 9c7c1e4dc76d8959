use Rattle.std.proofs.Common.{◌++◌, ◌∷◌, [], ◌+◌, Some, take, sym, ap, ◌∙◌, subst, arith}
use Rattle.std.proofs.lemmas.List.{take_all}
use Rattle.std.proofs.lemmas.Option.{slice_get-get_or}
use Rattle.reo_plan.specs.inside.Asks.{AreAsks}
use Rattle.reo_plan.specs.inside.Columns.{AreColumns}
use Rattle.reo_plan.proofs.AskLemmas.{kept_asks, asks-push}
use Rattle.reo_plan.proofs.PlaceSlotLemmas.{take_more}
use Rattle.reo_plan.proofs.asks.shared_by.Goals as goal

pub loop-row-preserved : goal.loop-row-preserved
loop-row-preserved c =
    let rows = c.args.rows.now in
    let n = c.loop-row.row-index in
    let row = c.row-item.result in
    let slots = c.asks_of.new.slots in
    let facts = c.asks_of.new.facts in
    let found = slice_get-get_or rows n row (omega arith) ∙ ap Some (sym c.row-item.is) in
    let more = c.in_ok-own.ensures in (
      more.slots.ordered,
      λ c'. subst (AreAsks c' slots facts (take (n + 1) rows)) (sym c.in_ok-push.ensures.ok)
          (subst (λ l. AreAsks c' slots facts l (c.loop-row.asks ++ c.in_ok-own.own ∷ [])) (sym (take_more rows n row found))
          (asks-push c' slots facts (take n rows) c.loop-row.asks row c.in_ok-own.own (kept_asks c' c.loop-row.slots slots c.loop-row.facts facts more.slots.extends more.facts (take n rows) c.loop-row.asks (c.loop-row.invariant.1 c')) (more.asks c'))),
    )

pub returns : goal.returns
returns c = λ c'. record {
  asks = subst (λ l. AreAsks c' c.loop-row.slots c.loop-row.facts l c.loop-row.asks) (take_all c.loop-row.row-index c.args.rows.now (omega arith)) (c.loop-row.invariant.1 c');
  columns = subst (λ l. AreColumns l c.in_ok-columns.columns) c.as_slice.ensures c.in_ok-columns.ensures;
}
