use Rattle.std.proofs.Common.{◌≡◌, ◌∷◌, ◌++◌, [], ℕ, List, length, map, ap, sym, ◌∙◌, arith}
use Rattle.std.specs.Vec.Iter.{into_iter_items}
use Rattle.std.proofs.lemmas.List.{map-append}
use Rattle.reo_growth.specs.declared.found.Row.{Row}
use Rattle.reo_growth.specs.Marks.{AreBelow}
use Rattle.reo_product.specs.RegionWeb.{name_at}
use Rattle.reo_product.specs.Table.{names_in}
use Rattle.reo_product.proofs.TurnLemmas.{all_gone, gone_on, next_holds}
use Rattle.reo_product.proofs.table.firings_of.Goals as goal

pub named-requires : goal.named-requires
named-requires c =
    let at = c.loop-row in
    let whole = at.invariant.0 ∙ c.into_iter-row-iterator.ensures.into_iter_gives.0 in
    next_holds (λ (row : Row). AreBelow (length c.args.names.now) row.names.items) c.args.rows.items at.yielded (into_iter_items at.row-iterator) (into_iter_items c.next.new.self) c.in-Some.row
    c.in-Some.ensures.steps.0 whole c.requires

pub loop-row-preserved : goal.loop-row-preserved
loop-row-preserved c =
    let at = c.loop-row in
    let x = c.in-Some.row in
    let named : Row → List ℕ = λ row. map (name_at c.args.names.now) row.names.items in
    let steps : into_iter_items at.row-iterator ≡ x ∷ into_iter_items c.next.new.self = c.in-Some.ensures.steps.0 in (
      gone_on _ at.yielded (into_iter_items at.row-iterator) (into_iter_items c.next.new.self) x steps at.invariant.0,
      let was = at.invariant.1 in
          let gone = c.in-Some.ensures.steps.1 in
          let short = ap length steps in
          omega arith,
      ap (map names_in) c.in_ok-push.ensures.items
          ∙ (map-append names_in at.firings.items _
          ∙ (ap (λ xs. xs ++ c.from_vec-names.result ∷ []) at.invariant.2
          ∙ (ap (λ l. map named at.yielded ++ l ∷ []) (c.from_vec-names.ensures ∙ c.named.ensures)
          ∙ sym (map-append named at.yielded (x ∷ []))))),
    )

pub returns : goal.returns
returns c =
    let at = c.loop-row in
    let named : Row → List ℕ = λ row. map (name_at c.args.names.now) row.names.items in
    let all = all_gone _ at.yielded (into_iter_items at.row-iterator) _ c.in-None.ensures.steps.0 at.invariant.1 at.invariant.0 ∙ c.into_iter-row-iterator.ensures.into_iter_gives.0 in
    ap (map names_in) c.from_vec.ensures ∙ (at.invariant.2 ∙ ap (map named) all)
