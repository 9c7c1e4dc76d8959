use Rattle.std.proofs.Common.{◌≡◌, ap, ◌∙◌, subst}
use Rattle.std.specs.List.{list_all}
use Rattle.reo_plan.specs.inside.Asks.{so_in}
use Rattle.reo_plan.proofs.RowLaw.{is_row}
use Rattle.reo_plan.proofs.compiler.row_with.Goals as goal

pub returns : goal.returns
returns c =
    let net = c.args.net.now in
    is_row net c.args.names.now c.args.table.now _ c.requires.slots
    (λ texts reading.
    subst (λ slots. list_all (so_in net texts reading slots) c.in_ok-facts.facts ≡ list_all (so_in net texts reading slots) c.as_slice-2.result.now) c.as_slice.ensures (c.in_ok-facts.ensures net texts reading)
    ∙ ap (list_all (so_in net texts reading c.args.slots)) c.as_slice-2.ensures ∙ c.in_ok-asked.ensures (so_in net texts reading c.args.slots))
    c.requires.names c.in_ok-takes.ensures c.in_ok-fills.ensures c.in_ok-puts.ensures c.in_ok-gets.ensures c.in_ok-named.ensures
