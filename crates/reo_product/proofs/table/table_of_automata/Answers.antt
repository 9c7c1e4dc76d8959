use Rattle.std.proofs.Common.{length, map, All, subst, sym, ap, ◌∙◌}
use Rattle.std.proofs.lemmas.Simd.{map-map}
use Rattle.reo_growth.specs.declared.found.Row.{Row}
use Rattle.reo_growth.specs.Marks.{AreBelow}
use Rattle.reo_growth.specs.Search.{names_in as row_names}
use Rattle.reo_product.specs.RegionWeb.{name_at}
use Rattle.reo_product.specs.Table.{IsTableOf, Refuses}
use Rattle.reo_product.proofs.WebLemmas.{rows_within}
use Rattle.reo_product.proofs.TurnLemmas.{of_mapped}
use Rattle.reo_product.proofs.CountLemmas.{webs_have_growth}
use Rattle.reo_product.proofs.NamedLemmas.{table_named, refused_named}
use Rattle.reo_product.proofs.table.table_of_automata.Goals as goal

pub firings_of-requires : goal.firings_of-requires
firings_of-requires c =
    let w = c.in_ok-made.made.web in
    let rows = rows_within w c.in_ok-made.ensures.is_web (map row_names c.in-Ok.table.rows.items) c.in-Ok.ensures.table.listed in
    let size = c.in_ok-made.ensures.named ∙ ap length (sym c.as_slice.ensures) in
    subst (λ n. All (λ (row : Row). AreBelow n row.names.items) c.in-Ok.table.rows.items) size (of_mapped (AreBelow w.names) row_names c.in-Ok.table.rows.items rows)

pub returns-in-Ok-clause-table : goal.returns-in-Ok-clause-table
returns-in-Ok-clause-table c = λ root region.
    let w = c.in_ok-made.made.web in
    let names = c.in_ok-made.made.names in
    let growth = c.in-Ok.table.growth in
    let table = table_named c.args.net.now root names w (c.in_ok-made.ensures.web root region) growth (map row_names c.in-Ok.table.rows.items) (webs_have_growth c.args.net.now root names w (c.in_ok-made.ensures.web root region)) c.in-Ok.ensures.table in
    let rows = c.in-Ok.table.rows.items in
    let listed = c.in_ok-firings-in-Ok.ensures ∙ (ap (λ ns. map (λ (row : Row). map (name_at ns) row.names.items) rows) c.as_slice.ensures ∙ sym (map-map (map (name_at names)) row_names rows)) in
    subst (IsTableOf c.args.net.now root growth) (sym listed) table

pub returns-clause-refused : goal.returns-clause-refused
returns-clause-refused c = λ root region.
    subst (Refuses c.args.net.now root c.args.region) (sym c.refusal.ensures)
    (refused_named c.args.net.now root c.in_ok-made.made.names c.in_ok-made.made.web (c.in_ok-made.ensures.web root region)
    (webs_have_growth c.args.net.now root c.in_ok-made.made.names c.in_ok-made.made.web (c.in_ok-made.ensures.web root region)) c.args.region c.in-Err.why c.in-Err.ensures.refused)
