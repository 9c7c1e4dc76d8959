use Rattle.std.proofs.Common.{◌<◌, length, All, subst, sym, ap, ◌∙◌}
use Rattle.std.specs.List.Sorted.{IsStrictlyIncreasing}
use Rattle.reo_product.specs.Places.{AreRegionAutomata}
use Rattle.reo_product.specs.Region.{numbers_of}
use Rattle.reo_product.proofs.RegionLemmas.{numbers_rise, numbers_below, are_automata, ok_more, err_more}
use Rattle.reo_product.proofs.region.region_table.Goals as goal

pub table_of_automata-requires-clause-rising : goal.table_of_automata-requires-clause-rising
table_of_automata-requires-clause-rising c =
    subst IsStrictlyIncreasing (sym (c.deref.ensures.value ∙ c.in_ok-automata.ensures)) (numbers_rise c.as_slice.result.now c.args.region)

pub table_of_automata-requires-clause-below : goal.table_of_automata-requires-clause-below
table_of_automata-requires-clause-below c =
    subst (λ n. All (λ x. x < n) c.deref.result.now) (ap length c.as_slice.ensures ∙ c.requires.cut.automata)
    (subst (All (λ x. x < length c.as_slice.result.now)) (sym (c.deref.ensures.value ∙ c.in_ok-automata.ensures)) (numbers_below c.as_slice.result.now c.args.region))

pub returns-clause-table : goal.returns-clause-table
returns-clause-table c =
    let list = c.deref.ensures.value ∙ c.in_ok-automata.ensures ∙ ap (λ regions. numbers_of regions c.args.region) c.as_slice.ensures in
    ok_more c.table_of_automata.result _ _ (λ table told is root at. told root (subst (AreRegionAutomata c.args.net.now root) (sym list) (are_automata c.args.net.now c.args.cut.now is c.args.region root at))) c.table_of_automata.ensures.table

pub returns-clause-refused : goal.returns-clause-refused
returns-clause-refused c =
    let list = c.deref.ensures.value ∙ c.in_ok-automata.ensures ∙ ap (λ regions. numbers_of regions c.args.region) c.as_slice.ensures in
    err_more c.table_of_automata.result _ _ (λ why told is root at. told root (subst (AreRegionAutomata c.args.net.now root) (sym list) (are_automata c.args.net.now c.args.cut.now is c.args.region root at))) c.table_of_automata.ensures.refused
