use Rattle.std.proofs.Common.{◌<◌, length, All, subst, sym}
use Rattle.std.specs.List.Sorted.{IsStrictlyIncreasing}
use Rattle.reo_product.specs.Places.{AreRegionAutomata}
use Rattle.reo_product.proofs.RegionLemmas.{ok_more, err_more}
use Rattle.reo_product.proofs.MemberLemmas.{members_rise, members_below, members_are}
use Rattle.reo_product.proofs.region.region_table_of.Goals as goal

pub table_of_automata-requires-clause-rising : goal.table_of_automata-requires-clause-rising
table_of_automata-requires-clause-rising c =
    let cut = c.args.cut.now in
    subst IsStrictlyIncreasing (sym c.of.ensures) (members_rise cut.region_of cut.regions c.args.region c.args.members.now c.requires.members)

pub table_of_automata-requires-clause-below : goal.table_of_automata-requires-clause-below
table_of_automata-requires-clause-below c =
    let cut = c.args.cut.now in
    subst (λ n. All (λ x. x < n) c.of.result.now) c.requires.cut.automata
    (subst (All (λ x. x < length cut.region_of)) (sym c.of.ensures) (members_below cut.region_of cut.regions c.args.region c.args.members.now c.requires.members))

pub returns-clause-table : goal.returns-clause-table
returns-clause-table c =
    ok_more c.table_of_automata.result _ _ (λ table told is root at. told root (subst (AreRegionAutomata c.args.net.now root) (sym c.of.ensures) (members_are c.args.net.now c.args.cut.now is c.args.region root c.args.members.now c.requires.members at)))
    c.table_of_automata.ensures.table

pub returns-clause-refused : goal.returns-clause-refused
returns-clause-refused c =
    err_more c.table_of_automata.result _ _ (λ why told is root at. told root (subst (AreRegionAutomata c.args.net.now root) (sym c.of.ensures) (members_are c.args.net.now c.args.cut.now is c.args.region root c.args.members.now c.requires.members at)))
    c.table_of_automata.ensures.refused
