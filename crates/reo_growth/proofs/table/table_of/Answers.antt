use Rattle.std.proofs.Common.{◌≤◌, inr, map, refl, subst, arith}
use Rattle.reo_growth.specs.Growth.{growth_count}
use Rattle.reo_growth.specs.Search.{Covers, Searched, names_in}
use Rattle.reo_growth.proofs.FiringLemmas.{is_table, has_firings}
use Rattle.reo_growth.proofs.table.table_of.Goals as goal

pub returns-then-found-gt-MOST_FIRINGS-clause-refused : goal.returns-then-found-gt-MOST_FIRINGS-clause-refused
returns-then-found-gt-MOST_FIRINGS-clause-refused c =
    let covers : Covers c.args.web c.in-Some.found = subst (Searched c.args.web) c.in-Some.is c.in_ok-found.ensures in
    let within : growth_count c.args.web ≤ 65536 = omega (arith, covers.room) in
    inr (within, c.if-found-gt-MOST_FIRINGS.true, has_firings c.args.web c.requires.web c.in-Some.found covers)

pub returns-clause-table : goal.returns-clause-table
returns-clause-table c =
    let covers : Covers c.args.web c.in-Some.found = subst (Searched c.args.web) c.in-Some.is c.in_ok-found.ensures in
    is_table c.args.web c.requires.web c.in-Some.found covers c.if-found-gt-MOST_FIRINGS.false (map names_in c.in_ok-rows.rows.items) c.in_ok-rows.ensures _ refl
