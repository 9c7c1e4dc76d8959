use Rattle.std.proofs.Common.{List, sym, ap, ◌∙◌, subst}
use Rattle.reo_product.specs.declared.table.RegionTable.{RegionTable}
use Rattle.reo_flow.specs.Allows.{AreTables}
use Rattle.reo_flow.specs.Flow.{IsPlanned, planned_choice}
use Rattle.reo_plan.specs.Plan.{PlanState, plan_of}
use Rattle.reo_session.specs.Plan.{GoesByTables, IsAllowedSomewhere, IsStepWherever}
use Rattle.reo_session.specs.Session.{firings_of}
use Rattle.reo_session.proofs.BoardLaw.{are_tables, plan_goes_by_tables}
use Rattle.reo_session.proofs.session.run_prepared.Goals as goal

pub compile-requires-clause-tables : goal.compile-requires-clause-tables
compile-requires-clause-tables g c =
    let p = c.args.prepared.now in
    let is = c.requires.prepared in
    subst (λ (ts : List RegionTable). AreTables p.net (firings_of ts)) (sym c.as_slice.ensures) (are_tables p.net p.cut is.is_cut p.tables is.are_tables)

pub session_by-requires-clause-plan : goal.session_by-requires-clause-plan
session_by-requires-clause-plan g c =
    let p = c.args.prepared.now in
    let is = c.requires.prepared in
    let texts = c.args.texts.now in
    subst (λ (s : PlanState). GoesByTables p.net texts (firings_of p.tables) (IsPlanned s.circuit s.texts s.tables) (planned_choice s.circuit s.texts s.tables) (IsAllowedSomewhere s.circuit s.texts s.tables) (IsStepWherever s.circuit s.texts s.tables))
    (sym (c.in_ok-plan.ensures.plan ∙ ap (plan_of p.net texts) c.as_slice.ensures))
    (plan_goes_by_tables p.net texts (firings_of p.tables) is.checked (are_tables p.net p.cut is.is_cut p.tables is.are_tables))
