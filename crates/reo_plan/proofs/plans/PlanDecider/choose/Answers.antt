use Rattle.std.proofs.Common.{◌≡◌, map, slice_get, position, Some, sym, ap, ◌∙◌, subst, arith}
use Rattle.std.proofs.lemmas.Option.{slice_get_within, get_or_from_slice_get}
use Rattle.std.specs.Option.{option_map, option_copied}
use Rattle.reo_fabric.specs.declared.reading.Choice.{Choice}
use Rattle.reo_flow.specs.Flow.{planned_choice}
use Rattle.reo_plan.specs.Plan.{PlanState, firings_in}
use Rattle.reo_plan.specs.inside.Plans.{fits}
use Rattle.reo_plan.specs.inside.Asks.{IsShared}
use Rattle.reo_plan.proofs.AskLemmas.{shared_at}
use Rattle.reo_plan.proofs.DeciderLaw.{no_choice, choice_of, choice_small}
use Rattle.reo_plan.proofs.plans.PlanDecider.choose.Goals as goal

pub returns-in_err-rows : goal.returns-in_err-rows
returns-in_err-rows c =
    let tables = map firings_in c.self.inside.tables.now in
    let none = ap (λ plans. slice_get plans c.args.region) (sym c.as_slice.ensures) ∙ sym c.at.ensures ∙ ap option_copied c.in_err-rows.was in
    subst (λ (s : PlanState). option_map (λ (choice : Choice). choice.0) c.from_residual.result ≡ planned_choice s.circuit s.texts s.tables c.args.region c.args.reading.now) c.self.view_is
    (ap (option_map (λ (choice : Choice). choice.0)) c.from_residual.ensures ∙ no_choice c.self.inside.net.now c.self.inside.texts.now tables c.self.inside.plans c.self.invariant.1 c.args.region c.args.reading.now none)

pub bounds-as_slice-region : goal.bounds-as_slice-region
bounds-as_slice-region c =
    let found = ap (λ plans. slice_get plans c.args.region) (sym c.as_slice.ensures) ∙ sym c.at.ensures ∙ ap option_copied c.in_ok-rows.was in
    let at = shared_at c.self.inside.net.now c.self.inside.plans c.self.inside.shared c.self.invariant.2 c.args.region c.in_ok-rows.rows.now found in
    slice_get_within c.as_slice-2.result.now c.args.region at.0 (ap (λ all. slice_get all c.args.region) c.as_slice-2.ensures ∙ at.1)

pub first_row-requires : goal.first_row-requires
first_row-requires c =
    let net = c.self.inside.net.now in
    let found = ap (λ plans. slice_get plans c.args.region) (sym c.as_slice.ensures) ∙ sym c.at.ensures ∙ ap option_copied c.in_ok-rows.was in
    let at = shared_at net c.self.inside.plans c.self.inside.shared c.self.invariant.2 c.args.region c.in_ok-rows.rows.now found in
    let same : c.index-as_slice-region.result ≡ at.0 =
    c.index-as_slice-region.is ∙ get_or_from_slice_get c.as_slice-2.result.now c.args.region at.0 _ (ap (λ all. slice_get all c.args.region) c.as_slice-2.ensures ∙ at.1) in
    subst (IsShared net c.as_slice-3.result.now) (sym same) (subst (λ rows. IsShared net rows at.0) (sym c.as_slice-3.ensures) at.2)

pub returns-in_err-first : goal.returns-in_err-first
returns-in_err-first c =
    let tables = map firings_in c.self.inside.tables.now in
    let found = ap (λ plans. slice_get plans c.args.region) (sym c.as_slice.ensures) ∙ sym c.at.ensures ∙ ap option_copied c.in_ok-rows.was in
    let first = sym c.in_err-first.was ∙ c.first_row.ensures ∙ ap (position (fits c.self.inside.net.now c.self.inside.texts.now c.args.reading.now)) c.as_slice-3.ensures in
    subst (λ (s : PlanState). option_map (λ (choice : Choice). choice.0) c.from_residual-in_err-first.result ≡ planned_choice s.circuit s.texts s.tables c.args.region c.args.reading.now) c.self.view_is
    (ap (option_map (λ (choice : Choice). choice.0)) c.from_residual-in_err-first.ensures ∙ first
    ∙ choice_of c.self.inside.net.now c.self.inside.texts.now tables c.self.inside.plans c.self.invariant.1 c.args.region c.args.reading.now c.in_ok-rows.rows.now found)

pub overflow_cast-result : goal.overflow_cast-result
overflow_cast-result c =
    let tables = map firings_in c.self.inside.tables.now in
    let found = ap (λ plans. slice_get plans c.args.region) (sym c.as_slice.ensures) ∙ sym c.at.ensures ∙ ap option_copied c.in_ok-rows.was in
    let first = ap (position (fits c.self.inside.net.now c.self.inside.texts.now c.args.reading.now)) (sym c.as_slice-3.ensures) ∙ sym c.first_row.ensures ∙ c.in_ok-first.was in
    omega (arith, choice_small c.self.inside.net.now c.self.inside.texts.now tables c.self.inside.plans c.self.invariant.1 c.args.region c.args.reading.now c.in_ok-rows.rows.now c.in_ok-first.first found first)

pub returns : goal.returns
returns c =
    let tables = map firings_in c.self.inside.tables.now in
    let found = ap (λ plans. slice_get plans c.args.region) (sym c.as_slice.ensures) ∙ sym c.at.ensures ∙ ap option_copied c.in_ok-rows.was in
    let first = sym c.in_ok-first.was ∙ c.first_row.ensures ∙ ap (position (fits c.self.inside.net.now c.self.inside.texts.now c.args.reading.now)) c.as_slice-3.ensures in
    subst (λ (s : PlanState). Some c.in_ok-first.first ≡ planned_choice s.circuit s.texts s.tables c.args.region c.args.reading.now) c.self.view_is
    (first ∙ choice_of c.self.inside.net.now c.self.inside.texts.now tables c.self.inside.plans c.self.invariant.1 c.args.region c.args.reading.now c.in_ok-rows.rows.now found)
