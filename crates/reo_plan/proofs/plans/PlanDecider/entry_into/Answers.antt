use Rattle.std.proofs.Common.{◌≡◌, ◌<◌, List, length, map, slice_get, Some, sym, ap, ◌∙◌, subst}
use Rattle.std.proofs.lemmas.Option.{slice_get_within, get_or_from_slice_get}
use Rattle.reo_fabric.specs.Room.{RoomState, HasRoomFor}
use Rattle.reo_flow.specs.Flow.{IsPlanned, planned_choice, planned_entry}
use Rattle.reo_plan.specs.declared.row.Row.{Row}
use Rattle.reo_plan.specs.Plan.{PlanState, firings_in}
use Rattle.reo_plan.specs.inside.Sides.{entry_in}
use Rattle.reo_plan.proofs.DeciderLaw.{chosen_row}
use Rattle.reo_plan.proofs.plans.PlanDecider.entry_into.Goals as goal

pub bounds-as_slice-reading : goal.bounds-as_slice-reading
bounds-as_slice-reading c =
    let tables = map firings_in c.self.inside.tables.now in
    let chosen = subst (λ (s : PlanState). planned_choice s.circuit s.texts s.tables c.args.reading.now.region c.args.reading.now ≡ Some c.args.choice.0) (sym c.self.view_is) c.requires.chosen in
    let at = chosen_row c.self.inside.net.now c.self.inside.texts.now tables c.self.inside.plans c.self.invariant.1 c.args.reading.now.region c.args.reading.now c.args.choice.0 chosen in
    slice_get_within c.as_slice.result.now c.args.reading.now.region at.rows (ap (λ plans. slice_get plans c.args.reading.now.region) c.as_slice.ensures ∙ at.rows_found)

pub bounds-rows-choice : goal.bounds-rows-choice
bounds-rows-choice c =
    let tables = map firings_in c.self.inside.tables.now in
    let chosen = subst (λ (s : PlanState). planned_choice s.circuit s.texts s.tables c.args.reading.now.region c.args.reading.now ≡ Some c.args.choice.0) (sym c.self.view_is) c.requires.chosen in
    let at = chosen_row c.self.inside.net.now c.self.inside.texts.now tables c.self.inside.plans c.self.invariant.1 c.args.reading.now.region c.args.reading.now c.args.choice.0 chosen in
    let rows : c.as_slice-rows.result.now ≡ at.rows =
    c.as_slice-rows.ensures ∙ c.index-as_slice-reading.is
    ∙ get_or_from_slice_get c.as_slice.result.now c.args.reading.now.region at.rows _ (ap (λ plans. slice_get plans c.args.reading.now.region) c.as_slice.ensures ∙ at.rows_found) in
    subst (λ (rs : List Row). c.args.choice.0 < length rs) (sym rows) (slice_get_within at.rows c.args.choice.0 at.row at.row_found)

pub write_row-requires : goal.write_row-requires
write_row-requires c =
    let tables = map firings_in c.self.inside.tables.now in
    let chosen = subst (λ (s : PlanState). planned_choice s.circuit s.texts s.tables c.args.reading.now.region c.args.reading.now ≡ Some c.args.choice.0) (sym c.self.view_is) c.requires.chosen in
    let at = chosen_row c.self.inside.net.now c.self.inside.texts.now tables c.self.inside.plans c.self.invariant.1 c.args.reading.now.region c.args.reading.now c.args.choice.0 chosen in
    let rows : c.as_slice-rows.result.now ≡ at.rows =
    c.as_slice-rows.ensures ∙ c.index-as_slice-reading.is
    ∙ get_or_from_slice_get c.as_slice.result.now c.args.reading.now.region at.rows _ (ap (λ plans. slice_get plans c.args.reading.now.region) c.as_slice.ensures ∙ at.rows_found) in
    let row : c.index-rows-choice.result ≡ at.row =
    c.index-rows-choice.is ∙ get_or_from_slice_get c.as_slice-rows.result.now c.args.choice.0 at.row _ (ap (λ (rs : List Row). slice_get rs c.args.choice.0) rows ∙ at.row_found) in
    let allowed = subst (λ (s : PlanState). IsPlanned s.circuit s.texts s.tables c.args.reading.now.region c.args.reading.now (entry_in c.self.inside.net.now c.self.inside.texts.now c.args.reading.now at.row c.args.reading.now.region c.args.choice.0)) c.self.view_is at.planned in
    subst (λ r. HasRoomFor c.args.room.now (entry_in c.self.inside.net.now c.self.inside.texts.now c.args.reading.now r c.args.room.now.entry.region c.args.choice.0)) (sym row)
    (subst (λ n. HasRoomFor c.args.room.now (entry_in c.self.inside.net.now c.self.inside.texts.now c.args.reading.now at.row n c.args.choice.0)) (sym c.requires.region)
    (c.requires.room (entry_in c.self.inside.net.now c.self.inside.texts.now c.args.reading.now at.row c.args.reading.now.region c.args.choice.0) allowed))

pub returns-clause-allowed : goal.returns-clause-allowed
returns-clause-allowed c =
    let tables = map firings_in c.self.inside.tables.now in
    let chosen = subst (λ (s : PlanState). planned_choice s.circuit s.texts s.tables c.args.reading.now.region c.args.reading.now ≡ Some c.args.choice.0) (sym c.self.view_is) c.requires.chosen in
    let at = chosen_row c.self.inside.net.now c.self.inside.texts.now tables c.self.inside.plans c.self.invariant.1 c.args.reading.now.region c.args.reading.now c.args.choice.0 chosen in
    let rows : c.as_slice-rows.result.now ≡ at.rows =
    c.as_slice-rows.ensures ∙ c.index-as_slice-reading.is
    ∙ get_or_from_slice_get c.as_slice.result.now c.args.reading.now.region at.rows _ (ap (λ plans. slice_get plans c.args.reading.now.region) c.as_slice.ensures ∙ at.rows_found) in
    let row : c.index-rows-choice.result ≡ at.row =
    c.index-rows-choice.is ∙ get_or_from_slice_get c.as_slice-rows.result.now c.args.choice.0 at.row _ (ap (λ (rs : List Row). slice_get rs c.args.choice.0) rows ∙ at.row_found) in
    let planned = subst (λ (s : PlanState). planned_entry s.circuit s.texts s.tables c.args.reading.now.region c.args.reading.now c.args.choice.0 ≡ Some (entry_in c.self.inside.net.now c.self.inside.texts.now c.args.reading.now at.row c.args.reading.now.region c.args.choice.0)) c.self.view_is at.planned in
    subst (λ (r : RoomState). planned_entry c.args.self.now.circuit c.args.self.now.texts c.args.self.now.tables c.args.reading.now.region c.args.reading.now r.entry.choice ≡ Some r.entry) (sym c.write_row.ensures)
    (planned ∙ ap (λ r. Some (entry_in c.self.inside.net.now c.self.inside.texts.now c.args.reading.now r c.args.reading.now.region c.args.choice.0)) (sym row)
    ∙ ap (λ n. Some (entry_in c.self.inside.net.now c.self.inside.texts.now c.args.reading.now c.index-rows-choice.result n c.args.choice.0)) (sym c.requires.region))
