use Rattle.std.proofs.Common.{◌≡◌, ℕ, ◌<◌, List, length, map, slice_get, sym, ap, ◌∙◌, subst}
use Rattle.std.proofs.lemmas.Option.{slice_get_within, get_or_from_slice_get}
use Rattle.reo_fabric.specs.declared.reading.Reading.{Reading}
use Rattle.reo_flow.specs.declared.giver.Giver.{Giver}
use Rattle.reo_flow.specs.Allows.{Allows}
use Rattle.reo_flow.specs.Flow.{sources_of}
use Rattle.reo_plan.specs.declared.row.Row.{Row}
use Rattle.reo_plan.specs.Plan.{PlanState, firings_in}
use Rattle.reo_plan.specs.inside.Slots.{slot_value}
use Rattle.reo_plan.specs.inside.Rows.{values_at}
use Rattle.reo_plan.specs.inside.Back.{reading_back}
use Rattle.reo_plan.proofs.DeciderLaw.{entry_row}
use Rattle.reo_plan.proofs.BackLaw.{step_pairs}
use Rattle.reo_plan.proofs.plans.Plan.step_into.Goals as goal

pub bounds-as_slice-region : goal.bounds-as_slice-region
bounds-as_slice-region c =
    let tables = map firings_in c.self.inside.tables.now in
    let allowed = subst (λ (s : PlanState). (reading : Reading) × Allows s.circuit s.texts s.tables c.args.entry.now.region reading c.args.entry.now) (sym c.self.view_is) c.requires.allowed in
    let at = entry_row c.self.inside.net.now c.self.inside.texts.now tables c.self.inside.plans c.self.invariant.1 c.args.entry.now.region allowed.0 c.args.entry.now allowed.1 in
    slice_get_within c.as_slice.result.now c.region.result at.rows (ap (slice_get c.as_slice.result.now) c.region.ensures ∙ ap (λ plans. slice_get plans c.args.entry.now.region) c.as_slice.ensures ∙ at.rows_found)

pub bounds-rows-choice : goal.bounds-rows-choice
bounds-rows-choice c =
    let tables = map firings_in c.self.inside.tables.now in
    let allowed = subst (λ (s : PlanState). (reading : Reading) × Allows s.circuit s.texts s.tables c.args.entry.now.region reading c.args.entry.now) (sym c.self.view_is) c.requires.allowed in
    let at = entry_row c.self.inside.net.now c.self.inside.texts.now tables c.self.inside.plans c.self.invariant.1 c.args.entry.now.region allowed.0 c.args.entry.now allowed.1 in
    let rows : c.as_slice-rows.result.now ≡ at.rows =
    c.as_slice-rows.ensures ∙ c.index-as_slice-region.is
    ∙ get_or_from_slice_get c.as_slice.result.now c.region.result at.rows _ (ap (slice_get c.as_slice.result.now) c.region.ensures ∙ ap (λ plans. slice_get plans c.args.entry.now.region) c.as_slice.ensures ∙ at.rows_found) in
    subst (λ (rs : List Row). c.choice.result < length rs) (sym rows) (slice_get_within at.rows c.choice.result at.row (ap (slice_get at.rows) c.choice.ensures ∙ at.row_found))

pub returns : goal.returns
returns c =
    let net = c.self.inside.net.now in
    let texts = c.self.inside.texts.now in
    let tables = map firings_in c.self.inside.tables.now in
    let entry = c.args.entry.now in
    record {
      step = subst (λ (s : PlanState). (reading : Reading) (allowed : Allows s.circuit s.texts s.tables entry.region reading entry) → c.pairs_into.new.pairs.items ≡ allowed.step.pairs) c.self.view_is
          (λ reading allowed.
          let at = entry_row net texts tables c.self.inside.plans c.self.invariant.1 entry.region reading entry allowed in
          let rows : c.as_slice-rows.result.now ≡ at.rows =
          c.as_slice-rows.ensures ∙ c.index-as_slice-region.is
          ∙ get_or_from_slice_get c.as_slice.result.now c.region.result at.rows _ (ap (slice_get c.as_slice.result.now) c.region.ensures ∙ ap (λ plans. slice_get plans entry.region) c.as_slice.ensures ∙ at.rows_found) in
          let row : c.index-rows-choice.result ≡ at.row =
          c.index-rows-choice.is ∙ get_or_from_slice_get c.as_slice-rows.result.now c.choice.result at.row _ (ap (slice_get c.as_slice-rows.result.now) c.choice.ensures ∙ ap (λ (rs : List Row). slice_get rs entry.choice) rows ∙ at.row_found) in
          c.in_ok-pairs_into.ensures
          ∙ ap (λ (slots : List Giver). values_at (slot_value net texts (sources_of (reading_back entry)) slots) c.as_slice-named.result.now) c.as_slice-slots.ensures
          ∙ ap (λ (named : List (ℕ × ℕ)). values_at (slot_value net texts (sources_of (reading_back entry)) c.index-rows-choice.result.slots) named) c.as_slice-named.ensures
          ∙ ap (λ (r : Row). values_at (slot_value net texts (sources_of (reading_back entry)) r.slots) r.named) row
          ∙ step_pairs net c.nodes-nodes.ensures.checked texts tables c.self.invariant.0 entry.region reading entry allowed at.row at.is_row);
    }
