-- A region's step on ports changes no word and no view of which the parts on cells speak.
use Rattle.std.proofs.Common.{◌≡◌, ℕ, ◌+◌, ◌<◌, ◌⊎◌, inl, inr, List, length, slice_index, refl, sym, ap, ◌∙◌, subst, arith}
use Rattle.reo_fabric.specs.Entry.{at_place, RisesFrom}
use Rattle.reo_coupling.specs.declared.view.CellsView.{CellsView}
use Rattle.reo_coupling.specs.declared.view.Loaded.{Loaded}
use Rattle.reo_coupling.specs.Moment.{Setting, Moment, round_place, cell_place}
use Rattle.reo_coupling.specs.Parts.{view_of, NothingDue, StoresAreDue, clearance}
use Rattle.reo_coupling.specs.Whole.{StandsFor, KeepsCellParts}
use Rattle.reo_coupling.specs.Steps.{OthersStay}
use Rattle.reo_coupling.proofs.Frames.{field_stays, sized_stays, named_stays, counted_stays, lawful_stays, cells_stay, notes_stay, limit_stays, rounds_stay}

-- the words before those of ports, the history and what is known of cells stay
pub record StaysBelow (setting : Setting) (before after : Moment) : Type 0 where
  pub size : length after.words ≡ length before.words
  pub words : (place : ℕ) → place < 1 + setting.fabric.regions + length setting.fabric.cells → slice_index after.words place ≡ slice_index before.words place
  pub history : after.history ≡ before.history
  pub region : (r : ℕ) → (view_of after r).region ≡ (view_of before r).region
  pub limit : (r : ℕ) → (view_of after r).limit ≡ (view_of before r).limit
  pub round : (r : ℕ) → (view_of after r).round ≡ (view_of before r).round
  pub stage : (r : ℕ) → (view_of after r).stage ≡ (view_of before r).stage
  pub notes : (r : ℕ) → (view_of after r).notes ≡ (view_of before r).notes
  pub entries : (r : ℕ) → (view_of after r).entries ≡ (view_of before r).entries
  pub takes : (r : ℕ) → (view_of after r).takes_due ≡ (view_of before r).takes_due
  pub fills : (r : ℕ) → (view_of after r).fills_due ≡ (view_of before r).fills_due

same_dues : (setting : Setting) (r : ℕ) (new old : CellsView) → new.stage ≡ old.stage → new.notes ≡ old.notes → new.entries ≡ old.entries → new.takes_due ≡ old.takes_due → new.fills_due ≡ old.fills_due
    → NothingDue old ⊎ StoresAreDue setting.fabric r old → NothingDue new ⊎ StoresAreDue setting.fabric r new
same_dues setting r new old stage notes entries takes fills (inl none) = inl (record { takes = takes ∙ none.takes; fills = fills ∙ none.fills })
same_dues setting r new old stage notes entries takes fills (inr due) = inr (record {
  stage = stage ∙ due.stage;
  notes = notes ∙ due.notes;
  earlier = due.earlier;
  last = due.last;
  entries = entries ∙ due.entries;
  takes = λ cell value at. due.takes cell value (sym (ap (λ l. at_place l cell) takes) ∙ at);
  fills = λ cell value at. due.fills cell value (sym (ap (λ l. at_place l cell) fills) ∙ at);
  takes_rise = subst (RisesFrom 0) (sym takes) due.takes_rise;
  fills_rise = subst (RisesFrom 0) (sym fills) due.fills_rise;
})

pub above : (Step : Setting → ℕ → Moment → Moment → Type 0) → ((setting : Setting) (region : ℕ) (before after : Moment) → region < setting.fabric.regions → StandsFor setting before → Step setting region before after → StaysBelow setting before after)
    → KeepsCellParts Step
above Step below = record {
  sized = λ setting region before after within stands step. sized_stays setting before after (below setting region before after within stands step).size stands.sized;
  named = λ setting region before after within stands step.
      let stays = below setting region before after within stands step in
      named_stays setting before after stays.region stays.limit stands.named;
  counted = λ setting region before after within stands step.
      let stays = below setting region before after within stands step in
      counted_stays setting before after (stays.words 0 (omega arith)) stays.history stays.entries stands.counted;
  lawful = λ setting region before after within stands step. lawful_stays setting before after (below setting region before after within stands step).history stands.lawful;
  cells = λ setting region before after within stands step.
      let stays = below setting region before after within stands step in
      cells_stay setting before after stays.history (λ cell inside. stays.words (cell_place setting.fabric cell) (omega (arith, inside))) (λ r cell. ap (λ l. at_place l cell) (stays.fills r))
      (λ r cell. ap (λ l. at_place l cell) (stays.takes r)) stands.cells;
  notes = λ setting region before after within stands step.
      let stays = below setting region before after within stands step in
      notes_stay setting before after stays.history (λ cell inside. stays.words (cell_place setting.fabric cell) (omega (arith, inside)))
      (λ r inside cell word noted lasts. stands.notes r inside cell word (sym (ap (λ l. at_place l cell) (stays.notes r)) ∙ noted) lasts);
  dues = λ setting region before after within stands step r inside.
      let stays = below setting region before after within stands step in
      same_dues setting r (view_of after r) (view_of before r) (stays.stage r) (stays.notes r) (stays.entries r) (stays.takes r) (stays.fills r) (stands.dues r inside);
  limit = λ setting region before after within stands step.
      let stays = below setting region before after within stands step in
      limit_stays setting before after stays.history (λ r. let same = ap clearance (stays.stage r) in omega (arith, same)) stands.limit;
  rounds = λ setting region before after within stands step.
      let stays = below setting region before after within stands step in
      rounds_stay setting before after (λ r inside. stays.words (round_place r) (omega (arith, inside))) stays.round stands.rounds;
}

-- a step that may add to the loads of its region alone
pub loads_only : (setting : Setting) (region : ℕ) (before after : Moment) (loads : List Loaded) → view_of after region ≡ record (view_of before region) { loads = loads } → OthersStay region before after → length after.words ≡ length before.words
    → ((place : ℕ) → place < 1 + setting.fabric.regions + length setting.fabric.cells → slice_index after.words place ≡ slice_index before.words place) → after.history ≡ before.history → StaysBelow setting before after
loads_only setting region before after loads view others size words history = record {
  size = size;
  words = words;
  history = history;
  region = field_stays (λ v. v.region) region before after _ view refl others;
  limit = field_stays (λ v. v.limit) region before after _ view refl others;
  round = field_stays (λ v. v.round) region before after _ view refl others;
  stage = field_stays (λ v. v.stage) region before after _ view refl others;
  notes = field_stays (λ v. v.notes) region before after _ view refl others;
  entries = field_stays (λ v. v.entries) region before after _ view refl others;
  takes = field_stays (λ v. v.takes_due) region before after _ view refl others;
  fills = field_stays (λ v. v.fills_due) region before after _ view refl others;
}
