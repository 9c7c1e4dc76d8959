-- The store of a word that is due in a cell.
use Rattle.std.proofs.Common.{◌≡◌, ℕ, ◌+◌, ◌<◌, ◌⊎◌, inr, ⊎_elim, Bool, true, false, cond, List, [], length, slice_get, nat_eq, Some, None, refl, sym, ap, ◌∙◌, subst, arith}
use Rattle.std.proofs.lemmas.Bool.{cases_eq, eq-eqb, ne_eqb}
use Rattle.std.proofs.lemmas.Option.{slice_get_within}
use Rattle.reo_value.specs.declared.value.Value.{Value}
use Rattle.reo_value.specs.Code.{code_of}
use Rattle.reo_fabric.specs.declared.fabric.CellSpec.{CellSpec}
use Rattle.reo_fabric.specs.Entry.{at_place}
use Rattle.reo_fabric.specs.Fabric.{IsTaker, IsFiller}
use Rattle.reo_fabric.proofs.CodeLemmas.{code_is_not_zero}
use Rattle.reo_coupling.specs.declared.view.CellsView.{CellsView}
use Rattle.reo_coupling.specs.Moment.{Setting, Moment, round_place, cell_place}
use Rattle.reo_coupling.specs.Views.{without, after_set_cell}
use Rattle.reo_coupling.specs.Parts.{view_of, word_at, held_at, fill_due, take_due, Shows, IsLasting, StillStands, NotesStand, NothingDue, StoresAreDue, DuesAreOfTheLast, clearance, CellsShow}
use Rattle.reo_coupling.specs.Whole.{StandsFor, KeepsCellParts}
use Rattle.reo_coupling.specs.Steps.{SetsCell}
use Rattle.reo_coupling.proofs.OneCell.{same_shows, take_stored, fill_stored, word_before_take, word_before_fill}
use Rattle.reo_coupling.proofs.Lists.{without_here, without_else, without_found, without_rises}
use Rattle.reo_coupling.proofs.Frames.{each_view, field_stays, word_else, word_here, length_else, sized_stays, named_stays, counted_stays, lawful_stays, held_stays, limit_stays, rounds_stay}
use Rattle.reo_coupling.proofs.Commit.{one_taker, one_filler}

-- the view without the take, and without the fill
unfoldable pub taken_off : CellsView → ℕ → CellsView
taken_off view cell = record view { takes_due = without cell view.takes_due }

unfoldable pub filled_off : CellsView → ℕ → CellsView
filled_off view cell = record view { fills_due = without cell view.fills_due }

-- a field that neither list of dues is
pub same_field : {X : Type 0} (F : CellsView → X) (view : CellsView) (cell word : ℕ) → F (taken_off view cell) ≡ F view → F (filled_off view cell) ≡ F view → F (after_set_cell view cell word) ≡ F view
unfolding taken_off filled_off
same_field F view cell word takes fills = go (nat_eq word 0)
  where
    go : (b : Bool) → F (cond b (record view { takes_due = without cell view.takes_due }) (record view { fills_due = without cell view.fills_due })) ≡ F view
    go true = takes
    go false = fills

after_take : (view : CellsView) (cell word : ℕ) → word ≡ 0 → after_set_cell view cell word ≡ taken_off view cell
unfolding taken_off
after_take view cell word is = ap (λ b. cond b (record view { takes_due = without cell view.takes_due }) (record view { fills_due = without cell view.fills_due })) (eq-eqb word 0 is)

after_fill : (view : CellsView) (cell word : ℕ) (value : Value) → word ≡ code_of value → after_set_cell view cell word ≡ filled_off view cell
unfolding filled_off
after_fill view cell word value is =
    ap (λ b. cond b (record view { takes_due = without cell view.takes_due }) (record view { fills_due = without cell view.fills_due })) (ne_eqb word 0 (λ zero_is. code_is_not_zero value (sym zero_is ∙ is)))

other_place : (regions cell other : ℕ) → (other ≡ cell → ⊥) → 1 + regions + other ≡ 1 + regions + cell → ⊥
other_place regions cell other ne is = ne (omega arith)

pub nothing_at : (places : List (ℕ × Value)) (cell : ℕ) (value : Value) → places ≡ [] → at_place places cell ≡ Some value → ⊥
nothing_at places cell value none found =
    let is : None ≡ Some value = sym (ap (λ l. at_place l cell) none) ∙ found in
    cc

module _ (setting : Setting) (region : ℕ) (before after : Moment) (inside : region < setting.fabric.regions) (stands : StandsFor setting before) (step : SetsCell setting region before after) where
  word_of_else : (cell : ℕ) → (cell ≡ step.cell → ⊥) → word_at setting after cell ≡ word_at setting before cell
  word_of_else cell ne = word_else before.words after.words (cell_place setting.fabric step.cell) step.word (cell_place setting.fabric cell) step.words (other_place setting.fabric.regions step.cell cell ne)

  word_of_cell : (cell : ℕ) → cell ≡ step.cell → cell < length setting.fabric.cells → word_at setting after cell ≡ step.word
  word_of_cell cell is within =
      ap (λ c. word_at setting after c) is
      ∙ word_here before.words after.words (cell_place setting.fabric step.cell) step.word step.words (omega (arith, stands.sized.words, subst (λ c. c < length setting.fabric.cells) is within))

  fill_else : (r cell : ℕ) → (cell ≡ step.cell → ⊥) → fill_due after r cell ≡ fill_due before r cell
  unfolding taken_off filled_off
  fill_else r cell ne =
      field_stays (λ v. at_place v.fills_due cell) region before after _ step.view
      (same_field (λ v. at_place v.fills_due cell) (view_of before region) step.cell step.word refl (without_else step.cell cell (view_of before region).fills_due ne)) step.others r

  take_else : (r cell : ℕ) → (cell ≡ step.cell → ⊥) → take_due after r cell ≡ take_due before r cell
  unfolding taken_off filled_off
  take_else r cell ne =
      field_stays (λ v. at_place v.takes_due cell) region before after _ step.view
      (same_field (λ v. at_place v.takes_due cell) (view_of before region) step.cell step.word (without_else step.cell cell (view_of before region).takes_due ne) refl) step.others r

  stores : StoresAreDue setting.fabric region (view_of before region)
  stores =
      ⊎_elim
      (λ none. absurd (⊎_elim (λ take. nothing_at _ step.cell take.value none.takes take.found) (λ fill. nothing_at _ step.cell fill.value none.fills fill.found) step.due))
      (λ due. due)
      (stands.dues region inside)

  pub set_within : step.cell < length setting.fabric.cells
  set_within =
      ⊎_elim
      (λ take. let own = (stores.takes step.cell take.value take.found).0 in slice_get_within setting.fabric.cells step.cell own.spec own.found)
      (λ fill. let own = (stores.fills step.cell fill.value fill.found).0 in slice_get_within setting.fabric.cells step.cell own.spec own.found)
      step.due

  -- the cell itself
  cell_shows : (spec : CellSpec) → slice_get setting.fabric.cells step.cell ≡ Some spec
      → Shows (word_at setting after step.cell) (held_at setting after step.cell) (fill_due after spec.filler step.cell) (take_due after spec.taker step.cell)
  unfolding taken_off filled_off
  cell_shows spec found =
      let shows = stands.cells step.cell spec found in
      let word_is : word_at setting after step.cell ≡ step.word = word_of_cell step.cell refl (slice_get_within setting.fabric.cells step.cell spec found) in
      ⊎_elim
      (λ take.
      let view : view_of after region ≡ taken_off (view_of before region) step.cell = step.view ∙ after_take (view_of before region) step.cell step.word take.word_is in
      let taker : spec.taker ≡ region = one_taker setting.fabric spec.taker region step.cell (record { spec = spec; found = found; taker = refl }) (stores.takes step.cell take.value take.found).0 in
      let due : take_due before spec.taker step.cell ≡ Some take.value = ap (λ r. take_due before r step.cell) taker ∙ take.found in
      let gone : take_due after spec.taker step.cell ≡ None = ap (λ r. take_due after r step.cell) taker ∙ (ap (λ v. at_place v.takes_due step.cell) view ∙ without_here step.cell (view_of before region).takes_due) in
      same_shows 0 (word_at setting after step.cell) (held_at setting before step.cell) (held_at setting after step.cell) (fill_due before spec.filler step.cell) (fill_due after spec.filler step.cell) None
      (take_due after spec.taker step.cell) (word_is ∙ take.word_is) (held_stays setting before after step.history step.cell)
      (field_stays (λ v. at_place v.fills_due step.cell) region before after _ view refl step.others spec.filler) gone
      (take_stored (word_at setting before step.cell) take.value (held_at setting before step.cell) (fill_due before spec.filler step.cell) (take_due before spec.taker step.cell) due shows))
      (λ fill.
      let view : view_of after region ≡ filled_off (view_of before region) step.cell = step.view ∙ after_fill (view_of before region) step.cell step.word fill.value fill.word_is in
      let filler : spec.filler ≡ region = one_filler setting.fabric spec.filler region step.cell (record { spec = spec; found = found; filler = refl }) (stores.fills step.cell fill.value fill.found).0 in
      let due : fill_due before spec.filler step.cell ≡ Some fill.value = ap (λ r. fill_due before r step.cell) filler ∙ fill.found in
      let gone : fill_due after spec.filler step.cell ≡ None = ap (λ r. fill_due after r step.cell) filler ∙ (ap (λ v. at_place v.fills_due step.cell) view ∙ without_here step.cell (view_of before region).fills_due) in
      same_shows (code_of fill.value) (word_at setting after step.cell) (held_at setting before step.cell) (held_at setting after step.cell) None (fill_due after spec.filler step.cell) (take_due before spec.taker step.cell)
      (take_due after spec.taker step.cell) (word_is ∙ fill.word_is) (held_stays setting before after step.history step.cell) gone
      (field_stays (λ v. at_place v.takes_due step.cell) region before after _ view refl step.others spec.taker)
      (fill_stored (word_at setting before step.cell) fill.value (held_at setting before step.cell) (fill_due before spec.filler step.cell) (take_due before spec.taker step.cell) due shows))
      step.due

  pub store_cells : CellsShow setting after
  store_cells cell spec found =
      ⊎_elim
      (λ is. subst (λ c. Shows (word_at setting after c) (held_at setting after c) (fill_due after spec.filler c) (take_due after spec.taker c)) (sym is) (cell_shows spec (subst (λ c. slice_get setting.fabric.cells c ≡ Some spec) is found)))
      (λ ne.
      same_shows (word_at setting before cell) (word_at setting after cell) (held_at setting before cell) (held_at setting after cell) (fill_due before spec.filler cell) (fill_due after spec.filler cell) (take_due before spec.taker cell)
      (take_due after spec.taker cell) (word_of_else cell ne) (held_stays setting before after step.history cell) (fill_else spec.filler cell ne) (take_else spec.taker cell ne) (stands.cells cell spec found))
      (cases_eq cell step.cell)

  -- no other region has a lasting note on this cell
  not_noted : (r cell word : ℕ) → (r ≡ region → ⊥) → cell ≡ step.cell → IsLasting setting.fabric r cell word → StillStands setting before cell word → ⊥
  not_noted r cell word ne is lasts still =
      ⊎_elim
      (λ take.
      let taker = (stores.takes step.cell take.value take.found).0 in
      let due : take_due before taker.spec.taker step.cell ≡ Some take.value = ap (λ k. take_due before k step.cell) taker.taker ∙ take.found in
      let full : 0 < word_at setting before step.cell = word_before_take _ take.value _ _ _ due (stands.cells step.cell taker.spec taker.found) in
      ⊎_elim
      (λ noted_full. ne (one_taker setting.fabric r region cell noted_full.1 (subst (λ c. IsTaker setting.fabric region c) (sym is) taker)))
      (λ noted_empty.
      let same : word_at setting before step.cell ≡ word = subst (λ c. word_at setting before c ≡ word) is still.word_is in
      omega (arith, full, same, noted_empty.0))
      lasts)
      (λ fill.
      let filler = (stores.fills step.cell fill.value fill.found).0 in
      let due : fill_due before filler.spec.filler step.cell ≡ Some fill.value = ap (λ k. fill_due before k step.cell) filler.filler ∙ fill.found in
      let empty : word_at setting before step.cell ≡ 0 = word_before_fill _ fill.value _ _ _ due (stands.cells step.cell filler.spec filler.found) in
      ⊎_elim
      (λ noted_full.
      let same : word_at setting before step.cell ≡ word = subst (λ c. word_at setting before c ≡ word) is still.word_is in
      omega (arith, empty, same, noted_full.0))
      (λ noted_empty. ne (one_filler setting.fabric r region cell noted_empty.1 (subst (λ c. IsFiller setting.fabric region c) (sym is) filler)))
      lasts)
      step.due

  pub store_notes : NotesStand setting after
  unfolding taken_off filled_off
  store_notes r within cell word at lasts =
      let same : (view_of after r).notes ≡ (view_of before r).notes =
      field_stays (λ v. v.notes) region before after _ step.view (same_field (λ v. v.notes) (view_of before region) step.cell step.word refl refl) step.others r in
      let noted : at_place (view_of before r).notes cell ≡ Some word = sym (ap (λ l. at_place l cell) same) ∙ at in
      let still = stands.notes r within cell word noted lasts in
      ⊎_elim
      (λ mine.
      let none : (view_of before r).notes ≡ [] = ap (λ k. (view_of before k).notes) mine ∙ stores.notes in
      absurd (no_note none noted))
      (λ ne.
      ⊎_elim
      (λ is. absurd (not_noted r cell word ne is lasts still))
      (λ other. record { word_is = word_of_else cell other ∙ still.word_is; held_is = ap Rattle.reo_fabric.specs.Reading.cell_word (held_stays setting before after step.history cell) ∙ still.held_is })
      (cases_eq cell step.cell))
      (cases_eq r region)
    where
      no_note : (view_of before r).notes ≡ [] → at_place (view_of before r).notes cell ≡ Some word → ⊥
      no_note none noted =
          let is : None ≡ Some word = sym (ap (λ l. at_place l cell) none) ∙ noted in
          cc

  mine_dues : StoresAreDue setting.fabric region (after_set_cell (view_of before region) step.cell step.word)
  unfolding taken_off filled_off
  mine_dues =
      ⊎_elim
      (λ take. subst (StoresAreDue setting.fabric region) (sym (after_take (view_of before region) step.cell step.word take.word_is)) (record {
        stage = stores.stage;
        notes = stores.notes;
        earlier = stores.earlier;
        last = stores.last;
        entries = stores.entries;
        takes = λ cell value at. stores.takes cell value (without_found step.cell cell (view_of before region).takes_due value at);
        fills = stores.fills;
        takes_rise = without_rises step.cell (view_of before region).takes_due 0 stores.takes_rise;
        fills_rise = stores.fills_rise;
      }))
      (λ fill. subst (StoresAreDue setting.fabric region) (sym (after_fill (view_of before region) step.cell step.word fill.value fill.word_is)) (record {
        stage = stores.stage;
        notes = stores.notes;
        earlier = stores.earlier;
        last = stores.last;
        entries = stores.entries;
        takes = stores.takes;
        fills = λ cell value at. stores.fills cell value (without_found step.cell cell (view_of before region).fills_due value at);
        takes_rise = stores.takes_rise;
        fills_rise = without_rises step.cell (view_of before region).fills_due 0 stores.fills_rise;
      }))
      step.due

  pub store_dues : DuesAreOfTheLast setting after
  store_dues =
      each_view (λ r v. NothingDue v ⊎ StoresAreDue setting.fabric r v) region before after _ step.view step.others setting.fabric.regions (λ within. inr mine_dues) (λ r within ne. stands.dues r within)

  -- a field that is no list of dues
  stays : {X : Type 0} (F : CellsView → X) → F (taken_off (view_of before region) step.cell) ≡ F (view_of before region) → F (filled_off (view_of before region) step.cell) ≡ F (view_of before region) → (r : ℕ) → F (view_of after r) ≡ F (view_of before r)
  stays F takes fills = field_stays F region before after _ step.view (same_field F (view_of before region) step.cell step.word takes fills) step.others

pub set_cell_cells : KeepsCellParts SetsCell
unfolding taken_off filled_off
set_cell_cells = record {
  sized = λ setting region before after within stands step. sized_stays setting before after (length_else before.words after.words _ _ step.words) stands.sized;
  named = λ setting region before after within stands step.
      named_stays setting before after (stays setting region before after within stands step (λ v. v.region) refl refl) (stays setting region before after within stands step (λ v. v.limit) refl refl) stands.named;
  counted = λ setting region before after within stands step.
      counted_stays setting before after (word_else before.words after.words _ _ 0 step.words (λ is. omega arith)) step.history (stays setting region before after within stands step (λ v. v.entries) refl refl) stands.counted;
  lawful = λ setting region before after within stands step. lawful_stays setting before after step.history stands.lawful;
  cells = store_cells;
  notes = store_notes;
  dues = store_dues;
  limit = λ setting region before after within stands step.
      limit_stays setting before after step.history (λ r. let same = stays setting region before after within stands step (λ v. clearance v.stage) refl refl r in omega arith) stands.limit;
  rounds = λ setting region before after within stands step.
      rounds_stay setting before after (λ r inside. word_else before.words after.words _ _ (round_place r) step.words (λ is. omega arith)) (stays setting region before after within stands step (λ v. v.round) refl refl) stands.rounds;
}
