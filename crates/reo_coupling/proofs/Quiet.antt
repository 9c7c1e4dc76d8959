-- The steps of a region that owes nothing and commits nothing: it begins a round, or reads the commit word or a cell.
use Rattle.std.proofs.Common.{◌≡◌, ℕ, ◌+◌, ◌<◌, ◌≤◌, ◌⊎◌, inl, inr, ⊎_elim, Bool, true, false, cond, [], length, slice_get, slice_index, nat_lt, Some, None, refl, sym, ap, ◌∙◌, subst, arith}
use Rattle.std.proofs.lemmas.Bool.{ltb-true}
use Rattle.std.proofs.lemmas.Option.{same_Some}
use Rattle.reo_fabric.specs.declared.fabric.CellSpec.{CellSpec}
use Rattle.reo_fabric.specs.Entry.{at_place}
use Rattle.reo_coupling.specs.declared.view.CellsView.{CellsView}
use Rattle.reo_coupling.specs.declared.view.Stage.{Stage}
use Rattle.reo_coupling.specs.declared.view.Stage.TheVariants.{UnderWay, Cleared}
use Rattle.reo_coupling.specs.Moment.{Setting, Moment, round_place, cell_place}
use Rattle.reo_coupling.specs.Views.{round_after, after_begin, after_clock, after_see_cell, stage_at}
use Rattle.reo_coupling.specs.Parts.{view_of, word_at, fill_due, take_due, IsLasting, StillStands, NothingDue, StoresAreDue, DuesAreOfTheLast, clearance, KeepsTheLimit, CellsShow}
use Rattle.reo_coupling.specs.Whole.{StandsFor, KeepsCellParts}
use Rattle.reo_coupling.specs.Steps.{Begins, ReadsClock, SeesCell, OthersStay}
use Rattle.reo_coupling.proofs.OneCell.{reads_full, reads_empty}
use Rattle.reo_coupling.proofs.Lists.{at_more, cleared_few}
use Rattle.reo_coupling.proofs.Frames.{each_view, field_stays, word_else, word_here, length_else, sized_stays, named_stays, counted_stays, lawful_stays, cells_stay, notes_stay, limit_stays, rounds_stay}

no_clearance : (stage : Stage) → 0 ≤ clearance stage
no_clearance stage = omega arith

nothing_noted : (cell word : ℕ) → at_place [] cell ≡ Some word → ⊥
nothing_noted cell word noted = cc

-- no store is due in a view whose lists of dues are as in one without
same_nothing : (view now : CellsView) → now.takes_due ≡ view.takes_due → now.fills_due ≡ view.fills_due → NothingDue view → NothingDue now
same_nothing view now takes fills none = record { takes = takes ∙ none.takes; fills = fills ∙ none.fills }

-- dues after a step of a region that has none
pub dues_none : (setting : Setting) (region : ℕ) (before after : Moment) (now : CellsView) → view_of after region ≡ now → OthersStay region before after → NothingDue now → DuesAreOfTheLast setting before → DuesAreOfTheLast setting after
dues_none setting region before after now is others none dues =
    each_view (λ r view. NothingDue view ⊎ StoresAreDue setting.fabric r view) region before after now is others setting.fabric.regions (λ within. inl none) (λ r within ne. dues r within)

pub begin_cells : KeepsCellParts Begins
begin_cells = record {
  sized = λ setting region before after within stands step. sized_stays setting before after (length_else before.words after.words _ _ step.words) stands.sized;
  named = λ setting region before after within stands step.
      named_stays setting before after (field_stays (λ v. v.region) region before after _ step.view refl step.others) (field_stays (λ v. v.limit) region before after _ step.view refl step.others) stands.named;
  counted = λ setting region before after within stands step.
      counted_stays setting before after (word_else before.words after.words _ _ 0 step.words (λ is. omega arith)) step.history (field_stays (λ v. v.entries) region before after _ step.view refl step.others) stands.counted;
  lawful = λ setting region before after within stands step. lawful_stays setting before after step.history stands.lawful;
  cells = λ setting region before after within stands step.
      cells_stay setting before after step.history (λ cell inside. word_else before.words after.words _ _ (cell_place setting.fabric cell) step.words (λ is. omega arith))
      (λ r cell. field_stays (λ v. at_place v.fills_due cell) region before after _ step.view refl step.others r) (λ r cell. field_stays (λ v. at_place v.takes_due cell) region before after _ step.view refl step.others r) stands.cells;
  notes = λ setting region before after within stands step.
      notes_stay setting before after step.history (λ cell inside. word_else before.words after.words _ _ (cell_place setting.fabric cell) step.words (λ is. omega arith))
      (each_view (λ r view. (cell word : ℕ) → at_place view.notes cell ≡ Some word → IsLasting setting.fabric r cell word → StillStands setting before cell word) region before after _ step.view step.others setting.fabric.regions
      (λ inside cell word noted lasts. absurd (nothing_noted cell word noted)) (λ r inside ne. stands.notes r inside));
  dues = λ setting region before after within stands step.
      dues_none setting region before after _ step.view step.others (same_nothing (view_of before region) (after_begin (view_of before region)) refl refl step.quiet.cells) stands.dues;
  limit = λ setting region before after within stands step.
      limit_stays setting before after step.history
      (λ r. each_view (λ k view. clearance view.stage ≤ clearance (view_of before k).stage) region before after _ step.view step.others (r + region + 1) (λ inside. no_clearance (view_of before region).stage) (λ k inside ne. omega arith) r (omega arith))
      stands.limit;
  rounds = λ setting region before after within stands step.
      let told = stands.rounds region within in
      each_view (λ r view. slice_index after.words (round_place r) ≡ view.round) region before after _ step.view step.others setting.fabric.regions
      (λ inside. word_here before.words after.words _ _ step.words (omega (arith, stands.sized.words)) ∙ ap round_after told)
      (λ r inside ne. word_else before.words after.words _ _ (round_place r) step.words (λ is. ne (omega arith)) ∙ stands.rounds r inside);
}

cleared_at : (clock limit : ℕ) (b : Bool) → nat_lt clock limit ≡ b → ((clock < limit) × (stage_at clock limit ≡ Cleared)) ⊎ (stage_at clock limit ≡ UnderWay)
cleared_at clock limit true is = inl (ltb-true clock limit is, ap (λ b. cond b Cleared UnderWay) is)
cleared_at clock limit false is = inr (ap (λ b. cond b Cleared UnderWay) is)

pub clock_cells : KeepsCellParts ReadsClock
clock_cells = record {
  sized = λ setting region before after within stands step. sized_stays setting before after (ap length step.words) stands.sized;
  named = λ setting region before after within stands step.
      named_stays setting before after (field_stays (λ v. v.region) region before after _ step.view refl step.others) (field_stays (λ v. v.limit) region before after _ step.view refl step.others) stands.named;
  counted = λ setting region before after within stands step.
      counted_stays setting before after (ap (λ ws. slice_index ws 0) step.words) step.history (field_stays (λ v. v.entries) region before after _ step.view refl step.others) stands.counted;
  lawful = λ setting region before after within stands step. lawful_stays setting before after step.history stands.lawful;
  cells = λ setting region before after within stands step.
      cells_stay setting before after step.history (λ cell inside. ap (λ ws. slice_index ws (cell_place setting.fabric cell)) step.words)
      (λ r cell. field_stays (λ v. at_place v.fills_due cell) region before after _ step.view refl step.others r) (λ r cell. field_stays (λ v. at_place v.takes_due cell) region before after _ step.view refl step.others r) stands.cells;
  notes = λ setting region before after within stands step.
      notes_stay setting before after step.history (λ cell inside. ap (λ ws. slice_index ws (cell_place setting.fabric cell)) step.words)
      (each_view (λ r view. (cell word : ℕ) → at_place view.notes cell ≡ Some word → IsLasting setting.fabric r cell word → StillStands setting before cell word) region before after _ step.view step.others setting.fabric.regions
      (λ inside. stands.notes region inside) (λ r inside ne. stands.notes r inside));
  dues = λ setting region before after within stands step.
      dues_none setting region before after _ step.view step.others (same_nothing (view_of before region) (after_clock (view_of before region) (slice_index before.words 0)) refl refl step.quiet.cells) stands.dues;
  limit = λ setting region before after within stands step. clock_limit setting region before after within stands step;
  rounds = λ setting region before after within stands step.
      rounds_stay setting before after (λ r inside. ap (λ ws. slice_index ws (round_place r)) step.words) (field_stays (λ v. v.round) region before after _ step.view refl step.others) stands.rounds;
}
  where
    clock_limit : (setting : Setting) (region : ℕ) (before after : Moment) → region < setting.fabric.regions → StandsFor setting before → ReadsClock setting region before after → KeepsTheLimit setting after
    clock_limit setting region before after within stands step =
        let clock : ℕ = slice_index before.words 0 in
        ⊎_elim
        (λ clear.
        let limit : (view_of before region).limit ≡ setting.limit = stands.named.limits region within in
        omega (arith, ap length step.history, stands.counted.count, clear.0, limit, cleared_few setting.fabric.regions after.book))
        (λ stays.
        limit_stays setting before after step.history
        (λ r. each_view (λ k view. clearance view.stage ≤ clearance (view_of before k).stage) region before after _ step.view step.others (r + region + 1)
        (λ inside. subst (λ s. clearance s ≤ clearance (view_of before region).stage) (sym stays) (no_clearance (view_of before region).stage)) (λ k inside ne. omega arith) r (omega arith))
        stands.limit)
        (cleared_at clock (view_of before region).limit (nat_lt clock (view_of before region).limit) refl)

-- two looks at one cell
same_spec : (setting : Setting) (cell : ℕ) (one other : CellSpec) → slice_get setting.fabric.cells cell ≡ Some one → slice_get setting.fabric.cells cell ≡ Some other → one ≡ other
same_spec setting cell one other found is = same_Some one other (sym found ∙ is)

-- what a region that owes nothing reads, where it lasts, is what is in the cell
pub read_stands : (setting : Setting) (moment : Moment) (region cell word : ℕ) → CellsShow setting moment → NothingDue (view_of moment region) → word_at setting moment cell ≡ word → IsLasting setting.fabric region cell word → StillStands setting moment cell word
read_stands setting moment region cell word show none is lasts = record {
  word_is = is;
  held_is =
      ⊎_elim
      (λ full.
      let shows = show cell full.1.spec full.1.found in
      let due : take_due moment full.1.spec.taker cell ≡ None = ap (λ r. take_due moment r cell) full.1.taker ∙ ap (λ l. at_place l cell) none.takes in
      reads_full (word_at setting moment cell) _ (fill_due moment full.1.spec.filler cell) _ (omega (arith, is, full.0)) due shows ∙ is)
      (λ empty.
      let shows = show cell empty.1.spec empty.1.found in
      let due : fill_due moment empty.1.spec.filler cell ≡ None = ap (λ r. fill_due moment r cell) empty.1.filler ∙ ap (λ l. at_place l cell) none.fills in
      reads_empty (word_at setting moment cell) _ _ (take_due moment empty.1.spec.taker cell) (is ∙ empty.0) due shows ∙ is)
      lasts;
}

pub see_cell_cells : KeepsCellParts SeesCell
see_cell_cells = record {
  sized = λ setting region before after within stands step. sized_stays setting before after (ap length step.words) stands.sized;
  named = λ setting region before after within stands step.
      named_stays setting before after (field_stays (λ v. v.region) region before after _ step.view refl step.others) (field_stays (λ v. v.limit) region before after _ step.view refl step.others) stands.named;
  counted = λ setting region before after within stands step.
      counted_stays setting before after (ap (λ ws. slice_index ws 0) step.words) step.history (field_stays (λ v. v.entries) region before after _ step.view refl step.others) stands.counted;
  lawful = λ setting region before after within stands step. lawful_stays setting before after step.history stands.lawful;
  cells = λ setting region before after within stands step.
      cells_stay setting before after step.history (λ cell inside. ap (λ ws. slice_index ws (cell_place setting.fabric cell)) step.words)
      (λ r cell. field_stays (λ v. at_place v.fills_due cell) region before after _ step.view refl step.others r) (λ r cell. field_stays (λ v. at_place v.takes_due cell) region before after _ step.view refl step.others r) stands.cells;
  notes = λ setting region before after within stands step.
      notes_stay setting before after step.history (λ cell inside. ap (λ ws. slice_index ws (cell_place setting.fabric cell)) step.words)
      (each_view (λ r view. (cell word : ℕ) → at_place view.notes cell ≡ Some word → IsLasting setting.fabric r cell word → StillStands setting before cell word) region before after _ step.view step.others setting.fabric.regions
      (λ inside cell word noted lasts.
      ⊎_elim
      (λ old. stands.notes region inside cell word old lasts)
      (λ new. read_stands setting before region cell word stands.cells step.quiet.cells (subst (λ c. word_at setting before c ≡ word) (sym new.0) new.1) lasts)
      (at_more (view_of before region).notes step.cell cell (word_at setting before step.cell) word noted))
      (λ r inside ne. stands.notes r inside));
  dues = λ setting region before after within stands step.
      dues_none setting region before after _ step.view step.others
      (same_nothing (view_of before region) (after_see_cell (view_of before region) step.cell (cell_place setting.fabric step.cell) (slice_index before.words (cell_place setting.fabric step.cell))) refl refl step.quiet.cells) stands.dues;
  limit = λ setting region before after within stands step.
      limit_stays setting before after step.history (λ r. let same = field_stays (λ v. clearance v.stage) region before after _ step.view refl step.others r in omega arith) stands.limit;
  rounds = λ setting region before after within stands step.
      rounds_stay setting before after (λ r inside. ap (λ ws. slice_index ws (round_place r)) step.words) (field_stays (λ v. v.round) region before after _ step.view refl step.others) stands.rounds;
}
