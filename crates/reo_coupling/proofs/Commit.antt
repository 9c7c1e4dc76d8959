-- The commit: the history grows by an entry that fits what its region noted.
use Rattle.std.proofs.Common.{◌≡◌, ℕ, zero, suc, ◌+◌, ◌<◌, ◌≤◌, ◌⊎◌, inl, inr, ⊎_elim, List, [], ◌∷◌, ◌++◌, length, get_or, slice_get, slice_index, All, Option, Some, None, IfSome, refl, sym, ap, ◌∙◌, subst, arith, length-append}
use Rattle.std.proofs.lemmas.List.{length-map}
use Rattle.std.proofs.lemmas.List.Elements.{All-push}
use Rattle.std.proofs.lemmas.Bool.{cases_eq}
use Rattle.std.proofs.lemmas.Option.{same_Some, slice_get-get_or, slice_get_within}
use Rattle.reo_value.specs.declared.value.Value.{Value}
use Rattle.reo_value.specs.Code.{code_of, IsValue}
use Rattle.reo_fabric.specs.declared.entry.Entry.{Entry}
use Rattle.reo_fabric.specs.declared.fabric.Fabric.{Fabric}
use Rattle.reo_fabric.specs.declared.fabric.CellSpec.{CellSpec}
use Rattle.reo_fabric.specs.Entry.{State, Agrees, at_place, content_after, carried_out}
use Rattle.reo_fabric.specs.Fabric.{first_state, IsTaker, IsFiller}
use Rattle.reo_fabric.specs.History.{state_after, IsLawfulHistory}
use Rattle.reo_fabric.specs.Reading.{cell_word}
use Rattle.reo_fabric.specs.Decider.{Takes, Fills}
use Rattle.reo_fabric.specs.Laws.{AreValues}
use Rattle.reo_fabric.proofs.CodeLemmas.{codes_differ, code_is_not_zero}
use Rattle.reo_fabric.proofs.PlaceLemmas.{at_place_holds}
use Rattle.reo_fabric.proofs.HistoryLemmas.{histories_grow, length-carried_out, at_carried_out}
use Rattle.reo_fabric.proofs.EngineLemmas.{values_after}
use Rattle.reo_coupling.specs.declared.view.CellsView.{CellsView}
use Rattle.reo_coupling.specs.declared.view.RegionView.{RegionView}
use Rattle.reo_coupling.specs.declared.view.Stage.TheVariants.{Between, Cleared}
use Rattle.reo_coupling.specs.Moment.{Setting, Moment, state_of, round_place, cell_place}
use Rattle.reo_coupling.specs.Parts.{view_of, word_at, held_at, fill_due, take_due, IsLasting, StillStands, NotesStand, NothingDue, StoresAreDue, DuesAreOfTheLast, clearance, cleared_below, KeepsTheLimit, CellsShow, AreCounted, IsLawful, entries_of}
use Rattle.reo_coupling.specs.Whole.{StandsFor, KeepsCellParts}
use Rattle.reo_coupling.specs.Steps.{Commits, noted}
use Rattle.reo_coupling.proofs.OneCell.{AtEnd, commits_cell, same_shows}
use Rattle.reo_coupling.proofs.Lists.{entries_mine, entries_other, cleared_less}
use Rattle.reo_coupling.proofs.Frames.{each_view, field_stays, word_else, word_here, length_else, sized_stays, named_stays, rounds_stay}

pub code_is_above : (v : Value) → 0 < code_of v
code_is_above v = go (code_of v) refl
  where
    go : (n : ℕ) → n ≡ code_of v → 0 < n
    go zero is = absurd (code_is_not_zero v is)
    go (suc n) is = omega arith

full_of : (held : Option Value) (v : Value) → IfSome held IsValue → IsValue v → cell_word held ≡ code_of v → held ≡ Some v
full_of None v is_held is_v word = absurd (code_is_not_zero v word)
full_of (Some u) v is_held is_v word = ap Some (codes_differ u v is_held is_v word)

empty_of : (held : Option Value) → cell_word held ≡ 0 → held ≡ None
empty_of None word = refl
empty_of (Some u) word = absurd (code_is_not_zero u (sym word))

pub none_else : (o : Option Value) → ((v : Value) → o ≡ Some v → ⊥) → o ≡ None
none_else None never = refl
none_else (Some v) never = absurd (never v refl)

-- each state that a history leaves has the cells of the first
pub length-state_after : (state : State) (entries : List Entry) → length (state_after state entries) ≡ length state
length-state_after state [] = refl
length-state_after state (entry ∷ entries) = length-state_after (carried_out state entry) entries ∙ length-carried_out state entry

pub length-state_of : (setting : Setting) (moment : Moment) → length (state_of setting moment) ≡ length setting.fabric.cells
length-state_of setting moment = length-state_after (first_state setting.fabric) moment.history ∙ length-map setting.fabric.cells (λ (c : CellSpec). c.first)

-- one cell has one taker and one filler
pub one_taker : (fabric : Fabric) (r s cell : ℕ) → IsTaker fabric r cell → IsTaker fabric s cell → r ≡ s
one_taker fabric r s cell one other = sym one.taker ∙ (ap (λ (c : CellSpec). c.taker) (same_Some one.spec other.spec (sym one.found ∙ other.found)) ∙ other.taker)

pub one_filler : (fabric : Fabric) (r s cell : ℕ) → IsFiller fabric r cell → IsFiller fabric s cell → r ≡ s
one_filler fabric r s cell one other = sym one.filler ∙ (ap (λ (c : CellSpec). c.filler) (same_Some one.spec other.spec (sym one.found ∙ other.found)) ∙ other.filler)

module _ (setting : Setting) (region : ℕ) (before after : Moment) (inside : region < setting.fabric.regions) (stands : StandsFor setting before) (step : Commits setting region before after) where
  view : CellsView
  view = view_of before region

  mine : (view_of before region).region ≡ region
  mine = stands.named.regions region inside

  -- a region that is cleared owes nothing
  pub owes_nothing : NothingDue (view_of before region)
  owes_nothing =
      ⊎_elim
      (λ none. none)
      (λ due.
      let same : Between ≡ Cleared = sym due.stage ∙ step.may.cleared in
      cc)
      (stands.dues region inside)

  within_state : (cell : ℕ) → cell < length setting.fabric.cells → cell < length (state_of setting before)
  within_state cell within = omega (arith, length-state_of setting before)

  taker : (p : ℕ × Value) → Takes setting.fabric (noted (before.book region)) p → IsTaker setting.fabric region p.0
  taker p takes = subst (λ r. IsTaker setting.fabric r p.0) mine takes.own

  filler : (p : ℕ × Value) → Fills setting.fabric (noted (before.book region)) p → IsFiller setting.fabric region p.0
  filler p fills = subst (λ r. IsFiller setting.fabric r p.0) mine fills.own

  -- what it takes is in the cell, and its word is there
  taken : (p : ℕ × Value) → Takes setting.fabric (noted (before.book region)) p → (word_at setting before p.0 ≡ code_of p.1) × (held_at setting before p.0 ≡ Some p.1)
  taken p takes =
      let still = stands.notes region inside p.0 (code_of p.1) takes.reads (inl (code_is_above p.1, taker p takes)) in
      let within : p.0 < length setting.fabric.cells = slice_get_within setting.fabric.cells p.0 takes.own.spec takes.own.found in
      (still.word_is, full_of (held_at setting before p.0) p.1 (stands.lawful.values p.0 None (within_state p.0 within)) takes.value still.held_is)

  filled : (p : ℕ × Value) → Fills setting.fabric (noted (before.book region)) p → (word_at setting before p.0 ≡ 0) × (held_at setting before p.0 ≡ None)
  filled p fills =
      let still = stands.notes region inside p.0 0 fills.reads (inr (refl, filler p fills)) in
      (still.word_is, empty_of (held_at setting before p.0) still.held_is)

  found_take : (cell : ℕ) (value : Value) → at_place step.entry.takes cell ≡ Some value → Takes setting.fabric (noted (before.book region)) (cell, value)
  found_take cell value at = at_place_holds (Takes setting.fabric (noted (before.book region))) step.entry.takes cell value step.may.fits.takes at

  found_fill : (cell : ℕ) (value : Value) → at_place step.entry.fills cell ≡ Some value → Fills setting.fabric (noted (before.book region)) (cell, value)
  found_fill cell value at = at_place_holds (Fills setting.fabric (noted (before.book region))) step.entry.fills cell value step.may.fits.fills at

  held_there : (cell : ℕ) → cell < length setting.fabric.cells → slice_get (state_of setting before) cell ≡ Some (held_at setting before cell)
  held_there cell within = slice_get-get_or (state_of setting before) cell None (within_state cell within)

  pub agrees : Agrees (state_of setting before) step.entry
  agrees = record {
    takes = λ k d within.
        let takes = step.may.fits.takes k d within in
        held_there _ (slice_get_within setting.fabric.cells _ takes.own.spec takes.own.found) ∙ ap Some (taken (get_or step.entry.takes k d) takes).1;
    fills = λ k d within.
        let fills = step.may.fits.fills k d within in
        held_there _ (slice_get_within setting.fabric.cells _ fills.own.spec fills.own.found) ∙ ap Some (filled (get_or step.entry.fills k d) fills).1;
  }

  grown : IsLawfulHistory (first_state setting.fabric) (before.history ++ step.entry ∷ []) × (state_after (first_state setting.fabric) (before.history ++ step.entry ∷ []) ≡ carried_out (state_of setting before) step.entry)
  grown = histories_grow (first_state setting.fabric) before.history step.entry stands.lawful.history agrees

  pub state_is : state_of setting after ≡ carried_out (state_of setting before) step.entry
  state_is = ap (state_after (first_state setting.fabric)) step.history ∙ grown.1

  held_after : (cell : ℕ) → cell < length setting.fabric.cells → held_at setting after cell ≡ content_after (at_place step.entry.takes cell) (at_place step.entry.fills cell) (held_at setting before cell)
  held_after cell within = ap (λ (s : State). get_or s cell None) state_is ∙ at_carried_out (state_of setting before) step.entry cell (within_state cell within)

  word_stays : (cell : ℕ) → word_at setting after cell ≡ word_at setting before cell
  word_stays cell = word_else before.words after.words 0 _ (cell_place setting.fabric cell) step.words (λ is. omega arith)

  -- what is due at the end of a cell where this region is, and at each other
  at_filler : (cell : ℕ) (spec : CellSpec) → slice_get setting.fabric.cells cell ≡ Some spec → AtEnd (at_place step.entry.fills cell) (fill_due before spec.filler cell) (fill_due after spec.filler cell)
  unfolding AtEnd
  at_filler cell spec found =
      ⊎_elim
      (λ is. inl (ap (λ r. fill_due after r cell) is ∙ ap (λ v. at_place v.fills_due cell) step.view, ap (λ r. fill_due before r cell) is ∙ ap (λ l. at_place l cell) owes_nothing.fills))
      (λ ne. inr (
        ap (λ (v : RegionView). at_place v.cells.fills_due cell) (step.others spec.filler ne),
        none_else (at_place step.entry.fills cell) (λ v at. ne (one_filler setting.fabric spec.filler region cell (record { spec = spec; found = found; filler = refl }) (filler (cell, v) (found_fill cell v at)))),
      ))
      (cases_eq spec.filler region)

  at_taker : (cell : ℕ) (spec : CellSpec) → slice_get setting.fabric.cells cell ≡ Some spec → AtEnd (at_place step.entry.takes cell) (take_due before spec.taker cell) (take_due after spec.taker cell)
  unfolding AtEnd
  at_taker cell spec found =
      ⊎_elim
      (λ is. inl (ap (λ r. take_due after r cell) is ∙ ap (λ v. at_place v.takes_due cell) step.view, ap (λ r. take_due before r cell) is ∙ ap (λ l. at_place l cell) owes_nothing.takes))
      (λ ne. inr (
        ap (λ (v : RegionView). at_place v.cells.takes_due cell) (step.others spec.taker ne),
        none_else (at_place step.entry.takes cell) (λ v at. ne (one_taker setting.fabric spec.taker region cell (record { spec = spec; found = found; taker = refl }) (taker (cell, v) (found_take cell v at)))),
      ))
      (cases_eq spec.taker region)

  pub commit_shows : CellsShow setting after
  commit_shows cell spec found =
      same_shows (word_at setting before cell) (word_at setting after cell) _ (held_at setting after cell) (fill_due after spec.filler cell) _ (take_due after spec.taker cell) _ (word_stays cell)
      (held_after cell (slice_get_within setting.fabric.cells cell spec found)) refl refl
      (commits_cell (word_at setting before cell) (held_at setting before cell) (at_place step.entry.takes cell) (at_place step.entry.fills cell) (fill_due before spec.filler cell) (fill_due after spec.filler cell)
      (take_due before spec.taker cell) (take_due after spec.taker cell) (λ v at. taken (cell, v) (found_take cell v at)) (λ v at. filled (cell, v) (found_fill cell v at)) (at_filler cell spec found) (at_taker cell spec found)
      (stands.cells cell spec found))

  pub commit_lawful : IsLawful setting after
  commit_lawful = record {
    history = subst (IsLawfulHistory (first_state setting.fabric)) (sym step.history) grown.0;
    values = subst AreValues (sym state_is) (values_after setting.fabric (noted (before.book region)) step.entry (state_of setting before) step.may.fits stands.lawful.values);
  }

  pub commit_counted : AreCounted setting after
  commit_counted = record {
    count =
        word_here before.words after.words 0 _ step.words (omega (arith, stands.sized.words))
        ∙ omega (arith, stands.counted.count, ap length step.history, length-append before.history (step.entry ∷ []));
    regions = subst (All (λ (e : Entry). e.region < setting.fabric.regions)) (sym step.history)
        (All-push (λ (e : Entry). e.region < setting.fabric.regions) before.history step.entry stands.counted.regions (subst (λ r. r < setting.fabric.regions) (sym (step.may.fits.region ∙ mine)) inside));
    lists = each_view (λ r v. v.entries ≡ entries_of r 0 after.history) region before after _ step.view step.others setting.fabric.regions
        (λ within.
        ap (λ l. l ++ record { number = slice_index before.words 0; entry = step.entry } ∷ []) (stands.counted.lists region inside)
        ∙ (sym (entries_mine region before.history step.entry (slice_index before.words 0) stands.counted.count (step.may.fits.region ∙ mine)) ∙ ap (entries_of region 0) (sym step.history)))
        (λ r within ne.
        stands.counted.lists r within
        ∙ (sym (entries_other r before.history step.entry (λ is. ne (is ∙ (step.may.fits.region ∙ mine)))) ∙ ap (entries_of r 0) (sym step.history)));
  }

  -- another region's note is not on what this entry takes or fills
  not_taken : (r cell word : ℕ) → (r ≡ region → ⊥) → IsLasting setting.fabric r cell word → StillStands setting before cell word → at_place step.entry.takes cell ≡ None
  not_taken r cell word ne lasts still =
      none_else (at_place step.entry.takes cell) (λ v at.
      let takes = found_take cell v at in
      ⊎_elim
      (λ full. ne (one_taker setting.fabric r region cell full.1 (taker (cell, v) takes)))
      (λ empty.
      let is : cell_word (held_at setting before cell) ≡ code_of v = ap cell_word (taken (cell, v) takes).1 in
      code_is_not_zero v (sym (sym is ∙ (still.held_is ∙ empty.0))))
      lasts)

  not_filled : (r cell word : ℕ) → (r ≡ region → ⊥) → IsLasting setting.fabric r cell word → StillStands setting before cell word → at_place step.entry.fills cell ≡ None
  not_filled r cell word ne lasts still =
      none_else (at_place step.entry.fills cell) (λ v at.
      let fills = found_fill cell v at in
      ⊎_elim
      (λ full.
      let is : cell_word (held_at setting before cell) ≡ 0 = ap cell_word (filled (cell, v) fills).1 in
      let zero_is : word ≡ 0 = sym still.held_is ∙ is in
      omega (arith, full.0))
      (λ empty. ne (one_filler setting.fabric r region cell empty.1 (filler (cell, v) fills)))
      lasts)

  lasting_cell : (r cell word : ℕ) → IsLasting setting.fabric r cell word → cell < length setting.fabric.cells
  lasting_cell r cell word lasts = ⊎_elim (λ full. slice_get_within setting.fabric.cells cell full.1.spec full.1.found) (λ empty. slice_get_within setting.fabric.cells cell empty.1.spec empty.1.found) lasts

  pub commit_notes : NotesStand setting after
  commit_notes =
      each_view (λ r v. (cell word : ℕ) → at_place v.notes cell ≡ Some word → IsLasting setting.fabric r cell word → StillStands setting after cell word) region before after _ step.view step.others setting.fabric.regions
      (λ within cell word at lasts. absurd (nothing_noted cell word at))
      (λ r within ne cell word at lasts.
      let still = stands.notes r within cell word at lasts in
      let held : held_at setting after cell ≡ held_at setting before cell =
      held_after cell (lasting_cell r cell word lasts)
      ∙ (ap (λ o. content_after o (at_place step.entry.fills cell) (held_at setting before cell)) (not_taken r cell word ne lasts still)
      ∙ ap (λ o. content_after None o (held_at setting before cell)) (not_filled r cell word ne lasts still)) in
      record { word_is = word_stays cell ∙ still.word_is; held_is = ap cell_word held ∙ still.held_is })
    where
      nothing_noted : (cell word : ℕ) → at_place [] cell ≡ Some word → ⊥
      nothing_noted cell word at = cc

  pub commit_dues : DuesAreOfTheLast setting after
  commit_dues =
      each_view (λ r v. NothingDue v ⊎ StoresAreDue setting.fabric r v) region before after _ step.view step.others setting.fabric.regions
      (λ within. inr (record {
        stage = refl;
        notes = refl;
        earlier = (view_of before region).entries;
        last = record { number = slice_index before.words 0; entry = step.entry };
        entries = refl;
        takes = λ cell value at. (taker (cell, value) (found_take cell value at), at);
        fills = λ cell value at. (filler (cell, value) (found_fill cell value at), at);
        takes_rise = step.may.fits.takes_rise;
        fills_rise = step.may.fits.fills_rise;
      }))
      (λ r within ne. stands.dues r within)

  pub commit_limit : KeepsTheLimit setting after
  commit_limit =
      let stages : (r : ℕ) → clearance (view_of after r).stage ≤ clearance (view_of before r).stage =
      λ r. each_view (λ k v. clearance v.stage ≤ clearance (view_of before k).stage) region before after _ step.view step.others (r + region + 1) (λ within. omega arith) (λ k within ne. omega arith) r (omega arith) in
      let less : cleared_below setting.fabric.regions after.book + 1 ≤ cleared_below setting.fabric.regions before.book =
      cleared_less setting.fabric.regions before.book after.book region inside stages (ap (λ v. clearance v.stage) step.view) (ap clearance step.may.cleared) in
      omega (arith, stands.limit, ap length step.history, length-append before.history (step.entry ∷ []))

pub commit_cells : KeepsCellParts Commits
commit_cells = record {
  sized = λ setting region before after within stands step. sized_stays setting before after (length_else before.words after.words _ _ step.words) stands.sized;
  named = λ setting region before after within stands step.
      named_stays setting before after (field_stays (λ v. v.region) region before after _ step.view refl step.others) (field_stays (λ v. v.limit) region before after _ step.view refl step.others) stands.named;
  counted = commit_counted;
  lawful = commit_lawful;
  cells = commit_shows;
  notes = commit_notes;
  dues = commit_dues;
  limit = commit_limit;
  rounds = λ setting region before after within stands step.
      rounds_stay setting before after (λ r inside. word_else before.words after.words 0 _ (round_place r) step.words (λ is. omega arith)) (field_stays (λ v. v.round) region before after _ step.view refl step.others) stands.rounds;
}
