-- A step keeps each part that speaks of nothing which it changes.
use Rattle.std.proofs.Common.{◌≡◌, ℕ, ◌<◌, ◌≤◌, ⊎_elim, List, length, set, get_or, slice_index, All, Some, None, sym, ap, ◌∙◌, subst, arith, length-set, get_or-set_same, get_or-set_other}
use Rattle.std.proofs.lemmas.Bool.{cases_eq}
use Rattle.std.proofs.lemmas.Option.{slice_get_within}
use Rattle.reo_fabric.specs.declared.entry.Entry.{Entry}
use Rattle.reo_fabric.specs.Entry.{at_place}
use Rattle.reo_fabric.specs.Fabric.{first_state}
use Rattle.reo_fabric.specs.History.{state_after, IsLawfulHistory}
use Rattle.reo_fabric.specs.Laws.{AreValues}
use Rattle.reo_fabric.specs.Reading.{cell_word}
use Rattle.reo_coupling.specs.declared.view.CellsView.{CellsView}
use Rattle.reo_coupling.specs.declared.view.RegionView.{RegionView}
use Rattle.reo_coupling.specs.Moment.{Setting, Moment, round_place}
use Rattle.reo_coupling.specs.Parts.{view_of, HasItsWords, AreNamed, AreCounted, IsLawful, CellsShow, word_at, held_at, fill_due, take_due, IsLasting, StillStands, NotesStand, clearance, KeepsTheLimit, RoundsAreTold, entries_of}
use Rattle.reo_coupling.specs.Steps.{OthersStay}
use Rattle.reo_coupling.proofs.OneCell.{same_shows}
use Rattle.reo_coupling.proofs.Lists.{cleared_no_more}

-- what holds of the view that a step leaves to its region, and of all others before, holds of each after
pub each_view : (P : ℕ → CellsView → Type 0) (region : ℕ) (before after : Moment) (now : CellsView) → view_of after region ≡ now → OthersStay region before after
    → (n : ℕ) → (region < n → P region now) → ((r : ℕ) → r < n → (r ≡ region → ⊥) → P r (view_of before r)) → (r : ℕ) → r < n → P r (view_of after r)
each_view P region before after now is others n mine theirs r within =
    ⊎_elim
    (λ same. subst (λ k. P k (view_of after k)) (sym same) (subst (P region) (sym is) (mine (subst (λ k. k < n) same within))))
    (λ ne. subst (P r) (sym (ap (λ (v : RegionView). v.cells) (others r ne))) (theirs r within ne))
    (cases_eq r region)

-- a field of the views that the step leaves alone
pub field_stays : {X : Type 0} (F : CellsView → X) (region : ℕ) (before after : Moment) (now : CellsView) → view_of after region ≡ now → F now ≡ F (view_of before region) → OthersStay region before after
    → (r : ℕ) → F (view_of after r) ≡ F (view_of before r)
field_stays F region before after now is same others r =
    ⊎_elim
    (λ eq. subst (λ n. F (view_of after n) ≡ F (view_of before n)) (sym eq) (ap F is ∙ same))
    (λ ne. ap (λ (v : RegionView). F v.cells) (others r ne))
    (cases_eq r region)

-- another word than the one that was stored
pub word_else : (before after : List ℕ) (place new other : ℕ) → after ≡ set before place new → (other ≡ place → ⊥) → slice_index after other ≡ slice_index before other
word_else before after place new other is ne = ap (λ ws. get_or ws other 0) is ∙ get_or-set_other before place other new 0 ne

pub word_here : (before after : List ℕ) (place new : ℕ) → after ≡ set before place new → place < length before → slice_index after place ≡ new
word_here before after place new is within = ap (λ ws. get_or ws place 0) is ∙ get_or-set_same before place new 0 within

pub length_else : (before after : List ℕ) (place new : ℕ) → after ≡ set before place new → length after ≡ length before
length_else before after place new is = ap length is ∙ length-set before place new

module _ (setting : Setting) (before after : Moment) where
  pub sized_stays : length after.words ≡ length before.words → HasItsWords setting before → HasItsWords setting after
  sized_stays same has = record { fabric = has.fabric; limit = has.limit; words = omega (arith, has.words, same) }

  pub named_stays : ((r : ℕ) → (view_of after r).region ≡ (view_of before r).region) → ((r : ℕ) → (view_of after r).limit ≡ (view_of before r).limit) → AreNamed setting before → AreNamed setting after
  named_stays regions limits are = record { regions = λ r within. regions r ∙ are.regions r within; limits = λ r within. limits r ∙ are.limits r within }

  pub counted_stays : slice_index after.words 0 ≡ slice_index before.words 0 → after.history ≡ before.history → ((r : ℕ) → (view_of after r).entries ≡ (view_of before r).entries)
      → AreCounted setting before → AreCounted setting after
  counted_stays word history entries are = record {
    count = word ∙ (are.count ∙ ap length (sym history));
    regions = subst (All (λ (e : Entry). e.region < setting.fabric.regions)) (sym history) are.regions;
    lists = λ r within. entries r ∙ (are.lists r within ∙ ap (entries_of r 0) (sym history));
  }

  pub lawful_stays : after.history ≡ before.history → IsLawful setting before → IsLawful setting after
  lawful_stays history is = record {
    history = subst (IsLawfulHistory (first_state setting.fabric)) (sym history) is.history;
    values = subst (λ (h : List Entry). AreValues (state_after (first_state setting.fabric) h)) (sym history) is.values;
  }

  pub held_stays : after.history ≡ before.history → (cell : ℕ) → held_at setting after cell ≡ held_at setting before cell
  held_stays history cell = ap (λ (h : List Entry). get_or (state_after (first_state setting.fabric) h) cell None) history

  pub cells_stay : after.history ≡ before.history → ((cell : ℕ) → cell < length setting.fabric.cells → word_at setting after cell ≡ word_at setting before cell)
      → ((r cell : ℕ) → fill_due after r cell ≡ fill_due before r cell) → ((r cell : ℕ) → take_due after r cell ≡ take_due before r cell) → CellsShow setting before → CellsShow setting after
  cells_stay history words fills takes show cell spec found =
      same_shows (word_at setting before cell) (word_at setting after cell) (held_at setting before cell) (held_at setting after cell) (fill_due before spec.filler cell) (fill_due after spec.filler cell)
      (take_due before spec.taker cell) (take_due after spec.taker cell) (words cell (slice_get_within setting.fabric.cells cell spec found)) (held_stays history cell) (fills spec.filler cell) (takes spec.taker cell) (show cell spec found)

  pub lasting_cell : (r cell word : ℕ) → IsLasting setting.fabric r cell word → cell < length setting.fabric.cells
  lasting_cell r cell word lasts = ⊎_elim (λ full. slice_get_within setting.fabric.cells cell full.1.spec full.1.found) (λ empty. slice_get_within setting.fabric.cells cell empty.1.spec empty.1.found) lasts

  pub notes_stay : after.history ≡ before.history → ((cell : ℕ) → cell < length setting.fabric.cells → word_at setting after cell ≡ word_at setting before cell)
      → ((r : ℕ) → r < setting.fabric.regions → (cell word : ℕ) → at_place (view_of after r).notes cell ≡ Some word → IsLasting setting.fabric r cell word → StillStands setting before cell word)
      → NotesStand setting after
  notes_stay history words stood r within cell word noted lasts =
      let before_it = stood r within cell word noted lasts in
      record {
        word_is = words cell (lasting_cell r cell word lasts) ∙ before_it.word_is;
        held_is = ap cell_word (held_stays history cell) ∙ before_it.held_is;
      }

  pub limit_stays : after.history ≡ before.history → ((r : ℕ) → clearance (view_of after r).stage ≤ clearance (view_of before r).stage) → KeepsTheLimit setting before → KeepsTheLimit setting after
  limit_stays history stages keeps = omega (arith, ap length history, cleared_no_more setting.fabric.regions before.book after.book stages)

  pub rounds_stay : ((r : ℕ) → r < setting.fabric.regions → slice_index after.words (round_place r) ≡ slice_index before.words (round_place r))
      → ((r : ℕ) → (view_of after r).round ≡ (view_of before r).round) → RoundsAreTold setting before → RoundsAreTold setting after
  rounds_stay words rounds told r within = words r within ∙ (told r within ∙ sym (rounds r))
