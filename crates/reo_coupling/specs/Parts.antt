-- What the words stand for, part by part. Each part speaks of the words, the history and the views at one moment.
use Rattle.std.specs.Prelude.{◌≡◌, ℕ, zero, suc, ◌+◌, ◌*◌, ◌<◌, ◌≤◌, ◌^◌, ◌⊎◌, List, [], ◌∷◌, ◌++◌, length, slice_index, slice_get, All, Option, Some, None, nat_eq, if◌then◌else◌}
use Rattle.reo_value.specs.declared.value.Value.{Value}
use Rattle.reo_value.specs.Code.{code_of}
use Rattle.reo_fabric.specs.declared.entry.Entry.{Entry}
use Rattle.reo_fabric.specs.declared.entry.Numbered.{Numbered}
use Rattle.reo_fabric.specs.declared.fabric.Fabric.{Fabric}
use Rattle.reo_fabric.specs.declared.fabric.CellSpec.{CellSpec}
use Rattle.reo_fabric.specs.Entry.{content_at, at_place, RisesFrom}
use Rattle.reo_fabric.specs.Fabric.{IsLawfulFabric, first_state, IsTaker, IsFiller}
use Rattle.reo_fabric.specs.History.{IsLawfulHistory}
use Rattle.reo_fabric.specs.Reading.{cell_word}
use Rattle.reo_fabric.specs.Laws.{AreValues}
use Rattle.reo_coupling.specs.declared.view.CellsView.{CellsView}
use Rattle.reo_coupling.specs.declared.view.RegionView.{RegionView}
use Rattle.reo_coupling.specs.declared.view.Stage.{Stage}
use Rattle.reo_coupling.specs.declared.view.Stage.TheVariants.{Between, UnderWay, Cleared}
use Rattle.reo_coupling.specs.Moment.{Setting, Moment, state_of, round_place, cell_place}

-- what a region knows of cells
abbrev pub view_of : Moment → ℕ → CellsView
view_of moment region = (moment.book region).cells

-- The fabric is lawful and the limit small, and there is a word for each region and each cell, and two for each port.
pub record HasItsWords (setting : Setting) (moment : Moment) : Type 0 where
  pub fabric : IsLawfulFabric setting.fabric
  pub limit : setting.limit < 2 ^ 31
  pub words : 1 + setting.fabric.regions + length setting.fabric.cells + 2 * length setting.fabric.ports ≤ length moment.words

-- Each view is that of its region, and has the limit.
pub record AreNamed (setting : Setting) (moment : Moment) : Type 0 where
  pub regions : (region : ℕ) → region < setting.fabric.regions → (view_of moment region).region ≡ region
  pub limits : (region : ℕ) → region < setting.fabric.regions → (view_of moment region).limit ≡ setting.limit

-- the entries of one region, each with its number, where the first entry has the number `first`
abbrev pub entries_of : ℕ → ℕ → List Entry → List Numbered
entries_of region first [] = []
entries_of region first (entry ∷ entries) =
    if nat_eq region entry.region then record { number = first; entry = entry } ∷ entries_of region (first + 1) entries else entries_of region (first + 1) entries

-- The commit word is the length of the history. Each entry is of a region, and the list of a region has its entries of the
-- history, with their numbers.
pub record AreCounted (setting : Setting) (moment : Moment) : Type 0 where
  pub count : slice_index moment.words 0 ≡ length moment.history
  pub regions : All (λ entry. entry.region < setting.fabric.regions) moment.history
  pub lists : (region : ℕ) → region < setting.fabric.regions → (view_of moment region).entries ≡ entries_of region 0 moment.history

-- The history is lawful from the first cells, and leaves values in the cells.
pub record IsLawful (setting : Setting) (moment : Moment) : Type 0 where
  pub history : IsLawfulHistory (first_state setting.fabric) moment.history
  pub values : AreValues (state_of setting moment)

-- A cell's word is the code of what is in the cell, with two exceptions: where the filler has a fill due the word is 0 still,
-- and where the taker has a take due the word is the old code still. Never are both due.
abbrev pub Shows : ℕ → Option Value → Option Value → Option Value → Type 0
Shows word held None None = word ≡ cell_word held
Shows word held (Some filled) None = (word ≡ 0) × (held ≡ Some filled)
Shows word held None (Some taken) = (word ≡ code_of taken) × (held ≡ None)
Shows word held (Some filled) (Some taken) = ⊥

-- the word of a cell
abbrev pub word_at : Setting → Moment → ℕ → ℕ
word_at setting moment cell = slice_index moment.words (cell_place setting.fabric cell)

-- what is in a cell in the state that the history leaves
abbrev pub held_at : Setting → Moment → ℕ → Option Value
held_at setting moment cell = content_at (state_of setting moment) cell

-- what a region has still to fill a cell with, and what it has still to empty it of
abbrev pub fill_due : Moment → ℕ → ℕ → Option Value
fill_due moment region cell = at_place (view_of moment region).fills_due cell

abbrev pub take_due : Moment → ℕ → ℕ → Option Value
take_due moment region cell = at_place (view_of moment region).takes_due cell

-- Each cell's word shows what is in the cell, but for what is due.
abbrev pub CellsShow : Setting → Moment → Type 0
CellsShow setting moment =
    (cell : ℕ) (spec : CellSpec) → slice_get setting.fabric.cells cell ≡ Some spec
    → Shows (word_at setting moment cell) (held_at setting moment cell) (fill_due moment spec.filler cell) (take_due moment spec.taker cell)

-- Lasting is that a cell from which the region takes was full, and that one which it fills was empty.
abbrev pub IsLasting : Fabric → ℕ → ℕ → ℕ → Type 0
IsLasting fabric region cell word = ((0 < word) × IsTaker fabric region cell) ⊎ ((word ≡ 0) × IsFiller fabric region cell)

-- the cell has this word still, and what is in it is what the word says
pub record StillStands (setting : Setting) (moment : Moment) (cell word : ℕ) : Type 0 where
  pub word_is : word_at setting moment cell ≡ word
  pub held_is : cell_word (held_at setting moment cell) ≡ word

-- What a region noted in its round, and what lasts, still stands.
abbrev pub NotesStand : Setting → Moment → Type 0
NotesStand setting moment =
    (region : ℕ) → region < setting.fabric.regions → (cell word : ℕ) → at_place (view_of moment region).notes cell ≡ Some word
    → IsLasting setting.fabric region cell word → StillStands setting moment cell word

pub record NothingDue (view : CellsView) : Type 0 where
  pub takes : view.takes_due ≡ []
  pub fills : view.fills_due ≡ []

-- Stores of the last entry are due: each at a cell of the region, none twice, of what the entry took or filled there. The
-- region has no notes, and is not cleared.
pub record StoresAreDue (fabric : Fabric) (region : ℕ) (view : CellsView) : Type 0 where
  pub stage : view.stage ≡ Between
  pub notes : view.notes ≡ []
  pub earlier : List Numbered
  pub last : Numbered
  pub entries : view.entries ≡ earlier ++ last ∷ []
  pub takes : (cell : ℕ) (value : Value) → at_place view.takes_due cell ≡ Some value → IsTaker fabric region cell × (at_place last.entry.takes cell ≡ Some value)
  pub fills : (cell : ℕ) (value : Value) → at_place view.fills_due cell ≡ Some value → IsFiller fabric region cell × (at_place last.entry.fills cell ≡ Some value)
  pub takes_rise : RisesFrom 0 view.takes_due
  pub fills_rise : RisesFrom 0 view.fills_due

-- Each region has nothing due, or stores of its last entry.
abbrev pub DuesAreOfTheLast : Setting → Moment → Type 0
DuesAreOfTheLast setting moment =
    (region : ℕ) → region < setting.fabric.regions → NothingDue (view_of moment region) ⊎ StoresAreDue setting.fabric region (view_of moment region)

-- 1 where a region is cleared to commit
abbrev pub clearance : Stage → ℕ
clearance Between = 0
clearance UnderWay = 0
clearance Cleared = 1

-- how many of the regions below a number are cleared
abbrev pub cleared_below : ℕ → (ℕ → RegionView) → ℕ
cleared_below zero book = 0
cleared_below (suc region) book = clearance (book region).cells.stage + cleared_below region book

-- The commits so far, with one more for each region that is cleared, are at most the limit and one less than the number of
-- regions.
abbrev pub KeepsTheLimit : Setting → Moment → Type 0
KeepsTheLimit setting moment = length moment.history + cleared_below setting.fabric.regions moment.book < setting.limit + setting.fabric.regions

-- Each region's round word is the round of its view.
abbrev pub RoundsAreTold : Setting → Moment → Type 0
RoundsAreTold setting moment = (region : ℕ) → region < setting.fabric.regions → slice_index moment.words (round_place region) ≡ (view_of moment region).round
