-- What each kind of step does to the words, the history and the views.
use Rattle.std.specs.Prelude.{◌≡◌, ℕ, ◌+◌, ◌⊎◌, [], ◌∷◌, ◌++◌, map, slice_index, slice_set, Option, Some, None}
use Rattle.reo_value.specs.declared.value.Value.{Value}
use Rattle.reo_value.specs.Code.{code_of}
use Rattle.reo_fabric.specs.declared.entry.Entry.{Entry}
use Rattle.reo_fabric.specs.declared.fabric.Fabric.{Fabric}
use Rattle.reo_fabric.specs.declared.reading.Reading.{Reading}
use Rattle.reo_fabric.specs.Entry.{at_place}
use Rattle.reo_value.specs.declared.op.Way.TheVariants.{Put}
use Rattle.reo_fabric.specs.Fabric.{IsTaker, IsFiller, IsPort}
use Rattle.reo_fabric.specs.Decider.{IsFitting}
use Rattle.reo_coupling.specs.declared.view.CellsView.{CellsView}
use Rattle.reo_coupling.specs.declared.view.RegionView.{RegionView}
use Rattle.reo_coupling.specs.declared.view.Stage.TheVariants.{Cleared}
use Rattle.reo_coupling.specs.Moment.{Setting, Moment, round_place, cell_place, state_place, data_place}
use Rattle.reo_coupling.specs.Views.{round_after, after_load, after_begin, after_clock, after_see_cell, after_commit, after_set_cell}
use Rattle.reo_coupling.specs.PortViews.{ports_after_begin, ports_after_commit, after_see_port, after_see_offer, after_set_got, after_answer}
use Rattle.reo_coupling.specs.Parts.{view_of}
use Rattle.reo_coupling.specs.PortParts.{ports_of, state_at, data_at, IsPortOf, OwesNothing}

-- the region fills the cell or takes from it
abbrev pub IsOwnCell : Fabric → ℕ → ℕ → Type 0
IsOwnCell fabric region cell = IsTaker fabric region cell ⊎ IsFiller fabric region cell

-- the data word that was noted at a port, or 0
abbrev pub word_or_zero : Option ℕ → ℕ
word_or_zero None = 0
word_or_zero (Some word) = word

-- what a region noted, as a reading
abbrev pub noted : RegionView → Reading
noted view = record {
  region = view.cells.region;
  round = view.cells.round;
  clock = 0;
  cells = view.cells.notes;
  ports = map (λ p. (p.0, p.1, word_or_zero (at_place view.ports.laid p.0))) view.ports.states;
}

-- The region is cleared, and the entry fits what it noted: so each cell that the entry takes from was noted with the code of
-- what is taken, each that it fills was noted empty, and each of its ports was noted as offered, a put with its value.
pub record MayCommit (fabric : Fabric) (view : RegionView) (entry : Entry) : Type 0 where
  pub cleared : view.cells.stage ≡ Cleared
  pub fits : IsFitting fabric (noted view) entry

-- this word is due at the cell: 0 for a take, and for a fill the code of its value
pub record TakeIsDue (view : CellsView) (cell word : ℕ) : Type 0 where
  pub value : Value
  pub found : at_place view.takes_due cell ≡ Some value
  pub word_is : word ≡ 0

pub record FillIsDue (view : CellsView) (cell word : ℕ) : Type 0 where
  pub value : Value
  pub found : at_place view.fills_due cell ≡ Some value
  pub word_is : word ≡ code_of value

abbrev pub IsDue : CellsView → ℕ → ℕ → Type 0
IsDue view cell word = TakeIsDue view cell word ⊎ FillIsDue view cell word

-- no other region's view has changed
abbrev pub OthersStay : ℕ → Moment → Moment → Type 0
OthersStay region before after = (other : ℕ) → (other ≡ region → ⊥) → after.book other ≡ before.book other

-- a region begins a round: its round word rises
pub record Begins (setting : Setting) (region : ℕ) (before after : Moment) : Type 0 where
  pub quiet : OwesNothing (before.book region)
  pub words : after.words ≡ slice_set before.words (round_place region) (round_after (slice_index before.words (round_place region)))
  pub history : after.history ≡ before.history
  pub view : view_of after region ≡ after_begin (view_of before region)
  pub ports : ports_of after region ≡ ports_after_begin (ports_of before region)
  pub parties : after.folk ≡ before.folk
  pub others : OthersStay region before after

-- a region reads the commit word
pub record ReadsClock (setting : Setting) (region : ℕ) (before after : Moment) : Type 0 where
  pub quiet : OwesNothing (before.book region)
  pub words : after.words ≡ before.words
  pub history : after.history ≡ before.history
  pub view : view_of after region ≡ after_clock (view_of before region) (slice_index before.words 0)
  pub ports : ports_of after region ≡ ports_of before region
  pub parties : after.folk ≡ before.folk
  pub others : OthersStay region before after

-- a region reads the word of a cell
pub record SeesCell (setting : Setting) (region : ℕ) (before after : Moment) : Type 0 where
  pub cell : ℕ
  pub own : IsOwnCell setting.fabric region cell
  pub quiet : OwesNothing (before.book region)
  pub words : after.words ≡ before.words
  pub history : after.history ≡ before.history
  pub view : view_of after region ≡ after_see_cell (view_of before region) cell (cell_place setting.fabric cell) (slice_index before.words (cell_place setting.fabric cell))
  pub ports : ports_of after region ≡ ports_of before region
  pub parties : after.folk ≡ before.folk
  pub others : OthersStay region before after

-- a region commits an entry: the commit word rises, and the history gets the entry
pub record Commits (setting : Setting) (region : ℕ) (before after : Moment) : Type 0 where
  pub entry : Entry
  pub may : MayCommit setting.fabric (before.book region) entry
  pub words : after.words ≡ slice_set before.words 0 (slice_index before.words 0 + 1)
  pub history : after.history ≡ before.history ++ entry ∷ []
  pub view : view_of after region ≡ after_commit (view_of before region) (slice_index before.words 0) entry
  pub ports : ports_of after region ≡ ports_after_commit (slice_index before.words 0) entry
  pub parties : after.folk ≡ before.folk
  pub others : OthersStay region before after

-- a region stores a word that is due in a cell
pub record SetsCell (setting : Setting) (region : ℕ) (before after : Moment) : Type 0 where
  pub cell : ℕ
  pub word : ℕ
  pub due : IsDue (view_of before region) cell word
  pub words : after.words ≡ slice_set before.words (cell_place setting.fabric cell) word
  pub history : after.history ≡ before.history
  pub view : view_of after region ≡ after_set_cell (view_of before region) cell word
  pub ports : ports_of after region ≡ ports_of before region
  pub parties : after.folk ≡ before.folk
  pub others : OthersStay region before after

-- a region reads the state word of a port at it
pub record SeesPort (setting : Setting) (region : ℕ) (before after : Moment) : Type 0 where
  pub port : ℕ
  pub own : IsPortOf setting.fabric region port
  pub quiet : OwesNothing (before.book region)
  pub words : after.words ≡ before.words
  pub history : after.history ≡ before.history
  pub view : view_of after region ≡ after_load (view_of before region) (state_place setting.fabric port) (state_at setting before port)
  pub ports : ports_of after region ≡ after_see_port (ports_of before region) port (state_at setting before port)
  pub parties : after.folk ≡ before.folk
  pub others : OthersStay region before after

-- a region reads the data word of a put port that it noted as offered
pub record SeesOffer (setting : Setting) (region : ℕ) (before after : Moment) : Type 0 where
  pub port : ℕ
  pub own : IsPort setting.fabric Put region port
  pub noted : at_place (ports_of before region).states port ≡ Some 1
  pub quiet : OwesNothing (before.book region)
  pub words : after.words ≡ before.words
  pub history : after.history ≡ before.history
  pub view : view_of after region ≡ after_load (view_of before region) (data_place setting.fabric port) (data_at setting before port)
  pub ports : ports_of after region ≡ after_see_offer (ports_of before region) port (data_at setting before port)
  pub parties : after.folk ≡ before.folk
  pub others : OthersStay region before after

-- a region stores the datum of a get that is due
pub record SetsGot (setting : Setting) (region : ℕ) (before after : Moment) : Type 0 where
  pub port : ℕ
  pub value : Value
  pub due : at_place (ports_of before region).gots_due port ≡ Some value
  pub words : after.words ≡ slice_set before.words (data_place setting.fabric port) (code_of value)
  pub history : after.history ≡ before.history
  pub view : view_of after region ≡ view_of before region
  pub ports : ports_of after region ≡ after_set_got (ports_of before region) port
  pub parties : after.folk ≡ before.folk
  pub others : OthersStay region before after

-- a region answers a port with the number that is due, where the datum of a get is stored
pub record Answers (setting : Setting) (region : ℕ) (before after : Moment) : Type 0 where
  pub port : ℕ
  pub number : ℕ
  pub due : at_place (ports_of before region).answers_due port ≡ Some number
  pub stored : at_place (ports_of before region).gots_due port ≡ None
  pub words : after.words ≡ slice_set before.words (state_place setting.fabric port) (3 + number)
  pub history : after.history ≡ before.history
  pub view : view_of after region ≡ view_of before region
  pub ports : ports_of after region ≡ after_answer (ports_of before region) port
  pub parties : after.folk ≡ before.folk
  pub others : OthersStay region before after
