-- Where what an entry takes came from.
use Rattle.std.specs.Prelude.{◌≡◌, ℕ, ◌<◌, ◌⊎◌, List, length, slice_get, Some, None}
use Rattle.reo_value.specs.declared.value.Value.{Value}
use Rattle.reo_fabric.specs.declared.entry.Entry.{Entry}
use Rattle.reo_fabric.specs.Entry.{State, at_place, content_at}
use Rattle.reo_fabric.specs.History.{IsLawfulHistory}

-- the entry neither takes from the cell nor fills it
abbrev pub LeavesCell : Entry → ℕ → Type 0
LeavesCell entry cell = (at_place entry.takes cell ≡ None) × (at_place entry.fills cell ≡ None)

-- the value was in the cell at the start, and no entry before this number touched the cell
pub record WasThereAtFirst (state : State) (entries : List Entry) (number cell : ℕ) (value : Value) : Type 0 where
  pub first : content_at state cell ≡ Some value
  pub left_alone : (between : ℕ) (entry : Entry) → between < number → slice_get entries between ≡ Some entry → LeavesCell entry cell

-- an entry with a smaller number filled the cell with the value, and none between touched the cell
pub record WasFilledBefore (entries : List Entry) (number cell : ℕ) (value : Value) : Type 0 where
  pub source : ℕ
  pub earlier : source < number
  pub filling : Entry
  pub found : slice_get entries source ≡ Some filling
  pub fills : at_place filling.fills cell ≡ Some value
  pub left_alone : (between : ℕ) (entry : Entry) → source < between → between < number → slice_get entries between ≡ Some entry → LeavesCell entry cell

-- What an entry of a lawful history takes from a cell was there at the start, or an earlier entry filled the cell with it; and
-- no entry between took it.
abbrev pub TakesHaveSources : Type 0
TakesHaveSources =
    (state : State) (entries : List Entry) (number : ℕ) (entry : Entry) (cell : ℕ) (value : Value) → IsLawfulHistory state entries → cell < length state → slice_get entries number ≡ Some entry
    → at_place entry.takes cell ≡ Some value → WasThereAtFirst state entries number cell value ⊎ WasFilledBefore entries number cell value
