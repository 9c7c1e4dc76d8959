-- What fitting entries are to the state that was read, and what entries do one after the other and to each cell.
use Rattle.std.specs.Prelude.{◌≡◌, ℕ, ◌<◌, List, [], ◌∷◌, ◌++◌, length, slice_get, All, Some, None, IfSome}
use Rattle.reo_value.specs.declared.value.Value.{Value}
use Rattle.reo_value.specs.Code.{IsValue}
use Rattle.reo_fabric.specs.declared.entry.Entry.{Entry}
use Rattle.reo_fabric.specs.declared.fabric.Fabric.{Fabric}
use Rattle.reo_fabric.specs.declared.reading.Reading.{Reading}
use Rattle.reo_fabric.specs.Entry.{State, Agrees, at_place, content_at, content_after, carried_out}
use Rattle.reo_fabric.specs.History.{state_after, IsLawfulHistory}
use Rattle.reo_fabric.specs.Reading.{Offers, reading_of}
use Rattle.reo_fabric.specs.Decider.{IsFitting}
use Rattle.reo_fabric.specs.Room.{room_of, HasRoomFor}

-- what is in the cells are values
abbrev pub AreValues : State → Type 0
AreValues state = All (λ held. IfSome held IsValue) state

-- an entry that fits the reading of a state agrees with this state
abbrev pub FittingAgree : Type 0
FittingAgree =
    (fabric : Fabric) (region : ℕ) (state : State) (offers : Offers) (entry : Entry) → length state ≡ length fabric.cells → AreValues state
    → IsFitting fabric (reading_of fabric region state offers) entry → Agrees state entry

-- an entry that fits a reading of the region has room in the room that was made for the region
abbrev pub FittingHaveRoom : Type 0
FittingHaveRoom = (fabric : Fabric) (reading : Reading) (entry : Entry) → IsFitting fabric reading entry → HasRoomFor (room_of fabric reading.region) entry

-- a lawful history may go on with an entry that agrees with the state that it leaves, and the entry is carried out then
abbrev pub HistoriesGrow : Type 0
HistoriesGrow =
    (state : State) (entries : List Entry) (entry : Entry) → IsLawfulHistory state entries → Agrees (state_after state entries) entry
    → IsLawfulHistory state (entries ++ entry ∷ []) × (state_after state (entries ++ entry ∷ []) ≡ carried_out (state_after state entries) entry)

-- what an entry that agrees with a state does to one cell
pub record ActsOn (state : State) (entry : Entry) (cell : ℕ) : Type 0 where
  pub taken : (value : Value) → at_place entry.takes cell ≡ Some value → slice_get state cell ≡ Some (Some value)
  pub filled : (value : Value) → at_place entry.fills cell ≡ Some value → slice_get state cell ≡ Some None
  pub after : cell < length state → slice_get (carried_out state entry) cell ≡ Some (content_after (at_place entry.takes cell) (at_place entry.fills cell) (content_at state cell))

abbrev pub ActCellByCell : Type 0
ActCellByCell = (state : State) (entry : Entry) (cell : ℕ) → Agrees state entry → ActsOn state entry cell
