-- What is kept inside an engine.
use Rattle.std.specs.Prelude.{◌≡◌, ℕ, ◌<◌, List, length, slice_get, Option, Some, IfSome}
use Rattle.std.specs.Option.{option_and_then, option_map}
use Rattle.reo_fabric.specs.declared.entry.Entry.{Entry}
use Rattle.reo_fabric.specs.declared.fabric.Fabric.{Fabric}
use Rattle.reo_fabric.specs.declared.reading.Reading.{Reading}
use Rattle.reo_fabric.specs.declared.port_state.PortState.{PortState}
use Rattle.reo_fabric.specs.Entry.{State}
use Rattle.reo_fabric.specs.Fabric.{IsLawfulFabric}
use Rattle.reo_fabric.specs.Decider.{Fits}
use Rattle.reo_fabric.specs.Room.{RoomState, room_of, IsRewritten}
use Rattle.reo_fabric.specs.Reading.{IsReadingIn}
use Rattle.reo_fabric.specs.Laws.{AreValues}

-- so it is with each element and its place
abbrev pub EachAt : {A : Type 0} → (ℕ → A → Type 0) → List A → Type 0
EachAt P xs = (place : ℕ) (x : _) → slice_get xs place ≡ Some x → P place x

-- a reading of the region's places, of no round and no clock
pub record IsUnread (fabric : Fabric) (region : ℕ) (reading : Reading) : Type 0 where
  pub of_region : IsReadingIn fabric region reading
  pub no_round : reading.round ≡ 0
  pub no_clock : reading.clock ≡ 0

-- the room was made for the region
abbrev pub IsRoomOf : Fabric → ℕ → RoomState → Type 0
IsRoomOf fabric region room = IsRewritten (room_of fabric region) room

pub record IsEngine (fabric : Fabric) (Allows : ℕ → Reading → Entry → Type 0) (cells : State) (ports : List PortState) (readings : List Reading) (rooms : List RoomState) (last : Option ℕ) : Type 0 where
  pub lawful : IsLawfulFabric fabric
  pub fits : Fits fabric Allows
  pub cells_len : length cells ≡ length fabric.cells
  pub values : AreValues cells
  pub ports_len : length ports ≡ length fabric.ports
  pub readings_len : length readings ≡ fabric.regions
  pub unread : EachAt (IsUnread fabric) readings
  pub rooms_len : length rooms ≡ fabric.regions
  pub made : EachAt (IsRoomOf fabric) rooms
  pub known : IfSome last (λ region. region < fabric.regions)

-- the entry in the room of the region that fired last
abbrev pub last_entry : List RoomState → Option ℕ → Option Entry
last_entry rooms last = option_and_then (λ region. option_map (λ (room : RoomState). room.entry) (slice_get rooms region)) last
