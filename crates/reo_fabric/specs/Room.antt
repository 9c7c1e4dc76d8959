-- An entry that is being written, and how many places its lists have room for.
use Rattle.std.specs.Prelude.{◌≡◌, ℕ, ◌≤◌, [], ◌∷◌, ◌++◌, length, count_by, nat_eq}
use Rattle.reo_value.specs.declared.value.Value.{Value}
use Rattle.reo_fabric.specs.declared.entry.Entry.{Entry}
use Rattle.reo_fabric.specs.declared.fabric.Fabric.{Fabric}

pub record RoomState : Type 0 where
  pub entry : Entry
  -- how many places each list has room for
  pub most_takes : ℕ
  pub most_fills : ℕ
  pub most_puts : ℕ
  pub most_gets : ℕ

-- an entry of a region that does nothing yet
abbrev pub empty_entry : ℕ → ℕ → Entry
empty_entry region choice = record { region = region; choice = choice; takes = []; fills = []; puts = []; gets = [] }

-- a room for each cell and port of the region
abbrev pub room_of : Fabric → ℕ → RoomState
room_of fabric region = record {
  entry = empty_entry region 0;
  most_takes = count_by (λ cell. nat_eq cell.taker region) fabric.cells;
  most_fills = count_by (λ cell. nat_eq cell.filler region) fabric.cells;
  most_puts = count_by (λ port. nat_eq port.region region) fabric.ports;
  most_gets = count_by (λ port. nat_eq port.region region) fabric.ports;
}

-- a room that is begun anew
abbrev pub begun : RoomState → ℕ → RoomState
begun room choice = record room { entry = empty_entry room.entry.region choice }

abbrev pub with_take : RoomState → ℕ → Value → RoomState
with_take room cell value = record room { entry = record room.entry { takes = room.entry.takes ++ (cell, value) ∷ [] } }

abbrev pub with_fill : RoomState → ℕ → Value → RoomState
with_fill room cell value = record room { entry = record room.entry { fills = room.entry.fills ++ (cell, value) ∷ [] } }

abbrev pub with_put : RoomState → ℕ → Value → RoomState
with_put room port value = record room { entry = record room.entry { puts = room.entry.puts ++ (port, value) ∷ [] } }

abbrev pub with_get : RoomState → ℕ → Value → RoomState
with_get room port value = record room { entry = record room.entry { gets = room.entry.gets ++ (port, value) ∷ [] } }

-- each list of the entry has no more places than the room has for it
pub record HasRoomFor (room : RoomState) (entry : Entry) : Type 0 where
  pub takes : length entry.takes ≤ room.most_takes
  pub fills : length entry.fills ≤ room.most_fills
  pub puts : length entry.puts ≤ room.most_puts
  pub gets : length entry.gets ≤ room.most_gets

-- only the entry has changed, which is of the same region
abbrev pub IsRewritten : RoomState → RoomState → Type 0
IsRewritten old new = new ≡ record old { entry = record new.entry { region = old.entry.region } }
