-- What is written into a room, list by list.
use Rattle.std.specs.Prelude.{ℕ, List, ◌++◌, length, Option}
use Rattle.std.specs.Option.{option_map, option_to_list}
use Rattle.reo_value.specs.declared.value.Value.{Value}
use Rattle.reo_net.specs.declared.circuit.RawCircuit.{RawCircuit}
use Rattle.reo_fabric.specs.declared.entry.Entry.{Entry}
use Rattle.reo_fabric.specs.declared.reading.Reading.{Reading}
use Rattle.reo_fabric.specs.Room.{RoomState}
use Rattle.reo_flow.specs.Flow.{sources_of}
use Rattle.reo_plan.specs.declared.row.Row.{Row}
use Rattle.reo_plan.specs.declared.write.Side.{Side}
use Rattle.reo_plan.specs.declared.write.Side.TheVariants.{Take, Fill, Put, Get}
use Rattle.reo_plan.specs.inside.Slots.{slot_value}
use Rattle.reo_plan.specs.inside.Rows.{values_at}

-- the room with these places added on a side
abbrev pub added : RoomState → Side → List (ℕ × Value) → RoomState
added room Take places = record room { entry = record room.entry { takes = room.entry.takes ++ places } }
added room Fill places = record room { entry = record room.entry { fills = room.entry.fills ++ places } }
added room Put places = record room { entry = record room.entry { puts = room.entry.puts ++ places } }
added room Get places = record room { entry = record room.entry { gets = room.entry.gets ++ places } }

-- how many places there are on a side, and how many it has room for
abbrev pub used : RoomState → Side → ℕ
used room Take = length room.entry.takes
used room Fill = length room.entry.fills
used room Put = length room.entry.puts
used room Get = length room.entry.gets

abbrev pub most : RoomState → Side → ℕ
most room Take = room.most_takes
most room Fill = room.most_fills
most room Put = room.most_puts
most room Get = room.most_gets

-- the place with the value, where there is one
abbrev pub one_place : ℕ → Option Value → List (ℕ × Value)
one_place place value = option_to_list (option_map (λ v. (place, v)) value)

-- the entry of a row for a reading
abbrev pub entry_in : RawCircuit → List (List ℕ) → Reading → Row → ℕ → ℕ → Entry
entry_in c texts reading row region choice = record {
  region = region;
  choice = choice;
  takes = values_at (slot_value c texts (sources_of reading) row.slots) row.takes;
  fills = values_at (slot_value c texts (sources_of reading) row.slots) row.fills;
  puts = values_at (slot_value c texts (sources_of reading) row.slots) row.puts;
  gets = values_at (slot_value c texts (sources_of reading) row.slots) row.gets;
}
