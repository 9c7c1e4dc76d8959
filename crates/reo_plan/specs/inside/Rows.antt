-- Rows: what a firing asks and does, by the slots of its data.
use Rattle.std.specs.Prelude.{◌≡◌, ℕ, ◌-◌, ◌/◌, ◌%◌, ◌<◌, nat_eq, nat_lt, if◌then◌else◌, List, [], ◌∷◌, ◌++◌, length, filter_map, slice_get, slice_index_or, Bool, true, false, Option, Some, None, is_some}
use Rattle.std.specs.List.{list_all}
use Rattle.std.specs.Option.{option_map, option_map_or, option_and_then, option_to_list}
use Rattle.reo_value.specs.declared.value.Value.{Value}
use Rattle.reo_net.specs.declared.kind.Kind.{Kind}
use Rattle.reo_net.specs.declared.kind.Kind.TheVariants.{Sync, Lossy, Drain, Fifo, Filter, Transform}
use Rattle.reo_net.specs.declared.circuit.Channel.{Channel}
use Rattle.reo_net.specs.declared.circuit.RawCircuit.{RawCircuit}
use Rattle.reo_net.specs.Names.{end_a, end_b}
use Rattle.reo_net.specs.Steps.{cell_of}
use Rattle.reo_growth.specs.Lists.{has}
use Rattle.reo_fabric.specs.declared.reading.Reading.{Reading}
use Rattle.reo_flow.specs.declared.fact.Fact.{Fact}
use Rattle.reo_flow.specs.declared.fact.Fact.TheVariants.{Offered, Empty, Known, Met, Failed}
use Rattle.reo_flow.specs.declared.giver.Giver.{Giver}
use Rattle.reo_flow.specs.Places.{at_cells, at_ports}
use Rattle.reo_flow.specs.Flow.{Sources, sources_of, flow_at, data_in, is_so, is_allowed}
use Rattle.reo_plan.specs.inside.Slots.{slot_value, AreOrdered}
use Rattle.reo_plan.specs.declared.row.Row.{Row}

-- the slot of a name
abbrev pub slot_in : List (Option ℕ) → ℕ → Option ℕ
slot_in table name = slice_index_or table name None

-- the table is for so many names, and has a slot for each of these names and for no other
pub record IsFilled (count : ℕ) (names : List ℕ) (table : List (Option ℕ)) : Type 0 where
  pub sized : length table ≡ count
  pub named : (name : ℕ) → is_some (slot_in table name) ≡ has names name

-- Of a firing with these names, those that are done have slots with what flows to them, and no other name has one.
pub record HasSlots (c : RawCircuit) (names done : List ℕ) (slots : List Giver) (table : List (Option ℕ)) : Type 0 where
  pub ordered : AreOrdered slots
  pub within : (name slot : ℕ) → slot_in table name ≡ Some slot → slot < length slots
  pub named : (name : ℕ) → is_some (slot_in table name) ≡ has done name
  pub value : (texts : List (List ℕ)) (sources : Sources) (name slot : ℕ) → slot_in table name ≡ Some slot → slot_value c texts sources slots slot ≡ flow_at c texts sources names name

-- what a name with this slot asks, besides a datum
abbrev pub end_fact : RawCircuit → List (Option ℕ) → ℕ → ℕ → Kind → Option Fact
end_fact c table k slot Sync = None
end_fact c table k slot Lossy = None
end_fact c table k slot Drain = None
end_fact c table k slot (Fifo first) = Some (Empty (cell_of c k))
end_fact c table k slot (Filter guard) = Some (if is_some (slot_in table (end_b c k)) then Met k slot else Failed k slot)
end_fact c table k slot (Transform fun) = None

abbrev pub a_fact : RawCircuit → List (Option ℕ) → ℕ → ℕ → Bool → Channel → Option Fact
a_fact c table k slot true channel = end_fact c table k slot channel.kind
a_fact c table k slot false channel = None

abbrev pub own_fact : RawCircuit → List (Option ℕ) → ℕ → ℕ → Option Fact
own_fact c table name slot =
    if nat_lt name (length c.ports)
    then Some (Offered name)
    else option_and_then (a_fact c table ((name - length c.ports) / 2) slot (nat_eq ((name - length c.ports) % 2) 0)) (slice_get c.channels ((name - length c.ports) / 2))

-- all that a name asks
abbrev pub slot_facts : RawCircuit → List (Option ℕ) → ℕ → List Fact
slot_facts c table name = option_map_or (λ slot. option_to_list (own_fact c table name slot) ++ Known slot ∷ []) (slot_in table name) []

-- values at places, by the slots there
abbrev pub values_at : (ℕ → Option Value) → List (ℕ × ℕ) → List (ℕ × Value)
values_at value places = filter_map (λ p. option_map (λ v. (p.0, v)) (value p.1)) places

-- the names with their slots
abbrev pub named_slots : List (Option ℕ) → List ℕ → List (ℕ × ℕ)
named_slots table names = filter_map (λ name. option_map (λ slot. (name, slot)) (slot_in table name)) names

-- the names that have data, with them
abbrev pub named_data : (ℕ → Option Value) → List ℕ → List (ℕ × Value)
named_data data_at names = filter_map (λ name. option_map (λ v. (name, v)) (data_at name)) names

-- The row is that of the firing with these names: its facts are so just where a reading allows the firing, and its places have
-- the firing's data, whatever the texts and sources.
pub record IsRow (c : RawCircuit) (names : List ℕ) (row : Row) : Type 0 where
  pub ordered : AreOrdered row.slots
  pub facts : (texts : List (List ℕ)) (reading : Reading) → list_all (is_so c texts reading (slot_value c texts (sources_of reading) row.slots)) row.facts ≡ is_allowed c texts reading names
  pub takes : (texts : List (List ℕ)) (sources : Sources) → values_at (slot_value c texts sources row.slots) row.takes ≡ at_cells c (λ k. data_in c texts sources names (end_b c k))
  pub fills : (texts : List (List ℕ)) (sources : Sources) → values_at (slot_value c texts sources row.slots) row.fills ≡ at_cells c (λ k. data_in c texts sources names (end_a c k))
  pub puts : (texts : List (List ℕ)) (sources : Sources) → values_at (slot_value c texts sources row.slots) row.puts ≡ at_ports c true (data_in c texts sources names)
  pub gets : (texts : List (List ℕ)) (sources : Sources) → values_at (slot_value c texts sources row.slots) row.gets ≡ at_ports c false (data_in c texts sources names)
  pub named : (texts : List (List ℕ)) (sources : Sources) → values_at (slot_value c texts sources row.slots) row.named ≡ named_data (data_in c texts sources names) names
