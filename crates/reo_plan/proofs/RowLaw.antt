-- The row that is made of a firing's slots is its row.
use Rattle.std.proofs.Common.{◌≡◌, ℕ, List, Option, None, Bool, true, false, cond, not, refl, ap, ◌∙◌}
use Rattle.std.specs.List.{list_all}
use Rattle.std.specs.Option.{option_and_then}
use Rattle.reo_value.specs.declared.value.Value.{Value}
use Rattle.reo_net.specs.declared.circuit.Port.{Port}
use Rattle.reo_net.specs.declared.circuit.RawCircuit.{RawCircuit}
use Rattle.reo_net.specs.Names.{end_a, end_b}
use Rattle.reo_net.specs.Stand.{is_put}
use Rattle.reo_fabric.specs.declared.reading.Reading.{Reading}
use Rattle.reo_plan.specs.inside.Asks.{so_in}
use Rattle.reo_flow.specs.Places.{value_at_port, buffers, at_ports}
use Rattle.reo_flow.specs.Flow.{Sources, data_in}
use Rattle.reo_plan.specs.declared.row.Row.{Row}
use Rattle.reo_plan.specs.inside.Placed.{cell_at, port_at, placed_slots}
use Rattle.reo_plan.specs.inside.Plans.{IsOfNames}
use Rattle.reo_plan.specs.inside.Slots.{slot_value}
use Rattle.reo_plan.specs.inside.Rows.{slot_in, HasSlots, slot_facts, values_at, named_slots, IsRow}
use Rattle.reo_plan.proofs.PlaceSlotLemmas.{values_with, named_with}
use Rattle.reo_plan.proofs.NamePlaceLemmas.{cells_placed, ports_placed}
use Rattle.reo_plan.proofs.TableLemmas.{slot_data}
use Rattle.reo_plan.proofs.FactLemmas.{facts_allow}

port_with : (value : ℕ → Option Value) (slot_of : ℕ → Option ℕ) (data_at : ℕ → Option Value) → ((name : ℕ) → option_and_then value (slot_of name) ≡ data_at name) → (puts : Bool) (p : ℕ) (port : Port)
    → option_and_then value (value_at_port puts slot_of p port) ≡ value_at_port puts data_at p port
port_with value slot_of data_at same puts p port = go (cond puts (is_put port.way) (not (is_put port.way)))
  where
    go : (b : Bool) → option_and_then value (cond b (slot_of p) None) ≡ cond b (data_at p) None
    go true = same p
    go false = refl

pub is_row : (c : RawCircuit) (names : List ℕ) (table : List (Option ℕ)) (row : Row) → HasSlots c names names row.slots table
    → ((texts : List (List ℕ)) (reading : Reading) → list_all (so_in c texts reading row.slots) row.facts ≡ list_all (λ name. list_all (so_in c texts reading row.slots) (slot_facts c table name)) names)
    → IsOfNames c names → row.takes ≡ placed_slots (cell_at c true) table names → row.fills ≡ placed_slots (cell_at c false) table names
    → row.puts ≡ placed_slots (port_at c true) table names → row.gets ≡ placed_slots (port_at c false) table names → row.named ≡ named_slots table names → IsRow c names row
is_row c names table row slots_of facts of takes fills puts gets named = record {
  ordered = slots_of.ordered;
  facts = λ texts reading. facts texts reading ∙ facts_allow c names row.slots table slots_of texts reading;
  takes = λ texts sources. ap (values_at (slot_value c texts sources row.slots)) (takes ∙ cells_placed c table names of.rising of.below slots_of.named true)
      ∙ values_with (slot_value c texts sources row.slots) (λ cell k. slot_in table (end_b c k)) (λ cell k. data_in c texts sources names (end_b c k)) (λ i k. slot_data c names row.slots table slots_of texts sources (end_b c k)) 0 (buffers c);
  fills = λ texts sources. ap (values_at (slot_value c texts sources row.slots)) (fills ∙ cells_placed c table names of.rising of.below slots_of.named false)
      ∙ values_with (slot_value c texts sources row.slots) (λ cell k. slot_in table (end_a c k)) (λ cell k. data_in c texts sources names (end_a c k)) (λ i k. slot_data c names row.slots table slots_of texts sources (end_a c k)) 0 (buffers c);
  puts = λ texts sources. ap (values_at (slot_value c texts sources row.slots)) (puts ∙ ports_placed c table names of.rising of.below slots_of.named true) ∙ ported texts sources true;
  gets = λ texts sources. ap (values_at (slot_value c texts sources row.slots)) (gets ∙ ports_placed c table names of.rising of.below slots_of.named false) ∙ ported texts sources false;
  named = λ texts sources. ap (values_at (slot_value c texts sources row.slots)) named
      ∙ named_with (slot_value c texts sources row.slots) table (data_in c texts sources names) (slot_data c names row.slots table slots_of texts sources) names;
}
  where
    ported : (texts : List (List ℕ)) (sources : Sources) (side : Bool) → values_at (slot_value c texts sources row.slots) (at_ports c side (slot_in table)) ≡ at_ports c side (data_in c texts sources names)
    ported texts sources side =
        values_with (slot_value c texts sources row.slots) (value_at_port side (slot_in table)) (value_at_port side (data_in c texts sources names))
        (port_with (slot_value c texts sources row.slots) (slot_in table) (data_in c texts sources names) (slot_data c names row.slots table slots_of texts sources) side) 0 c.ports
