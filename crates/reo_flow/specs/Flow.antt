-- Which data flow in a firing, and what has to be so for it, by calculation.
use Rattle.std.specs.Prelude.{◌≡◌, ℕ, suc, zero, ◌+◌, ◌-◌, ◌*◌, ◌/◌, ◌%◌, nat_eq, nat_lt, List, [], ◌∷◌, length, slice_get, slice_index_or, position, Bool, true, false, not, ◌&&◌, if◌then◌else◌, Option, Some, None, is_some}
use Rattle.std.specs.List.{list_all, find}
use Rattle.std.specs.Option.{option_and_then, option_map_or}
use Rattle.reo_value.specs.declared.value.Value.{Value}
use Rattle.reo_net.specs.declared.kind.Kind.{Kind}
use Rattle.reo_net.specs.declared.kind.Kind.TheVariants.{Sync, Lossy, Drain, Fifo, Filter, Transform}
use Rattle.reo_net.specs.declared.circuit.Channel.{Channel}
use Rattle.reo_net.specs.declared.circuit.Port.{Port as PortOf}
use Rattle.reo_net.specs.declared.circuit.RawCircuit.{RawCircuit}
use Rattle.reo_net.specs.Names.{end_a, end_b}
use Rattle.reo_net.specs.Stand.{is_put, stand_of}
use Rattle.reo_net.specs.Steps.{Data, cell_of}
use Rattle.reo_growth.specs.Lists.{has}
use Rattle.reo_fabric.specs.declared.entry.Entry.{Entry}
use Rattle.reo_fabric.specs.declared.reading.Reading.{Reading}
use Rattle.reo_fabric.specs.Entry.{at_place}
use Rattle.reo_fabric.specs.Decider.{port_words}
use Rattle.reo_flow.specs.declared.giver.Giver.{Giver}
use Rattle.reo_flow.specs.declared.giver.Giver.TheVariants.{Unfed, Cell, Port, Same, Image}
use Rattle.reo_flow.specs.declared.fact.Fact.{Fact}
use Rattle.reo_flow.specs.declared.fact.Fact.TheVariants.{Offered, Empty, Known, Met, Failed}
use Rattle.reo_flow.specs.Places.{entry_of}
use Rattle.reo_flow.specs.Tests.{is_met, yielded, decoded}
use Rattle.reo_flow.specs.Allows.{Table}

-- whether the name comes into the node
abbrev pub comes_into : RawCircuit → ℕ → ℕ → Bool
comes_into c node name = option_map_or (λ stand. stand.incoming && nat_eq stand.node node) (stand_of c name) false

-- the datum of the first of these names that comes into the node
abbrev pub input_of : RawCircuit → List ℕ → ℕ → Giver
input_of c names node = option_map_or Same (find (comes_into c node) names) Unfed

abbrev pub port_giver : RawCircuit → List ℕ → ℕ → PortOf → Giver
port_giver c names p port = if is_put port.way then Port p else input_of c names port.node

abbrev pub b_giver : RawCircuit → List ℕ → ℕ → ℕ → Kind → Giver
b_giver c names k node Sync = Same (end_a c k)
b_giver c names k node Lossy = Same (end_a c k)
b_giver c names k node Drain = input_of c names node
b_giver c names k node (Fifo first) = Cell (cell_of c k)
b_giver c names k node (Filter guard) = Same (end_a c k)
b_giver c names k node (Transform fun) = Image k (end_a c k)

abbrev pub end_giver : RawCircuit → List ℕ → ℕ → Bool → Channel → Giver
end_giver c names k true channel = input_of c names channel.a
end_giver c names k false channel = b_giver c names k channel.b channel.kind

-- where a name has its datum from in a firing with these names
abbrev pub giver_of : RawCircuit → List ℕ → ℕ → Giver
giver_of c names name =
    if nat_lt name (length c.ports)
    then option_map_or (port_giver c names name) (slice_get c.ports name) Unfed
    else option_map_or (end_giver c names ((name - length c.ports) / 2) (nat_eq ((name - length c.ports) % 2) 0)) (slice_get c.channels ((name - length c.ports) / 2)) Unfed

-- what comes out of cells and is offered at put ports
pub record Sources : Type 0 where
  pub cell : ℕ → Option Value
  pub port : ℕ → Option Value

abbrev pub image_of_kind : List (List ℕ) → Kind → Value → Option Value
image_of_kind texts Sync datum = None
image_of_kind texts Lossy datum = None
image_of_kind texts Drain datum = None
image_of_kind texts (Fifo first) datum = None
image_of_kind texts (Filter guard) datum = None
image_of_kind texts (Transform fun) datum = yielded texts fun datum

-- what the function of a channel yields at a datum
abbrev pub image_at : RawCircuit → List (List ℕ) → ℕ → Value → Option Value
image_at c texts k datum = option_and_then (λ channel. image_of_kind texts channel.kind datum) (slice_get c.channels k)

-- the datum that is given, where the names have these data
abbrev pub given : RawCircuit → List (List ℕ) → Sources → Data → Giver → Option Value
given c texts sources data_at Unfed = None
given c texts sources data_at (Cell cell) = sources.cell cell
given c texts sources data_at (Port port) = sources.port port
given c texts sources data_at (Same name) = data_at name
given c texts sources data_at (Image k name) = option_and_then (image_at c texts k) (data_at name)

-- the datum of a name, through so many givers
unfoldable pub flow : RawCircuit → List (List ℕ) → Sources → (ℕ → Giver) → ℕ → Data
flow c texts sources giver zero name = None
flow c texts sources giver (suc n) name = given c texts sources (flow c texts sources giver n) (giver name)

-- the datum of a name in a firing with these names: no datum goes through a node twice
abbrev pub flow_at : RawCircuit → List (List ℕ) → Sources → List ℕ → Data
flow_at c texts sources names name = flow c texts sources (giver_of c names) (suc (2 * c.nodes + 1)) name

-- the data of a firing
abbrev pub data_in : RawCircuit → List (List ℕ) → Sources → List ℕ → Data
data_in c texts sources names name = if has names name then flow_at c texts sources names name else None

-- what a reading says of cells and ports
abbrev pub offered_value : ℕ × ℕ → Option Value
offered_value words = if nat_eq words.0 1 then decoded words.1 else None

abbrev pub sources_of : Reading → Sources
sources_of reading = record {
  cell = λ cell. option_and_then decoded (at_place reading.cells cell);
  port = λ port. option_and_then offered_value (port_words reading port);
}

abbrev pub is_offered : Reading → ℕ → Bool
is_offered reading port = option_map_or (λ words. nat_eq words.0 1) (port_words reading port) false

abbrev pub is_empty : Reading → ℕ → Bool
is_empty reading cell = option_map_or (λ word. nat_eq word 0) (at_place reading.cells cell) false

abbrev pub met_by_kind : List (List ℕ) → Kind → Value → Bool
met_by_kind texts Sync datum = false
met_by_kind texts Lossy datum = false
met_by_kind texts Drain datum = false
met_by_kind texts (Fifo first) datum = false
met_by_kind texts (Filter guard) datum = is_met texts guard datum
met_by_kind texts (Transform fun) datum = false

-- whether the datum meets the guard of a channel
abbrev pub met_at : RawCircuit → List (List ℕ) → ℕ → Value → Bool
met_at c texts k datum = option_map_or (λ channel. met_by_kind texts channel.kind datum) (slice_get c.channels k) false

-- whether the fact is so, for this reading and these data
abbrev pub is_so : RawCircuit → List (List ℕ) → Reading → (ℕ → Option Value) → Fact → Bool
is_so c texts reading data_at (Offered port) = is_offered reading port
is_so c texts reading data_at (Empty cell) = is_empty reading cell
is_so c texts reading data_at (Known datum) = is_some (data_at datum)
is_so c texts reading data_at (Met k datum) = option_map_or (met_at c texts k) (data_at datum) false
is_so c texts reading data_at (Failed k datum) = option_map_or (λ value. not (met_at c texts k value)) (data_at datum) false

abbrev pub a_facts : RawCircuit → List ℕ → ℕ → Kind → List Fact
a_facts c names k Sync = []
a_facts c names k Lossy = []
a_facts c names k Drain = []
a_facts c names k (Fifo first) = Empty (cell_of c k) ∷ []
a_facts c names k (Filter guard) = (if has names (end_b c k) then Met k (end_a c k) else Failed k (end_a c k)) ∷ []
a_facts c names k (Transform fun) = []

abbrev pub end_facts : RawCircuit → List ℕ → ℕ → Bool → Channel → List Fact
end_facts c names k true channel = a_facts c names k channel.kind
end_facts c names k false channel = []

abbrev pub own_facts : RawCircuit → List ℕ → ℕ → List Fact
own_facts c names name =
    if nat_lt name (length c.ports)
    then Offered name ∷ []
    else option_map_or (end_facts c names ((name - length c.ports) / 2) (nat_eq ((name - length c.ports) % 2) 0)) (slice_get c.channels ((name - length c.ports) / 2)) []

-- what has to be so for a name of a firing with these names: it has a datum, and what its port or channel asks
abbrev pub facts_of : RawCircuit → List ℕ → ℕ → List Fact
facts_of c names name = Known name ∷ own_facts c names name

-- whether the reading allows the firing with these names
abbrev pub is_allowed : RawCircuit → List (List ℕ) → Reading → List ℕ → Bool
is_allowed c texts reading names =
    list_all (λ name. list_all (is_so c texts reading (flow_at c texts (sources_of reading) names)) (facts_of c names name)) names

abbrev pub table_at : List Table → ℕ → Table
table_at tables region = slice_index_or tables region []

-- the entry of the region's firing, where the reading allows it
abbrev pub planned_firing : RawCircuit → List (List ℕ) → ℕ → ℕ → Reading → List ℕ → Option Entry
planned_firing c texts region choice reading names =
    if is_allowed c texts reading names then Some (entry_of c region choice (data_in c texts (sources_of reading) names)) else None

abbrev pub planned_entry : RawCircuit → List (List ℕ) → List Table → ℕ → Reading → ℕ → Option Entry
planned_entry c texts tables region reading choice = option_and_then (planned_firing c texts region choice reading) (slice_get (table_at tables region) choice)

-- the entry is the one that is calculated for its choice
abbrev pub IsPlanned : RawCircuit → List (List ℕ) → List Table → ℕ → Reading → Entry → Type 0
IsPlanned c texts tables region reading entry = planned_entry c texts tables region reading entry.choice ≡ Some entry

-- the first firing of the region's table that the reading allows
abbrev pub planned_choice : RawCircuit → List (List ℕ) → List Table → ℕ → Reading → Option ℕ
planned_choice c texts tables region reading = position (is_allowed c texts reading) (table_at tables region)
