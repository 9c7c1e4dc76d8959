-- The plain engine: its state, and what its calls make of it.
use Rattle.std.specs.Prelude.{◌≡◌, ℕ, ◌+◌, List, map, slice_index_or, slice_set, Option, Some, None}
use Rattle.reo_value.specs.declared.value.Value.{Value}
use Rattle.reo_fabric.specs.declared.entry.Entry.{Entry}
use Rattle.reo_fabric.specs.declared.fabric.Fabric.{Fabric}
use Rattle.reo_fabric.specs.declared.reading.Reading.{Reading}
use Rattle.reo_fabric.specs.declared.port_state.PortState.{PortState}
use Rattle.reo_fabric.specs.declared.port_state.PortState.TheVariants.{Idle, Offered, Answered}
use Rattle.reo_fabric.specs.Entry.{State, Agrees, at_place, at_each_place, carried_out}
use Rattle.reo_fabric.specs.Decider.{IsChosen}
use Rattle.reo_fabric.specs.Fabric.{first_state}
use Rattle.reo_fabric.specs.Reading.{Offers, reading_of}

pub record EngineState (D : Type 0) : Type 0 where
  pub fabric : Fabric
  pub decider : D
  pub cells : State
  pub ports : List PortState
  -- how many entries were carried out, and the last of them
  pub count : ℕ
  pub last : Option Entry

-- at first all cells hold their first values, and all ports are idle
abbrev pub started : {D : Type 0} → Fabric → D → EngineState D
started fabric decider = record {
  fabric = fabric;
  decider = decider;
  cells = first_state fabric;
  ports = map (λ port. Idle) fabric.ports;
  count = 0;
  last = None;
}

-- what is at a port
abbrev pub port_at : List PortState → ℕ → PortState
port_at ports port = slice_index_or ports port Idle

-- the offer at a port
abbrev pub offer_of : PortState → Option (Option Value)
offer_of Idle = None
offer_of (Offered value) = Some value
offer_of (Answered value number) = None

-- the answer at a port
abbrev pub answer_of : PortState → Option (Value × ℕ)
answer_of Idle = None
answer_of (Offered value) = None
answer_of (Answered value number) = Some (value, number)

abbrev pub offers_of : List PortState → Offers
offers_of ports = map offer_of ports

-- what the region reads
abbrev pub engine_reading : {D : Type 0} → EngineState D → ℕ → Reading
engine_reading engine region = reading_of engine.fabric region engine.cells (offers_of engine.ports)

-- what is at a port after an entry of this number, by what it puts and gets there
abbrev pub port_after : ℕ → Option Value → Option Value → PortState → PortState
port_after number (Some put) get state = Answered put number
port_after number None (Some got) state = Answered got number
port_after number None None state = state

-- the ports after an entry of this number: where it puts or gets they are answered
abbrev pub answered : List PortState → ℕ → Entry → List PortState
answered ports number entry =
    at_each_place (λ port. port_after number (at_place entry.puts port) (at_place entry.gets port) (port_at ports port)) ports

-- the engine after this entry
abbrev pub after_entry : {D : Type 0} → EngineState D → Entry → EngineState D
after_entry engine entry = record engine {
  cells = carried_out engine.cells entry;
  ports = answered engine.ports engine.count entry;
  count = engine.count + 1;
  last = Some entry;
}

-- the engine with this at a port
abbrev pub with_port : {D : Type 0} → EngineState D → ℕ → PortState → EngineState D
with_port engine port state = record engine { ports = slice_set engine.ports port state }

-- the engine carries out the entry that its decider chooses for what the region reads, which agrees with
-- its state, and gives the entry's number
pub record Fires {D : Type 0} (Allows : ℕ → Reading → Entry → Type 0) (first_choice : ℕ → Reading → Option ℕ) (region : ℕ) (old new : EngineState D) (number : ℕ) : Type 0 where
  pub entry : Entry
  pub chosen : IsChosen Allows first_choice region (engine_reading old region) entry
  pub agrees : Agrees old.cells entry
  pub counted : number ≡ old.count
  pub after : new ≡ after_entry old entry

-- the engine without the answer at a port
abbrev pub without_answer : {D : Type 0} → EngineState D → ℕ → PortState → EngineState D
without_answer engine port Idle = engine
without_answer engine port (Offered value) = engine
without_answer engine port (Answered value number) = with_port engine port Idle

abbrev pub taken_answer : {D : Type 0} → EngineState D → ℕ → EngineState D
taken_answer engine port = without_answer engine port (port_at engine.ports port)
