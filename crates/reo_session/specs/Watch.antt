-- Who waits at each port, and which regions may fire.
use Rattle.std.specs.Prelude.{◌≡◌, ◌<◌, ◌≤◌, ℕ, Bool, false, List, length, map, All, slice_get, Option, Some, None}
use Rattle.reo_value.specs.declared.value.Value.{Value}
use Rattle.reo_value.specs.declared.op.Op.{Op}
use Rattle.reo_value.specs.Op.{port_of}
use Rattle.reo_fabric.specs.declared.entry.Entry.{Entry}
use Rattle.reo_fabric.specs.declared.fabric.Fabric.{Fabric}
use Rattle.reo_fabric.specs.declared.reading.Reading.{Reading}
use Rattle.reo_fabric.specs.Entry.{at_place}
use Rattle.reo_fabric.specs.declared.port_state.PortState.{PortState}
use Rattle.reo_fabric.specs.Engine.{EngineState, engine_reading}
use Rattle.reo_trace.specs.declared.report.Called.{Called}
use Rattle.reo_schedule.specs.Calls.{IsNextOf}
use Rattle.reo_session.specs.declared.watch.Watch.{Watch}
use Rattle.reo_session.specs.Posted.{AreOpen, IsAnswered, IsCollected, ScriptsFitFabric, WithPorts}

-- it has the regions of this fabric's ports and cells
pub record IsWatch (fabric : Fabric) (watch : Watch) : Type 0 where
  pub awake : length watch.awake.items ≡ fabric.regions
  pub regions : watch.regions.items ≡ map (λ port. port.region) fabric.ports
  pub fillers : watch.fillers.items ≡ map (λ cell. cell.filler) fabric.cells
  pub takers : watch.takers.items ≡ map (λ cell. cell.taker) fabric.cells

-- it has those of the other watch
pub record HasPlacesOf (old new : Watch) : Type 0 where
  pub awake : length new.awake.items ≡ length old.awake.items
  pub regions : new.regions.items ≡ old.regions.items
  pub fillers : new.fillers.items ≡ old.fillers.items
  pub takers : new.takers.items ≡ old.takers.items

-- it has for the port of each component's next operation the component
abbrev pub Knows : List (List Op) → List (List Called) → List ℕ → Type 0
Knows scripts calls waiting = (k : ℕ) (op : Op) → IsNextOf scripts calls k op → slice_get waiting (port_of op) ≡ Some k

-- it has for the port of each of the first components' first operation, of so many, the component
abbrev pub KnowsFirst : List (List Op) → ℕ → List ℕ → Type 0
KnowsFirst scripts count waiting =
    (k : ℕ) (script : List Op) (op : Op) → k < count → slice_get scripts k ≡ Some script → slice_get script 0 ≡ Some op
    → slice_get waiting (port_of op) ≡ Some k

-- the region is not awake
abbrev pub IsAsleep : List Bool → ℕ → Type 0
IsAsleep awake region = slice_get awake region ≡ Some false

-- all regions from one number up to another are asleep
abbrev pub AreAsleep : List Bool → ℕ → ℕ → Type 0
AreAsleep awake from to = (region : ℕ) → from ≤ region → region < to → IsAsleep awake region

-- no region that is asleep has a choice
abbrev pub AsleepAreQuiet : {D : Type 0} → (ℕ → Reading → Option ℕ) → EngineState D → List Bool → Type 0
AsleepAreQuiet first_choice engine awake =
    (region : ℕ) → IsAsleep awake region → first_choice region (engine_reading engine region) ≡ None

-- the table has the region at none of the places
abbrev pub AreApart : List ℕ → List (ℕ × Value) → ℕ → Type 0
AreApart table places region = All (λ place. slice_get table place.0 ≡ Some region → ⊥) places

-- those that are asleep were so, and the table has none of them at one of the places
pub record WakesAt (table : List ℕ) (places : List (ℕ × Value)) (old new : List Bool) : Type 0 where
  pub long : length new ≡ length old
  pub were : (region : ℕ) → IsAsleep new region → IsAsleep old region
  pub apart : (region : ℕ) → IsAsleep new region → AreApart table places region

-- the entry names no place of the region
pub record IsUntouched (watch : Watch) (entry : Entry) (region : ℕ) : Type 0 where
  pub takes_fillers : AreApart watch.fillers.items entry.takes region
  pub takes_takers : AreApart watch.takers.items entry.takes region
  pub fills_fillers : AreApart watch.fillers.items entry.fills region
  pub fills_takers : AreApart watch.takers.items entry.fills region
  pub puts : AreApart watch.regions.items entry.puts region
  pub gets : AreApart watch.regions.items entry.gets region

-- those that are asleep were so, and the entry names no place of theirs
pub record WakesFor (entry : Entry) (old new : Watch) : Type 0 where
  pub places : HasPlacesOf old new
  pub waiting : new.waiting.items ≡ old.waiting.items
  pub were : (region : ℕ) → IsAsleep new.awake.items region → IsAsleep old.awake.items region
  pub apart : (region : ℕ) → IsAsleep new.awake.items region → IsUntouched old entry region

-- those that are asleep were so, and read what they read before
abbrev pub KeepsAsleep : {D : Type 0} → EngineState D → List Bool → EngineState D → List Bool → Type 0
KeepsAsleep old was new awake = (region : ℕ) → IsAsleep awake region
    → IsAsleep was region × (engine_reading new region ≡ engine_reading old region)

-- what is asked where answers are taken
pub record MayTake {D : Type 0} (scripts : List (List Op)) (engine : EngineState D) (watch : Watch)
    (calls : List (List Called)) : Type 0 where
  pub as_many : length calls ≡ length scripts
  pub fit : ScriptsFitFabric engine.fabric scripts
  pub long : length engine.ports ≡ length engine.fabric.ports
  pub are_open : AreOpen scripts calls engine.ports
  pub is_watch : IsWatch engine.fabric watch
  pub waiting : length watch.waiting.items ≡ length engine.fabric.ports
  pub knows : Knows scripts calls watch.waiting.items

-- some answers were taken, and the operations behind offered
pub record TakesAnswers {D : Type 0} (scripts : List (List Op)) (old : EngineState D) (was : Watch)
    (calls : List (List Called)) (new : EngineState D) (watch : Watch) (later : List (List Called)) : Type 0 where
  pub collected : IsCollected scripts old.ports calls new.ports later
  pub engine : WithPorts old new new.ports
  pub places : HasPlacesOf was watch
  pub waiting : length watch.waiting.items ≡ length was.waiting.items
  pub knows : Knows scripts later watch.waiting.items
  pub asleep : KeepsAsleep old was.awake.items new watch.awake.items

-- answers stand at most at these places
abbrev pub AreAnsweredAt : List (ℕ × Value) → List (ℕ × Value) → List PortState → Type 0
AreAnsweredAt puts gets ports = (port : ℕ) → at_place puts port ≡ None → at_place gets port ≡ None → IsAnswered ports port → ⊥

-- what is known of a run between two turns: who waits, and that what is asleep is quiet
pub record IsWatching {D : Type 0} (first_choice : ℕ → Reading → Option ℕ) (scripts : List (List Op)) (engine : EngineState D)
    (watch : Watch) (calls : List (List Called)) : Type 0 where
  pub is_watch : IsWatch engine.fabric watch
  pub waiting : length watch.waiting.items ≡ length engine.fabric.ports
  pub knows : Knows scripts calls watch.waiting.items
  pub quiet : AsleepAreQuiet first_choice engine watch.awake.items
