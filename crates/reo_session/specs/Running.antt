-- A session that is under way.
use Rattle.std.specs.Prelude.{◌≡◌, ℕ, ◌<◌, ◌≤◌, ◌&&◌, ◌==◌, Bool, true, List, [], ◌∷◌, length, slice_get, Option, Some, None}
use Rattle.reo_value.specs.declared.op.Op.{Op}
use Rattle.reo_value.specs.Op.{port_of}
use Rattle.reo_net.specs.declared.circuit.RawCircuit.{RawCircuit}
use Rattle.reo_net.specs.declared.circuit.Step.{Step}
use Rattle.reo_fabric.specs.declared.entry.Entry.{Entry}
use Rattle.reo_fabric.specs.declared.fabric.Fabric.{Fabric}
use Rattle.reo_fabric.specs.declared.port_state.PortState.{PortState}
use Rattle.reo_fabric.specs.declared.port_state.PortState.TheVariants.{Idle, Offered}
use Rattle.reo_fabric.specs.declared.reading.Reading.{Reading}
use Rattle.reo_fabric.specs.Engine.{EngineState, port_at, engine_reading, Fires}
use Rattle.reo_flow.specs.Allows.{Table}
use Rattle.reo_trace.specs.declared.report.Called.{Called}
use Rattle.reo_schedule.specs.Calls.{calls_of}
use Rattle.reo_schedule.specs.Offers.{offered_by}
use Rattle.reo_schedule.specs.Turn.{Turn, steps_of, state_of, place_of, rank_from}
use Rattle.reo_schedule.specs.UnderWay.{IsUnderWay}
use Rattle.reo_session.specs.Posted.{ArePosted}

-- what an engine has done, and what was kept of it, are turns of the plain schedule
pub record IsRunning {D : Type 0} (c : RawCircuit) (texts : List (List ℕ)) (scripts : List (List Op)) (fabric : Fabric)
    (tables : List Table) (limit : ℕ) (decider : D)
    (engine : EngineState D) (has_kept : List Step → Type 0) (calls : List (List Called)) (place : ℕ) : Type 0 where
  pub turns : List Turn
  pub under_way : IsUnderWay c texts scripts fabric tables limit turns
  pub kept : has_kept (steps_of turns)
  pub calls_are : calls ≡ calls_of scripts (steps_of turns)
  pub place_is : place ≡ place_of turns
  pub within : place ≤ fabric.regions
  pub fabric_is : engine.fabric ≡ fabric
  pub decider_is : engine.decider ≡ decider
  pub cells_are : engine.cells ≡ state_of c turns
  pub counted : engine.count ≡ length turns
  pub ports_long : length engine.ports ≡ length c.ports
  pub posted : ArePosted scripts calls engine.ports

-- of steps that are kept by nobody
abbrev pub any_steps : List Step → Type 0
any_steps steps = Unit {0}

-- the region fires, and none before it in cyclic order from a place on has a choice
pub record FiresNext {D : Type 0} (allows : ℕ → Reading → Entry → Type 0) (first_choice : ℕ → Reading → Option ℕ)
    (old new : EngineState D) (place region : ℕ) : Type 0 where
  pub within : region < old.fabric.regions
  pub number : ℕ
  pub fires : Fires allows first_choice region old new number
  pub passed : (earlier : ℕ) → earlier < old.fabric.regions
      → rank_from old.fabric.regions place earlier < rank_from old.fabric.regions place region
      → first_choice earlier (engine_reading old earlier) ≡ None

-- the first operations of the first components, so many, are offered, and nothing else
pub record IsPosting (scripts : List (List Op)) (count ports_count : ℕ) (ports : List PortState) : Type 0 where
  pub ports_long : length ports ≡ ports_count
  pub posted : (k : ℕ) (script : List Op) (op : Op) → k < count → slice_get scripts k ≡ Some script
      → slice_get script 0 ≡ Some op → port_at ports (port_of op) ≡ Offered (offered_by op)
  pub idle : (port : ℕ)
      → ((k : ℕ) (script : List Op) (op : Op) → k < count → slice_get scripts k ≡ Some script → slice_get script 0 ≡ Some op → port_of op ≡ port → ⊥) → port_at ports port ≡ Idle

-- each script has as many operations as calls
abbrev pub same_lengths : List (List Op) → List (List Called) → Bool
same_lengths [] calls = true
same_lengths (script ∷ scripts) [] = true
same_lengths (script ∷ scripts) (own ∷ calls) = (length script == length own) && same_lengths scripts calls
