-- What stands at the ports of an engine, of the components' operations.
use Rattle.std.specs.Prelude.{◌≡◌, ℕ, ◌<◌, ◌⊎◌, List, [], ◌∷◌, ◌++◌, length, slice_get, slice_set, Option, Some, None}
use Rattle.std.specs.Option.{option_map, option_to_list}
use Rattle.reo_value.specs.declared.value.Value.{Value}
use Rattle.reo_value.specs.declared.op.Op.{Op}
use Rattle.reo_value.specs.Op.{port_of, way_of}
use Rattle.reo_net.specs.Scripts.{IsOperationOf}
use Rattle.reo_fabric.specs.declared.fabric.PortSpec.{PortSpec}
use Rattle.reo_fabric.specs.declared.fabric.Fabric.{Fabric}
use Rattle.reo_fabric.specs.declared.port_state.PortState.{PortState}
use Rattle.reo_fabric.specs.declared.port_state.PortState.TheVariants.{Idle, Offered, Answered}
use Rattle.reo_fabric.specs.Engine.{EngineState, port_at, answer_of}
use Rattle.reo_trace.specs.declared.report.Called.{Called}
use Rattle.reo_schedule.specs.Calls.{IsNextOf}
use Rattle.reo_schedule.specs.Offers.{offered_by}

-- each operation is at a port of the fabric, of its way, and one component alone uses a port
pub record ScriptsFitFabric (fabric : Fabric) (scripts : List (List Op)) : Type 0 where
  pub ported : (k : ℕ) (op : Op) → IsOperationOf scripts k op
      → (spec : PortSpec) × (slice_get fabric.ports (port_of op) ≡ Some spec) × (spec.way ≡ way_of op)
  pub unshared : (j k : ℕ) (op other : Op) → IsOperationOf scripts j op → IsOperationOf scripts k other → port_of op ≡ port_of other → j ≡ k

-- no component's next operation is at the port
abbrev pub IsFree : List (List Op) → List (List Called) → ℕ → Type 0
IsFree scripts calls port = (k : ℕ) (op : Op) → IsNextOf scripts calls k op → port_of op ≡ port → ⊥

-- each component's next operation is offered at its port, and nothing stands at the other ports
pub record ArePosted (scripts : List (List Op)) (calls : List (List Called)) (ports : List PortState) : Type 0 where
  pub posted : (k : ℕ) (op : Op) → IsNextOf scripts calls k op → port_at ports (port_of op) ≡ Offered (offered_by op)
  pub idle : (port : ℕ) → IsFree scripts calls port → port_at ports port ≡ Idle

-- an answer stands at the port
pub record IsAnswered (ports : List PortState) (port : ℕ) : Type 0 where
  pub value : Value
  pub number : ℕ
  pub at : port_at ports port ≡ Answered value number

-- the same, where some may have been answered
pub record AreOpen (scripts : List (List Op)) (calls : List (List Called)) (ports : List PortState) : Type 0 where
  pub open_there : (k : ℕ) (op : Op) → IsNextOf scripts calls k op
      → (port_at ports (port_of op) ≡ Offered (offered_by op)) ⊎ IsAnswered ports (port_of op)
  pub idle : (port : ℕ) → IsFree scripts calls port → port_at ports port ≡ Idle

-- the call that the answer at its port makes of an operation
abbrev pub call_by : List PortState → Op → Option Called
call_by ports op = option_map (λ answer. record { op = op; value = answer.0; number = answer.1 }) (answer_of (port_at ports (port_of op)))

abbrev pub calls_by : List PortState → Option Op → List Called
calls_by ports None = []
calls_by ports (Some op) = option_to_list (call_by ports op)

-- the calls, with those that the answers make
abbrev pub collected : List (List Op) → List PortState → List (List Called) → List (List Called)
collected [] ports calls = []
collected (script ∷ scripts) ports [] = []
collected (script ∷ scripts) ports (own ∷ calls) = (own ++ calls_by ports (slice_get script (length own))) ∷ collected scripts ports calls

-- an operation is offered at its port, where there is one
abbrev pub with_posted : List PortState → Option Op → List PortState
with_posted ports None = ports
with_posted ports (Some op) = slice_set ports (port_of op) (Offered (offered_by op))

-- after the answer to an operation is taken and the next is offered, where there was one
abbrev pub after_answer : List PortState → Op → Option Op → Option (Value × ℕ) → List PortState
after_answer ports op next None = ports
after_answer ports op next (Some answer) = with_posted (slice_set ports (port_of op) Idle) next

-- of a component whose next operation is this, and the one behind it that
abbrev pub after_own : List PortState → Option Op → Option Op → List PortState
after_own ports None behind = ports
after_own ports (Some op) behind = after_answer ports op behind (answer_of (port_at ports (port_of op)))

-- only the ports changed
abbrev pub WithPorts : {D : Type 0} → EngineState D → EngineState D → List PortState → Type 0
WithPorts old new ports = new ≡ record old { ports = ports }

-- an operation may be offered: its port is idle, and it goes the port's way
pub record MayPost (fabric : Fabric) (ports : List PortState) (op : Op) : Type 0 where
  pub idle : slice_get ports (port_of op) ≡ Some Idle
  pub spec : PortSpec
  pub found : slice_get fabric.ports (port_of op) ≡ Some spec
  pub way : spec.way ≡ way_of op

-- the answers to a component's next operation can be taken, and the operation behind it offered then
pub record MayCollect (fabric : Fabric) (ports : List PortState) (next behind : Option Op) : Type 0 where
  pub within : (op : Op) → next ≡ Some op → port_of op < length ports
  pub then_posts : (op other : Op) → next ≡ Some op → behind ≡ Some other → MayPost fabric (slice_set ports (port_of op) Idle) other

-- some answers were collected, and those that stand still make the calls that all made before
pub record IsCollected (scripts : List (List Op)) (was_ports : List PortState) (was : List (List Called))
    (ports : List PortState) (calls : List (List Called)) : Type 0 where
  pub as_many : length calls ≡ length was
  pub ports_long : length ports ≡ length was_ports
  pub are_open : AreOpen scripts calls ports
  pub same : collected scripts ports calls ≡ collected scripts was_ports was
  pub fewer : (port : ℕ) → IsAnswered ports port → IsAnswered was_ports port

-- who waits at each port, when the operation is offered
abbrev pub waiting_with : List ℕ → ℕ → Option Op → List ℕ
waiting_with waiting component None = waiting
waiting_with waiting component (Some op) = slice_set waiting (port_of op) component

-- when the answer to an operation is taken and the next is offered, where there was one
abbrev pub waiting_after : List ℕ → ℕ → Option Op → Option (Value × ℕ) → List ℕ
waiting_after waiting component behind None = waiting
waiting_after waiting component behind (Some answer) = waiting_with waiting component behind

-- of a component whose next operation is this, and the one behind it that
abbrev pub waiting_own : List PortState → List ℕ → ℕ → Option Op → Option Op → List ℕ
waiting_own ports waiting component None behind = waiting
waiting_own ports waiting component (Some op) behind = waiting_after waiting component behind (answer_of (port_at ports (port_of op)))
