-- A run of the plain schedule that is under way: what it did so far is lawful.
use Rattle.std.specs.Prelude.{◌≡◌, ℕ, ◌<◌, ◌≤◌, List, [], ◌∷◌, ◌++◌, length, slice_get, All, Some, IfSome, IsTrue}
use Rattle.reo_value.specs.declared.op.Op.{Op}
use Rattle.reo_value.specs.Code.{IsValue}
use Rattle.reo_net.specs.declared.circuit.RawCircuit.{RawCircuit}
use Rattle.reo_net.specs.declared.circuit.Step.{Step}
use Rattle.reo_net.specs.Scripts.{IsOperationOf}
use Rattle.reo_net.specs.Steps.{State, IsState, datum, fires_in}
use Rattle.reo_net.specs.Runs.{Run, initial_state}
use Rattle.reo_fabric.specs.declared.fabric.Fabric.{Fabric}
use Rattle.reo_fabric.specs.Laws.{AreValues}
use Rattle.reo_flow.specs.Allows.{Table}
use Rattle.reo_trace.specs.declared.report.Called.{Called}
use Rattle.reo_trace.specs.Lawful.{FiresOneRegion, AreFirstOf, StandsIn, IsAnsweredOnce, call_at}
use Rattle.reo_schedule.specs.Calls.{calls_of}
use Rattle.reo_schedule.specs.Offers.{offered_by}
use Rattle.reo_schedule.specs.Turn.{Turn, steps_of, state_of, IsNext}

-- what operations of the scripts put are values
abbrev pub ScriptsPutValues : List (List Op) → Type 0
ScriptsPutValues scripts = (k : ℕ) (op : Op) → IsOperationOf scripts k op → IfSome (offered_by op) IsValue

-- each is the next after those before it
abbrev pub Led : {A : Type 0} → (List A → A → Type 0) → List A → List A → Type 0
Led Next before [] = Unit {0}
Led Next before (x ∷ xs) = Next before x × Led Next (before ++ x ∷ []) xs

-- what a lawful report asks of steps and calls
pub record IsLawfulSoFar (c : RawCircuit) (texts : List (List ℕ)) (scripts : List (List Op)) (state : State) (steps : List Step) (calls : List (List Called)) : Type 0 where
  pub is_state : IsState c state
  pub run : Run c texts (initial_state c) steps state
  pub firings : All (FiresOneRegion c) steps
  pub components : length calls ≡ length scripts
  pub in_order : (k : ℕ) (script : List Op) (own : List Called) → slice_get scripts k ≡ Some script → slice_get calls k ≡ Some own → AreFirstOf script own
  pub placed : (k i : ℕ) (call : Called) → call_at calls k i ≡ Some call → StandsIn steps call
  pub once : (number : ℕ) (step : Step) (port : ℕ) → slice_get steps number ≡ Some step → port < length c.ports → IsTrue (fires_in (datum step) port) → IsAnsweredOnce calls number port

-- turns of the plain schedule, from the start
pub record IsUnderWay (c : RawCircuit) (texts : List (List ℕ)) (scripts : List (List Op)) (fabric : Fabric) (tables : List Table) (limit : ℕ) (turns : List Turn) : Type 0 where
  pub led : Led (IsNext c texts scripts fabric tables limit) [] turns
  pub few : length turns ≤ limit
  pub lawful : IsLawfulSoFar c texts scripts (state_of c turns) (steps_of turns) (calls_of scripts (steps_of turns))
  pub values : AreValues (state_of c turns)
