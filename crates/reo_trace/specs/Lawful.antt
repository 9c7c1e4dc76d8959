-- What it means that a report is lawful for a circuit, the components' scripts and a limit on steps.
use Rattle.std.specs.Prelude.{◌≡◌, ℕ, ◌+◌, ◌<◌, ◌≤◌, ◌↔◌, List, [], ◌∷◌, ◌++◌, length, slice_get, take, map, All, Option, Some, IsTrue}
use Rattle.std.specs.Option.{option_to_list, option_and_then}
use Rattle.std.specs.List.Sorted.{IsStrictlyIncreasing}
use Rattle.reo_value.specs.declared.value.Value.{Value}
use Rattle.reo_value.specs.declared.op.Op.{Op}
use Rattle.reo_value.specs.declared.op.Op.TheVariants.{Put, Get}
use Rattle.reo_value.specs.Op.{port_of}
use Rattle.reo_net.specs.declared.circuit.RawCircuit.{RawCircuit}
use Rattle.reo_net.specs.declared.circuit.Step.{Step}
use Rattle.reo_net.specs.Steps.{State, datum, fires_in}
use Rattle.reo_net.specs.Runs.{Run, IsEnabled, initial_state}
use Rattle.reo_net.specs.Regions.{Automaton, IsRegion, AreRegions, IsConnectedFiring}
use Rattle.reo_trace.specs.declared.report.Called.{Called}
use Rattle.reo_trace.specs.declared.report.Ending.{Ending}
use Rattle.reo_trace.specs.declared.report.Ending.TheVariants.{Done, Stuck, Limit}
use Rattle.reo_trace.specs.declared.report.Report.{Report}

-- an answered put has the value that it put
abbrev pub HasItsValue : Op → Value → Type 0
HasItsValue (Put p put) value = value ≡ put
HasItsValue (Get p) value = Unit {0}

-- the names of the step are a connected firing of one region
pub record FiresOneRegion (c : RawCircuit) (step : Step) : Type 0 where
  pub root : Automaton
  pub region : IsRegion c root
  pub connected : IsConnectedFiring c root (fires_in (datum step))

-- the calls are of the operations at the front of the script, one after the other, each in a later step
pub record AreFirstOf (script : List Op) (calls : List Called) : Type 0 where
  pub first : map (λ call. call.op) calls ≡ take (length calls) script
  pub rising : IsStrictlyIncreasing (map (λ call. call.number) calls)

-- there is a step with the call's number, and in it the call's port fires with the call's value
pub record StandsIn (steps : List Step) (call : Called) : Type 0 where
  pub step : Step
  pub found : slice_get steps call.number ≡ Some step
  pub fired : datum step (port_of call.op) ≡ Some call.value
  pub own : HasItsValue call.op call.value

-- the call at place i of component k
abbrev pub call_at : List (List Called) → ℕ → ℕ → Option Called
call_at calls k i = option_and_then (λ own. slice_get own i) (slice_get calls k)

-- the call at place i of component k is of this port, in the step of this number
pub record IsCallOf (calls : List (List Called)) (number port k i : ℕ) : Type 0 where
  pub call : Called
  pub found : call_at calls k i ≡ Some call
  pub at : port_of call.op ≡ port
  pub in_step : call.number ≡ number

-- exactly one call is of this port, in the step of this number
pub record IsAnsweredOnce (calls : List (List Called)) (number port : ℕ) : Type 0 where
  pub component : ℕ
  pub place : ℕ
  pub is_call : IsCallOf calls number port component place
  pub only : (k i : ℕ) → IsCallOf calls number port k i → (k ≡ component) × (i ≡ place)

-- every operation of the scripts is a call
abbrev pub AllAnswered : List (List Op) → List (List Called) → Type 0
AllAnswered scripts calls = map length calls ≡ map length scripts

-- each component's next operation, where it has one
abbrev pub next_ops : List (List Op) → List (List Called) → List Op
next_ops [] calls = []
next_ops (script ∷ scripts) [] = []
next_ops (script ∷ scripts) (own ∷ calls) = option_to_list (slice_get script (length own)) ++ next_ops scripts calls

-- how a run has ended after so many steps, in this state: each ending exactly in its case
pub record IsEndingOf (c : RawCircuit) (texts : List (List ℕ)) (scripts : List (List Op)) (calls : List (List Called)) (limit steps : ℕ) (final : State) (ending : Ending) : Type 0 where
  pub done : (ending ≡ Done) ↔ AllAnswered scripts calls
  pub at_limit : (ending ≡ Limit) ↔ ((AllAnswered scripts calls → ⊥) × (limit ≤ steps))
  pub stuck : (ending ≡ Stuck) ↔ ((AllAnswered scripts calls → ⊥) × (steps < limit) × (IsEnabled c texts final (next_ops scripts calls) → ⊥))

-- the report is lawful for a circuit whose constants name these texts, the components' scripts and a limit on steps
pub record IsLawfulReport (c : RawCircuit) (texts : List (List ℕ)) (scripts : List (List Op)) (limit : ℕ) (report : Report) : Type 0 where
  -- the steps are a run of the product from the initial state
  pub final : State
  pub run : Run c texts (initial_state c) report.steps final
  -- each is a connected firing of one region
  pub firings : All (FiresOneRegion c) report.steps
  -- there is a list of calls for each component, and its calls are its first operations
  pub components : length report.calls ≡ length scripts
  pub in_order : (k : ℕ) (script : List Op) (own : List Called) → slice_get scripts k ≡ Some script → slice_get report.calls k ≡ Some own → AreFirstOf script own
  -- each call stands in its step
  pub placed : (k i : ℕ) (call : Called) → call_at report.calls k i ≡ Some call → StandsIn report.steps call
  -- every port that fires in a step does so for one call
  pub once : (number : ℕ) (step : Step) (port : ℕ) → slice_get report.steps number ≡ Some step → port < length c.ports → IsTrue (fires_in (datum step) port) → IsAnsweredOnce report.calls number port
  -- the circuit's regions: there are fewer steps than the limit plus the number of regions
  pub roots : List Automaton
  pub regions : AreRegions c roots
  pub bound : length report.steps < limit + length roots
  pub ended : IsEndingOf c texts scripts report.calls limit (length report.steps) final report.ending
