-- Laws of the definitions, each the contract of a function that does nothing.
use Rattle.std.specs.Prelude.{◌≡◌, ℕ, List, length, Option}
use Rattle.reo_net.specs.declared.circuit.RawCircuit.{RawCircuit}
use Rattle.reo_net.specs.Checks.{IsChecked}
use Rattle.reo_net.specs.Runs.{initial_state}
use Rattle.reo_cut.specs.declared.cut.Cut.{Cut}
use Rattle.reo_cut.specs.Cut.{IsCut}
use Rattle.reo_fabric.specs.declared.fabric.Fabric.{Fabric}
use Rattle.reo_fabric.specs.Fabric.{first_state}
use Rattle.reo_fabric.specs.Decider.{Fits}
use Rattle.reo_flow.specs.Allows.{Table, AreTables}
use Rattle.reo_flow.specs.Flow.{IsPlanned}
use Rattle.reo_plan.specs.Fabric.{IsFabricOf}

-- the entries that a plan of the circuit allows fit each fabric of the circuit
abbrev pub PlansFit : Type 0
PlansFit =
    (c : RawCircuit) (cut : Cut) (texts : List (List ℕ)) (tables : List Table) (owners : List (Option ℕ)) (parties : ℕ) (fabric : Fabric)
    → IsChecked c → IsCut c cut → AreTables c tables → length owners ≡ length c.ports → IsFabricOf c cut owners parties fabric → Fits fabric (IsPlanned c texts tables)

-- what is in the cells of such a fabric at first is the circuit's initial state
abbrev pub FirstStatesAreInitial : Type 0
FirstStatesAreInitial =
    (c : RawCircuit) (cut : Cut) (owners : List (Option ℕ)) (parties : ℕ) (fabric : Fabric) → IsCut c cut → IsFabricOf c cut owners parties fabric → first_state fabric ≡ initial_state c
