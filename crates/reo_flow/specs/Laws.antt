-- Laws of the definitions, each the contract of a function that does nothing.
use Rattle.std.specs.Prelude.{◌≡◌, ◌↔◌, ℕ, List, [], ◌∷◌, slice_get, Some}
use Rattle.reo_net.specs.declared.circuit.RawCircuit.{RawCircuit}
use Rattle.reo_net.specs.declared.circuit.Step.{Step}
use Rattle.reo_net.specs.Checks.{IsChecked}
use Rattle.reo_net.specs.Regions.{Automaton, AreRegions, IsConnectedFiring}
use Rattle.reo_net.specs.Runs.{Run}
use Rattle.reo_net.specs.Steps.{State, IsState, datum, fires_in, ProductStep}
use Rattle.reo_fabric.specs.declared.entry.Entry.{Entry}
use Rattle.reo_fabric.specs.declared.reading.Reading.{Reading}
use Rattle.reo_fabric.specs.Entry.{Agrees, carried_out}
use Rattle.reo_fabric.specs.History.{state_after, IsLawfulHistory}
use Rattle.reo_flow.specs.Step.{IsStepOf}
use Rattle.reo_flow.specs.Allows.{Table, AreTables, Allows, IsFirstChoice}
use Rattle.reo_flow.specs.Flow.{IsPlanned, planned_choice}

-- for one reading and one firing at most one entry is allowed
abbrev pub OneEntryAtMost : Type 0
OneEntryAtMost =
    (c : RawCircuit) (texts : List (List ℕ)) (tables : List Table) → IsChecked c → AreTables c tables → (region : ℕ) (reading : Reading) (entry other : Entry)
    → Allows c texts tables region reading entry → Allows c texts tables region reading other → entry.choice ≡ other.choice → entry ≡ other

-- and an entry has at most one step
abbrev pub OneStepAtMost : Type 0
OneStepAtMost =
    (c : RawCircuit) (texts : List (List ℕ)) (tables : List Table) → IsChecked c → AreTables c tables → (region : ℕ) (reading : Reading) (entry : Entry)
    → (allowed : Allows c texts tables region reading entry) → (step : Step) → IsStepOf c texts allowed.names entry step → step ≡ allowed.step

-- the names of the step are a connected firing of the region
pub record FiresRegion (c : RawCircuit) (region : ℕ) (step : Step) : Type 0 where
  pub roots : List Automaton
  pub regions : AreRegions c roots
  pub root : Automaton
  pub at : slice_get roots region ≡ Some root
  pub connected : IsConnectedFiring c root (fires_in (datum step))

-- The step of an entry that a reading allows, and that agrees with a state, is one of the product, from this state to the one
-- after the entry, and its names are a connected firing of the entry's region.
abbrev pub EntriesAreSteps : Type 0
EntriesAreSteps =
    (c : RawCircuit) (texts : List (List ℕ)) (tables : List Table) → AreTables c tables → (region : ℕ) (reading : Reading) (entry : Entry)
    → (allowed : Allows c texts tables region reading entry) → (state : State) → IsState c state → Agrees state entry
    → ProductStep c texts state allowed.step (carried_out state entry) × FiresRegion c entry.region allowed.step

-- some reading allows each of these entries, which have these steps
abbrev pub AreAllowed : RawCircuit → List (List ℕ) → List Table → List Entry → List Step → Type 0
AreAllowed c texts tables [] steps = steps ≡ []
AreAllowed c texts tables (entry ∷ entries) [] = ⊥
AreAllowed c texts tables (entry ∷ entries) (step ∷ steps) =
    ((reading : Reading) × (allowed : Allows c texts tables entry.region reading entry) × (step ≡ allowed.step)) × AreAllowed c texts tables entries steps

-- a lawful history of allowed entries is a run, to the state that it leaves
abbrev pub HistoriesAreRuns : Type 0
HistoriesAreRuns =
    (c : RawCircuit) (texts : List (List ℕ)) (tables : List Table) → AreTables c tables → (entries : List Entry) (steps : List Step) → AreAllowed c texts tables entries steps
    → (state : State) → IsState c state → IsLawfulHistory state entries → Run c texts state steps (state_after state entries)

-- the entries that are planned by calculation are those that the reading allows
abbrev pub PlannedAreAllowed : Type 0
PlannedAreAllowed =
    (c : RawCircuit) (texts : List (List ℕ)) (tables : List Table) → IsChecked c → AreTables c tables → (region : ℕ) (reading : Reading) (entry : Entry)
    → IsPlanned c texts tables region reading entry ↔ Allows c texts tables region reading entry

-- and the choice that is calculated is the first
abbrev pub PlannedIsFirst : Type 0
PlannedIsFirst =
    (c : RawCircuit) (texts : List (List ℕ)) (tables : List Table) → IsChecked c → AreTables c tables → (region : ℕ) (reading : Reading)
    → IsFirstChoice (Allows c texts tables region reading) (planned_choice c texts tables region reading)
