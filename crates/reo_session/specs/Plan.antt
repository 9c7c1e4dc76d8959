-- What a session asks of the one who chooses.
use Rattle.std.specs.Prelude.{◌≡◌, ℕ, ◌↔◌, List, Option}
use Rattle.reo_net.specs.declared.circuit.RawCircuit.{RawCircuit}
use Rattle.reo_net.specs.declared.circuit.Step.{Step}
use Rattle.reo_fabric.specs.declared.entry.Entry.{Entry}
use Rattle.reo_fabric.specs.declared.reading.Reading.{Reading}
use Rattle.reo_flow.specs.Allows.{Table, Allows, IsFirstChoice}
use Rattle.reo_flow.specs.Step.{IsStepOf}

-- It allows what these tables allow, chooses the first, and knows the steps.
pub record GoesByTables (c : RawCircuit) (texts : List (List ℕ)) (tables : List Table) (allows : ℕ → Reading → Entry → Type 0)
    (first_choice : ℕ → Reading → Option ℕ) (may_step : Entry → Type 0) (has_step : Entry → Step → Type 0) : Type 0 where
  pub allowed : (region : ℕ) (reading : Reading) (entry : Entry) → allows region reading entry ↔ Allows c texts tables region reading entry
  pub first : (region : ℕ) (reading : Reading) → IsFirstChoice (Allows c texts tables region reading) (first_choice region reading)
  pub stepped : (region : ℕ) (reading : Reading) (entry : Entry) → allows region reading entry → may_step entry
  pub steps : (entry : Entry) (step : Step) → has_step entry step
      → (region : ℕ) (reading : Reading) (is : Allows c texts tables region reading entry)
      → IsStepOf c texts is.names entry step

-- some reading allows its region the entry
abbrev pub IsAllowedSomewhere : RawCircuit → List (List ℕ) → List Table → Entry → Type 0
IsAllowedSomewhere c texts tables entry = (reading : Reading) × Allows c texts tables entry.region reading entry

-- the step is the entry's, whatever reading allows it
abbrev pub IsStepWherever : RawCircuit → List (List ℕ) → List Table → Entry → Step → Type 0
IsStepWherever c texts tables entry step = (reading : Reading) (allowed : Allows c texts tables entry.region reading entry)
    → step.pairs ≡ allowed.step.pairs
