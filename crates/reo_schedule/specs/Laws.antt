-- Laws of the definitions, each the contract of a function that does nothing.
use Rattle.std.specs.Prelude.{◌≡◌, ℕ, ◌<◌, Bool, true, List, slice_get, Some, None, IsTrue, if◌then◌else◌}
use Rattle.reo_value.specs.declared.op.Op.{Op}
use Rattle.reo_net.specs.declared.circuit.RawCircuit.{RawCircuit}
use Rattle.reo_net.specs.declared.circuit.Step.{Step}
use Rattle.reo_net.specs.Checks.{IsChecked}
use Rattle.reo_net.specs.Regions.{Automaton, AreRegions}
use Rattle.reo_net.specs.Runs.{IsEnabled}
use Rattle.reo_net.specs.Steps.{State, IsState, datum, fires_in}
use Rattle.reo_product.specs.Laws.{IsPart}
use Rattle.reo_fabric.specs.declared.entry.Entry.{Entry}
use Rattle.reo_fabric.specs.declared.fabric.Fabric.{Fabric}
use Rattle.reo_fabric.specs.Laws.{AreValues}
use Rattle.reo_fabric.specs.Reading.{Offers, reading_of}
use Rattle.reo_flow.specs.Allows.{Table, Allows}
use Rattle.reo_trace.specs.declared.report.Report.{Report}
use Rattle.reo_schedule.specs.Board.{IsBoard}
use Rattle.reo_schedule.specs.Offers.{AreOffered}
use Rattle.reo_schedule.specs.Values.{BringsValues, PutValues}
use Rattle.reo_schedule.specs.Plain.{IsPlainReport}

-- The part of a step that has a name, in one region: an entry that the region's reading of a state and of offers allows has it as
-- its step, with the data of the whole. Two such parts that share a name are one, by a law on parts.
pub record IsAllowedPart (c : RawCircuit) (texts : List (List ℕ)) (fabric : Fabric) (tables : List Table) (state : State) (offers : Offers) (step : Step) (name : ℕ) : Type 0 where
  pub entry : Entry
  pub within : entry.region < fabric.regions
  pub roots : List Automaton
  pub regions : AreRegions c roots
  pub root : Automaton
  pub at : slice_get roots entry.region ≡ Some root
  -- what fires with an automaton that has the name
  pub mover : Automaton
  pub part : ℕ → Bool
  pub is_part : IsPart c root (fires_in (datum step)) mover part
  pub has : part name ≡ true
  pub allowed : Allows c texts tables entry.region (reading_of fabric entry.region state offers) entry
  pub as_there : (other : ℕ) → datum allowed.step other ≡ (if part other then datum step other else None)

-- An enabled step splits into connected firings, each allowed by its region's reading of the state and of the operations' offers:
-- each of its names stands in one.
abbrev pub EnabledStepsSplit : Type 0
EnabledStepsSplit =
    (c : RawCircuit) (texts : List (List ℕ)) (fabric : Fabric) (tables : List Table) → IsChecked c → BringsValues c texts → IsBoard c fabric tables
    → (state : State) → IsState c state → AreValues state → (ops : List Op) (offers : Offers) → PutValues ops → AreOffered ops offers
    → (enabled : IsEnabled c texts state ops) (name : ℕ) → IsTrue (fires_in (datum enabled.step) name)
    → IsAllowedPart c texts fabric tables state offers enabled.step name

-- where no region's reading of a state and of the operations' offers allows an entry, nothing is enabled
abbrev pub QuietIsNotEnabled : Type 0
QuietIsNotEnabled =
    (c : RawCircuit) (texts : List (List ℕ)) (fabric : Fabric) (tables : List Table) → IsChecked c → BringsValues c texts → IsBoard c fabric tables
    → (state : State) → IsState c state → AreValues state → (ops : List Op) (offers : Offers) → PutValues ops → AreOffered ops offers
    → ((region : ℕ) (entry : Entry) → region < fabric.regions → Allows c texts tables region (reading_of fabric region state offers) entry → ⊥)
    → IsEnabled c texts state ops → ⊥

-- a circuit, texts, scripts and a limit have at most one plain report
abbrev pub OnePlainReport : Type 0
OnePlainReport =
    (c : RawCircuit) (texts : List (List ℕ)) (scripts : List (List Op)) (limit : ℕ) (one other : Report) → IsChecked c
    → IsPlainReport c texts scripts limit one → IsPlainReport c texts scripts limit other → one ≡ other
