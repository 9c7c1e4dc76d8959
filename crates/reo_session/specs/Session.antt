-- What a session goes by.
use Rattle.std.specs.Prelude.{ℕ, List, map, Option}
use Rattle.reo_value.specs.declared.op.Op.{Op}
use Rattle.reo_net.specs.declared.circuit.RawCircuit.{RawCircuit}
use Rattle.reo_net.specs.declared.circuit.Step.{Step}
use Rattle.reo_net.specs.Checks.{IsChecked}
use Rattle.reo_net.specs.Scripts.{ScriptsFit}
use Rattle.reo_product.specs.declared.table.RegionTable.{RegionTable}
use Rattle.reo_product.specs.Table.{names_in}
use Rattle.reo_fabric.specs.declared.entry.Entry.{Entry}
use Rattle.reo_fabric.specs.declared.fabric.Fabric.{Fabric}
use Rattle.reo_fabric.specs.declared.reading.Reading.{Reading}
use Rattle.reo_flow.specs.Allows.{Table}
use Rattle.reo_schedule.specs.Board.{IsBoard}
use Rattle.reo_schedule.specs.UnderWay.{ScriptsPutValues}
use Rattle.reo_schedule.specs.Values.{BringsValues}
use Rattle.reo_trace.specs.declared.report.Called.{Called}
use Rattle.reo_trace.specs.declared.report.Ending.{Ending}
use Rattle.reo_schedule.specs.Plain.{IsPlainReport}
use Rattle.reo_session.specs.Plan.{GoesByTables}

-- the firings of each region
abbrev pub firings_of : List RegionTable → List Table
firings_of tables = map (λ table. map names_in table.firings) tables

-- the circuit with its regions, scripts that fit it, and one who chooses by its tables
pub record IsSet (c : RawCircuit) (texts : List (List ℕ)) (scripts : List (List Op)) (fabric : Fabric) (tables : List Table)
    (allows : ℕ → Reading → Entry → Type 0) (first_choice : ℕ → Reading → Option ℕ) (may_step : Entry → Type 0)
    (has_step : Entry → Step → Type 0) : Type 0 where
  pub checked : IsChecked c
  pub brings : BringsValues c texts
  pub fit : ScriptsFit c scripts
  pub put_values : ScriptsPutValues scripts
  pub board : IsBoard c fabric tables
  pub by_tables : GoesByTables c texts tables allows first_choice may_step has_step

-- the steps that were kept are, with these calls and this ending, a report of the plain schedule
pub record Reports (c : RawCircuit) (texts : List (List ℕ)) (scripts : List (List Op)) (limit : ℕ) (has_kept : List Step → Type 0)
    (calls : List (List Called)) (ending : Ending) : Type 0 where
  pub steps : List Step
  pub kept : has_kept steps
  pub plain : IsPlainReport c texts scripts limit (record { steps = steps; calls = calls; ending = ending })
