-- What a plan is to those who use it: the circuit, its texts and the tables of its regions.
use Rattle.std.specs.Prelude.{ℕ, List, map}
use Rattle.reo_net.specs.declared.circuit.RawCircuit.{RawCircuit}
use Rattle.reo_product.specs.declared.table.RegionTable.{RegionTable}
use Rattle.reo_product.specs.Table.{names_in}
use Rattle.reo_flow.specs.Allows.{Table}

pub record PlanState : Type 0 where
  pub circuit : RawCircuit
  pub texts : List (List ℕ)
  pub tables : List Table

-- the firings of a region's table
abbrev pub firings_in : RegionTable → Table
firings_in table = map names_in table.firings

abbrev pub plan_of : RawCircuit → List (List ℕ) → List RegionTable → PlanState
plan_of c texts tables = record { circuit = c; texts = texts; tables = map firings_in tables }
