-- The rows of all regions, each of the firing at its place in the table.
use Rattle.std.specs.Prelude.{ℕ, ◌<◌, ◌≤◌, List, [], ◌∷◌, length, All, Bool}
use Rattle.std.specs.List.{list_all}
use Rattle.std.specs.List.Sorted.{IsStrictlyIncreasing}
use Rattle.reo_fabric.specs.declared.reading.Reading.{Reading}
use Rattle.reo_flow.specs.Flow.{sources_of, is_so}
use Rattle.reo_plan.specs.inside.Slots.{slot_value}
use Rattle.reo_net.specs.declared.circuit.RawCircuit.{RawCircuit}
use Rattle.reo_net.specs.Names.{name_count}
use Rattle.reo_flow.specs.Allows.{Table}
use Rattle.reo_plan.specs.declared.row.Row.{Row}
use Rattle.reo_plan.specs.inside.Rows.{IsRow}

abbrev pub AreRows : RawCircuit → Table → List Row → Type 0
AreRows c [] [] = Unit {0}
AreRows c (names ∷ table) (row ∷ rows) = IsRow c names row × AreRows c table rows
AreRows c [] (row ∷ rows) = ⊥
AreRows c (names ∷ table) [] = ⊥

abbrev pub ArePlans : RawCircuit → List Table → List (List Row) → Type 0
ArePlans c [] [] = Unit {0}
ArePlans c (table ∷ tables) (rows ∷ plans) = (length table ≤ 4096) × AreRows c table rows × ArePlans c tables plans
ArePlans c [] (rows ∷ plans) = ⊥
ArePlans c (table ∷ tables) [] = ⊥

-- the names are the circuit's, and rise
pub record IsOfNames (c : RawCircuit) (names : List ℕ) : Type 0 where
  pub below : All (λ name. name < name_count c) names
  pub rising : IsStrictlyIncreasing names

-- whether all that the row asks is so
abbrev pub fits : RawCircuit → List (List ℕ) → Reading → Row → Bool
fits c texts reading row = list_all (is_so c texts reading (slot_value c texts (sources_of reading) row.slots)) row.facts
