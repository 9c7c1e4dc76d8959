-- Which entries a reading allows, and which of them is chosen.
use Rattle.std.specs.Prelude.{◌≡◌, ℕ, ◌<◌, List, length, slice_get, All, Option, Some, None}
use Rattle.reo_value.specs.Code.{code_of}
use Rattle.reo_net.specs.declared.circuit.RawCircuit.{RawCircuit}
use Rattle.reo_net.specs.declared.circuit.Step.{Step}
use Rattle.reo_net.specs.Regions.{Automaton, AreRegions}
use Rattle.reo_product.specs.Table.{IsTableOf}
use Rattle.reo_fabric.specs.declared.entry.Entry.{Entry}
use Rattle.reo_fabric.specs.declared.reading.Reading.{Reading}
use Rattle.reo_fabric.specs.Entry.{at_place}
use Rattle.reo_fabric.specs.Decider.{port_words}
use Rattle.reo_flow.specs.Step.{IsStepOf}

-- the firings of a region, each a list of names
abbrev pub Table : Type 0
Table = List (List ℕ)

-- the tables of all regions, in their order
pub record AreTables (c : RawCircuit) (tables : List Table) : Type 0 where
  pub roots : List Automaton
  pub regions : AreRegions c roots
  pub as_many : length tables ≡ length roots
  pub each : (region : ℕ) (root : Automaton) (table : Table) → slice_get roots region ≡ Some root → slice_get tables region ≡ Some table → (growth : ℕ) × IsTableOf c root growth table

-- the cells that the entry takes from read their values, those that it fills read empty; its ports read as offered, put ports
-- with their data
pub record IsRead (reading : Reading) (entry : Entry) : Type 0 where
  pub takes : All (λ p. at_place reading.cells p.0 ≡ Some (code_of p.1)) entry.takes
  pub fills : All (λ p. at_place reading.cells p.0 ≡ Some 0) entry.fills
  pub puts : All (λ p. port_words reading p.0 ≡ Some (1, code_of p.1)) entry.puts
  pub gets : All (λ p. (word : ℕ) × (port_words reading p.0 ≡ Some (1, word))) entry.gets

-- The reading allows the region the entry: its firing is in the region's table, it is read so, and there is a step of it.
pub record Allows (c : RawCircuit) (texts : List (List ℕ)) (tables : List Table) (region : ℕ) (reading : Reading) (entry : Entry) : Type 0 where
  pub of_region : entry.region ≡ region
  pub table : Table
  pub tabled : slice_get tables region ≡ Some table
  pub names : List ℕ
  pub firing : slice_get table entry.choice ≡ Some names
  pub read : IsRead reading entry
  pub step : Step
  pub is_step : IsStepOf c texts names entry step

-- the choice is the first for which an entry is allowed, or none where no entry is
abbrev pub IsFirstChoice : (Entry → Type 0) → Option ℕ → Type 0
IsFirstChoice Allowed None = (entry : Entry) → Allowed entry → ⊥
IsFirstChoice Allowed (Some choice) =
    ((entry : Entry) × Allowed entry × (entry.choice ≡ choice)) × ((other : Entry) → Allowed other → other.choice < choice → ⊥)
