-- What a session has of a circuit, and why it has it not.
use Rattle.std.specs.Prelude.{◌≡◌, ℕ, ◌<◌, List, length, map, slice_get, Some}
use Rattle.reo_net.specs.declared.circuit.RawCircuit.{RawCircuit}
use Rattle.reo_net.specs.declared.net.CheckRefusal.{CheckRefusal}
use Rattle.reo_net.specs.declared.net.CheckRefusal.TheVariants as check
use Rattle.reo_net.specs.Checks.{IsChecked}
use Rattle.reo_net.specs.Refusals.{Refuses}
use Rattle.reo_net.specs.Regions.{Automaton, AreRegions}
use Rattle.reo_cut.specs.declared.cut.Cut.{Cut}
use Rattle.reo_cut.specs.Cut.{IsCut}
use Rattle.reo_product.specs.declared.table.RegionTable.{RegionTable}
use Rattle.reo_product.specs.declared.table.ProductRefusal.{ProductRefusal}
use Rattle.reo_product.specs.declared.table.ProductRefusal.TheVariants as product
use Rattle.reo_product.specs.Table.{IsTableOf, IsTooLarge, names_in}
use Rattle.reo_flow.specs.Allows.{Table}
use Rattle.reo_session.specs.declared.preparation.Prepared.{Prepared}
use Rattle.reo_session.specs.declared.preparation.SessionRefusal.{SessionRefusal}
use Rattle.reo_session.specs.declared.preparation.SessionRefusal.TheVariants.{Check, TooLarge, NoMemory}

-- the table of the region of root, with its number
pub record IsTableOfRegion (c : RawCircuit) (region : ℕ) (root : Automaton) (table : RegionTable) : Type 0 where
  pub number : table.region ≡ region
  pub is_table : IsTableOf c root table.growth (map names_in table.firings)

-- it stands at the region's place
pub record IsTableAt (c : RawCircuit) (tables : List RegionTable) (region : ℕ) (root : Automaton) : Type 0 where
  pub table : RegionTable
  pub found : slice_get tables region ≡ Some table
  pub is : IsTableOfRegion c region root table

-- the tables of all regions, in their order
pub record AreRegionTables (c : RawCircuit) (cut : Cut) (tables : List RegionTable) : Type 0 where
  pub as_many : length tables ≡ cut.regions
  pub each : (is_cut : IsCut c cut) (region : ℕ) (root : Automaton) → slice_get is_cut.roots region ≡ Some root → IsTableAt c tables region root

-- the circuit, which passes the checks, its cut and its tables
pub record IsPrepared (c : RawCircuit) (prepared : Prepared) : Type 0 where
  pub net : prepared.net ≡ c
  pub checked : IsChecked c
  pub is_cut : IsCut c prepared.cut
  pub are_tables : AreRegionTables c prepared.cut prepared.tables

abbrev pub HasTable : RawCircuit → Automaton → Type 0
HasTable c root = (growth : ℕ) × (table : Table) × IsTableOf c root growth table

-- the region is too large, and those before it have tables
pub record IsLeastTooLarge (c : RawCircuit) (region count : ℕ) : Type 0 where
  pub roots : List Automaton
  pub regions : AreRegions c roots
  pub root : Automaton
  pub at : slice_get roots region ≡ Some root
  pub large : IsTooLarge c root count
  pub least : (lesser : ℕ) (other : Automaton) → lesser < region → slice_get roots lesser ≡ Some other → HasTable c other

-- The checks come first, then the least region that is too large. `NoMemory` says nothing of the circuit.
abbrev pub Declines : RawCircuit → SessionRefusal → Type 0
Declines c (Check refusal) = Refuses c refusal × (refusal ≡ check.NoMemory → ⊥)
Declines c (TooLarge region count) = IsChecked c × IsLeastTooLarge c region count
Declines c NoMemory = Unit {0}

-- the refusal of a session
abbrev pub of_check : CheckRefusal → SessionRefusal
of_check (check.TooManyChannels count) = Check (check.TooManyChannels count)
of_check (check.TooManyPorts count) = Check (check.TooManyPorts count)
of_check (check.PortTwice node) = Check (check.PortTwice node)
of_check (check.MixedPort node) = Check (check.MixedPort node)
of_check (check.SyncLoop node) = Check (check.SyncLoop node)
of_check check.NoMemory = NoMemory

abbrev pub of_table : ProductRefusal → SessionRefusal
of_table (product.TooLarge region count) = TooLarge region count
of_table product.NoMemory = NoMemory

-- why a region has no table here
abbrev pub DeclinesRegion : RawCircuit → ℕ → Automaton → SessionRefusal → Type 0
DeclinesRegion c region root (Check refusal) = ⊥
DeclinesRegion c region root (TooLarge number count) = (number ≡ region) × IsTooLarge c root count
DeclinesRegion c region root NoMemory = Unit {0}
