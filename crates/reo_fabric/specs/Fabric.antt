-- Which fabrics are lawful, and whose a cell or a port is.
use Rattle.std.specs.Prelude.{◌≡◌, ℕ, ◌<◌, ◌^◌, length, map, slice_get, All, Some, IfSome}
use Rattle.reo_value.specs.declared.op.Way.{Way}
use Rattle.reo_fabric.specs.declared.fabric.CellSpec.{CellSpec}
use Rattle.reo_fabric.specs.declared.fabric.PortSpec.{PortSpec}
use Rattle.reo_fabric.specs.declared.fabric.Fabric.{Fabric}
use Rattle.reo_fabric.specs.Entry.{State}

-- all numbers name regions and parties that there are, and of nothing are there too many
pub record IsLawfulFabric (fabric : Fabric) : Type 0 where
  pub few_regions : fabric.regions < 2 ^ 31
  pub few_parties : fabric.parties < 2 ^ 31
  pub few_cells : length fabric.cells < 2 ^ 31
  pub few_ports : length fabric.ports < 2 ^ 31
  pub fillers : All (λ cell. cell.filler < fabric.regions) fabric.cells
  pub takers : All (λ cell. cell.taker < fabric.regions) fabric.cells
  pub port_regions : All (λ port. port.region < fabric.regions) fabric.ports
  pub owners : All (λ port. IfSome port.owner (λ party. party < fabric.parties)) fabric.ports

-- what is in the cells at first
abbrev pub first_state : Fabric → State
first_state fabric = map (λ cell. cell.first) fabric.cells

-- the region takes from the cell
pub record IsTaker (fabric : Fabric) (region cell : ℕ) : Type 0 where
  pub spec : CellSpec
  pub found : slice_get fabric.cells cell ≡ Some spec
  pub taker : spec.taker ≡ region

-- the region fills the cell
pub record IsFiller (fabric : Fabric) (region cell : ℕ) : Type 0 where
  pub spec : CellSpec
  pub found : slice_get fabric.cells cell ≡ Some spec
  pub filler : spec.filler ≡ region

-- the port is at the region, and data go this way there
pub record IsPort (fabric : Fabric) (way : Way) (region port : ℕ) : Type 0 where
  pub spec : PortSpec
  pub found : slice_get fabric.ports port ≡ Some spec
  pub at : spec.region ≡ region
  pub goes : spec.way ≡ way
