-- The regions of a circuit, as a schedule goes by them.
use Rattle.std.specs.Prelude.{◌≡◌, ℕ, List, length, Option}
use Rattle.reo_net.specs.declared.circuit.RawCircuit.{RawCircuit}
use Rattle.reo_cut.specs.declared.cut.Cut.{Cut}
use Rattle.reo_cut.specs.Cut.{IsCut}
use Rattle.reo_fabric.specs.declared.fabric.Fabric.{Fabric}
use Rattle.reo_flow.specs.Allows.{Table, AreTables}
use Rattle.reo_plan.specs.Fabric.{IsFabricOf}

-- the fabric of the circuit that is cut, whoever uses its ports, and the tables of all its regions
pub record IsBoard (c : RawCircuit) (fabric : Fabric) (tables : List Table) : Type 0 where
  pub cut : Cut
  pub is_cut : IsCut c cut
  pub owners : List (Option ℕ)
  pub each_owner : length owners ≡ length c.ports
  pub parties : ℕ
  pub is_fabric : IsFabricOf c cut owners parties fabric
  pub are_tables : AreTables c tables
