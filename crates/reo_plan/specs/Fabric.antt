-- The cells and ports of a circuit that is cut.
use Rattle.std.specs.Prelude.{◌≡◌, ℕ, List, length, map, slice_get, Option, Some, None}
use Rattle.std.specs.Option.{option_map_or}
use Rattle.reo_value.specs.declared.value.Value.{Value}
use Rattle.reo_net.specs.declared.kind.Kind.{Kind}
use Rattle.reo_net.specs.declared.kind.Kind.TheVariants.{Sync, Lossy, Drain, Fifo, Filter, Transform}
use Rattle.reo_net.specs.declared.circuit.Port.{Port}
use Rattle.reo_net.specs.declared.circuit.RawCircuit.{RawCircuit}
use Rattle.reo_cut.specs.declared.cut.Cut.{Cut}
use Rattle.reo_cut.specs.declared.cut.CellCut.{CellCut}
use Rattle.reo_fabric.specs.declared.fabric.CellSpec.{CellSpec}
use Rattle.reo_fabric.specs.declared.fabric.Fabric.{Fabric}

-- what a buffer of this kind holds at first
abbrev pub held_at_first : Kind → Option Value
held_at_first Sync = None
held_at_first Lossy = None
held_at_first Drain = None
held_at_first (Fifo first) = first
held_at_first (Filter guard) = None
held_at_first (Transform fun) = None

-- the cell of a FIFO1: the regions that fill it and take from it, and what it holds at first
abbrev pub cell_spec : RawCircuit → CellCut → CellSpec
cell_spec c cell = record {
  filler = cell.filler;
  taker = cell.taker;
  first = option_map_or (λ channel. held_at_first channel.kind) (slice_get c.channels cell.channel) None;
}

-- It has the regions of the cut and so many parties, the cells of the cut in their order, and the circuit's ports, each with its
-- region and its owner.
pub record IsFabricOf (c : RawCircuit) (cut : Cut) (owners : List (Option ℕ)) (parties : ℕ) (fabric : Fabric) : Type 0 where
  pub regions : fabric.regions ≡ cut.regions
  pub parties_are : fabric.parties ≡ parties
  pub cells : fabric.cells ≡ map (cell_spec c) cut.cells
  pub as_many : length fabric.ports ≡ length c.ports
  pub ports : (p : ℕ) (port : Port) (region : ℕ) (owner : Option ℕ) → slice_get c.ports p ≡ Some port → slice_get cut.port_region p ≡ Some region → slice_get owners p ≡ Some owner
      → slice_get fabric.ports p ≡ Some (record { way = port.way; region = region; owner = owner })
