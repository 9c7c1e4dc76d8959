-- What it means that a circuit is cut into its regions.
use Rattle.std.specs.Prelude.{◌≡◌, ℕ, ◌+◌, List, length, map, filter, slice_get, Bool, true, false, Some, None}
use Rattle.std.specs.List.{range_with_len}
use Rattle.std.specs.Option.{option_map_or}
use Rattle.reo_net.specs.declared.circuit.Channel.{Channel}
use Rattle.reo_net.specs.declared.circuit.Port.{Port}
use Rattle.reo_net.specs.declared.circuit.RawCircuit.{RawCircuit}
use Rattle.reo_net.specs.Kind.{is_fifo}
use Rattle.reo_net.specs.Regions.{Automaton, OfNode, automaton_number, IsSynchronous, SameRegion, AreRegions}
use Rattle.reo_cut.specs.declared.cut.Cut.{Cut}
use Rattle.reo_cut.specs.declared.cut.CellCut.{CellCut}

-- whether the channel of this number is a FIFO1
abbrev pub is_buffer : RawCircuit → ℕ → Bool
is_buffer c k = option_map_or (λ channel. is_fifo channel.kind) (slice_get c.channels k) false

-- the automaton is of the region at this place in the list of all regions
pub record IsOfRegion (c : RawCircuit) (roots : List Automaton) (x : Automaton) (region : ℕ) : Type 0 where
  pub root : Automaton
  pub at : slice_get roots region ≡ Some root
  pub same : SameRegion c root x

-- the cell of a FIFO1, with the region that fills it, of the node at its end a, and the one that takes from it
pub record IsCellCut (c : RawCircuit) (roots : List Automaton) (cell : CellCut) : Type 0 where
  pub channel : Channel
  pub found : slice_get c.channels cell.channel ≡ Some channel
  pub filler : IsOfRegion c roots (OfNode channel.a) cell.filler
  pub taker : IsOfRegion c roots (OfNode channel.b) cell.taker

pub record IsCut (c : RawCircuit) (cut : Cut) : Type 0 where
  -- the circuit's regions, by their least automata, and how many they are
  pub roots : List Automaton
  pub regions : AreRegions c roots
  pub count : cut.regions ≡ length roots
  -- the region of each automaton that is no FIFO1, by its number, and none of a FIFO1
  pub automata : length cut.region_of ≡ length c.channels + c.nodes
  pub region_of : (x : Automaton) → IsSynchronous c x → (region : ℕ) × (slice_get cut.region_of (automaton_number c x) ≡ Some (Some region)) × IsOfRegion c roots x region
  pub buffers : (k : ℕ) → is_buffer c k ≡ true → slice_get cut.region_of k ≡ Some None
  -- the FIFO1s, in the order of the channels
  pub cells : map (λ cell. cell.channel) cut.cells ≡ filter (is_buffer c) (range_with_len 0 (length c.channels))
  pub each_cell : (i : ℕ) (cell : CellCut) → slice_get cut.cells i ≡ Some cell → IsCellCut c roots cell
  -- the region of each port is that of its node
  pub ports : length cut.port_region ≡ length c.ports
  pub port_region : (p : ℕ) (port : Port) → slice_get c.ports p ≡ Some port → (region : ℕ) × (slice_get cut.port_region p ≡ Some region) × IsOfRegion c roots (OfNode port.node) region
