-- The numbers of regions, by labels: as the code counts them.
use Rattle.std.specs.Prelude.{ℕ, zero, suc, ◌+◌, List, [], ◌∷◌, ◌++◌, not, ◌&&◌, nat_eq, if◌then◌else◌, slice_get, length, Bool, Option, Some, None}
use Rattle.std.specs.Option.{option_map_or}
use Rattle.reo_net.specs.declared.circuit.Channel.{Channel}
use Rattle.reo_net.specs.declared.circuit.RawCircuit.{RawCircuit}
use Rattle.reo_net.specs.Kind.{is_fifo}
use Rattle.reo_cut.specs.Labels.{label_at}
use Rattle.reo_cut.specs.Cut.{is_buffer}
use Rattle.reo_cut.specs.declared.cut.CellCut.{CellCut}

-- an automaton that is the least of its region
abbrev pub is_root : RawCircuit → List ℕ → ℕ → Bool
is_root c labels x = not (is_buffer c x) && nat_eq (label_at labels x) x

-- the region of an automaton, where its number is in the list
abbrev pub region_at : RawCircuit → List ℕ → ℕ → Option ℕ
region_at c numbers x = if is_buffer c x then None else Some (label_at numbers x)

abbrev pub cell_cut : RawCircuit → List ℕ → ℕ → Channel → CellCut
cell_cut c numbers k channel = record {
  channel = k;
  filler = label_at numbers (length c.channels + channel.a);
  taker = label_at numbers (length c.channels + channel.b);
}

-- the cell of a channel that is a FIFO1
abbrev pub own_cell : RawCircuit → List ℕ → ℕ → Channel → List CellCut
own_cell c numbers k channel = if is_fifo channel.kind then cell_cut c numbers k channel ∷ [] else []

-- the cells of the first channels, so many
abbrev pub cells_below : RawCircuit → List ℕ → ℕ → List CellCut
cells_below c numbers zero = []
cells_below c numbers (suc k) = cells_below c numbers k ++ option_map_or (own_cell c numbers k) (slice_get c.channels k) []
