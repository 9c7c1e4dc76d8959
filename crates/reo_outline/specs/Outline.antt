-- The text that tells the regions of a circuit: a line for each region with its firings, for each buffer, for each port.
use Rattle.std.specs.Prelude.{ℕ, ◌+◌, nat_eq, List, ◌++◌, length, flat_map, count_by, Bool, false, Option, codes, decimal}
use Rattle.std.specs.Option.{option_map_or}
use Rattle.reo_net.specs.declared.circuit.RawCircuit.{RawCircuit}
use Rattle.reo_cut.specs.declared.cut.Cut.{Cut}
use Rattle.reo_cut.specs.declared.cut.CellCut.{CellCut}
use Rattle.reo_product.specs.declared.table.Firing.{Firing}
use Rattle.reo_product.specs.declared.table.RegionTable.{RegionTable}
use Rattle.reo_trace.specs.ReportText.{name_text}
use Rattle.reo_trace.specs.Passes.{numbered}

-- a name, parted by a blank from what stands before it
abbrev pub name_part : RawCircuit → List (List ℕ) → ℕ → List ℕ
name_part c nodes name = codes " " ++ name_text c nodes name

-- the names that fire at once
abbrev pub firing_line : RawCircuit → List (List ℕ) → Firing → List ℕ
firing_line c nodes firing = codes "firing" ++ flat_map (name_part c nodes) firing.names ++ codes "\n"

-- whether an automaton of this region is of the region with the number
abbrev pub is_of : ℕ → Option ℕ → Bool
is_of region entry = option_map_or (λ number. nat_eq number region) entry false

-- a region by its number from 1: how many automata it has, how many firings, how many vertices grow in it
abbrev pub head_line : ℕ → ℕ → RegionTable → List ℕ
head_line number automata table =
    codes "region " ++ decimal (number + 1) ++ codes " automata " ++ decimal automata ++ codes " firings " ++ decimal (length table.firings) ++ codes " growth "
    ++ decimal table.growth ++ codes "\n"

-- with its firings, in the order of its table
abbrev pub region_lines : RawCircuit → List (List ℕ) → Cut → ℕ → RegionTable → List ℕ
region_lines c nodes cut number table =
    head_line number (count_by (is_of number) cut.region_of) table ++ flat_map (firing_line c nodes) table.firings

-- a buffer by its channel, with the regions that fill it and take from it
abbrev pub cell_line : CellCut → List ℕ
cell_line cell = codes "cell " ++ decimal (cell.channel + 1) ++ codes " from " ++ decimal (cell.filler + 1) ++ codes " to " ++ decimal (cell.taker + 1) ++ codes "\n"

-- a port with its region
abbrev pub port_line : RawCircuit → List (List ℕ) → ℕ → ℕ → List ℕ
port_line c nodes number region = codes "port " ++ name_text c nodes number ++ codes " region " ++ decimal (region + 1) ++ codes "\n"

abbrev pub outline_text : RawCircuit → List (List ℕ) → Cut → List RegionTable → List ℕ
outline_text c nodes cut tables =
    codes "regions " ++ decimal cut.regions ++ codes "\n" ++ numbered (region_lines c nodes cut) 0 tables ++ flat_map cell_line cut.cells
    ++ numbered (port_line c nodes) 0 cut.port_region
