-- What an entry is for the data of a step: values at the places of cells and ports.
use Rattle.std.specs.Prelude.{ℕ, ◌+◌, List, [], ◌∷◌, length, filter, if◌then◌else◌, Bool, true, false, not, Option, Some, None}
use Rattle.std.specs.List.{range_with_len}
use Rattle.reo_net.specs.declared.circuit.Port.{Port}
use Rattle.reo_net.specs.declared.circuit.RawCircuit.{RawCircuit}
use Rattle.reo_net.specs.Names.{end_a, end_b, port_name}
use Rattle.reo_net.specs.Stand.{is_put}
use Rattle.reo_net.specs.Steps.{Data}
use Rattle.reo_cut.specs.Cut.{is_buffer}
use Rattle.reo_fabric.specs.declared.entry.Entry.{Entry}

-- the place with the value, where there is one, before other places
abbrev pub placed : {V : Type 0} → ℕ → Option V → List (ℕ × V) → List (ℕ × V)
placed place None places = places
placed place (Some value) places = (place, value) ∷ places

-- the places of the elements for which a function gives a value, with the values, where the first element has the place `first`
abbrev pub places_with : {A V : Type 0} → (ℕ → A → Option V) → ℕ → List A → List (ℕ × V)
places_with f first [] = []
places_with f first (x ∷ xs) = placed first (f first x) (places_with f (first + 1) xs)

-- the channels that are FIFO1s, in their order: the cell of each is its place in this list
abbrev pub buffers : RawCircuit → List ℕ
buffers c = filter (is_buffer c) (range_with_len 0 (length c.channels))

-- the cells of the FIFO1s for which there is a value, with the values
abbrev pub at_cells : {V : Type 0} → RawCircuit → (ℕ → Option V) → List (ℕ × V)
at_cells c value = places_with (λ cell k. value k) 0 (buffers c)

-- the value at a put port, where put ports are asked for, and at a get port, where get ports are
abbrev pub value_at_port : {V : Type 0} → Bool → (ℕ → Option V) → ℕ → Port → Option V
value_at_port puts value p port = if (if puts then is_put port.way else not (is_put port.way)) then value (port_name p) else None

-- the put ports, or the get ports, at which there is a value, with the values
abbrev pub at_ports : {V : Type 0} → RawCircuit → Bool → (ℕ → Option V) → List (ℕ × V)
at_ports c puts value = places_with (value_at_port puts value) 0 c.ports

-- What a firing with these data does: it takes what comes out at the end b of a FIFO1, and fills with what goes in at the
-- end a; it puts and gets the data at the ports.
abbrev pub entry_of : RawCircuit → ℕ → ℕ → Data → Entry
entry_of c region choice d = record {
  region = region;
  choice = choice;
  takes = at_cells c (λ k. d (end_b c k));
  fills = at_cells c (λ k. d (end_a c k));
  puts = at_ports c true d;
  gets = at_ports c false d;
}
