-- The cells and ports of a firing's names, with the slots there, by calculation.
use Rattle.std.specs.Prelude.{ℕ, ◌-◌, ◌/◌, ◌%◌, nat_lt, nat_eq, ◌&&◌, not, if◌then◌else◌, Bool, List, length, filter_map, slice_get, Option, Some, None}
use Rattle.std.specs.Option.{option_map, option_and_then}
use Rattle.reo_net.specs.declared.circuit.Channel.{Channel}
use Rattle.reo_net.specs.declared.circuit.Port.{Port}
use Rattle.reo_net.specs.declared.circuit.RawCircuit.{RawCircuit}
use Rattle.reo_net.specs.Kind.{is_fifo}
use Rattle.reo_net.specs.Stand.{is_put}
use Rattle.reo_net.specs.Steps.{cell_of}
use Rattle.reo_plan.specs.inside.Rows.{slot_in}

-- the cell of a channel that is a FIFO1, where the end is b, or a
abbrev pub cell_in : RawCircuit → Bool → ℕ → Bool → Channel → Option ℕ
cell_in c at_b k is_a channel = if (if at_b then not is_a else is_a) && is_fifo channel.kind then Some (cell_of c k) else None

-- the cell at whose end b, or end a, the name is
abbrev pub cell_at : RawCircuit → Bool → ℕ → Option ℕ
cell_at c at_b name =
    if nat_lt name (length c.ports)
    then None
    else option_and_then (cell_in c at_b ((name - length c.ports) / 2) (nat_eq ((name - length c.ports) % 2) 0)) (slice_get c.channels ((name - length c.ports) / 2))

abbrev pub port_in : Bool → ℕ → Port → Option ℕ
port_in puts p port = if (if puts then is_put port.way else not (is_put port.way)) then Some p else None

-- the put port, or the get port, that the name is
abbrev pub port_at : RawCircuit → Bool → ℕ → Option ℕ
port_at c puts name = option_and_then (port_in puts name) (slice_get c.ports name)

-- the place with the slot, where there are both
abbrev pub slot_at_place : Option ℕ → Option ℕ → Option (ℕ × ℕ)
slot_at_place place slot = option_and_then (λ p. option_map (λ s. (p, s)) slot) place

-- the places of names, with the names' slots
abbrev pub placed_slots : (ℕ → Option ℕ) → List (Option ℕ) → List ℕ → List (ℕ × ℕ)
placed_slots place table names = filter_map (λ name. slot_at_place (place name) (slot_in table name)) names
