-- Where a name stands, by calculation: the laws of names say that this is what the definitions say.
use Rattle.std.specs.Prelude.{ℕ, ◌-◌, ◌/◌, ◌%◌, nat_lt, nat_eq, if◌then◌else◌, Bool, true, false, length, slice_get, Option}
use Rattle.std.specs.Option.{option_map}
use Rattle.reo_value.specs.declared.op.Way.{Way}
use Rattle.reo_value.specs.declared.op.Way.TheVariants.{Put, Get}
use Rattle.reo_net.specs.declared.circuit.Channel.{Channel}
use Rattle.reo_net.specs.declared.circuit.Port.{Port}
use Rattle.reo_net.specs.declared.circuit.RawCircuit.{RawCircuit}
use Rattle.reo_net.specs.declared.stand.Stand.{Stand}
use Rattle.reo_net.specs.Kind.{is_incoming, direction_of_b}

abbrev pub is_put : Way → Bool
is_put Put = true
is_put Get = false

-- a port stands at its node
abbrev pub stand_of_port : Port → Stand
stand_of_port port = record { node = port.node; incoming = is_put port.way }

-- and an end of a channel at the node of that end
abbrev pub stand_of_end : Bool → Channel → Stand
stand_of_end true channel = record { node = channel.a; incoming = false }
stand_of_end false channel = record { node = channel.b; incoming = is_incoming (direction_of_b channel.kind) }

-- the node of a name, and whether data come into the node there; past the last name there is none
abbrev pub stand_of : RawCircuit → ℕ → Option Stand
stand_of c name =
    if nat_lt name (length c.ports)
    then option_map stand_of_port (slice_get c.ports name)
    else option_map (stand_of_end (nat_eq ((name - length c.ports) % 2) 0)) (slice_get c.channels ((name - length c.ports) / 2))
