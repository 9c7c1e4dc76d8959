-- The names of a circuit: its ports, then the two ends of each channel. Each belongs to one node.
use Rattle.std.specs.Prelude.{◌≡◌, ℕ, ◌+◌, ◌*◌, ◌⊎◌, length, slice_get, Some}
use Rattle.reo_value.specs.declared.op.Way.{Way}
use Rattle.reo_value.specs.declared.op.Way.TheVariants.{Put, Get}
use Rattle.reo_net.specs.declared.circuit.Channel.{Channel}
use Rattle.reo_net.specs.declared.circuit.RawCircuit.{RawCircuit}
use Rattle.reo_net.specs.Kind.{Direction, Incoming, Outgoing, direction_of_b}

-- the name of port p
abbrev pub port_name : ℕ → ℕ
port_name p = p

-- the name of end a of channel k
abbrev pub end_a : RawCircuit → ℕ → ℕ
end_a c k = length c.ports + 2 * k

-- the name of end b of channel k
abbrev pub end_b : RawCircuit → ℕ → ℕ
end_b c k = length c.ports + 2 * k + 1

-- how many names there are
abbrev pub name_count : RawCircuit → ℕ
name_count c = length c.ports + 2 * length c.channels

-- the name is that of a port at the node, where components put or get
pub record IsPortAt (c : RawCircuit) (way : Way) (node name : ℕ) : Type 0 where
  pub port : slice_get c.ports name ≡ Some (record { node = node; way = way })

-- the name is that of end a of a channel, at the node: data go into the channel there
pub record IsEndA (c : RawCircuit) (node name : ℕ) : Type 0 where
  pub number : ℕ
  pub channel : Channel
  pub found : slice_get c.channels number ≡ Some channel
  pub at : channel.a ≡ node
  pub named : name ≡ end_a c number

-- the name is that of end b of a channel, at the node, and data go this way there
pub record IsEndB (c : RawCircuit) (direction : Direction) (node name : ℕ) : Type 0 where
  pub number : ℕ
  pub channel : Channel
  pub found : slice_get c.channels number ≡ Some channel
  pub at : channel.b ≡ node
  pub way : direction_of_b channel.kind ≡ direction
  pub named : name ≡ end_b c number

-- data come into the node by this name: from a put port, or out of a channel
abbrev pub IsIncoming : RawCircuit → ℕ → ℕ → Type 0
IsIncoming c node name = IsPortAt c Put node name ⊎ IsEndB c Incoming node name

-- data go out of the node by this name: to a get port, or into a channel
abbrev pub IsOutgoing : RawCircuit → ℕ → ℕ → Type 0
IsOutgoing c node name = IsPortAt c Get node name ⊎ (IsEndA c node name ⊎ IsEndB c Outgoing node name)

-- the name belongs to the node
abbrev pub IsNameOf : RawCircuit → ℕ → ℕ → Type 0
IsNameOf c node name = IsIncoming c node name ⊎ IsOutgoing c node name
