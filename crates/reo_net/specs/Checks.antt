-- What is asked of a circuit, and why one is refused.
use Rattle.std.specs.Prelude.{◌≢◌, ℕ, ◌<◌, ◌≤◌, ◌⊎◌, ◌^◌, length, All, IsTrue}
use Rattle.reo_value.specs.declared.op.Way.{Way}
use Rattle.reo_value.specs.declared.op.Way.TheVariants.{Put, Get}
use Rattle.reo_net.specs.declared.kind.Kind.{Kind}
use Rattle.reo_net.specs.declared.circuit.RawCircuit.{RawCircuit}
use Rattle.reo_net.specs.Kind.{Incoming, Outgoing, is_fifo, texts_of_kind}
use Rattle.reo_net.specs.Names.{IsPortAt, IsEndA, IsEndB}
use Rattle.reo_net.specs.Loops.{IsOnLoop}

-- each text that the kind names has a number below this
abbrev pub HasTextsBelow : ℕ → Kind → Type 0
HasTextsBelow texts kind = All (λ text. text < texts) (texts_of_kind kind)

-- all channels are FIFO1s
abbrev pub IsFifoOnly : RawCircuit → Type 0
IsFifoOnly c = All (λ channel. IsTrue (is_fifo channel.kind)) c.channels

-- the numbers in a circuit name nodes and texts that there are
pub record HasKnownNumbers (c : RawCircuit) : Type 0 where
  pub ends_a : All (λ channel. channel.a < c.nodes) c.channels
  pub ends_b : All (λ channel. channel.b < c.nodes) c.channels
  pub port_nodes : All (λ port. port.node < c.nodes) c.ports
  pub constants : All (λ channel. HasTextsBelow c.texts channel.kind) c.channels

-- a circuit as it is read
pub record IsCircuit (c : RawCircuit) : Type 0 where
  pub few_nodes : c.nodes ≤ 2 ^ 24
  pub few_texts : c.texts ≤ 2 ^ 24
  pub known : HasKnownNumbers c

abbrev pub HasManyChannels : RawCircuit → Type 0
HasManyChannels c = 512 < length c.channels

abbrev pub HasManyPorts : RawCircuit → Type 0
HasManyPorts c = 128 < length c.ports

-- two different ports are at the node
pub record HasTwoPorts (c : RawCircuit) (node : ℕ) : Type 0 where
  pub first : ℕ
  pub second : ℕ
  pub differ : first ≢ second
  pub first_way : Way
  pub second_way : Way
  pub is_first : IsPortAt c first_way node first
  pub is_second : IsPortAt c second_way node second

-- a channel has an end at the node where data go as at a port of this way: into the node at a put port, out of it at a get port
abbrev pub HasEndLike : RawCircuit → Way → ℕ → Type 0
HasEndLike c Put node = (name : ℕ) × IsEndB c Incoming node name
HasEndLike c Get node = (name : ℕ) × (IsEndA c node name ⊎ IsEndB c Outgoing node name)

-- the node has a port, and an end of a channel where data go as at the port
pub record IsMixed (c : RawCircuit) (node : ℕ) : Type 0 where
  pub way : Way
  pub port : ℕ
  pub is_port : IsPortAt c way node port
  pub like : HasEndLike c way node

-- a circuit that passes all checks
pub record IsChecked (c : RawCircuit) : Type 0 where
  pub circuit : IsCircuit c
  pub few_channels : length c.channels ≤ 512
  pub few_ports : length c.ports ≤ 128
  pub one_port : (node : ℕ) → HasTwoPorts c node → ⊥
  pub unmixed : (node : ℕ) → IsMixed c node → ⊥
  pub acyclic : (node : ℕ) → IsOnLoop c node → ⊥
