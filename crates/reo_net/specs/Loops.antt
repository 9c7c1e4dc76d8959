-- Synchronous loops, and an order in which data go through the nodes at once.
use Rattle.std.specs.Prelude.{ℕ, Bool, ◌&&◌, nat_eq}
use Rattle.std.specs.List.{list_any}
use Rattle.reo_graph.specs.Paths.{Path}
use Rattle.reo_graph.specs.Closure.{rank}
use Rattle.reo_net.specs.declared.circuit.RawCircuit.{RawCircuit}
use Rattle.reo_net.specs.Kind.{hands_on}

-- whether a channel that hands data on at once leads from the one node to the other
abbrev pub hands_over : RawCircuit → ℕ → ℕ → Bool
hands_over c x y = list_any (λ channel. hands_on channel.kind && (nat_eq channel.a x && nat_eq channel.b y)) c.channels

-- such channels lead, one behind the other, from the node back to it
abbrev pub IsOnLoop : RawCircuit → ℕ → Type 0
IsOnLoop c node = Path (hands_over c) node node

-- from how many nodes such channels lead to the node
abbrev pub node_rank : RawCircuit → ℕ → ℕ
node_rank c node = rank (hands_over c) c.nodes node
