-- What may happen at once, by the automata of the channels and of the nodes, and of all of them together.
use Rattle.std.specs.Prelude.{◌≡◌, ◌≢◌, ℕ, ◌<◌, ◌⊎◌, List, [], length, slice_get, slice_index_or, take, map, All, Option, Some, None, is_some, IfSome, Bool, IsTrue, if◌then◌else◌, count_by, nat_eq}
use Rattle.std.specs.List.Sorted.{IsStrictlyIncreasing}
use Rattle.std.specs.Map.{lookup}
use Rattle.reo_value.specs.declared.value.Value.{Value}
use Rattle.reo_net.specs.declared.kind.Kind.{Kind}
use Rattle.reo_net.specs.declared.circuit.Channel.{Channel}
use Rattle.reo_net.specs.declared.circuit.RawCircuit.{RawCircuit}
use Rattle.reo_net.specs.declared.circuit.Step.{Step}
use Rattle.reo_net.specs.Kind.{is_fifo, ChannelStep}
use Rattle.reo_net.specs.Names.{name_count, end_a, end_b, IsIncoming, IsOutgoing, IsNameOf}

-- which datum there is at a name, if any
abbrev pub Data : Type 0
Data = ℕ → Option Value

-- the datum that the step has at a name
abbrev pub datum : Step → Data
datum step name = lookup (nat_eq name) step.pairs

-- there is a datum at the name, so it fires
abbrev pub fires_in : Data → ℕ → Bool
fires_in d name = is_some (d name)

-- a nonempty rising list of the circuit's names, with a datum each
pub record IsStep (c : RawCircuit) (step : Step) : Type 0 where
  pub nonempty : step.pairs ≢ []
  pub rising : IsStrictlyIncreasing (map (λ p. p.0) step.pairs)
  pub known : All (λ p. p.0 < name_count c) step.pairs

-- A state has, for each FIFO1 in channel order, the datum that it holds, or none.
abbrev pub State : Type 0
State = List (Option Value)

-- the place in a state that channel k has: so many FIFO1s stand before it
abbrev pub cell_of : RawCircuit → ℕ → ℕ
cell_of c k = count_by (λ channel. is_fifo channel.kind) (take k c.channels)

-- a state of this circuit
abbrev pub IsState : RawCircuit → State → Type 0
IsState c state = length state ≡ count_by (λ channel. is_fifo channel.kind) c.channels

-- what channel k, of this kind, holds in a state; a channel with no buffer holds nothing
abbrev pub content : RawCircuit → ℕ → Kind → State → Option Value
content c k kind state = if is_fifo kind then slice_index_or state (cell_of c k) None else None

-- one name of those that come into the node and all that go out of it are in the set, and there are some that go out
pub record NodeFires (c : RawCircuit) (node : ℕ) (fires : ℕ → Bool) : Type 0 where
  pub input : ℕ
  pub incoming : IsIncoming c node input
  pub chosen : IsTrue (fires input)
  pub alone : (other : ℕ) → IsIncoming c node other → IsTrue (fires other) → other ≡ input
  pub all : (output : ℕ) → IsOutgoing c node output → IsTrue (fires output)
  pub output : ℕ
  pub outgoing : IsOutgoing c node output

-- exactly one incoming name and all outgoing names of the node fire, all with one datum
pub record NodeStep (c : RawCircuit) (node : ℕ) (d : Data) : Type 0 where
  pub fires : NodeFires c node (fires_in d)
  pub value : Value
  pub same : (name : ℕ) → IsNameOf c node name → IfSome (d name) (λ v. v ≡ value)

-- no name of the node fires
abbrev pub NodeStays : RawCircuit → ℕ → Data → Type 0
NodeStays c node d = (name : ℕ) → IsNameOf c node name → d name ≡ None

-- no end of channel k fires, and it holds what it held
pub record ChannelStays (c : RawCircuit) (k : ℕ) (kind : Kind) (old : State) (d : Data) (new : State) : Type 0 where
  pub no_a : d (end_a c k) ≡ None
  pub no_b : d (end_b c k) ≡ None
  pub kept : content c k kind new ≡ content c k kind old

-- channel k makes a transition of its own with the data at its ends
abbrev pub ChannelMoves : RawCircuit → List (List ℕ) → ℕ → Kind → State → Data → State → Type 0
ChannelMoves c texts k kind old d new =
    ChannelStep texts kind (content c k kind old) (d (end_a c k)) (d (end_b c k)) (content c k kind new)

-- channel k, if there is one, stays or moves
abbrev pub ChannelAllows : RawCircuit → List (List ℕ) → ℕ → State → Data → State → Type 0
ChannelAllows c texts k old d new = (channel : Channel) → slice_get c.channels k ≡ Some channel
    → ChannelStays c k channel.kind old d new ⊎ ChannelMoves c texts k channel.kind old d new

-- the node stays or moves
abbrev pub NodeAllows : RawCircuit → ℕ → Data → Type 0
NodeAllows c node d = NodeStays c node d ⊎ NodeStep c node d

-- A step of the product, where the constants of filters and transforms name these texts: what the step has at the names of
-- an automaton is one of that automaton's own moves, and an automaton of which it has no name keeps its state.
pub record ProductStep (c : RawCircuit) (texts : List (List ℕ)) (old : State) (step : Step) (new : State) : Type 0 where
  pub is_step : IsStep c step
  pub was_state : IsState c old
  pub is_state : IsState c new
  pub channels : (k : ℕ) → ChannelAllows c texts k old (datum step) new
  pub nodes : (node : ℕ) → node < c.nodes → NodeAllows c node (datum step)
