-- The join of constraint automata, two by two, and the automaton that all those of a circuit give when they are joined one after the other.
use Rattle.std.specs.Prelude.{◌≡◌, ℕ, ◌<◌, ◌⊎◌, ◌↔◌, List, [], ◌∷◌, length, slice_get, Contains, Some, None, IsTrue}
use Rattle.std.specs.Option.{option_or}
use Rattle.reo_net.specs.declared.circuit.Channel.{Channel}
use Rattle.reo_net.specs.declared.circuit.RawCircuit.{RawCircuit}
use Rattle.reo_net.specs.Steps.{State, Data, fires_in, content, ChannelMoves, NodeStep}
use Rattle.reo_net.specs.Regions.{Automaton, OfChannel, OfNode, HasName}

-- A constraint automaton: its names, its transitions, each with data at the names that fire, and when it keeps its state.
-- States are those of the whole circuit, of which an automaton reads and changes its own part alone.
pub record ConstraintAutomaton : Type 1 where
  pub Named : ℕ → Type 0
  pub Moves : State → Data → State → Type 0
  pub Stays : State → State → Type 0

-- there are data at these names alone
abbrev pub IsWithin : (ℕ → Type 0) → Data → Type 0
IsWithin Named d = (name : ℕ) → IsTrue (fires_in d name) → Named name

-- Both make a transition. Of the names that both have, the same ones fire, with the same data; all data are in the joint transition.
pub record MoveTogether (x y : ConstraintAutomaton) (old : State) (d : Data) (new : State) : Type 0 where
  pub first : Data
  pub second : Data
  pub moves : x.Moves old first new
  pub others : y.Moves old second new
  pub agree : (name : ℕ) → x.Named name → y.Named name → first name ≡ second name
  pub joint : (name : ℕ) → d name ≡ option_or (first name) (second name)

-- The first makes a transition in which no name of the second fires, and the second stays.
pub record MovesAlone (x y : ConstraintAutomaton) (old : State) (d : Data) (new : State) : Type 0 where
  pub moves : x.Moves old d new
  pub silent : (name : ℕ) → y.Named name → d name ≡ None
  pub stays : y.Stays old new

-- the join of two constraint automata
abbrev pub join : ConstraintAutomaton → ConstraintAutomaton → ConstraintAutomaton
join x y = record {
  Named = λ name. x.Named name ⊎ y.Named name;
  Moves = λ old d new. MoveTogether x y old d new ⊎ (MovesAlone x y old d new ⊎ MovesAlone y x old d new);
  Stays = λ old new. x.Stays old new × y.Stays old new;
}

-- the one that has no name
abbrev pub no_automaton : ConstraintAutomaton
no_automaton = record { Named = λ name. ⊥; Moves = λ old d new. ⊥; Stays = λ old new. Unit {0} }

-- a channel or node makes a transition with these data
abbrev pub AutomatonMoves : RawCircuit → List (List ℕ) → Automaton → State → Data → State → Type 0
AutomatonMoves c texts (OfChannel k) old d new =
    (channel : Channel) × (slice_get c.channels k ≡ Some channel) × ChannelMoves c texts k channel.kind old d new
AutomatonMoves c texts (OfNode node) old d new = NodeStep c node d

-- a channel holds what it held; a node holds nothing
abbrev pub AutomatonStays : RawCircuit → Automaton → State → State → Type 0
AutomatonStays c (OfChannel k) old new = (channel : Channel) → slice_get c.channels k ≡ Some channel
    → content c k channel.kind new ≡ content c k channel.kind old
AutomatonStays c (OfNode node) old new = Unit {0}

-- the constraint automaton of a channel or node
abbrev pub automaton_of : RawCircuit → List (List ℕ) → Automaton → ConstraintAutomaton
automaton_of c texts x = record {
  Named = HasName c x;
  Moves = λ old d new. IsWithin (HasName c x) d × AutomatonMoves c texts x old d new;
  Stays = AutomatonStays c x;
}

-- all of the list, joined one after the other
abbrev pub joined : RawCircuit → List (List ℕ) → List Automaton → ConstraintAutomaton
joined c texts [] = no_automaton
joined c texts (x ∷ xs) = join (automaton_of c texts x) (joined c texts xs)

-- a channel or node that the circuit has
abbrev pub IsAutomaton : RawCircuit → Automaton → Type 0
IsAutomaton c (OfChannel k) = k < length c.channels
IsAutomaton c (OfNode node) = node < c.nodes

-- all channels and nodes of the circuit, in any order
abbrev pub AreAutomata : RawCircuit → List Automaton → Type 0
AreAutomata c xs = (x : Automaton) → Contains xs x ↔ IsAutomaton c x
