-- Laws of the definitions, each the contract of a function that does nothing.
use Rattle.std.specs.Prelude.{◌≡◌, ℕ, ◌<◌, ◌↔◌, List, map, slice_get, Some, Bool, true, IsTrue, false}
use Rattle.std.specs.List.{range_with_len}
use Rattle.reo_net.specs.declared.circuit.Channel.{Channel}
use Rattle.reo_net.specs.declared.circuit.RawCircuit.{RawCircuit}
use Rattle.reo_net.specs.declared.circuit.Step.{Step}
use Rattle.reo_net.specs.Names.{name_count, IsNameOf, IsIncoming, IsOutgoing}
use Rattle.reo_net.specs.Stand.{stand_of}
use Rattle.reo_net.specs.Steps.{State, Data, datum, IsStep, IsState, ProductStep, NodeFires}
use Rattle.reo_net.specs.Runs.{Run}
use Rattle.reo_net.specs.Regions.{Automaton, OfNode, SameRegion, AreRegions, FiresNoCellTwice, IsConnectedFiring}
use Rattle.reo_net.specs.Join.{joined, AreAutomata}
use Rattle.reo_net.specs.Kind.{hands_on}
use Rattle.reo_net.specs.Loops.{node_rank}
use Rattle.reo_net.specs.Checks.{IsCircuit, IsChecked, IsFifoOnly}

-- a run's steps determine the state that it ends in
abbrev pub RunsEndOnce : Type 0
RunsEndOnce = (c : RawCircuit) (texts : List (List ℕ)) (from : State) (steps : List Step) (x y : State) → Run c texts from steps x → Run c texts from steps y → x ≡ y

-- the steps of the product are the transitions of the automaton that joining all channels and nodes gives, in any order
abbrev pub StepsAreJoined : Type 0
StepsAreJoined = (c : RawCircuit) (texts : List (List ℕ)) (xs : List Automaton) → IsCircuit c → AreAutomata c xs
    → (old : State) (step : Step) (new : State) → IsStep c step → IsState c old → IsState c new
    → ProductStep c texts old step new ↔ (joined c texts xs).Moves old (datum step) new

-- and each of its transitions has the data of a step
abbrev pub JoinedIsStep : Type 0
JoinedIsStep = (c : RawCircuit) (texts : List (List ℕ)) (xs : List Automaton) → IsCircuit c → AreAutomata c xs
    → (old : State) (d : Data) (new : State) → (joined c texts xs).Moves old d new
    → (step : Step) × IsStep c step × ((name : ℕ) → datum step name ≡ d name)

-- no name is of two nodes
abbrev pub NamesHaveOneNode : Type 0
NamesHaveOneNode = (c : RawCircuit) (m n name : ℕ) → IsNameOf c m name → IsNameOf c n name → m ≡ n

-- no name is incoming and outgoing
abbrev pub NamesHaveOneDirection : Type 0
NamesHaveOneDirection = (c : RawCircuit) (m n name : ℕ) → IsIncoming c m name → IsOutgoing c n name → ⊥

-- the calculated stand of a name is the node and the way that the definitions say
abbrev pub StandsAreTold : Type 0
StandsAreTold = (c : RawCircuit) (node name : ℕ) →
    ((stand_of c name ≡ Some (record { node = node; incoming = true })) ↔ IsIncoming c node name)
    × ((stand_of c name ≡ Some (record { node = node; incoming = false })) ↔ IsOutgoing c node name)

-- the names that there are, are those of the circuit's nodes
abbrev pub NodesHaveTheNames : Type 0
NodesHaveTheNames = (c : RawCircuit) → IsCircuit c → (name : ℕ) → (name < name_count c) ↔ ((node : ℕ) × (node < c.nodes) × IsNameOf c node name)

-- in an accepted circuit each channel that hands data on at once leads from a node of lower rank to one of a higher
abbrev pub RanksRiseAlongChannels : Type 0
RanksRiseAlongChannels = (c : RawCircuit) → IsChecked c → (k : ℕ) (channel : Channel) → slice_get c.channels k ≡ Some channel
    → hands_on channel.kind ≡ true → node_rank c channel.a < node_rank c channel.b

-- two lists of all the regions of a circuit are one list: so the number of regions is one number
abbrev pub RegionsAreOneList : Type 0
RegionsAreOneList = (c : RawCircuit) (xs ys : List Automaton) → AreRegions c xs → AreRegions c ys → xs ≡ ys

-- a set of names that a node fires: they are all its own, and no FIFO1 has both ends among them
pub record IsNodeFiring (c : RawCircuit) (node : ℕ) (fires : ℕ → Bool) : Type 0 where
  pub is_node : node < c.nodes
  pub node_fires : NodeFires c node fires
  pub own : (name : ℕ) → IsTrue (fires name) → IsNameOf c node name
  pub cells : FiresNoCellTwice c fires

-- the regions of a circuit of FIFO1s are its nodes, in order
abbrev pub NodesAreRegions : Type 0
NodesAreRegions = (c : RawCircuit) → IsCircuit c → IsFifoOnly c → AreRegions c (map OfNode (range_with_len 0 c.nodes))

-- there the region of a node has no other automaton
abbrev pub RegionsAreSingle : Type 0
RegionsAreSingle = (c : RawCircuit) → IsFifoOnly c → (node : ℕ) (x : Automaton) → SameRegion c (OfNode node) x → x ≡ OfNode node

-- there the connected firings of a node's region are those of the node
abbrev pub FiringsAreNodes : Type 0
FiringsAreNodes =
    (c : RawCircuit) → IsFifoOnly c → (node : ℕ) (fires : ℕ → Bool) → IsConnectedFiring c (OfNode node) fires ↔ IsNodeFiring c node fires
