-- The synchronous regions of a circuit, and the sets of names that fire at once in a region.
use Rattle.std.specs.Prelude.{◌≡◌, ℕ, ◌+◌, ◌<◌, ◌≤◌, ◌⊎◌, List, length, slice_get, map, All, Contains, Some, Bool, true, false, IsTrue}
use Rattle.std.specs.List.Sorted.{IsStrictlyIncreasing}
use Rattle.reo_net.specs.declared.circuit.Channel.{Channel}
use Rattle.reo_net.specs.declared.circuit.RawCircuit.{RawCircuit}
use Rattle.reo_net.specs.Names.{end_a, end_b, IsNameOf}
use Rattle.reo_net.specs.Kind.{is_fifo, fires_ends}
use Rattle.reo_net.specs.Steps.{NodeFires}

-- the automata of a circuit
pub data Automaton : Type 0 where
  OfChannel : (k : ℕ) → Automaton
  OfNode : (node : ℕ) → Automaton

-- channels are numbered first, then nodes
abbrev pub automaton_number : RawCircuit → Automaton → ℕ
automaton_number c (OfChannel k) = k
automaton_number c (OfNode node) = length c.channels + node

-- the automaton has this name
abbrev pub HasName : RawCircuit → Automaton → ℕ → Type 0
HasName c (OfChannel k) name = (name ≡ end_a c k) ⊎ (name ≡ end_b c k)
HasName c (OfNode node) name = IsNameOf c node name

-- an automaton of the circuit that is no FIFO1
abbrev pub IsSynchronous : RawCircuit → Automaton → Type 0
IsSynchronous c (OfChannel k) = (channel : Channel) × (slice_get c.channels k ≡ Some channel) × (is_fifo channel.kind ≡ false)
IsSynchronous c (OfNode node) = node < c.nodes

-- there is a path from the one automaton to the other, none of its automata a FIFO1, each sharing a name with the next
pub data SameRegion (c : RawCircuit) (from : Automaton) : Automaton → Type 0 where
  here : IsSynchronous c from → SameRegion c from from
  linked : {x y : Automaton} (name : ℕ) → SameRegion c from x → IsSynchronous c y → HasName c x name → HasName c y name → SameRegion c from y

-- the automaton is the least of its region, for which it stands
pub record IsRegion (c : RawCircuit) (root : Automaton) : Type 0 where
  pub synchronous : IsSynchronous c root
  pub least : (x : Automaton) → SameRegion c root x → automaton_number c root ≤ automaton_number c x

-- all regions, in the order of their least automata: region r is that of the automaton at place r
pub record AreRegions (c : RawCircuit) (roots : List Automaton) : Type 0 where
  pub each : All (IsRegion c) roots
  pub rising : IsStrictlyIncreasing (map (automaton_number c) roots)
  pub every : (root : Automaton) → IsRegion c root → Contains roots root

-- the names of the set that the automaton has are those of one of its transitions
abbrev pub AutomatonFires : RawCircuit → Automaton → (ℕ → Bool) → Type 0
AutomatonFires c (OfChannel k) fires =
    (channel : Channel) × (slice_get c.channels k ≡ Some channel) × IsTrue (fires_ends channel.kind (fires (end_a c k)) (fires (end_b c k)))
AutomatonFires c (OfNode node) fires = NodeFires c node fires

-- no name of the automaton is in the set
abbrev pub IsQuiet : RawCircuit → Automaton → (ℕ → Bool) → Type 0
IsQuiet c x fires = (name : ℕ) → HasName c x name → fires name ≡ false

-- a path of automata of the region that share names in the set
pub data HangsTogether (c : RawCircuit) (root : Automaton) (fires : ℕ → Bool) (from : Automaton) : Automaton → Type 0 where
  here : HangsTogether c root fires from from
  linked : {x y : Automaton} (name : ℕ) → HangsTogether c root fires from x → SameRegion c root y → HasName c x name → HasName c y name
      → IsTrue (fires name) → HangsTogether c root fires from y

-- no FIFO1 has both its ends in the set
abbrev pub FiresNoCellTwice : RawCircuit → (ℕ → Bool) → Type 0
FiresNoCellTwice c fires = (k : ℕ) (channel : Channel) → slice_get c.channels k ≡ Some channel → is_fifo channel.kind ≡ true
    → IsTrue (fires (end_a c k)) → IsTrue (fires (end_b c k)) → ⊥

-- an automaton of the region moves: a name of it is in the set
pub record Moves (c : RawCircuit) (root : Automaton) (fires : ℕ → Bool) (x : Automaton) : Type 0 where
  pub of_region : SameRegion c root x
  pub name : ℕ
  pub has : HasName c x name
  pub fired : IsTrue (fires name)

-- A set of names that fires at once in the region of root.
pub record IsConnectedFiring (c : RawCircuit) (root : Automaton) (fires : ℕ → Bool) : Type 0 where
  -- it is not empty
  pub some_name : ℕ
  pub some_fires : IsTrue (fires some_name)
  -- its names are the region's
  pub within : (name : ℕ) → IsTrue (fires name) → (x : Automaton) × SameRegion c root x × HasName c x name
  -- each automaton of the region has none of them, or those of one of its transitions
  pub each : (x : Automaton) → SameRegion c root x → IsQuiet c x fires ⊎ AutomatonFires c x fires
  -- no FIFO1 fires both ends
  pub cells : FiresNoCellTwice c fires
  -- the automata that move hang together
  pub together : (x y : Automaton) → Moves c root fires x → Moves c root fires y → HangsTogether c root fires x y
