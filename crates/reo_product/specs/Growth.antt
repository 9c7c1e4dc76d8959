-- Growth in a region of a circuit: how many partial firings there are, each a list of automata with one transition each.
use Rattle.std.specs.Prelude.{◌≡◌, ℕ, ◌≤◌, List, [], ◌∷◌, length, Bool, true}
use Rattle.std.specs.List.{list_any}
use Rattle.std.specs.List.Sorted.{IsStrictlyIncreasing}
use Rattle.reo_net.specs.declared.circuit.RawCircuit.{RawCircuit}
use Rattle.reo_net.specs.Regions.{Automaton, automaton_number, HasName, SameRegion, AutomatonFires, FiresNoCellTwice}
use Rattle.reo_growth.specs.Lists.{has, Among, AtMostOne}

-- an automaton, and names of it that fire
pub record Move : Type 0 where
  pub automaton : Automaton
  pub fires : List ℕ

-- a list of automata with what each fires, the newest first
abbrev pub PartialFiring : Type 0
PartialFiring = List Move

unfoldable pub with_move : PartialFiring → Automaton → List ℕ → PartialFiring
with_move v x names = record { automaton = x; fires = names } ∷ v

-- these names, which rise, are those that a transition of the automaton fires
pub record IsTransition (c : RawCircuit) (x : Automaton) (names : List ℕ) : Type 0 where
  pub rising : IsStrictlyIncreasing names
  pub own : (name : ℕ) → has names name ≡ true → HasName c x name
  pub fires : AutomatonFires c x (has names)

-- whether an automaton in the list fires the name
unfoldable pub fired : PartialFiring → ℕ → Bool
fired v name = list_any (λ move. has move.fires name) v

-- the automaton is in the list
abbrev pub IsListed : PartialFiring → Automaton → Type 0
IsListed v x = (move : Move) × Among move v × (move.automaton ≡ x)

-- an automaton of the region is open where it is not in the list, and a name of it fires there
pub record IsOpen (c : RawCircuit) (root : Automaton) (v : PartialFiring) (x : Automaton) : Type 0 where
  pub of_region : SameRegion c root x
  pub not_listed : IsListed v x → ⊥
  pub name : ℕ
  pub its : HasName c x name
  pub fires : fired v name ≡ true

pub record IsLeastOpen (c : RawCircuit) (root : Automaton) (v : PartialFiring) (x : Automaton) : Type 0 where
  pub is_open : IsOpen c root v x
  pub least : (y : Automaton) → IsOpen c root v y → automaton_number c x ≤ automaton_number c y

-- with these names automaton x agrees with each automaton in the list, about each name that both have
abbrev pub Agrees : RawCircuit → PartialFiring → Automaton → List ℕ → Type 0
Agrees c v x names = (move : Move) → Among move v → (name : ℕ) → HasName c x name → HasName c move.automaton name → has names name ≡ has move.fires name

-- The vertices of a root: it alone with each of its transitions; and of each vertex the children, by the least automaton
-- that is open there, where that is not less than the root, with each of its transitions that agrees. In none of them has a
-- FIFO1 both ends.
pub data IsVertex (c : RawCircuit) (root : Automaton) : PartialFiring → Type 0 where
  alone : (names : List ℕ) → IsTransition c root names → FiresNoCellTwice c (fired (with_move [] root names)) → IsVertex c root (with_move [] root names)
  child : (v : PartialFiring) (x : Automaton) (names : List ℕ) → IsVertex c root v → IsLeastOpen c root v x → automaton_number c root ≤ automaton_number c x
      → IsTransition c x names → Agrees c v x names → FiresNoCellTwice c (fired (with_move v x names)) → IsVertex c root (with_move v x names)

-- these are the vertices of all automata of the region, each once
pub record AreVertices (c : RawCircuit) (region : Automaton) (vertices : List PartialFiring) : Type 0 where
  pub only : (v : PartialFiring) → Among v vertices → (root : Automaton) × SameRegion c region root × IsVertex c root v
  pub all : (root : Automaton) (v : PartialFiring) → SameRegion c region root → IsVertex c root v → Among v vertices
  pub once : (v : PartialFiring) → AtMostOne (λ other. other ≡ v) vertices

-- so many vertices grow in the region
pub record HasGrowth (c : RawCircuit) (region : Automaton) (count : ℕ) : Type 0 where
  pub vertices : List PartialFiring
  pub are_all : AreVertices c region vertices
  pub are_so_many : length vertices ≡ count
