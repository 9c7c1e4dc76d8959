-- The names of all nodes, each listed at its node.
use Rattle.std.specs.Prelude.{◌≡◌, ℕ, ◌<◌, List, [], ◌∷◌, ◌++◌, length, slice_index_or, nat_eq, cond}
use Rattle.reo_net.specs.declared.circuit.RawCircuit.{RawCircuit}
use Rattle.reo_automata.specs.Links.{node_names}

-- this is the list of each node
pub record AreListsOf (nodes : ℕ) (list : ℕ → List ℕ) (lists : List (List ℕ)) : Type 0 where
  pub long : length lists ≡ nodes
  pub each : (node : ℕ) → node < nodes → slice_index_or lists node [] ≡ list node

abbrev pub AreNodeNames : RawCircuit → List (List ℕ) → Type 0
AreNodeNames c lists = AreListsOf c.nodes (node_names c) lists

-- the name comes at the end of its node's list, and each other is as it was
pub record AddsName (at name : ℕ) (old new : List (List ℕ)) : Type 0 where
  pub long : length new ≡ length old
  pub each : (node : ℕ) → node < length old → slice_index_or new node [] ≡ slice_index_or old node [] ++ cond (nat_eq at node) (name ∷ []) []
