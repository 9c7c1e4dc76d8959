-- regions and connected firings while each channel is a FIFO1: each node is a region of its own
use Rattle.std.proofs.Common.{◌≡◌, ℕ, ◌+◌, ◌<◌, ◌≤◌, ◌⊎◌, ⊎_elim, inr, List, length, map, get_or, Contains, Bool, IsTrue, refl, sym, ap, ◌∙◌, subst, arith, zero-add}
use Rattle.std.specs.List.{range_with_len}
use Rattle.std.proofs.lemmas.Bool.{false≢true}
use Rattle.std.proofs.lemmas.List.{length-map, get_or-map}
use Rattle.std.proofs.lemmas.List.FromFn.{length-range_with_len, get_or-map-range_with_len}
use Rattle.reo_net.specs.declared.circuit.RawCircuit.{RawCircuit}
use Rattle.reo_net.specs.Names.{IsNameOf}
use Rattle.reo_net.specs.Regions.{Automaton, OfChannel, OfNode, automaton_number, HasName, IsSynchronous, SameRegion, here, linked, IsRegion, AreRegions, AutomatonFires, IsQuiet, HangsTogether, IsConnectedFiring}
use Rattle.reo_net.specs.Laws.{IsNodeFiring, NodesAreRegions, RegionsAreSingle, FiringsAreNodes}
use Rattle.reo_net.specs.Checks.{IsFifoOnly}
use Rattle.reo_net.proofs.FifoLemmas.{fifo_at}
use Rattle.reo_net.proofs.NameLemmas.{one_node}

sync_from : (c : RawCircuit) (from : Automaton) {x : Automaton} → SameRegion c from x → IsSynchronous c from
sync_from c from (here sync) = sync
sync_from c from (linked name path sync at_x at_y) = sync_from c from path

module _ (c : RawCircuit) (only : IsFifoOnly c) where
  -- no channel is synchronous
  pub no_sync_channel : (k : ℕ) → IsSynchronous c (OfChannel k) → ⊥
  no_sync_channel k sync = false≢true (sym sync.2 ∙ fifo_at c only k sync.0 sync.1)

  next_node : (node name : ℕ) (x y : Automaton) → x ≡ OfNode node → IsSynchronous c y → HasName c x name → HasName c y name → y ≡ OfNode node
  next_node node name x (OfChannel k) is sync at_x at_y = absurd (no_sync_channel k sync)
  next_node node name x (OfNode other) is sync at_x at_y = ap OfNode (one_node c other node name at_y (subst (λ z. HasName c z name) is at_x))

  single : (node : ℕ) {x : Automaton} → SameRegion c (OfNode node) x → x ≡ OfNode node
  single node (here sync) = refl
  single node (linked {x} {y} name path sync at_x at_y) = next_node node name x y (single node path) sync at_x at_y

  -- a node is a region
  pub node_is_region : (node : ℕ) → node < c.nodes → IsRegion c (OfNode node)
  node_is_region node below = record {
    synchronous = below;
    least = λ x path. subst (λ y. automaton_number c (OfNode node) ≤ automaton_number c y) (sym (single node path)) (omega arith);
  }

  nodes : List ℕ
  nodes = range_with_len 0 c.nodes

  node_count : length nodes ≡ c.nodes
  unfolding nodes
  node_count = length-range_with_len 0 c.nodes

  root_at : (k : ℕ) (d : Automaton) → k < c.nodes → get_or (map OfNode nodes) k d ≡ OfNode k
  unfolding nodes
  root_at k d h = get_or-map-range_with_len OfNode 0 c.nodes k k d h (zero-add k)

  root_count : length (map OfNode nodes) ≡ c.nodes
  root_count = length-map nodes OfNode ∙ node_count

  number_at : (k : ℕ) → k < c.nodes → get_or (map (automaton_number c) (map OfNode nodes)) k 0 ≡ length c.channels + k
  number_at k h = get_or-map (automaton_number c) (map OfNode nodes) k (OfNode 0) 0 (omega (arith, root_count)) ∙ ap (automaton_number c) (root_at k (OfNode 0) h)

  every_root : (root : Automaton) → IsRegion c root → Contains (map OfNode nodes) root
  every_root (OfChannel k) region = absurd (no_sync_channel k region.synchronous)
  every_root (OfNode node) region = (node, omega (arith, root_count, region.synchronous), root_at node (OfNode node) region.synchronous)

  pub nodes_are_regions_here : AreRegions c (map OfNode (range_with_len 0 c.nodes))
  unfolding nodes
  nodes_are_regions_here = record {
    each = λ k d h. let below : k < c.nodes = omega (arith, root_count) in subst (IsRegion c) (sym (root_at k d below)) (node_is_region k below);
    rising = λ k h.
        let len = length-map (map OfNode nodes) (automaton_number c) in
        let next : k + 1 < c.nodes = omega (arith, len, root_count) in
        omega (arith, number_at k (omega arith), number_at (k + 1) next);
    every = every_root;
  }

  module _ (node : ℕ) (fires : ℕ → Bool) where
    -- what a node fires is a connected firing of its region
    pub connected_from_node : IsNodeFiring c node fires → IsConnectedFiring c (OfNode node) fires
    connected_from_node firing =
        let start : SameRegion c (OfNode node) (OfNode node) = here firing.is_node in
        record {
          some_name = firing.node_fires.input;
          some_fires = firing.node_fires.chosen;
          within = λ name fired. (OfNode node, start, firing.own name fired);
          each = λ x path. subst (λ y. IsQuiet c y fires ⊎ AutomatonFires c y fires) (sym (single node path)) (inr firing.node_fires);
          cells = firing.cells;
          together = λ x y at_x at_y.
              subst (HangsTogether c (OfNode node) fires x) (single node at_x.of_region ∙ sym (single node at_y.of_region)) here;
        }

    -- a connected firing of a node's region is one of the node
    pub node_from_connected : IsConnectedFiring c (OfNode node) fires → IsNodeFiring c node fires
    node_from_connected firing =
        let own : (name : ℕ) → IsTrue (fires name) → IsNameOf c node name = λ name fired.
        (let at = firing.within name fired in subst (λ x. HasName c x name) (single node at.1) at.2) in
        let sync : node < c.nodes = sync_from c (OfNode node) (firing.within firing.some_name firing.some_fires).1 in
        record {
          is_node = sync;
          node_fires = ⊎_elim (λ quiet. absurd (false≢true (sym (quiet firing.some_name (own firing.some_name firing.some_fires)) ∙ firing.some_fires))) (λ fired. fired) (firing.each (OfNode node) (here sync));
          own = own;
          cells = firing.cells;
        }

pub regions_are_single : RegionsAreSingle
regions_are_single c only node x path = single c only node path

pub nodes_are_regions : NodesAreRegions
nodes_are_regions c circuit only = nodes_are_regions_here c only

pub firings_are_nodes : FiringsAreNodes
firings_are_nodes c only node fires = (node_from_connected c only node fires, connected_from_node c only node fires)
