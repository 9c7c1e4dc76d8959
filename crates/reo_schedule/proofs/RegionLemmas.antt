-- No automaton is of two regions, and a circuit's regions are known in one way.
use Rattle.std.proofs.Common.{◌≡◌, ℕ, ◌<◌, List, length, map, get_or, slice_get, Bool, true, Some, sym, ap, ◌∙◌, subst, arith}
use Rattle.std.proofs.lemmas.Option.{slice_get_within, get_or_from_slice_get}
use Rattle.std.proofs.lemmas.List.{get_or-map, length-map}
use Rattle.reo_net.specs.declared.circuit.RawCircuit.{RawCircuit}
use Rattle.reo_net.specs.Regions.{Automaton, automaton_number, HasName, IsSynchronous, SameRegion, IsRegion, AreRegions, IsConnectedFiring}
use Rattle.reo_net.specs.Regions.SameRegion.{here, linked}
use Rattle.reo_product.proofs.BridgeLemmas.{one_place}

module _ (c : RawCircuit) where
  follow : (x y z : Automaton) → SameRegion c x y → SameRegion c y z → SameRegion c x z
  follow x y z before (here sync) = before
  follow x y z before (linked {x = u} name path sync at_u at_z) = linked name (follow x y u before path) sync at_u at_z

  pub is_sync : (x y : Automaton) → SameRegion c x y → IsSynchronous c y
  is_sync x y (here sync) = sync
  is_sync x y (linked name path sync at_z at_y) = sync

  turn : (x y : Automaton) → SameRegion c x y → SameRegion c y x
  turn x y (here sync) = here sync
  turn x y (linked {x = z} name path sync at_z at_y) = follow y z x (linked name (here sync) (is_sync x z path) at_y at_z) (turn x z path)

  -- two regions with a common automaton are one
  pub one_region : (roots : List Automaton) → AreRegions c roots → (r s : ℕ) (x y z : Automaton) → slice_get roots r ≡ Some x → slice_get roots s ≡ Some y → SameRegion c x z → SameRegion c y z → r ≡ s
  one_region roots are r s x y z at_r at_s to_x to_y =
      let there = follow x z y to_x (turn y z to_y) in
      let less = (root_is r x at_r).least y there in
      let more = (root_is s y at_s).least x (turn x y there) in
      one_place numbers are.rising r s (below r x at_r) (below s y at_s) (number_at r x at_r ∙ omega (arith, less, more) ∙ sym (number_at s y at_s))
    where
      numbers : List ℕ
      numbers = map (automaton_number c) roots

      root_is : (k : ℕ) (u : Automaton) → slice_get roots k ≡ Some u → IsRegion c u
      root_is k u at = subst (IsRegion c) (get_or_from_slice_get roots k u u at) (are.each k u (slice_get_within roots k u at))

      below : (k : ℕ) (u : Automaton) → slice_get roots k ≡ Some u → k < length numbers
      below k u at = omega (arith, slice_get_within roots k u at, length-map roots (automaton_number c))

      number_at : (k : ℕ) (u : Automaton) → slice_get roots k ≡ Some u → get_or numbers k 0 ≡ automaton_number c u
      number_at k u at = get_or-map (automaton_number c) roots k u 0 (slice_get_within roots k u at) ∙ ap (automaton_number c) (get_or_from_slice_get roots k u u at)

  -- an automaton with a name of a connected firing is of its region
  pub joins : (root : Automaton) (fires : ℕ → Bool) → IsConnectedFiring c root fires → (name : ℕ) → fires name ≡ true → (y : Automaton) → IsSynchronous c y → HasName c y name → SameRegion c root y
  joins root fires connected name fired y sync its = let at = connected.within name fired in linked name at.1 sync at.2 its
