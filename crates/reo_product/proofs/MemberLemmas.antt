-- The lists of all regions' automata.
use Rattle.std.proofs.Common.{◌≡◌, ℕ, ◌<◌, ◌⊎◌, inl, inr, ⊎_elim, List, [], length, All, get_or, slice_get, Option, Some, None, sym, subst, arith}
use Rattle.std.specs.List.Sorted.{IsStrictlyIncreasing}
use Rattle.std.proofs.lemmas.Bool.{cases_lt}
use Rattle.std.proofs.lemmas.List.{get_or_past}
use Rattle.std.proofs.lemmas.Option.{slice_get_cases, slice_get_within}
use Rattle.reo_net.specs.declared.circuit.RawCircuit.{RawCircuit}
use Rattle.reo_net.specs.Regions.{Automaton}
use Rattle.reo_cut.specs.declared.cut.Cut.{Cut}
use Rattle.reo_cut.specs.Cut.{IsCut}
use Rattle.reo_product.specs.Places.{AreRegionAutomata}
use Rattle.reo_product.specs.Region.{AreMembers, numbers_of}
use Rattle.reo_product.proofs.RegionLemmas.{numbers_rise, numbers_below, are_automata}

-- what is listed for no region
pub none_there : (lists : List (List ℕ)) (region : ℕ) → slice_get lists region ≡ None → get_or lists region [] ≡ []
none_there lists region none = ⊎_elim (λ there. absurd (let some : slice_get lists region ≡ Some there.0 = there.2 in cc)) (λ past. get_or_past lists region [] past.0) (slice_get_cases lists region).1

module _ (region_of : List (Option ℕ)) (regions region : ℕ) (lists : List (List ℕ)) (are : AreMembers region_of regions lists) where
  -- the list is empty where there is no such region
  listed : (get_or lists region [] ≡ numbers_of region_of region) ⊎ (get_or lists region [] ≡ [])
  listed = ⊎_elim (λ below. inl (are.each region below)) (λ past. inr (get_or_past lists region [] (omega (arith, are.long)))) (cases_lt region regions)

  pub members_rise : IsStrictlyIncreasing (get_or lists region [])
  members_rise = ⊎_elim (λ is. subst IsStrictlyIncreasing (sym is) (numbers_rise region_of region)) (λ is. subst IsStrictlyIncreasing (sym is) (λ i below. absurd (omega (arith, below)))) listed

  pub members_below : All (λ x. x < length region_of) (get_or lists region [])
  members_below = ⊎_elim (λ is. subst (All (λ x. x < length region_of)) (sym is) (numbers_below region_of region)) (λ is. subst (All (λ x. x < length region_of)) (sym is) (λ k d below. absurd (omega arith))) listed

-- the list of a region is that of its automata
pub members_are : (c : RawCircuit) (cut : Cut) (is : IsCut c cut) (region : ℕ) (root : Automaton) (lists : List (List ℕ)) → AreMembers cut.region_of cut.regions lists → slice_get is.roots region ≡ Some root → AreRegionAutomata c root (get_or lists region [])
members_are c cut is region root lists are at =
    subst (AreRegionAutomata c root) (sym (are.each region (omega (arith, is.count, slice_get_within is.roots region root at)))) (are_automata c cut is region root at)
