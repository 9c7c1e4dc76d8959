-- The fabric of a cut circuit is lawful.
use Rattle.std.proofs.Common.{◌≡◌, ℕ, zero, suc, ◌+◌, ◌<◌, ◌≤◌, ◌^◌, List, [], ◌∷◌, length, map, slice_index, get_or, Option, Some, None, IfSome, All, Bool, true, false, refl, sym, ap, ◌∙◌, subst, arith}
use Rattle.std.specs.List.Sorted.{IsStrictlyIncreasing}
use Rattle.std.proofs.lemmas.Option.{slice_get_within, get_or_from_slice_get, slice_get-get_or}
use Rattle.std.proofs.lemmas.List.{length-map, get_or-map}
use Rattle.std.proofs.lemmas.List.FromFn.{length-map-range_with_len, get_or-map-range_with_len}
use Rattle.reo_net.specs.declared.circuit.Channel.{Channel}
use Rattle.reo_net.specs.declared.circuit.Port.{Port}
use Rattle.reo_net.specs.declared.circuit.RawCircuit.{RawCircuit}
use Rattle.reo_net.specs.Checks.{IsChecked}
use Rattle.reo_net.specs.Regions.{Automaton, OfChannel, OfNode, automaton_number, IsSynchronous, AreRegions}
use Rattle.reo_cut.specs.declared.cut.Cut.{Cut}
use Rattle.reo_cut.specs.declared.cut.CellCut.{CellCut}
use Rattle.reo_cut.specs.Cut.{IsOfRegion, IsCellCut, IsCut}
use Rattle.std.specs.Option.{option_map_or}
use Rattle.reo_value.specs.declared.op.Way.TheVariants.{Put}
use Rattle.reo_fabric.specs.declared.fabric.CellSpec.{CellSpec}
use Rattle.reo_net.proofs.NameLemmas.{slice_get_found}
use Rattle.reo_net.proofs.CellLemmas.{fifos, fifos-more, fifos-same}
use Rattle.reo_net.specs.Kind.{is_fifo}
use Rattle.reo_fabric.specs.declared.fabric.PortSpec.{PortSpec}
use Rattle.reo_fabric.specs.declared.fabric.Fabric.{Fabric}
use Rattle.reo_fabric.specs.Fabric.{IsLawfulFabric}
use Rattle.reo_flow.proofs.PlacesLemmas.{length-buffers}
use Rattle.reo_plan.specs.Fabric.{cell_spec, IsFabricOf}
use Rattle.reo_plan.specs.inside.Ports.{port_spec, port_specs}

-- rising numbers below a bound are no more than the bound
above_place : (xs : List ℕ) → IsStrictlyIncreasing xs → (k : ℕ) → k < length xs → k ≤ slice_index xs k
above_place xs rising zero within = omega arith
above_place xs rising (suc k) within =
    let before = above_place xs rising k (omega (arith, within)) in
    let next : slice_index xs k < slice_index xs (suc k) = subst (λ n. slice_index xs k < slice_index xs n) (let e : k + 1 ≡ suc k = omega arith in e) (rising k (omega (arith, within))) in
    omega (arith, before, next)

few_rising : (xs : List ℕ) (bound : ℕ) → IsStrictlyIncreasing xs → All (λ x. x < bound) xs → length xs ≤ bound
few_rising [] bound rising below = omega arith
few_rising (x ∷ xs) bound rising below =
    let last : length xs < length (x ∷ xs) = omega arith in
    let at : slice_index (x ∷ xs) (length xs) < bound = below (length xs) 0 last in
    omega (arith, at, above_place (x ∷ xs) rising (length xs) last)

-- the numbers of a circuit's regions
number_below : (c : RawCircuit) (x : Automaton) → IsSynchronous c x → automaton_number c x < length c.channels + c.nodes
number_below c (OfChannel k) is = omega (arith, slice_get_within c.channels k is.0 is.1)
number_below c (OfNode node) is = omega (arith, is)

pub few_regions : (c : RawCircuit) → IsChecked c → (roots : List Automaton) → AreRegions c roots → length roots < 2 ^ 31
few_regions c checked roots are =
    let numbers : List ℕ = map (automaton_number c) roots in
    let below : All (λ n. n < length c.channels + c.nodes) numbers = λ k d within.
    let within' : k < length roots = subst (λ n. k < n) (length-map roots (automaton_number c)) within in
    subst (λ n. n < length c.channels + c.nodes) (sym (get_or-map (automaton_number c) roots k (OfNode 0) d within')) (number_below c (get_or roots k (OfNode 0)) (are.each k (OfNode 0) within').synchronous) in
    omega (arith, few_rising numbers (length c.channels + c.nodes) are.rising below, length-map roots (automaton_number c), checked.few_channels, checked.circuit.few_nodes)

pub few_fifos : (channels : List Channel) → fifos channels ≤ length channels
few_fifos [] = omega arith
few_fifos (channel ∷ channels) = go (is_fifo channel.kind) refl (few_fifos channels)
  where
    go : (b : Bool) → is_fifo channel.kind ≡ b → fifos channels ≤ length channels → fifos (channel ∷ channels) ≤ length (channel ∷ channels)
    go true e few = omega (arith, fifos-more channel channels e, few)
    go false e few = omega (arith, fifos-same channel channels e, few)

-- a region of the cut is one of its regions
region_below : (c : RawCircuit) (roots : List Automaton) (x : Automaton) (region : ℕ) → IsOfRegion c roots x region → region < length roots
region_below c roots x region is = slice_get_within roots region is.root is.at

module _ (c : RawCircuit) (checked : IsChecked c) (cut : Cut) (is_cut : IsCut c cut) (owners : List (Option ℕ)) (parties : ℕ) (ports_owned : length owners ≡ length c.ports)
    (known : All (λ owner. IfSome owner (λ party. party < parties)) owners) (few : parties < 2 ^ 31) where
  abbrev specs : List PortSpec
  specs = port_specs c.ports cut.port_region owners

  spec_at : (p : ℕ) (d : PortSpec) → p < length specs → get_or specs p d ≡ port_spec c.ports cut.port_region owners p
  spec_at p d within = get_or-map-range_with_len (port_spec c.ports cut.port_region owners) 0 (length c.ports) p p d (omega (arith, within, length-map-range_with_len (port_spec c.ports cut.port_region owners) 0 (length c.ports))) (omega arith)

  length-specs : length specs ≡ length c.ports
  length-specs = length-map-range_with_len (port_spec c.ports cut.port_region owners) 0 (length c.ports)

  length-cells : length cut.cells ≤ length c.channels
  length-cells = omega (arith, sym (length-map cut.cells (λ (cell : CellCut). cell.channel)) ∙ ap length is_cut.cells ∙ length-buffers c, few_fifos c.channels)

  -- the cells and the ports are those of regions and parties that there are
  pub lawful : (fabric : Fabric) → fabric ≡ record { regions = cut.regions; parties = parties; cells = map (cell_spec c) cut.cells; ports = specs } → IsLawfulFabric fabric
  lawful fabric is = subst IsLawfulFabric (sym is) (record {
    few_regions = subst (λ n. n < 2 ^ 31) (sym is_cut.count) (few_regions c checked is_cut.roots is_cut.regions);
    few_parties = few;
    few_cells = omega (arith, length-cells, length-map cut.cells (cell_spec c), checked.few_channels);
    few_ports = omega (arith, length-specs, checked.few_ports);
    fillers = λ k d within. cell_known (λ (s : CellSpec). s.filler) (λ cell found. region_below c is_cut.roots _ cell.filler found.filler) k d within;
    takers = λ k d within. cell_known (λ (s : CellSpec). s.taker) (λ cell found. region_below c is_cut.roots _ cell.taker found.taker) k d within;
    port_regions = λ k d within. subst (λ (s : PortSpec). s.region < cut.regions) (sym (spec_at k d within)) (port_known k (omega (arith, within, length-specs)));
    owners = λ k d within. subst (λ (s : PortSpec). IfSome s.owner (λ party. party < parties)) (sym (spec_at k d within)) (known k None (omega (arith, within, length-specs, ports_owned)));
  })
    where
      cell_known : (which : CellSpec → ℕ) → ((cell : CellCut) → IsCellCut c is_cut.roots cell → which (cell_spec c cell) < length is_cut.roots) → (k : ℕ) (d : CellSpec) → k < length (map (cell_spec c) cut.cells)
          → which (get_or (map (cell_spec c) cut.cells) k d) < cut.regions
      cell_known which below k d within =
          let within' : k < length cut.cells = subst (λ n. k < n) (length-map cut.cells (cell_spec c)) within in
          let none : CellCut = record { channel = 0; filler = 0; taker = 0 } in
          let cell = get_or cut.cells k none in
          subst (λ (s : CellSpec). which s < cut.regions) (sym (get_or-map (cell_spec c) cut.cells k none d within'))
          (subst (λ n. which (cell_spec c cell) < n) (sym is_cut.count) (below cell (is_cut.each_cell k cell (slice_get-get_or cut.cells k none within'))))

      port_known : (p : ℕ) → p < length c.ports → get_or cut.port_region p 0 < cut.regions
      port_known p within =
          let port = slice_get_found c.ports p within in
          let region = is_cut.port_region p port.0 port.1 in
          subst (λ n. n < cut.regions) (sym (get_or_from_slice_get cut.port_region p region.0 0 region.1)) (subst (λ n. region.0 < n) (sym is_cut.count) (region_below c is_cut.roots (OfNode port.0.node) region.0 region.2))

  pub fabric_is : (fabric : Fabric) → fabric ≡ record { regions = cut.regions; parties = parties; cells = map (cell_spec c) cut.cells; ports = specs } → IsFabricOf c cut owners parties fabric
  fabric_is fabric is = subst (IsFabricOf c cut owners parties) (sym is) (record {
    regions = refl;
    parties_are = refl;
    cells = refl;
    as_many = length-specs;
    ports = λ p port region owner found at_region at_owner.
        let within : p < length specs = subst (λ n. p < n) (sym length-specs) (slice_get_within c.ports p port found) in
        let none : PortSpec = port_spec c.ports cut.port_region owners p in
        slice_get-get_or specs p none within ∙ ap Some (spec_at p none within ∙ (λ i. record {
          way = option_map_or (λ (x : Port). x.way) (found i) Put;
          region = get_or_from_slice_get cut.port_region p region 0 at_region i;
          owner = get_or_from_slice_get owners p owner None at_owner i;
        }));
  })
