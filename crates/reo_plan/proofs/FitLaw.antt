-- Planned entries fit the fabric of the circuit that is cut.
use Rattle.std.proofs.Common.{◌≡◌, ℕ, zero, suc, ◌+◌, ◌-◌, ◌<◌, inl, inr, ⊎_elim, List, [], length, map, slice_get, slice_index, get_or, Option, Some, None, is_some, All, Bool, true, false, not, cond, refl, sym, ap, ◌∙◌, subst, arith}
use Rattle.std.specs.List.Sorted.{IsStrictlyIncreasing}
use Rattle.std.proofs.lemmas.Bool.{false≢true, cases_lt}
use Rattle.std.proofs.lemmas.Option.{same_Some, none-some, slice_get_within, slice_get-get_or, get_or_from_slice_get}
use Rattle.std.proofs.lemmas.List.{length-map, get_or-map}
use Rattle.std.proofs.lemmas.List.Elements.{All-from_recursion}
use Rattle.reo_value.specs.declared.value.Value.{Value}
use Rattle.reo_value.specs.declared.op.Way.{Way}
use Rattle.reo_value.specs.declared.op.Way.TheVariants.{Put, Get}
use Rattle.reo_value.specs.Code.{code_of, IsValue}
use Rattle.reo_net.specs.declared.circuit.Channel.{Channel}
use Rattle.reo_net.specs.declared.circuit.Port.{Port}
use Rattle.reo_net.specs.declared.circuit.RawCircuit.{RawCircuit}
use Rattle.reo_net.specs.Names.{end_a, end_b, IsIncoming, IsNameOf}
use Rattle.reo_net.specs.Kind.{is_fifo}
use Rattle.reo_net.specs.Stand.{is_put}
use Rattle.reo_net.specs.Steps.{Data, datum, cell_of, NodeStep}
use Rattle.reo_net.specs.Loops.{node_rank}
use Rattle.reo_net.specs.Checks.{IsChecked}
use Rattle.reo_net.specs.Regions.{Automaton, OfChannel, OfNode, automaton_number, HasName, SameRegion, here, linked, IsRegion, AreRegions}
use Rattle.reo_net.proofs.NameLemmas.{slice_get_found, one_node, end_a_is_name, end_b_is_name, port_is_name, same_end_a, same_end_b, end_a≢end_b, port≢end_a, port≢end_b, node_below, node_of_name}
use Rattle.reo_net.proofs.LoopLemmas.{ranks_rise_along}
use Rattle.reo_net.proofs.RegionListLemmas.{regions_are_one_list}
use Rattle.reo_growth.specs.Lists.{has}
use Rattle.reo_cut.specs.declared.cut.Cut.{Cut}
use Rattle.reo_cut.specs.declared.cut.CellCut.{CellCut}
use Rattle.reo_cut.specs.Cut.{IsOfRegion, IsCut}
use Rattle.reo_fabric.specs.declared.entry.Entry.{Entry}
use Rattle.reo_fabric.specs.declared.fabric.Fabric.{Fabric}
use Rattle.reo_fabric.specs.declared.reading.Reading.{Reading}
use Rattle.reo_fabric.specs.Entry.{at_place, RisesFrom}
use Rattle.reo_fabric.specs.Fabric.{IsTaker, IsFiller, IsPort}
use Rattle.reo_fabric.specs.Decider.{port_words, Takes, Fills, Puts, Gets, IsFitting}
use Rattle.reo_fabric.proofs.PlaceLemmas.{at_place_holds}
use Rattle.reo_flow.specs.Places.{value_at_port, buffers, at_cells, at_ports}
use Rattle.reo_flow.specs.Step.{IsStepOf}
use Rattle.reo_flow.specs.Allows.{Table, AreTables, Allows}
use Rattle.reo_flow.proofs.PlacesLemmas.{rises_with, at_with, given_with, stands_cell}
use Rattle.reo_flow.proofs.StepLaw.{of_region, firing_below, fired_are_names, tabled_firing, take_at}
use Rattle.reo_flow.proofs.OnceLaw.{comes_out, passes_gives, some_of}
use Rattle.reo_flow.proofs.PlanLaw.{planned_are_allowed}
use Rattle.reo_plan.specs.Fabric.{cell_spec, IsFabricOf}
use Rattle.reo_plan.specs.Laws.{PlansFit}

-- regions that share an automaton are one
on_from : (c : RawCircuit) (a b : Automaton) {x : Automaton} → SameRegion c a b → SameRegion c b x → SameRegion c a x
on_from c a b first (here is) = first
on_from c a b first (linked name path is has_x has_y) = linked name (on_from c a b first path) is has_x has_y

back_from : (c : RawCircuit) (a : Automaton) {x : Automaton} → SameRegion c a x → SameRegion c x a
back_from c a (here is) = here is
back_from c a {x} (linked {x = y} name path is has_y has_x) = on_from c x y (linked name (here is) (of_region c a y path) has_x has_y) (back_from c a path)

rises_between : (xs : List ℕ) → IsStrictlyIncreasing xs → (i n : ℕ) → i + suc n < length xs → slice_index xs i < slice_index xs (i + suc n)
rises_between xs rising i zero within = subst (λ k. slice_index xs i < slice_index xs k) (let e : i + 1 ≡ i + suc 0 = omega arith in e) (rising i (omega (arith, within)))
rises_between xs rising i (suc n) within =
    let before = rises_between xs rising i n (omega (arith, within)) in
    let next = subst (λ k. slice_index xs (i + suc n) < slice_index xs k) (let e : i + suc n + 1 ≡ i + suc (suc n) = omega arith in e) (rising (i + suc n) (omega (arith, within))) in
    omega (arith, before, next)

one_region : (c : RawCircuit) (roots : List Automaton) → AreRegions c roots → (x : Automaton) (i j : ℕ) → IsOfRegion c roots x i → IsOfRegion c roots x j → i ≡ j
one_region c roots are x i j at_i at_j =
    ⊎_elim
    (λ less. absurd (apart i j at_i at_j less))
    (λ not_less. ⊎_elim (λ more. absurd (apart j i at_j at_i more)) (λ not_more. omega (arith, not_less, not_more)) (cases_lt j i))
    (cases_lt i j)
  where
    number_at : (k : ℕ) (root : Automaton) → slice_get roots k ≡ Some root → get_or (map (automaton_number c) roots) k 0 ≡ automaton_number c root
    number_at k root found = get_or-map (automaton_number c) roots k root 0 (slice_get_within roots k root found) ∙ ap (automaton_number c) (get_or_from_slice_get roots k root root found)

    is_root : (k : ℕ) (root : Automaton) → slice_get roots k ≡ Some root → IsRegion c root
    is_root k root found = subst (IsRegion c) (get_or_from_slice_get roots k root root found) (are.each k root (slice_get_within roots k root found))

    apart : (k l : ℕ) → IsOfRegion c roots x k → IsOfRegion c roots x l → k < l → ⊥
    apart k l at_k at_l less =
        let within = slice_get_within roots l at_l.root at_l.at in
        let n = l - (k + 1) in
        let e : k + suc n ≡ l = omega (arith, less) in
        let rise = rises_between (map (automaton_number c) roots) are.rising k n (omega (arith, e, within, length-map roots (automaton_number c))) in
        let low = (is_root l at_l.root at_l.at).least at_k.root (on_from c at_l.root x at_l.same (back_from c at_k.root at_k.same)) in
        omega (arith, subst (λ m. get_or (map (automaton_number c) roots) k 0 < get_or (map (automaton_number c) roots) m 0) e rise, number_at k at_k.root at_k.at, number_at l at_l.root at_l.at, low)

-- the automata with a name
node_with : (c : RawCircuit) (root x : Automaton) (node name : ℕ) → SameRegion c root x → HasName c x name → IsNameOf c node name → ((k : ℕ) (channel : Channel) → slice_get c.channels k ≡ Some channel → is_fifo channel.kind ≡ false → HasName c (OfChannel k) name → ⊥)
    → SameRegion c root (OfNode node)
node_with c root (OfChannel k) node name in_region has_name named no_channel =
    let is = of_region c root (OfChannel k) in_region in
    absurd (no_channel k is.0 is.1 is.2 has_name)
node_with c root (OfNode other) node name in_region has_name named no_channel = subst (λ n. SameRegion c root (OfNode n)) (one_node c other node name has_name named) in_region

module _ (c : RawCircuit) (checked : IsChecked c) (cut : Cut) (is_cut : IsCut c cut) (texts : List (List ℕ)) (tables : List Table) (are : AreTables c tables) (owners : List (Option ℕ)) (owned : length owners ≡ length c.ports) (parties : ℕ)
    (fabric : Fabric) (is_fabric : IsFabricOf c cut owners parties fabric) (region : ℕ) (reading : Reading) (of_reading : reading.region ≡ region) (entry : Entry) (allowed : Allows c texts tables region reading entry) where
  abbrev d : Data
  d = datum allowed.step

  abbrev is : IsStepOf c texts allowed.names entry allowed.step
  is = allowed.is_step

  -- the region of the firing, by the list of the cut
  roots_same : (tabled_firing c texts tables are region reading entry allowed).roots ≡ is_cut.roots
  roots_same = regions_are_one_list c (tabled_firing c texts tables are region reading entry allowed).roots is_cut.roots (tabled_firing c texts tables are region reading entry allowed).regions is_cut.regions

  in_region : (node name : ℕ) (v : Value) → IsNameOf c node name → d name ≡ Some v → ((k : ℕ) (channel : Channel) → slice_get c.channels k ≡ Some channel → is_fifo channel.kind ≡ false → HasName c (OfChannel k) name → ⊥)
      → IsOfRegion c is_cut.roots (OfNode node) region
  in_region node name v named at no_channel =
      let t = tabled_firing c texts tables are region reading entry allowed in
      let fired : has allowed.names name ≡ true = fired_are_names c texts allowed.names entry allowed.step is name ∙ ap is_some at in
      let within = t.firing.connected.within name fired in
      record {
        root = t.root;
        at = ap (λ roots. slice_get roots region) (sym roots_same) ∙ t.at;
        same = node_with c t.root within.0 node name within.1 within.2 named no_channel;
      }

  value_of : (name : ℕ) (v : Value) → d name ≡ Some v → IsValue v
  value_of name v at = at_place_holds (λ p. IsValue p.1) allowed.step.pairs name v is.values at

  -- a cell of the cut, by its place
  cell_at : (i k : ℕ) → slice_get (buffers c) i ≡ Some k → (cell : CellCut) × (slice_get cut.cells i ≡ Some cell) × (cell.channel ≡ k)
  cell_at i k stands =
      let within : i < length cut.cells = omega (arith, slice_get_within (buffers c) i k stands, ap length is_cut.cells, length-map cut.cells (λ (cell : CellCut). cell.channel)) in
      let cell = slice_get_found cut.cells i within in
      let none : CellCut = record { channel = 0; filler = 0; taker = 0 } in
      let read : get_or (map (λ (x : CellCut). x.channel) cut.cells) i 0 ≡ cell.0.channel = get_or-map (λ (x : CellCut). x.channel) cut.cells i none 0 within ∙ ap (λ (x : CellCut). x.channel) (get_or_from_slice_get cut.cells i cell.0 none cell.1) in
      (cell.0, cell.1, sym read ∙ ap (λ xs. get_or xs i 0) is_cut.cells ∙ get_or_from_slice_get (buffers c) i k 0 stands)

  spec_at : (i : ℕ) (cell : CellCut) → slice_get cut.cells i ≡ Some cell → slice_get fabric.cells i ≡ Some (cell_spec c cell)
  spec_at i cell found =
      let within = slice_get_within cut.cells i cell found in
      ap (λ cells. slice_get cells i) is_fabric.cells
      ∙ slice_get-get_or (map (cell_spec c) cut.cells) i (cell_spec c cell) (subst (λ n. i < n) (sym (length-map cut.cells (cell_spec c))) within)
      ∙ ap Some (get_or-map (cell_spec c) cut.cells i cell (cell_spec c cell) within ∙ ap (cell_spec c) (get_or_from_slice_get cut.cells i cell cell found))

  only_fifo : (k j : ℕ) (channel other : Channel) → slice_get c.channels k ≡ Some channel → is_fifo channel.kind ≡ true → slice_get c.channels j ≡ Some other → is_fifo other.kind ≡ false → j ≡ k → ⊥
  only_fifo k j channel other found fifo found_other not_fifo same =
      false≢true (sym not_fifo ∙ ap (λ (ch : Channel). is_fifo ch.kind) (same_Some other channel (sym found_other ∙ ap (slice_get c.channels) same ∙ found)) ∙ fifo)

  no_b : (k : ℕ) (channel : Channel) → slice_get c.channels k ≡ Some channel → is_fifo channel.kind ≡ true → (j : ℕ) (other : Channel) → slice_get c.channels j ≡ Some other → is_fifo other.kind ≡ false → HasName c (OfChannel j) (end_b c k) → ⊥
  no_b k channel found fifo j other found_other not_fifo (inl named) = end_a≢end_b c j k (sym named)
  no_b k channel found fifo j other found_other not_fifo (inr named) = only_fifo k j channel other found fifo found_other not_fifo (same_end_b c j k (sym named))

  no_a : (k : ℕ) (channel : Channel) → slice_get c.channels k ≡ Some channel → is_fifo channel.kind ≡ true → (j : ℕ) (other : Channel) → slice_get c.channels j ≡ Some other → is_fifo other.kind ≡ false → HasName c (OfChannel j) (end_a c k) → ⊥
  no_a k channel found fifo j other found_other not_fifo (inl named) = only_fifo k j channel other found fifo found_other not_fifo (same_end_a c j k (sym named))
  no_a k channel found fifo j other found_other not_fifo (inr named) = end_a≢end_b c k j named

  no_port : (p : ℕ) → p < length c.ports → (j : ℕ) (other : Channel) → slice_get c.channels j ≡ Some other → is_fifo other.kind ≡ false → HasName c (OfChannel j) p → ⊥
  no_port p below j other found_other not_fifo (inl named) = port≢end_a c p j below named
  no_port p below j other found_other not_fifo (inr named) = port≢end_b c p j below named

  taker : (i k : ℕ) (v : Value) → slice_get (buffers c) i ≡ Some k → d (end_b c k) ≡ Some v → IsTaker fabric reading.region i
  taker i k v stands at =
      let fifo = stands_cell c i k stands in
      let cell = cell_at i k stands in
      let cut_cell = is_cut.each_cell i cell.0 cell.1 in
      let channel : fifo.0 ≡ cut_cell.channel = same_Some fifo.0 cut_cell.channel (sym fifo.1 ∙ ap (slice_get c.channels) (sym cell.2) ∙ cut_cell.found) in
      let here_in = in_region fifo.0.b (end_b c k) v (end_b_is_name c k fifo.0 fifo.1) at (no_b k fifo.0 fifo.1 fifo.2) in
      let there_in = subst (λ (ch : Channel). IsOfRegion c is_cut.roots (OfNode ch.b) cell.0.taker) (sym channel) cut_cell.taker in
      record { spec = cell_spec c cell.0; found = spec_at i cell.0 cell.1; taker = one_region c is_cut.roots is_cut.regions (OfNode fifo.0.b) cell.0.taker region there_in here_in ∙ sym of_reading }

  filler : (i k : ℕ) (v : Value) → slice_get (buffers c) i ≡ Some k → d (end_a c k) ≡ Some v → IsFiller fabric reading.region i
  filler i k v stands at =
      let fifo = stands_cell c i k stands in
      let cell = cell_at i k stands in
      let cut_cell = is_cut.each_cell i cell.0 cell.1 in
      let channel : fifo.0 ≡ cut_cell.channel = same_Some fifo.0 cut_cell.channel (sym fifo.1 ∙ ap (slice_get c.channels) (sym cell.2) ∙ cut_cell.found) in
      let here_in = in_region fifo.0.a (end_a c k) v (end_a_is_name c k fifo.0 fifo.1) at (no_a k fifo.0 fifo.1 fifo.2) in
      let there_in = subst (λ (ch : Channel). IsOfRegion c is_cut.roots (OfNode ch.a) cell.0.filler) (sym channel) cut_cell.filler in
      record { spec = cell_spec c cell.0; found = spec_at i cell.0 cell.1; filler = one_region c is_cut.roots is_cut.regions (OfNode fifo.0.a) cell.0.filler region there_in here_in ∙ sym of_reading }

  port_of : (way : Way) (p : ℕ) (port : Port) (v : Value) → slice_get c.ports p ≡ Some port → port.way ≡ way → d p ≡ Some v → IsPort fabric way reading.region p
  port_of way p port v found goes at =
      let below = slice_get_within c.ports p port found in
      let r = is_cut.port_region p port found in
      let owner = slice_get_found owners p (omega (arith, below, owned)) in
      let here_in = in_region port.node p v (port_is_name c p port found) at (no_port p below) in
      record {
        spec = record { way = port.way; region = r.0; owner = owner.0 };
        found = is_fabric.ports p port r.0 owner.0 found r.1 owner.1;
        at = one_region c is_cut.roots is_cut.regions (OfNode port.node) r.0 region r.2 here_in ∙ sym of_reading;
        goes = goes;
      }

  start : (n : ℕ) → 0 + n ≡ n
  start n = omega arith

  takes_fit : All (Takes fabric reading) entry.takes
  takes_fit =
      subst (λ (e : Entry). All (Takes fabric reading) e.takes) (sym is.stands)
      (All-from_recursion (Takes fabric reading) (at_cells c (λ k. d (end_b c k))) (given_with (λ cell k. d (end_b c k)) (Takes fabric reading) 0 (buffers c) (λ i k v stands at.
      subst (λ n. Takes fabric reading (n, v)) (sym (start i)) (record {
        own = taker i k v stands at;
        value = value_of (end_b c k) v at;
        reads = at_place_holds (λ p. at_place reading.cells p.0 ≡ Some (code_of p.1)) entry.takes i v allowed.read.takes
            (ap (λ (e : Entry). at_place e.takes i) is.stands ∙ at_with (λ cell k. d (end_b c k)) 0 (buffers c) i k i (sym (start i)) stands ∙ at);
      }))))

  fills_fit : All (Fills fabric reading) entry.fills
  fills_fit =
      subst (λ (e : Entry). All (Fills fabric reading) e.fills) (sym is.stands)
      (All-from_recursion (Fills fabric reading) (at_cells c (λ k. d (end_a c k))) (given_with (λ cell k. d (end_a c k)) (Fills fabric reading) 0 (buffers c) (λ i k v stands at.
      subst (λ n. Fills fabric reading (n, v)) (sym (start i)) (record {
        own = filler i k v stands at;
        value = value_of (end_a c k) v at;
        reads = at_place_holds (λ p. at_place reading.cells p.0 ≡ Some 0) entry.fills i v allowed.read.fills
            (ap (λ (e : Entry). at_place e.fills i) is.stands ∙ at_with (λ cell k. d (end_a c k)) 0 (buffers c) i k i (sym (start i)) stands ∙ at);
      }))))

  port_choice : (puts : Bool) (p : ℕ) (port : Port) (v : Value) → value_at_port puts d p port ≡ Some v → (cond puts (is_put port.way) (not (is_put port.way)) ≡ true) × (d p ≡ Some v)
  port_choice puts p port v at = go (cond puts (is_put port.way) (not (is_put port.way))) refl at
    where
      go : (b : Bool) → cond puts (is_put port.way) (not (is_put port.way)) ≡ b → cond b (d p) None ≡ Some v → (cond puts (is_put port.way) (not (is_put port.way)) ≡ true) × (d p ≡ Some v)
      go true e now = (e, now)
      go false e now = absurd (none-some v now)

  put_way : (way : Way) → is_put way ≡ true → way ≡ Put
  put_way Put e = refl
  put_way Get e = cc

  get_way : (way : Way) → not (is_put way) ≡ true → way ≡ Get
  get_way Put e = cc
  get_way Get e = refl

  puts_fit : All (Puts fabric reading) entry.puts
  puts_fit =
      subst (λ (e : Entry). All (Puts fabric reading) e.puts) (sym is.stands)
      (All-from_recursion (Puts fabric reading) (at_ports c true d) (given_with (value_at_port true d) (Puts fabric reading) 0 c.ports (λ p port v found at.
      let at' = subst (λ n. value_at_port true d n port ≡ Some v) (start p) at in
      let chosen = port_choice true p port v at' in
      subst (λ n. Puts fabric reading (n, v)) (sym (start p)) (record {
        own = port_of Put p port v found (put_way port.way chosen.0) chosen.1;
        value = value_of p v chosen.1;
        reads = at_place_holds (λ q. port_words reading q.0 ≡ Some (1, code_of q.1)) entry.puts p v allowed.read.puts
            (ap (λ (e : Entry). at_place e.puts p) is.stands ∙ at_with (value_at_port true d) 0 c.ports p port p (sym (start p)) found ∙ at');
      }))))

  gets_fit : All (Gets fabric reading) entry.gets
  gets_fit =
      subst (λ (e : Entry). All (Gets fabric reading) e.gets) (sym is.stands)
      (All-from_recursion (Gets fabric reading) (at_ports c false d) (given_with (value_at_port false d) (Gets fabric reading) 0 c.ports (λ p port v found at.
      let at' = subst (λ n. value_at_port false d n port ≡ Some v) (start p) at in
      let chosen = port_choice false p port v at' in
      let words = at_place_holds (λ q. (word : ℕ) × (port_words reading q.0 ≡ Some (1, word))) entry.gets p v allowed.read.gets
      (ap (λ (e : Entry). at_place e.gets p) is.stands ∙ at_with (value_at_port false d) 0 c.ports p port p (sym (start p)) found ∙ at') in
      subst (λ n. Gets fabric reading (n, v)) (sym (start p)) (record {
        own = port_of Get p port v found (get_way port.way chosen.0) chosen.1;
        value = value_of p v chosen.1;
        word = words.0;
        reads = words.1;
      }))))

  -- data come from cells or put ports, so the entry does something
  module _ (no_takes : entry.takes ≡ []) (no_puts : entry.puts ≡ []) where
    node_input : (node name : ℕ) (v : Value) → IsNameOf c node name → d name ≡ Some v → (input : ℕ) × IsIncoming c node input × ((w : Value) × (d input ≡ Some w))
    node_input node name v named at =
        ⊎_elim
        (λ stays. absurd (none-some v (sym (stays name named) ∙ at)))
        (λ (moves : NodeStep c node d). (moves.fires.input, moves.fires.incoming, some_of (d moves.fires.input) moves.fires.chosen))
        (is.meets.nodes node (node_below c checked.circuit node name named))

    no_incoming : (fuel node name : ℕ) (v : Value) → node_rank c node < fuel → IsIncoming c node name → d name ≡ Some v → ⊥
    no_incoming zero node name v low incoming at = omega (arith, low)
    no_incoming (suc fuel) node name v low (inl port) at =
        none-some v
        (ap (λ places. at_place places name) (sym no_puts) ∙ ap (λ (e : Entry). at_place e.puts name) is.stands ∙ at_with (value_at_port true d) 0 c.ports name (record { node = node; way = Put }) name (sym (start name)) port.port ∙ at)
    no_incoming (suc fuel) node name v low (inr end) at =
        let at_b : d (end_b c end.number) ≡ Some v = ap d (sym end.named) ∙ at in
        ⊎_elim
        (λ fifo. none-some v (ap (λ places. at_place places (cell_of c end.number)) (sym no_takes) ∙ take_at c texts allowed.names entry allowed.step is end.number end.channel end.found fifo ∙ at_b))
        (λ on.
        let a = ⊎_elim (λ past. absurd (none-some v (sym past.no_b ∙ at_b))) (λ passes. passes_gives texts end.channel.kind (d (end_a c end.number)) (d (end_b c end.number)) v at_b passes) (is.meets.channels end.number end.channel end.found on.0) in
        let input = node_input end.channel.a (end_a c end.number) a.0 (end_a_is_name c end.number end.channel end.found) a.1 in
        no_incoming fuel end.channel.a input.0 input.2.0 (omega (arith, low, ap (node_rank c) end.at, ranks_rise_along c checked end.number end.channel end.found on.1)) input.1 input.2.1)
        (comes_out end.channel.kind end.way)

    nothing : ⊥
    nothing =
        let t = tabled_firing c texts tables are region reading entry allowed in
        let name = t.firing.connected.some_name in
        let value = some_of (d name) (sym (fired_are_names c texts allowed.names entry allowed.step is name) ∙ t.firing.connected.some_fires) in
        let node = node_of_name c name (firing_below c t.root (has allowed.names) t.firing.connected name t.firing.connected.some_fires) in
        let input = node_input node.0 name value.0 node.1 value.1 in
        no_incoming (node_rank c node.0 + 1) node.0 input.0 input.2.0 (omega arith) input.1 input.2.1

  pub fitting : IsFitting fabric reading entry
  fitting = record {
    region = allowed.of_region ∙ sym of_reading;
    some = λ takes fills puts gets. nothing takes puts;
    takes = takes_fit;
    fills = fills_fit;
    puts = puts_fit;
    gets = gets_fit;
    takes_rise = subst (λ (e : Entry). RisesFrom 0 e.takes) (sym is.stands) (rises_with (λ cell k. d (end_b c k)) 0 (buffers c));
    fills_rise = subst (λ (e : Entry). RisesFrom 0 e.fills) (sym is.stands) (rises_with (λ cell k. d (end_a c k)) 0 (buffers c));
    puts_rise = subst (λ (e : Entry). RisesFrom 0 e.puts) (sym is.stands) (rises_with (value_at_port true d) 0 c.ports);
    gets_rise = subst (λ (e : Entry). RisesFrom 0 e.gets) (sym is.stands) (rises_with (value_at_port false d) 0 c.ports);
  }

pub plans_fit : PlansFit
plans_fit c cut texts tables owners parties fabric checked is_cut are owned is_fabric region reading entry within of_reading planned =
    fitting c checked cut is_cut texts tables are owners owned parties fabric is_fabric region reading of_reading.region_is entry ((planned_are_allowed c texts tables checked are region reading entry).0 planned)
