-- An allowed entry has the data that are calculated, so its firing is allowed by calculation.
use Rattle.std.proofs.Common.{◌≡◌, ℕ, zero, suc, ◌+◌, ◌*◌, ◌<◌, ◌≤◌, inl, inr, ⊎_elim, List, length, slice_get, Option, Some, None, is_some, IfSome, Bool, true, false, not, cond, nat_eq, refl, sym, ap, ◌∙◌, subst, arith}
use Rattle.std.specs.List.{list_all}
use Rattle.std.specs.Option.{option_map_or, option_and_then}
use Rattle.std.proofs.lemmas.Bool.{false≢true}
use Rattle.std.proofs.lemmas.Option.{same_Some, none-some}
use Rattle.reo_value.specs.declared.value.Value.{Value}
use Rattle.reo_value.specs.declared.op.Way.{Way}
use Rattle.reo_value.specs.declared.op.Way.TheVariants.{Put, Get}
use Rattle.reo_value.specs.Code.{code_of, IsValue}
use Rattle.reo_guard.specs.declared.guard.Guard.{Guard}
use Rattle.reo_guard.specs.declared.fun.Fun.{Fun}
use Rattle.reo_graph.specs.Closure.{goes}
use Rattle.reo_net.specs.declared.kind.Kind.{Kind}
use Rattle.reo_net.specs.declared.kind.Kind.TheVariants.{Sync, Lossy, Drain, Fifo, Filter, Transform}
use Rattle.reo_net.specs.declared.circuit.Channel.{Channel}
use Rattle.reo_net.specs.declared.circuit.RawCircuit.{RawCircuit}
use Rattle.reo_net.specs.declared.circuit.Step.{Step}
use Rattle.reo_net.specs.Names.{end_a, end_b, IsPortAt, IsEndB, IsIncoming, IsOutgoing}
use Rattle.reo_net.specs.Kind.{Incoming, is_fifo, hands_on, Passes, BothFire}
use Rattle.reo_net.specs.Steps.{Data, datum, fires_in, cell_of, NodeFires, NodeStep}
use Rattle.reo_net.specs.Loops.{hands_over, node_rank}
use Rattle.reo_net.specs.Checks.{IsChecked}
use Rattle.reo_net.specs.Regions.{Automaton}
use Rattle.reo_net.proofs.NameLemmas.{node_of_name, name_cases, slice_get_found}
use Rattle.reo_net.proofs.LoopLemmas.{ranks_rise_along}
use Rattle.reo_growth.specs.Lists.{has, Among}
use Rattle.reo_growth.proofs.ListLemmas.{all_from}
use Rattle.reo_cut.proofs.CountLemmas.{count_within}
use Rattle.reo_product.specs.Table.{IsFiring}
use Rattle.reo_fabric.specs.declared.entry.Entry.{Entry}
use Rattle.reo_fabric.specs.declared.reading.Reading.{Reading}
use Rattle.reo_fabric.specs.Entry.{at_place}
use Rattle.reo_fabric.specs.Decider.{port_words}
use Rattle.reo_fabric.proofs.PlaceLemmas.{at_place_holds}
use Rattle.reo_flow.specs.declared.giver.Giver.{Giver}
use Rattle.reo_flow.specs.declared.giver.Giver.TheVariants as giver
use Rattle.reo_flow.specs.declared.fact.Fact.{Fact}
use Rattle.reo_flow.specs.declared.fact.Fact.TheVariants as fact
use Rattle.reo_flow.specs.Places.{value_at_port}
use Rattle.reo_flow.specs.Step.{IsStepOf}
use Rattle.reo_flow.specs.Tests.{decoded, is_met, yielded}
use Rattle.reo_flow.specs.Flow.{b_giver, a_facts, giver_of, Sources, image_of_kind, image_at, given, flow, flow_at, data_in, offered_value, sources_of, is_offered, met_by_kind, met_at, is_so, facts_of, own_facts, is_allowed}
use Rattle.reo_flow.specs.Allows.{IsRead}
use Rattle.reo_flow.proofs.PlacesLemmas.{at_with}
use Rattle.reo_flow.proofs.StepLaw.{same_functions, take_at, fill_at, firing_below, fired_are_names}
use Rattle.reo_flow.proofs.OnceLaw.{comes_out, passes_gives, some_of, moves_with}
use Rattle.reo_flow.proofs.TestLemmas.{guard_decides, yielded_yields, decoded_of}
use Rattle.reo_flow.proofs.FlowLemmas.{has_among, giver_b, giver_put, giver_out, input_is, facts_port, facts_a, facts_b}

rank_within : (c : RawCircuit) (node : ℕ) → node_rank c node ≤ c.nodes
rank_within c node = count_within (λ i. goes (hands_over c) c.nodes i node) c.nodes

module _ (c : RawCircuit) (checked : IsChecked c) (texts : List (List ℕ)) (names : List ℕ) (root : Automaton) (firing : IsFiring c root names) (reading : Reading)
    (entry : Entry) (read : IsRead reading entry) (step : Step) (is : IsStepOf c texts names entry step) where
  abbrev d : Data
  d = datum step

  abbrev src : Sources
  src = sources_of reading

  abbrev by : ℕ → Giver
  by = giver_of c names

  value_at : (name : ℕ) (v : Value) → d name ≡ Some v → IsValue v
  value_at name v at = at_place_holds (λ p. IsValue p.1) step.pairs name v is.values at

  put_read : (node p : ℕ) (v : Value) → IsPortAt c Put node p → d p ≡ Some v → port_words reading p ≡ Some (1, code_of v)
  put_read node p v port at =
      at_place_holds (λ q. port_words reading q.0 ≡ Some (1, code_of q.1)) entry.puts p v read.puts
      (ap (λ (x : Entry). at_place x.puts p) is.stands ∙ at_with (value_at_port true d) 0 c.ports p (record { node = node; way = Put }) p (omega arith) port.port ∙ at)

  get_read : (node p : ℕ) (v : Value) → IsPortAt c Get node p → d p ≡ Some v → (word : ℕ) × (port_words reading p ≡ Some (1, word))
  get_read node p v port at =
      at_place_holds (λ q. (word : ℕ) × (port_words reading q.0 ≡ Some (1, word))) entry.gets p v read.gets
      (ap (λ (x : Entry). at_place x.gets p) is.stands ∙ at_with (value_at_port false d) 0 c.ports p (record { node = node; way = Get }) p (omega arith) port.port ∙ at)

  cell_read : (k : ℕ) (channel : Channel) (v : Value) → slice_get c.channels k ≡ Some channel → is_fifo channel.kind ≡ true → d (end_b c k) ≡ Some v → at_place reading.cells (cell_of c k) ≡ Some (code_of v)
  cell_read k channel v found fifo at =
      at_place_holds (λ q. at_place reading.cells q.0 ≡ Some (code_of q.1)) entry.takes (cell_of c k) v read.takes (take_at c texts names entry step is k channel found fifo ∙ at)

  empty_read : (k : ℕ) (channel : Channel) (v : Value) → slice_get c.channels k ≡ Some channel → is_fifo channel.kind ≡ true → d (end_a c k) ≡ Some v → at_place reading.cells (cell_of c k) ≡ Some 0
  empty_read k channel v found fifo at =
      at_place_holds (λ q. at_place reading.cells q.0 ≡ Some 0) entry.fills (cell_of c k) v read.fills (fill_at c texts names entry step is k channel found fifo ∙ at)

  -- what flows through so many givers
  next : (n name : ℕ) (v : Value) (g : Giver) → by name ≡ g → given c texts src (flow c texts src by n) g ≡ Some v → flow c texts src by (suc n) name ≡ Some v
  unfolding flow
  next n name v g same gives = ap (given c texts src (flow c texts src by n)) same ∙ gives

  node_fires : (node : ℕ) → NodeStep c node d → NodeFires c node (has names)
  node_fires node moves = subst (NodeFires c node) (sym (same_functions (has names) (fires_in d) (fired_are_names c texts names entry step is))) moves.fires

  FlowsAt : ℕ → ℕ → Type 0
  FlowsAt n name = (v : Value) → d name ≡ Some v → flow c texts src by n name ≡ Some v

  outgoing_flows : (n node name : ℕ) → ((input : ℕ) → IsIncoming c node input → FlowsAt n input) → IsOutgoing c node name → FlowsAt (suc n) name
  unfolding FlowsAt
  outgoing_flows n node name inputs out v at =
      let moves = moves_with c checked texts d d is.meets is.meets (λ m. refl) (λ m fired. firing_below c root (has names) firing.connected m (fired_are_names c texts names entry step is m ∙ fired)) same_ports same_cells d is.meets node name v (inr out) at in
      let input = moves.0.fires.input in
      let incoming = moves.0.fires.incoming in
      let value = some_of (d input) moves.0.fires.chosen in
      let same : value.0 ≡ moves.0.value = subst (λ o. IfSome o (λ x. x ≡ moves.0.value)) value.1 (moves.0.same input (inl incoming)) in
      let fires = node_fires node moves.0 in
      next n name v (giver.Same fires.input) (giver_out c names node name out ∙ input_is c names node fires)
      (inputs fires.input fires.incoming v (ap d (moves.0.fires.alone fires.input fires.incoming (sym (fired_are_names c texts names entry step is fires.input) ∙ fires.chosen)) ∙ value.1 ∙ ap Some (same ∙ sym moves.1)))
    where
      same_ports : (node p : ℕ) (v w : Value) → IsPortAt c Put node p → d p ≡ Some v → d p ≡ Some w → v ≡ w
      same_ports node p v w port at_v at_w = same_Some v w (sym at_v ∙ at_w)

      same_cells : (k : ℕ) (channel : Channel) (v w : Value) → slice_get c.channels k ≡ Some channel → is_fifo channel.kind ≡ true → d (end_b c k) ≡ Some v → d (end_b c k) ≡ Some w → v ≡ w
      same_cells k channel v w found fifo at_v at_w = same_Some v w (sym at_v ∙ at_w)

  port_flows : (n node p : ℕ) → IsPortAt c Put node p → FlowsAt (suc n) p
  unfolding FlowsAt
  port_flows n node p port v at =
      next n p v (giver.Port p) (giver_put c names node p port)
      (ap (option_and_then offered_value) (put_read node p v port at) ∙ decoded_of v (value_at p v at) (code_of v) refl)

  module _ (k : ℕ) (channel : Channel) (found : slice_get c.channels k ≡ Some channel) where
    b_next : (n : ℕ) (w : Value) (kind : Kind) → channel.kind ≡ kind → given c texts src (flow c texts src by n) (b_giver c names k channel.b kind) ≡ Some w → flow c texts src by (suc n) (end_b c k) ≡ Some w
    b_next n w kind same gives = next n (end_b c k) w (b_giver c names k channel.b kind) (giver_b c names k channel found ∙ ap (b_giver c names k channel.b) same) gives

    image_is : (fun : Fun) → channel.kind ≡ Transform fun → (v : Value) → image_at c texts k v ≡ yielded texts fun v
    image_is fun same v = ap (λ o. option_and_then (λ (ch : Channel). image_of_kind texts ch.kind v) o) found ∙ ap (λ kd. image_of_kind texts kd v) same

    handed : (n : ℕ) (v w : Value) (kind : Kind) → channel.kind ≡ kind → hands_on kind ≡ true → BothFire texts kind v w → IsValue w → flow c texts src by n (end_a c k) ≡ Some v → flow c texts src by (suc n) (end_b c k) ≡ Some w
    handed n v w Sync same on both is_w at = b_next n w Sync same (at ∙ ap Some (sym both))
    handed n v w Lossy same on both is_w at = b_next n w Lossy same (at ∙ ap Some (sym both))
    handed n v w Drain same on both is_w at = absurd (false≢true on)
    handed n v w (Fifo first) same on both is_w at = absurd both
    handed n v w (Filter guard) same on both is_w at = b_next n w (Filter guard) same (at ∙ ap Some (sym both.1))
    handed n v w (Transform fun) same on both is_w at =
        b_next n w (Transform fun) same (ap (option_and_then (image_at c texts k)) at ∙ image_is fun same v ∙ (yielded_yields texts fun v w).1 (both, is_w))

    cell_flows : (n : ℕ) (v : Value) (kind : Kind) → channel.kind ≡ kind → is_fifo kind ≡ true → d (end_b c k) ≡ Some v → flow c texts src by (suc n) (end_b c k) ≡ Some v
    cell_flows n v (Fifo first) same fifo at =
        b_next n v (Fifo first) same
        (ap (option_and_then decoded) (cell_read k channel v found (ap is_fifo same) at) ∙ decoded_of v (value_at (end_b c k) v at) (code_of v) refl)
    cell_flows n v Sync same fifo at = absurd (false≢true fifo)
    cell_flows n v Lossy same fifo at = absurd (false≢true fifo)
    cell_flows n v Drain same fifo at = absurd (false≢true fifo)
    cell_flows n v (Filter guard) same fifo at = absurd (false≢true fifo)
    cell_flows n v (Transform fun) same fifo at = absurd (false≢true fifo)

  given_a : (node name : ℕ) (end : IsEndB c Incoming node name) (v : Value) → is_fifo end.channel.kind ≡ false → d (end_b c end.number) ≡ Some v
      → (x : Value) × (d (end_a c end.number) ≡ Some x) × BothFire texts end.channel.kind x v
  given_a node name end v other at =
      ⊎_elim
      (λ past. absurd (none-some v (sym past.no_b ∙ at)))
      (λ passes. passes_gives texts end.channel.kind (d (end_a c end.number)) (d (end_b c end.number)) v at passes)
      (is.meets.channels end.number end.channel end.found other)

  end_flows : (n node name : ℕ) (end : IsEndB c Incoming node name) → (hands_on end.channel.kind ≡ true → FlowsAt n (end_a c end.number)) → FlowsAt (suc n) name
  unfolding FlowsAt
  end_flows n node name end before v at =
      let at_b : d (end_b c end.number) ≡ Some v = ap d (sym end.named) ∙ at in
      subst (λ m. flow c texts src by (suc n) m ≡ Some v) (sym end.named)
      (⊎_elim
      (λ fifo. cell_flows end.number end.channel end.found n v end.channel.kind refl fifo at_b)
      (λ on.
      let a = given_a node name end v on.0 at_b in
      handed end.number end.channel end.found n a.0 v end.channel.kind refl on.1 a.2 (value_at (end_b c end.number) v at_b) (before on.1 a.0 a.1))
      (comes_out end.channel.kind end.way))

  lower : (node name : ℕ) (end : IsEndB c Incoming node name) → hands_on end.channel.kind ≡ true → node_rank c end.channel.a < node_rank c node
  lower node name end on = subst (λ b. node_rank c end.channel.a < node_rank c b) end.at (ranks_rise_along c checked end.number end.channel end.found on)

  a_goes_out : (node name : ℕ) (end : IsEndB c Incoming node name) → IsOutgoing c end.channel.a (end_a c end.number)
  a_goes_out node name end = inr (inl (record { number = end.number; channel = end.channel; found = end.found; at = refl; named = refl }))

  incoming_flows : (n node name : ℕ) → 2 * node_rank c node < n → IsIncoming c node name → FlowsAt n name
  incoming_flows zero node name low incoming = absurd (omega (arith, low))
  incoming_flows (suc n) node name low (inl port) = port_flows n node name port
  incoming_flows (suc zero) node name low (inr end) = end_flows zero node name end (λ on. absurd (omega (arith, low, lower node name end on)))
  incoming_flows (suc (suc n)) node name low (inr end) =
      end_flows (suc n) node name end (λ on.
      outgoing_flows n end.channel.a (end_a c end.number) (λ input incoming. incoming_flows n end.channel.a input (omega (arith, low, lower node name end on)) incoming) (a_goes_out node name end))

  -- every name of the firing has the datum that is calculated
  name_flows : (name : ℕ) (v : Value) → d name ≡ Some v → flow_at c texts src names name ≡ Some v
  unfolding FlowsAt
  name_flows name v at =
      let fired : has names name ≡ true = fired_are_names c texts names entry step is name ∙ ap is_some at in
      let node = node_of_name c name (firing_below c root (has names) firing.connected name fired) in
      ⊎_elim
      (λ incoming. incoming_flows (suc (2 * c.nodes + 1)) node.0 name (omega (arith, rank_within c node.0)) incoming v at)
      (λ out. outgoing_flows (2 * c.nodes + 1) node.0 name (λ input incoming. incoming_flows (2 * c.nodes + 1) node.0 input (omega (arith, rank_within c node.0)) incoming) out v at)
      node.1

  fired_value : (name : ℕ) → has names name ≡ true → (v : Value) × (d name ≡ Some v)
  fired_value name fired = some_of (d name) (sym (fired_are_names c texts names entry step is name) ∙ fired)

  flows : (name : ℕ) → has names name ≡ true → (v : Value) × (d name ≡ Some v) × (flow_at c texts src names name ≡ Some v)
  flows name fired = let value = fired_value name fired in (value.0, value.1, name_flows name value.0 value.1)

  pub data_is : data_in c texts src names ≡ d
  data_is = same_functions (data_in c texts src names) d (λ name. go name (has names name) refl)
    where
      go : (name : ℕ) (b : Bool) → has names name ≡ b → cond b (flow_at c texts src names name) None ≡ d name
      go name true e = let value = flows name e in value.2 ∙ sym value.1
      go name false e = sym (none_there (d name) (sym (fired_are_names c texts names entry step is name) ∙ e))
        where
          none_there : (o : Option Value) → is_some o ≡ false → o ≡ None
          none_there None f = refl
          none_there (Some v) f = absurd (false≢true (sym f))

  -- every fact is so
  abbrev at : Data
  at = flow_at c texts src names

  So : Fact → Type 0
  So f = is_so c texts reading at f ≡ true

  offered : (p : ℕ) → p < length c.ports → has names p ≡ true → So (fact.Offered p)
  unfolding So
  offered p below fired =
      let port = slice_get_found c.ports p below in
      let value = fired_value p fired in
      by_way port.0.node port.0.way port.1 value.0 value.1
    where
      words_offered : (word : ℕ) → port_words reading p ≡ Some (1, word) → is_offered reading p ≡ true
      words_offered word e = ap (λ o. option_map_or (λ words. nat_eq words.0 1) o false) e

      by_way : (node : ℕ) (way : Way) → slice_get c.ports p ≡ Some (record { node = node; way = way }) → (v : Value) → d p ≡ Some v → is_offered reading p ≡ true
      by_way node Put found v at_p = words_offered (code_of v) (put_read node p v (record { port = found }) at_p)
      by_way node Get found v at_p = let word = get_read node p v (record { port = found }) at_p in words_offered word.0 word.1

  module _ (k : ℕ) (channel : Channel) (found : slice_get c.channels k ≡ Some channel) (fired : has names (end_a c k) ≡ true) where
    met_is : (guard : Guard) → channel.kind ≡ Filter guard → (v : Value) → met_at c texts k v ≡ is_met texts guard v
    met_is guard same v = ap (λ o. option_map_or (λ (ch : Channel). met_by_kind texts ch.kind v) o false) found ∙ ap (λ kd. met_by_kind texts kd v) same

    emptied : is_fifo channel.kind ≡ true → So (fact.Empty (cell_of c k))
    unfolding So
    emptied fifo = let value = fired_value (end_a c k) fired in ap (λ o. option_map_or (λ word. nat_eq word 0) o false) (empty_read k channel value.0 found fifo value.1)

    guarded : (guard : Guard) → channel.kind ≡ Filter guard → So (cond (has names (end_b c k)) (fact.Met k (end_a c k)) (fact.Failed k (end_a c k)))
    unfolding So
    guarded guard same = go (has names (end_b c k)) refl
      where
        passes : (v : Value) → d (end_a c k) ≡ Some v → Passes texts (Filter guard) (Some v) (d (end_b c k))
        passes v at_a =
            ⊎_elim
            (λ past. absurd (none-some v (sym past.no_a ∙ at_a)))
            (λ p. subst (λ x. Passes texts (Filter guard) x (d (end_b c k))) at_a (subst (λ kd. Passes texts kd (d (end_a c k)) (d (end_b c k))) same p))
            (is.meets.channels k channel found (ap is_fifo same))

        go : (b : Bool) → has names (end_b c k) ≡ b → is_so c texts reading at (cond b (fact.Met k (end_a c k)) (fact.Failed k (end_a c k))) ≡ true
        go true e =
            let a = flows (end_a c k) fired in
            let b = fired_value (end_b c k) e in
            ap (λ o. option_map_or (met_at c texts k) o false) a.2 ∙ met_is guard same a.0
            ∙ (guard_decides texts a.0 guard).1 (subst (λ x. Passes texts (Filter guard) (Some a.0) x) b.1 (passes a.0 a.1)).0
        go false e =
            let a = flows (end_a c k) fired in
            let quiet : d (end_b c k) ≡ None = none_of (d (end_b c k)) (sym (fired_are_names c texts names entry step is (end_b c k)) ∙ e) in
            ap (λ o. option_map_or (λ x. not (met_at c texts k x)) o false) a.2 ∙ ap not (met_is guard same a.0)
            ∙ not_met (is_met texts guard a.0) refl (λ met. subst (λ x. Passes texts (Filter guard) (Some a.0) x) quiet (passes a.0 a.1) ((guard_decides texts a.0 guard).0 met))
          where
            none_of : (o : Option Value) → is_some o ≡ false → o ≡ None
            none_of None f = refl
            none_of (Some v) f = absurd (false≢true (sym f))

            not_met : (b : Bool) → b ≡ b → (b ≡ true → ⊥) → not b ≡ true
            not_met true same' never = absurd (never refl)
            not_met false same' never = refl

    a_facts_so : (kind : Kind) → channel.kind ≡ kind → (f : Fact) → Among f (a_facts c names k kind) → So f
    a_facts_so Sync same f among = absurd among
    a_facts_so Lossy same f among = absurd among
    a_facts_so Drain same f among = absurd among
    a_facts_so (Fifo first) same f among = ⊎_elim (λ this. subst So this (emptied (ap is_fifo same))) (λ later. absurd later) among
    a_facts_so (Filter guard) same f among = ⊎_elim (λ this. subst So this (guarded guard same)) (λ later. absurd later) among
    a_facts_so (Transform fun) same f among = absurd among

  own_facts_so : (name : ℕ) → has names name ≡ true → (f : Fact) → Among f (own_facts c names name) → So f
  own_facts_so name fired f among =
      ⊎_elim
      (λ below. ⊎_elim (λ this. subst So this (offered name below fired)) (λ later. absurd later) (subst (λ fs. Among f fs) (facts_port c names name below) among))
      (λ end.
      let channel = slice_get_found c.channels end.0 end.1 in
      ⊎_elim
      (λ is_a.
      a_facts_so end.0 channel.0 channel.1 (ap (has names) (sym is_a) ∙ fired) channel.0.kind refl f
      (subst (λ fs. Among f fs) (ap (own_facts c names) is_a ∙ facts_a c names end.0 channel.0 channel.1) among))
      (λ is_b. absurd (subst (λ fs. Among f fs) (ap (own_facts c names) is_b ∙ facts_b c names end.0 channel.0 channel.1) among))
      end.2)
      (name_cases c name (firing_below c root (has names) firing.connected name fired))

  facts_so : (name : ℕ) → has names name ≡ true → (f : Fact) → Among f (facts_of c names name) → So f
  unfolding So
  facts_so name fired f among =
      ⊎_elim
      (λ known. subst (λ g. is_so c texts reading at g ≡ true) known (ap is_some (flows name fired).2))
      (own_facts_so name fired f)
      among

  pub firing_allowed : is_allowed c texts reading names ≡ true
  unfolding So
  firing_allowed =
      all_from (λ name. list_all (is_so c texts reading at) (facts_of c names name)) names (λ name among.
      all_from (is_so c texts reading at) (facts_of c names name) (facts_so name (has_among names name among)))
