-- A firing that is allowed by calculation is allowed: its data meet what channels and nodes ask.
use Rattle.std.proofs.Common.{◌≡◌, ℕ, zero, suc, ◌+◌, ◌*◌, ◌<◌, ◌⊎◌, inl, inr, ⊎_elim, List, [], ◌∷◌, length, map, slice_get, Option, Some, None, is_some, IfSome, Bool, true, false, not, cond, nat_eq, IsTrue, refl, sym, ap, ◌∙◌, subst, arith}
use Rattle.std.specs.Prelude.{unwrap_or}
use Rattle.std.specs.List.{list_all, list_any, AllByRecursion}
use Rattle.std.specs.Option.{option_map_or, option_and_then}
use Rattle.std.proofs.lemmas.Bool.{false≢true, eqb-true, eq-eqb}
use Rattle.std.proofs.lemmas.Option.{same_Some, none-some, slice_get_within}
use Rattle.std.proofs.lemmas.List.Elements.{All-from_recursion}
use Rattle.reo_value.specs.declared.value.Value.{Value}
use Rattle.reo_value.specs.declared.value.Value.TheVariants.{Sym}
use Rattle.reo_value.specs.declared.op.Way.TheVariants.{Put, Get}
use Rattle.reo_value.specs.Code.{code_of, IsValue}
use Rattle.reo_value.specs.declared.op.Way.{Way}
use Rattle.reo_guard.specs.declared.guard.Guard.{Guard}
use Rattle.reo_guard.specs.declared.fun.Fun.{Fun}
use Rattle.reo_net.specs.declared.kind.Kind.{Kind}
use Rattle.reo_net.specs.declared.kind.Kind.TheVariants.{Sync, Lossy, Drain, Fifo, Filter, Transform}
use Rattle.reo_net.specs.declared.circuit.Channel.{Channel}
use Rattle.reo_net.specs.declared.circuit.Port.{Port}
use Rattle.reo_net.specs.declared.circuit.RawCircuit.{RawCircuit}
use Rattle.reo_net.specs.declared.circuit.Step.{Step}
use Rattle.reo_net.specs.declared.stand.Stand.{Stand}
use Rattle.reo_net.specs.Names.{end_a, end_b, IsPortAt, IsNameOf}
use Rattle.reo_net.specs.Kind.{is_fifo, fires_ends, Passes, BothFire, OnlyAFires}
use Rattle.reo_net.specs.Stand.{is_put, stand_of}
use Rattle.reo_net.specs.Steps.{Data, datum, fires_in, cell_of, NodeFires, NodeStep, NodeAllows}
use Rattle.reo_net.specs.Regions.{Automaton, OfChannel, OfNode, IsSynchronous, SameRegion, linked, HasName, AutomatonFires}
use Rattle.reo_net.proofs.StandLemmas.{incoming_stands, outgoing_stands}
use Rattle.reo_growth.specs.Lists.{has, Among}
use Rattle.reo_growth.proofs.ListLemmas.{all_gives, any_gives, any_from}
use Rattle.reo_product.specs.Table.{IsFiring}
use Rattle.reo_fabric.specs.declared.reading.Reading.{Reading}
use Rattle.reo_fabric.specs.Entry.{at_place}
use Rattle.reo_fabric.specs.Decider.{port_words}
use Rattle.reo_fabric.proofs.PlaceLemmas.{at_mapped}
use Rattle.reo_flow.specs.declared.giver.Giver.{Giver}
use Rattle.reo_flow.specs.declared.giver.Giver.TheVariants as giver
use Rattle.reo_flow.specs.declared.fact.Fact.{Fact}
use Rattle.reo_flow.specs.declared.fact.Fact.TheVariants as fact
use Rattle.reo_flow.specs.Places.{entry_of, at_cells, at_ports, value_at_port, buffers}
use Rattle.reo_flow.specs.Step.{IsPast, MeetLinks, IsStepOf}
use Rattle.reo_flow.specs.Tests.{decoded, is_met, yielded}
use Rattle.reo_flow.specs.Flow.{b_giver, end_facts, a_facts, giver_of, Sources, image_of_kind, image_at, given, flow, flow_at, data_in, offered_value, sources_of, met_by_kind, met_at, is_so, facts_of, own_facts, is_allowed}
use Rattle.reo_flow.specs.Allows.{IsRead}
use Rattle.reo_flow.proofs.PlacesLemmas.{given_with, stands_cell}
use Rattle.reo_flow.proofs.StepLaw.{same_functions, fired_names}
use Rattle.reo_flow.proofs.TestLemmas.{guard_decides, yielded_yields, decoded_code}
use Rattle.reo_flow.proofs.FlowLemmas.{among_has, has_among, giver_b, giver_put, giver_out, input_is, facts_port, facts_a, and_then_gives, flow_given}

-- what flows are values
module _ (c : RawCircuit) (texts : List (List ℕ)) (reading : Reading) (givers : ℕ → Giver) where
  abbrev src : Sources
  src = sources_of reading

  cell_value : (cell : ℕ) (v : Value) → src.cell cell ≡ Some v → (at_place reading.cells cell ≡ Some (code_of v)) × IsValue v
  cell_value cell v is =
      let word = and_then_gives c texts src decoded (at_place reading.cells cell) v is in
      let code = decoded_code word.0 v word.2 in
      (word.1 ∙ ap Some (sym code.0), code.1)

  offered_gives : (words : ℕ × ℕ) (v : Value) → offered_value words ≡ Some v → (words ≡ (1, code_of v)) × IsValue v
  offered_gives words v is = go (nat_eq words.0 1) refl is
    where
      go : (b : Bool) → nat_eq words.0 1 ≡ b → cond b (decoded words.1) None ≡ Some v → (words ≡ (1, code_of v)) × IsValue v
      go true e at = let code = decoded_code words.1 v at in ((λ i. (eqb-true words.0 1 e i, sym code.0 i)), code.1)
      go false e at = absurd (none-some v at)

  port_value : (p : ℕ) (v : Value) → src.port p ≡ Some v → (port_words reading p ≡ Some (1, code_of v)) × IsValue v
  port_value p v is =
      let words = and_then_gives c texts src offered_value (port_words reading p) v is in
      let code = offered_gives words.0 v words.2 in
      (words.1 ∙ ap Some code.0, code.1)

  image_yields : (k : ℕ) (x v : Value) → image_at c texts k x ≡ Some v → IsValue v
  image_yields k x v is = let at = and_then_gives c texts src (λ (ch : Channel). image_of_kind texts ch.kind x) (slice_get c.channels k) v is in by at.0.kind at.2
    where
      by : (kind : Kind) → image_of_kind texts kind x ≡ Some v → IsValue v
      by Sync e = absurd (none-some v e)
      by Lossy e = absurd (none-some v e)
      by Drain e = absurd (none-some v e)
      by (Fifo first) e = absurd (none-some v e)
      by (Filter guard) e = absurd (none-some v e)
      by (Transform fun) e = ((yielded_yields texts fun x v).0 e).1

  flow_value : (n name : ℕ) (v : Value) → flow c texts src givers n name ≡ Some v → IsValue v
  unfolding flow
  flow_value zero name v is = absurd (none-some v is)
  flow_value (suc n) name v is = by (givers name) is (flow_value n)
    where
      by : (g : Giver) → given c texts src (flow c texts src givers n) g ≡ Some v → ((other : ℕ) (w : Value) → flow c texts src givers n other ≡ Some w → IsValue w) → IsValue v
      by giver.Unfed e each = absurd (none-some v e)
      by (giver.Cell cell) e each = (cell_value cell v e).1
      by (giver.Port port) e each = (port_value port v e).1
      by (giver.Same other) e each = each other v e
      by (giver.Image k other) e each = let at = and_then_gives c texts src (image_at c texts k) (flow c texts src givers n other) v e in image_yields k at.0 v at.2

some_of : {X : Type 0} (o : Option X) → is_some o ≡ true → (x : X) × (o ≡ Some x)
some_of None h = absurd (false≢true h)
some_of (Some x) h = (x, refl)

if_some : (o : Option Value) (v : Value) → ((w : Value) → o ≡ Some w → w ≡ v) → IfSome o (λ d. d ≡ v)
if_some None v h = tt
if_some (Some w) v h = h w refl

-- a firing that is allowed by calculation
module _ (c : RawCircuit) (texts : List (List ℕ)) (reading : Reading) (names : List ℕ) (root : Automaton) (firing : IsFiring c root names) (allowed : is_allowed c texts reading names ≡ true) where
  abbrev at : Data
  at = flow_at c texts (sources_of reading) names

  abbrev d : Data
  d = data_in c texts (sources_of reading) names

  facts_so : (name : ℕ) → has names name ≡ true → (f : Fact) → Among f (facts_of c names name) → is_so c texts reading at f ≡ true
  facts_so name fired f among =
      all_gives (is_so c texts reading at) (facts_of c names name) f
      (all_gives (λ n. list_all (is_so c texts reading at) (facts_of c names n)) names name allowed (among_has names name fired)) among

  own_so : (name : ℕ) → has names name ≡ true → (f : Fact) → own_facts c names name ≡ f ∷ [] → is_so c texts reading at f ≡ true
  own_so name fired f are = facts_so name fired f (inr (subst (λ fs. Among f fs) (sym are) (inl refl)))

  known : (name : ℕ) → has names name ≡ true → (v : Value) × (at name ≡ Some v)
  known name fired = some_of (at name) (facts_so name fired (fact.Known name) (inl refl))

  d_is : (name : ℕ) → has names name ≡ true → d name ≡ at name
  d_is name fired = ap (λ b. cond b (at name) None) fired

  d_none : (name : ℕ) → has names name ≡ false → d name ≡ None
  d_none name quiet = ap (λ b. cond b (at name) None) quiet

  d_some : (name : ℕ) (v : Value) → d name ≡ Some v → (has names name ≡ true) × (at name ≡ Some v)
  d_some name v is = go (has names name) refl is
    where
      go : (b : Bool) → has names name ≡ b → cond b (at name) None ≡ Some v → (has names name ≡ true) × (at name ≡ Some v)
      go true e now = (e, now)
      go false e now = absurd (none-some v now)

  fires_are : (name : ℕ) → has names name ≡ fires_in d name
  fires_are name = go (has names name) refl
    where
      go : (b : Bool) → has names name ≡ b → b ≡ is_some (cond b (at name) None)
      go true e = sym (ap is_some (known name e).1)
      go false e = refl

  given_at : (name : ℕ) (v : Value) (g : Giver) → giver_of c names name ≡ g → at name ≡ Some v → given c texts (sources_of reading) at g ≡ Some v
  given_at name v g is now =
      subst (λ x. given c texts (sources_of reading) at x ≡ Some v) is (flow_given c texts (sources_of reading) (giver_of c names) (2 * c.nodes + 1) name v now)

  -- an automaton with a name that fires, makes one of its transitions
  region_of_name : (x : Automaton) (name : ℕ) → IsSynchronous c x → HasName c x name → has names name ≡ true → SameRegion c root x
  region_of_name x name is named fired = let in_region = firing.connected.within name fired in linked name in_region.1 is in_region.2 named

  automaton_fires : (x : Automaton) (name : ℕ) → IsSynchronous c x → HasName c x name → has names name ≡ true → AutomatonFires c x (has names)
  automaton_fires x name is named fired =
      ⊎_elim (λ quiet. absurd (false≢true (sym (quiet name named) ∙ fired))) (λ fires. fires) (firing.connected.each x (region_of_name x name is named fired))

  -- nodes
  node_step : (node name : ℕ) → node < c.nodes → IsNameOf c node name → has names name ≡ true → NodeStep c node d
  node_step node name is_node named fired =
      let fires = automaton_fires (OfNode node) name is_node named fired in
      let value = known fires.input fires.chosen in
      record {
        fires = subst (NodeFires c node) (same_functions (has names) (fires_in d) fires_are) fires;
        value = value.0;
        same = λ n of_node. if_some (d n) value.0 (λ w is.
            let now = d_some n w is in
            ⊎_elim
            (λ incoming. same_Some w value.0 (sym now.1 ∙ ap at (fires.alone n incoming now.0) ∙ value.1))
            (λ out. same_Some w value.0 (sym (given_at n w (giver.Same fires.input) (giver_out c names node n out ∙ input_is c names node fires) now.1) ∙ value.1))
            of_node);
      }

  at_node : ℕ → ℕ → Bool
  at_node node name = option_map_or (λ (s : Stand). nat_eq s.node node) (stand_of c name) false

  named_at : (node name : ℕ) → IsNameOf c node name → at_node node name ≡ true
  unfolding at_node
  named_at node name (inl incoming) = ap (λ o. option_map_or (λ (s : Stand). nat_eq s.node node) o false) ((incoming_stands c node name).1 incoming) ∙ eq-eqb node node refl
  named_at node name (inr out) = ap (λ o. option_map_or (λ (s : Stand). nat_eq s.node node) o false) ((outgoing_stands c node name).1 out) ∙ eq-eqb node node refl

  at_named : (node name : ℕ) → at_node node name ≡ true → IsNameOf c node name
  unfolding at_node
  at_named node name is = go (stand_of c name) refl is
    where
      go : (o : Option Stand) → stand_of c name ≡ o → option_map_or (λ (s : Stand). nat_eq s.node node) o false ≡ true → IsNameOf c node name
      go None e at' = absurd (false≢true at')
      go (Some s) e at' = way s.incoming refl
        where
          way : (b : Bool) → s.incoming ≡ b → IsNameOf c node name
          way true goes = inl ((incoming_stands c node name).0 (e ∙ ap Some (λ i. record { node = eqb-true s.node node at' i; incoming = goes i })))
          way false goes = inr ((outgoing_stands c node name).0 (e ∙ ap Some (λ i. record { node = eqb-true s.node node at' i; incoming = goes i })))

  node_allows : (node : ℕ) → node < c.nodes → NodeAllows c node d
  node_allows node is_node = go (list_any (at_node node) names) refl
    where
      go : (b : Bool) → list_any (at_node node) names ≡ b → NodeAllows c node d
      go true e = let name = any_gives (at_node node) names e in inr (node_step node name.0 is_node (at_named node name.0 name.2) (has_among names name.0 name.1))
      go false e = inl (λ name named. quiet name named (has names name) refl)
        where
          quiet : (name : ℕ) → IsNameOf c node name → (b : Bool) → has names name ≡ b → d name ≡ None
          quiet name named true fired = absurd (false≢true (sym e ∙ any_from (at_node node) names name (among_has names name fired) (named_at node name named)))
          quiet name named false none = d_none name none

  -- channels
  kind_of : (k : ℕ) (channel : Channel) → slice_get c.channels k ≡ Some channel → (fires : AutomatonFires c (OfChannel k) (has names)) → IsTrue (fires_ends channel.kind (has names (end_a c k)) (has names (end_b c k)))
  kind_of k channel found fires =
      subst (λ (ch : Channel). IsTrue (fires_ends ch.kind (has names (end_a c k)) (has names (end_b c k)))) (same_Some fires.0 channel (sym fires.1 ∙ found)) fires.2

  module _ (k : ℕ) (channel : Channel) (found : slice_get c.channels k ≡ Some channel) where
    a_fact : (kind : Kind) → channel.kind ≡ kind → (f : Fact) → end_facts c names k true (record channel { kind = kind }) ≡ f ∷ [] → has names (end_a c k) ≡ true → is_so c texts reading at f ≡ true
    a_fact kind is f are fired = own_so (end_a c k) fired f (facts_a c names k channel found ∙ ap (λ kd. end_facts c names k true (record channel { kind = kd })) is ∙ are)

    met_is : (guard : Guard) → channel.kind ≡ Filter guard → (v : Value) → met_at c texts k v ≡ is_met texts guard v
    met_is guard is v = ap (λ o. option_map_or (λ (ch : Channel). met_by_kind texts ch.kind v) o false) found ∙ ap (λ kd. met_by_kind texts kd v) is

    image_is : (fun : Fun) → channel.kind ≡ Transform fun → (v : Value) → image_at c texts k v ≡ yielded texts fun v
    image_is fun is v = ap (λ o. option_and_then (λ (ch : Channel). image_of_kind texts ch.kind v) o) found ∙ ap (λ kd. image_of_kind texts kd v) is

    b_given : (kind : Kind) → channel.kind ≡ kind → (w : Value) → at (end_b c k) ≡ Some w → given c texts (sources_of reading) at (b_giver c names k channel.b kind) ≡ Some w
    b_given kind is w now = given_at (end_b c k) w (b_giver c names k channel.b kind) (giver_b c names k channel found ∙ ap (b_giver c names k channel.b) is) now

    -- with both ends, or with end a alone
    both_pass : (kind : Kind) → channel.kind ≡ kind → is_fifo kind ≡ false → fires_ends kind true true ≡ true → has names (end_a c k) ≡ true → has names (end_b c k) ≡ true → (v w : Value) → at (end_a c k) ≡ Some v → at (end_b c k) ≡ Some w → BothFire texts kind v w
    both_pass Sync is other fires fired_a fired_b v w at_a at_b = same_Some w v (sym (b_given Sync is w at_b) ∙ at_a)
    both_pass Lossy is other fires fired_a fired_b v w at_a at_b = same_Some w v (sym (b_given Lossy is w at_b) ∙ at_a)
    both_pass Drain is other fires fired_a fired_b v w at_a at_b = tt
    both_pass (Fifo first) is other fires fired_a fired_b v w at_a at_b = absurd (false≢true (sym other))
    both_pass (Filter guard) is other fires fired_a fired_b v w at_a at_b =
        let met = a_fact (Filter guard) is (fact.Met k (end_a c k)) (ap (λ b. (cond b (fact.Met k (end_a c k)) (fact.Failed k (end_a c k))) ∷ []) fired_b) fired_a in (
          (guard_decides texts v guard).0 (sym (met_is guard is v) ∙ sym (ap (λ o. option_map_or (met_at c texts k) o false) at_a) ∙ met),
          same_Some w v (sym (b_given (Filter guard) is w at_b) ∙ at_a),
        )
    both_pass (Transform fun) is other fires fired_a fired_b v w at_a at_b =
        let image = and_then_gives c texts (sources_of reading) (image_at c texts k) (at (end_a c k)) w (b_given (Transform fun) is w at_b) in
        let same : image.0 ≡ v = same_Some image.0 v (sym image.1 ∙ at_a) in
        ((yielded_yields texts fun v w).0 (sym (image_is fun is v) ∙ ap (image_at c texts k) (sym same) ∙ image.2)).0

    a_passes : (kind : Kind) → channel.kind ≡ kind → fires_ends kind true false ≡ true → is_fifo kind ≡ false → has names (end_a c k) ≡ true → has names (end_b c k) ≡ false → (v : Value) → at (end_a c k) ≡ Some v → OnlyAFires texts kind v
    a_passes Sync is fires other fired_a quiet_b v at_a = absurd (false≢true fires)
    a_passes Lossy is fires other fired_a quiet_b v at_a = tt
    a_passes Drain is fires other fired_a quiet_b v at_a = absurd (false≢true fires)
    a_passes (Fifo first) is fires other fired_a quiet_b v at_a = absurd (false≢true (sym other))
    a_passes (Filter guard) is fires other fired_a quiet_b v at_a =
        let failed = a_fact (Filter guard) is (fact.Failed k (end_a c k)) (ap (λ b. (cond b (fact.Met k (end_a c k)) (fact.Failed k (end_a c k))) ∷ []) quiet_b) fired_a in
        let not_met : not (is_met texts guard v) ≡ true = ap not (sym (met_is guard is v)) ∙ sym (ap (λ o. option_map_or (λ x. not (met_at c texts k x)) o false) at_a) ∙ failed in
        λ holds. false≢true (sym (ap not ((guard_decides texts v guard).1 holds)) ∙ not_met)
    a_passes (Transform fun) is fires other fired_a quiet_b v at_a = absurd (false≢true fires)

    no_b_alone : (kind : Kind) → is_fifo kind ≡ false → fires_ends kind false true ≡ true → ⊥
    no_b_alone Sync other fires = false≢true fires
    no_b_alone Lossy other fires = false≢true fires
    no_b_alone Drain other fires = false≢true fires
    no_b_alone (Fifo first) other fires = false≢true (sym other)
    no_b_alone (Filter guard) other fires = false≢true fires
    no_b_alone (Transform fun) other fires = false≢true fires

    channel_passes : is_fifo channel.kind ≡ false → IsPast c k d ⊎ Passes texts channel.kind (d (end_a c k)) (d (end_b c k))
    channel_passes other = go (has names (end_a c k)) refl (has names (end_b c k)) refl
      where
        fires : (name : ℕ) → HasName c (OfChannel k) name → has names name ≡ true → (a b : Bool) → has names (end_a c k) ≡ a → has names (end_b c k) ≡ b → fires_ends channel.kind a b ≡ true
        fires name named fired a b is_a is_b =
            ap (λ x. fires_ends channel.kind x b) (sym is_a) ∙ ap (fires_ends channel.kind (has names (end_a c k))) (sym is_b) ∙ kind_of k channel found (automaton_fires (OfChannel k) name (channel, found, other) named fired)

        go : (a : Bool) → has names (end_a c k) ≡ a → (b : Bool) → has names (end_b c k) ≡ b → IsPast c k d ⊎ Passes texts channel.kind (d (end_a c k)) (d (end_b c k))
        go false is_a false is_b = inl (record { no_a = d_none (end_a c k) is_a; no_b = d_none (end_b c k) is_b })
        go false is_a true is_b = absurd (no_b_alone channel.kind other (fires (end_b c k) (inr refl) is_b false true is_a is_b))
        go true is_a false is_b =
            let v = known (end_a c k) is_a in
            inr (subst (λ x. Passes texts channel.kind x (d (end_b c k))) (sym (d_is (end_a c k) is_a ∙ v.1)) (subst (λ y. Passes texts channel.kind (Some v.0) y) (sym (d_none (end_b c k) is_b))
            (a_passes channel.kind refl (fires (end_a c k) (inl refl) is_a true false is_a is_b) other is_a is_b v.0 v.1)))
        go true is_a true is_b =
            let v = known (end_a c k) is_a in
            let w = known (end_b c k) is_b in
            inr (subst (λ x. Passes texts channel.kind x (d (end_b c k))) (sym (d_is (end_a c k) is_a ∙ v.1)) (subst (λ y. Passes texts channel.kind (Some v.0) y) (sym (d_is (end_b c k) is_b ∙ w.1))
            (both_pass channel.kind refl other (fires (end_a c k) (inl refl) is_a true true is_a is_b) is_a is_b v.0 w.0 v.1 w.1)))

  pub data_meet : MeetLinks c texts d
  data_meet = record { channels = λ k channel found other. channel_passes k channel found other; nodes = node_allows }

  -- what the reading has
  offered_port : (p : ℕ) → p < length c.ports → has names p ≡ true → (word : ℕ) × (port_words reading p ≡ Some (1, word))
  offered_port p below fired =
      let so = own_so p fired (fact.Offered p) (facts_port c names p below) in
      go (port_words reading p) so
    where
      go : (o : Option (ℕ × ℕ)) → option_map_or (λ words. nat_eq words.0 1) o false ≡ true → (word : ℕ) × (o ≡ Some (1, word))
      go None e = absurd (false≢true e)
      go (Some words) e = (words.1, ap Some (λ i. (eqb-true words.0 1 e i, words.1)))

  fifo_kind_fact : (k : ℕ) (kind : Kind) → is_fifo kind ≡ true → a_facts c names k kind ≡ fact.Empty (cell_of c k) ∷ []
  fifo_kind_fact k Sync e = cc
  fifo_kind_fact k Lossy e = cc
  fifo_kind_fact k Drain e = cc
  fifo_kind_fact k (Fifo first) e = refl
  fifo_kind_fact k (Filter guard) e = cc
  fifo_kind_fact k (Transform fun) e = cc

  fifo_giver : (k node : ℕ) (kind : Kind) → is_fifo kind ≡ true → b_giver c names k node kind ≡ giver.Cell (cell_of c k)
  fifo_giver k node Sync e = cc
  fifo_giver k node Lossy e = cc
  fifo_giver k node Drain e = cc
  fifo_giver k node (Fifo first) e = refl
  fifo_giver k node (Filter guard) e = cc
  fifo_giver k node (Transform fun) e = cc

  empty_cell : (k : ℕ) (channel : Channel) → slice_get c.channels k ≡ Some channel → is_fifo channel.kind ≡ true → has names (end_a c k) ≡ true → at_place reading.cells (cell_of c k) ≡ Some 0
  empty_cell k channel found fifo fired =
      let so = own_so (end_a c k) fired (fact.Empty (cell_of c k)) (facts_a c names k channel found ∙ fifo_kind_fact k channel.kind fifo) in
      go (at_place reading.cells (cell_of c k)) so
    where
      go : (o : Option ℕ) → option_map_or (λ word. nat_eq word 0) o false ≡ true → o ≡ Some 0
      go None e = absurd (false≢true e)
      go (Some word) e = ap Some (eqb-true word 0 e)

  full_cell : (k : ℕ) (channel : Channel) (v : Value) → slice_get c.channels k ≡ Some channel → is_fifo channel.kind ≡ true → at (end_b c k) ≡ Some v → at_place reading.cells (cell_of c k) ≡ Some (code_of v)
  full_cell k channel v found fifo now =
      (cell_value c texts reading (giver_of c names) (cell_of c k) v (given_at (end_b c k) v (giver.Cell (cell_of c k)) (giver_b c names k channel found ∙ fifo_giver k channel.b channel.kind fifo) now)).0

  start : (n : ℕ) → 0 + n ≡ n
  start n = omega arith

  port_choice : (puts : Bool) (p : ℕ) (port : Port) (v : Value) → value_at_port puts d p port ≡ Some v → (cond puts (is_put port.way) (not (is_put port.way)) ≡ true) × (d p ≡ Some v)
  port_choice puts p port v is = go (cond puts (is_put port.way) (not (is_put port.way))) refl is
    where
      go : (b : Bool) → cond puts (is_put port.way) (not (is_put port.way)) ≡ b → cond b (d p) None ≡ Some v → (cond puts (is_put port.way) (not (is_put port.way)) ≡ true) × (d p ≡ Some v)
      go true e now = (e, now)
      go false e now = absurd (none-some v now)

  put_port : (p : ℕ) (port : Port) → slice_get c.ports p ≡ Some port → is_put port.way ≡ true → IsPortAt c Put port.node p
  put_port p port found is = record { port = found ∙ ap Some (λ i. record { node = port.node; way = by port.way is i }) }
    where
      by : (way : Way) → is_put way ≡ true → way ≡ Put
      by Put e = refl
      by Get e = cc

  pub entry_is_read : (region choice : ℕ) → IsRead reading (entry_of c region choice d)
  entry_is_read region choice = record {
    takes = All-from_recursion (λ (p : ℕ × Value). at_place reading.cells p.0 ≡ Some (code_of p.1)) (at_cells c (λ k. d (end_b c k)))
        (given_with (λ cell k. d (end_b c k)) (λ p. at_place reading.cells p.0 ≡ Some (code_of p.1)) 0 (buffers c) (λ i k v stands is.
        let cell = stands_cell c i k stands in
        ap (at_place reading.cells) (start i ∙ sym cell.3) ∙ full_cell k cell.0 v cell.1 cell.2 (d_some (end_b c k) v is).1));
    fills = All-from_recursion (λ (p : ℕ × Value). at_place reading.cells p.0 ≡ Some 0) (at_cells c (λ k. d (end_a c k)))
        (given_with (λ cell k. d (end_a c k)) (λ p. at_place reading.cells p.0 ≡ Some 0) 0 (buffers c) (λ i k v stands is.
        let cell = stands_cell c i k stands in
        ap (at_place reading.cells) (start i ∙ sym cell.3) ∙ empty_cell k cell.0 cell.1 cell.2 (d_some (end_a c k) v is).0));
    puts = All-from_recursion (λ (p : ℕ × Value). port_words reading p.0 ≡ Some (1, code_of p.1)) (at_ports c true d)
        (given_with (value_at_port true d) (λ p. port_words reading p.0 ≡ Some (1, code_of p.1)) 0 c.ports (λ p port v found is.
        subst (λ n. port_words reading n ≡ Some (1, code_of v)) (sym (start p))
        (let chosen = port_choice true p port v (subst (λ n. value_at_port true d n port ≡ Some v) (start p) is) in
        (port_value c texts reading (giver_of c names) p v (given_at p v (giver.Port p) (giver_put c names port.node p (put_port p port found chosen.0)) (d_some p v chosen.1).1)).0)));
    gets = All-from_recursion (λ (p : ℕ × Value). (word : ℕ) × (port_words reading p.0 ≡ Some (1, word))) (at_ports c false d)
        (given_with (value_at_port false d) (λ p. (word : ℕ) × (port_words reading p.0 ≡ Some (1, word))) 0 c.ports (λ p port v found is.
        subst (λ n. (word : ℕ) × (port_words reading n ≡ Some (1, word))) (sym (start p))
        (let chosen = port_choice false p port v (subst (λ n. value_at_port false d n port ≡ Some v) (start p) is) in
        offered_port p (slice_get_within c.ports p port found) (d_some p v chosen.1).0)));
  }

  -- the step
  value_of : ℕ → Value
  value_of name = unwrap_or (at name) (Sym 0)

  pub step : Step
  step = record { pairs = map (λ name. (name, value_of name)) names }

  own_names : (ns : List ℕ) → map (λ (p : ℕ × Value). p.0) (map (λ name. (name, value_of name)) ns) ≡ ns
  own_names [] = refl
  own_names (name ∷ ns) = ap (λ rest. name ∷ rest) (own_names ns)

  datum_is : (name : ℕ) → datum step name ≡ d name
  unfolding step value_of
  datum_is name = go (has names name) refl (datum step name) refl
    where
      pairs : List (ℕ × Value)
      pairs = map (λ n. (n, unwrap_or (at n) (Sym 0))) names

      fired : has names name ≡ is_some (datum step name)
      fired = ap (λ ns. has ns name) (sym (own_names names)) ∙ fired_names step.pairs name

      go : (b : Bool) → has names name ≡ b → (o : Option Value) → datum step name ≡ o → o ≡ d name
      go true e None is = absurd (false≢true (sym (ap is_some is) ∙ sym fired ∙ e))
      go true e (Some w) is =
          let value = known name e in
          ap Some (at_mapped (λ n. unwrap_or (at n) (Sym 0)) names name w is ∙ ap (λ o. unwrap_or o (Sym 0)) value.1) ∙ sym value.1 ∙ sym (d_is name e)
      go false e None is = sym (d_none name e)
      go false e (Some w) is = absurd (false≢true (sym e ∙ fired ∙ ap is_some is))

  data_same : datum step ≡ d
  data_same = same_functions (datum step) d datum_is

  all_values : (ns : List ℕ) → ((name : ℕ) → Among name ns → has names name ≡ true) → AllByRecursion (λ (p : ℕ × Value). IsValue p.1) (map (λ name. (name, value_of name)) ns)
  unfolding value_of
  all_values [] of_names = tt
  all_values (name ∷ ns) of_names =
      let value = known name (of_names name (inl refl)) in (
        subst IsValue (sym (ap (λ o. unwrap_or o (Sym 0)) value.1)) (flow_value c texts reading (giver_of c names) (suc (2 * c.nodes + 1)) name value.0 value.1),
        all_values ns (λ n later. of_names n (inr later)),
      )

  pub is_step : (region choice : ℕ) → IsStepOf c texts names (entry_of c region choice d) step
  unfolding step
  is_step region choice = record {
    named = own_names names;
    values = All-from_recursion (λ (p : ℕ × Value). IsValue p.1) (map (λ name. (name, value_of name)) names) (all_values names (λ name among. has_among names name among));
    stands = ap (λ f. entry_of c region choice f) (sym data_same);
    meets = subst (MeetLinks c texts) (sym data_same) data_meet;
  }
