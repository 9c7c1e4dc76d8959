-- What an engine that fired is to the schedule.
use Rattle.std.proofs.Common.{◌≡◌, ℕ, suc, ◌+◌, ◌<◌, ◌⊎◌, inl, inr, ⊎_elim, List, [], ◌∷◌, ◌++◌, length, slice_get, Bool, true, false, cond, Option, Some, None, is_some, refl, sym, ap, ◌∙◌, subst, ext_get_or, arith, length-append}
use Rattle.std.specs.Prelude.{not}
use Rattle.std.specs.List.{range_with_len}
use Rattle.std.specs.Option.{option_map, option_to_list}
use Rattle.std.proofs.lemmas.Bool.{cases_lt}
use Rattle.std.proofs.lemmas.List.{length-map, get_or-map, get_or_past}
use Rattle.std.proofs.lemmas.List.FromFn.{length-range_with_len, get_or-range_with_len}
use Rattle.reo_value.specs.declared.value.Value.{Value}
use Rattle.reo_value.specs.declared.op.Op.{Op}
use Rattle.reo_value.specs.Op.{port_of, way_of}
use Rattle.reo_net.specs.declared.circuit.RawCircuit.{RawCircuit}
use Rattle.reo_net.specs.declared.circuit.Step.{Step}
use Rattle.reo_net.specs.Checks.{IsChecked}
use Rattle.reo_net.specs.Scripts.{ScriptsFit}
use Rattle.reo_net.specs.Stand.{is_put}
use Rattle.reo_net.specs.Steps.{datum, fires_in}
use Rattle.reo_net.proofs.NameLemmas.{slice_get_found}
use Rattle.reo_fabric.specs.declared.entry.Entry.{Entry}
use Rattle.reo_fabric.specs.declared.fabric.Fabric.{Fabric}
use Rattle.reo_fabric.specs.declared.port_state.PortState.{PortState}
use Rattle.reo_fabric.specs.declared.port_state.PortState.TheVariants.{Idle, Offered, Answered}
use Rattle.reo_fabric.specs.declared.reading.Reading.{Reading}
use Rattle.reo_fabric.specs.Engine.{EngineState, port_at, port_after, offer_of, offers_of, answer_of, answered, engine_reading}
use Rattle.reo_fabric.specs.Entry.{at_place, Agrees, carried_out}
use Rattle.reo_fabric.specs.Reading.{reading_of}
use Rattle.reo_flow.specs.Places.{value_at_port}
use Rattle.reo_flow.specs.Step.{IsStepOf}
use Rattle.reo_flow.specs.Allows.{Table, Allows, IsFirstChoice}
use Rattle.reo_flow.proofs.PlacesLemmas.{at_with}
use Rattle.reo_trace.specs.declared.report.Called.{Called}
use Rattle.reo_trace.specs.Lawful.{AllAnswered, next_ops}
use Rattle.reo_schedule.specs.Board.{IsBoard}
use Rattle.reo_schedule.specs.Calls.{IsNextOf, answer_to, answer_next, calls_with, calls_of}
use Rattle.reo_schedule.specs.Offers.{offered_by, offer_in, offers_in}
use Rattle.reo_schedule.specs.Turn.{Turn, steps_of, state_of, reads, place_of, rank_from, AllowsTurn, IsNext}
use Rattle.reo_schedule.specs.UnderWay.{ScriptsPutValues, IsUnderWay}
use Rattle.reo_schedule.proofs.CallLemmas.{state_turn, steps_turn, calls_turn, place_turn}
use Rattle.reo_schedule.proofs.OfferLemmas.{offer_stands, next_ops-only, next_stands, port_below}
use Rattle.reo_schedule.proofs.RunLaw.{answers_offers, turn_more}
use Rattle.reo_session.specs.Plan.{GoesByTables}
use Rattle.reo_schedule.proofs.QuietLaw.{port_spec}
use Rattle.reo_session.specs.Posted.{ScriptsFitFabric, IsFree, IsAnswered, ArePosted, AreOpen, call_by, calls_by, collected}
use Rattle.reo_session.specs.Running.{IsRunning, FiresNext}
use Rattle.reo_session.specs.Watch.{AreAnsweredAt}
use Rattle.reo_session.proofs.CollectLemmas.{none_answered}
use Rattle.reo_session.proofs.WatchLemmas.{each_same}

-- the ports after an entry, by the step's data
datum_state : ℕ → Option Value → PortState → PortState
datum_state number (Some value) state = Answered value number
datum_state number None state = state

after_datum : (number : ℕ) (put : Bool) (d : Option Value) (state : PortState) → port_after number (cond put d None) (cond (not put) d None) state ≡ datum_state number d state
unfolding datum_state
after_datum number true (Some v) state = refl
after_datum number true None state = refl
after_datum number false (Some v) state = refl
after_datum number false None state = refl

module _ (c : RawCircuit) (texts : List (List ℕ)) (scripts : List (List Op)) (fit : ScriptsFit c scripts) (calls : List (List Called)) (ports : List PortState) (long : length ports ≡ length c.ports) (posted : ArePosted scripts calls ports) where
  -- what is offered at the ports is what the next operations offer
  pub offers_are : offers_of ports ≡ offers_in (next_ops scripts calls) (length c.ports)
  offers_are =
      ext_get_or None (offers_of ports) (offers_in (next_ops scripts calls) (length c.ports))
      (length-map ports offer_of ∙ long ∙ sym (length-range_with_len 0 (length c.ports)) ∙ sym (length-map (range_with_len 0 (length c.ports)) (offer_in (next_ops scripts calls))))
      (λ p below.
      let inside : p < length ports = omega (arith, below, length-map ports offer_of) in
      let within : p < length c.ports = omega (arith, inside, long) in
      get_or-map offer_of ports p Idle None inside ∙ go p (offer_in (next_ops scripts calls) p) refl
      ∙ sym (get_or-map (offer_in (next_ops scripts calls)) (range_with_len 0 (length c.ports)) p 0 None (omega (arith, within, length-range_with_len 0 (length c.ports)))
      ∙ ap (offer_in (next_ops scripts calls)) (get_or-range_with_len 0 (length c.ports) p 0 within ∙ (let e : 0 + p ≡ p = omega arith in e))))
    where
      go : (p : ℕ) (o : Option (Option Value)) → offer_in (next_ops scripts calls) p ≡ o → offer_of (port_at ports p) ≡ offer_in (next_ops scripts calls) p
      go p (Some offer) e =
          let stands = offer_stands (next_ops scripts calls) p offer e in
          let next = next_ops-only scripts calls stands.0 stands.1 in
          ap offer_of (ap (port_at ports) (sym stands.2) ∙ posted.posted next.0 stands.0 next.1) ∙ ap Some stands.3 ∙ sym e
      go p None e =
          ap offer_of (posted.idle p (λ k op next is.
          (let clash : None ≡ Some (offered_by op) = sym e ∙ ap (offer_in (next_ops scripts calls)) (sym is) ∙ next_stands c scripts fit calls k op next in cc)))
          ∙ sym e

  module _ (names : List ℕ) (entry : Entry) (step : Step) (is_step : IsStepOf c texts names entry step) (number : ℕ) where
    abbrev after : List PortState
    after = answered ports number entry

    port_then : (p : ℕ) → p < length ports → port_at after p ≡ datum_state number (datum step p) (port_at ports p)
    port_then p below =
        let port = slice_get_found c.ports p (omega (arith, below, long)) in
        get_or-map (λ q. port_after number (at_place entry.puts q) (at_place entry.gets q) (port_at ports q)) (range_with_len 0 (length ports)) p 0 Idle (omega (arith, below, length-range_with_len 0 (length ports)))
        ∙ ap (λ q. port_after number (at_place entry.puts q) (at_place entry.gets q) (port_at ports q)) (get_or-range_with_len 0 (length ports) p 0 below ∙ (let e : 0 + p ≡ p = omega arith in e))
        ∙ ap (λ x. port_after number x (at_place entry.gets p) (port_at ports p)) (ap (λ (x : Entry). at_place x.puts p) is_step.stands ∙ at_with (value_at_port true (datum step)) 0 c.ports p port.0 p (omega arith) port.1)
        ∙ ap (λ x. port_after number (cond (is_put port.0.way) (datum step p) None) x (port_at ports p)) (ap (λ (x : Entry). at_place x.gets p) is_step.stands ∙ at_with (value_at_port false (datum step)) 0 c.ports p port.0 p (omega arith) port.1)
        ∙ after_datum number (is_put port.0.way) (datum step p) (port_at ports p)

    next_below : (k : ℕ) (op : Op) → IsNextOf scripts calls k op → port_of op < length ports
    next_below k op next = omega (arith, long, port_below c scripts fit calls k op next)

    port_next : (k : ℕ) (op : Op) → IsNextOf scripts calls k op → port_at after (port_of op) ≡ datum_state number (datum step (port_of op)) (Offered (offered_by op))
    port_next k op next = port_then (port_of op) (next_below k op next) ∙ ap (datum_state number (datum step (port_of op))) (posted.posted k op next)

    -- the ports of the step's calls are answered
    pub open_after : ((p : ℕ) → p < length c.ports → fires_in (datum step) p ≡ true → (k : ℕ) × (op : Op) × IsNextOf scripts calls k op × (port_of op ≡ p)) → AreOpen scripts calls after
    unfolding datum_state
    open_after offered = record {
      open_there = λ k op next. by_datum k op next (datum step (port_of op)) refl;
      idle = λ p free. ⊎_elim (λ below. stays p below free (datum step p) refl) (λ past. get_or_past after p Idle (omega (arith, past, long_after))) (cases_lt p (length ports));
    }
      where
        long_after : length after ≡ length ports
        long_after = length-map (range_with_len 0 (length ports)) (λ q. port_after number (at_place entry.puts q) (at_place entry.gets q) (port_at ports q)) ∙ length-range_with_len 0 (length ports)

        by_datum : (k : ℕ) (op : Op) → IsNextOf scripts calls k op → (d : Option Value) → datum step (port_of op) ≡ d → (port_at after (port_of op) ≡ Offered (offered_by op)) ⊎ IsAnswered after (port_of op)
        by_datum k op next None e = inl (port_next k op next ∙ ap (λ d. datum_state number d (Offered (offered_by op))) e)
        by_datum k op next (Some v) e = inr (record { value = v; number = number; at = port_next k op next ∙ ap (λ d. datum_state number d (Offered (offered_by op))) e })

        stays : (p : ℕ) → p < length ports → IsFree scripts calls p → (d : Option Value) → datum step p ≡ d → port_at after p ≡ Idle
        stays p below free None e = port_then p below ∙ ap (λ d. datum_state number d (port_at ports p)) e ∙ posted.idle p free
        stays p below free (Some v) e = let of = offered p (omega (arith, below, long)) (ap is_some e) in absurd (free of.0 of.1 of.2 of.3)

    -- and the answers there are those of the step
    call_then : (k : ℕ) (op : Op) → IsNextOf scripts calls k op → call_by after op ≡ answer_to step number op
    unfolding datum_state
    call_then k op next = go (datum step (port_of op)) refl
      where
        from_answer : (Value × ℕ) → Called
        from_answer answer = record { op = op; value = answer.0; number = answer.1 }

        from_value : Value → Called
        from_value value = record { op = op; value = value; number = number }

        go : (d : Option Value) → datum step (port_of op) ≡ d → call_by after op ≡ answer_to step number op
        go None e = ap (λ s. option_map from_answer (answer_of s)) (port_next k op next ∙ ap (λ d. datum_state number d (Offered (offered_by op))) e) ∙ sym (ap (option_map from_value) e)
        go (Some v) e = ap (λ s. option_map from_answer (answer_of s)) (port_next k op next ∙ ap (λ d. datum_state number d (Offered (offered_by op))) e) ∙ sym (ap (option_map from_value) e)

same_calls : (step : Step) (number : ℕ) (after : List PortState) (scripts : List (List Op)) (calls : List (List Called)) → ((k : ℕ) (op : Op) → IsNextOf scripts calls k op → call_by after op ≡ answer_to step number op)
    → collected scripts after calls ≡ calls_with scripts step number calls
same_calls step number answers [] calls each = refl
same_calls step number answers (script ∷ scripts) [] each = refl
same_calls step number answers (script ∷ scripts) (own ∷ calls) each =
    ap (λ xs. (own ++ xs) ∷ collected scripts answers calls) (go (slice_get script (length own)) refl)
    ∙ ap (λ cs. (own ++ answer_next step number (slice_get script (length own))) ∷ cs)
    (same_calls step number answers scripts calls (λ k op next. each (suc k) op (record { script = next.script; own = next.own; of_script = next.of_script; of_calls = next.of_calls; next = next.next })))
  where
    go : (o : Option Op) → slice_get script (length own) ≡ o → calls_by answers o ≡ answer_next step number o
    go None e = refl
    go (Some op) e = ap option_to_list (each 0 op (record { script = script; own = own; of_script = refl; of_calls = refl; next = e }))

module _ (c : RawCircuit) (checked : IsChecked c) (texts : List (List ℕ)) (scripts : List (List Op)) (fit : ScriptsFit c scripts) (put : ScriptsPutValues scripts) (fabric : Fabric) (tables : List Table) (board : IsBoard c fabric tables) (limit : ℕ)
    {D : Type 0} (decider : D) (allows : ℕ → Reading → Entry → Type 0) (first_choice : ℕ → Reading → Option ℕ) (may_step : Entry → Type 0) (has_step : Entry → Step → Type 0) (by_tables : GoesByTables c texts tables allows first_choice may_step has_step)
    (engine : EngineState D) (has_kept : List Step → Type 0) (calls : List (List Called)) (place : ℕ) (running : IsRunning c texts scripts fabric tables limit decider engine has_kept calls place) where
  abbrev turns : List Turn
  turns = running.turns

  reading_is : (region : ℕ) → engine_reading engine region ≡ reads c fabric scripts turns region
  reading_is region =
      ap (λ f. reading_of f region engine.cells (offers_of engine.ports)) running.fabric_is
      ∙ ap (λ s. reading_of fabric region s (offers_of engine.ports)) running.cells_are
      ∙ ap (reading_of fabric region (state_of c turns)) (offers_are c texts scripts fit calls engine.ports running.ports_long running.posted)
      ∙ ap (λ cs. reading_of fabric region (state_of c turns) (offers_in (next_ops scripts cs) (length c.ports))) running.calls_are

  pub quiet_at : (region : ℕ) → first_choice region (engine_reading engine region) ≡ None → IsFirstChoice (Allows c texts tables region (reads c fabric scripts turns region)) None
  quiet_at region none =
      subst (λ reading. IsFirstChoice (Allows c texts tables region reading) None) (reading_is region)
      (subst (IsFirstChoice (Allows c texts tables region (engine_reading engine region))) none (by_tables.first region (engine_reading engine region)))

  module _ (left : AllAnswered scripts calls → ⊥) (few : engine.count < limit) (fired : EngineState D) (region : ℕ) (next : FiresNext allows first_choice engine fired place region) (step : Step) (has : has_step next.fires.entry step) where
    abbrev entry : Entry
    entry = next.fires.entry

    abbrev turn : Turn
    turn = record { entry = entry; step = step }

    allowed : Allows c texts tables region (engine_reading engine region) entry
    allowed = (by_tables.allowed region (engine_reading engine region) entry).0 next.fires.chosen.allowed

    is_step : IsStepOf c texts allowed.names entry step
    is_step = by_tables.steps entry step has region (engine_reading engine region) allowed

    is_turn : AllowsTurn c texts tables region (reads c fabric scripts turns region) turn
    is_turn = subst (λ reading. AllowsTurn c texts tables region reading turn) (reading_is region) (record { allowed = allowed; is_step = is_step })

    regions_are : engine.fabric.regions ≡ fabric.regions
    regions_are = ap (λ (f : Fabric). f.regions) running.fabric_is

    is_next : IsNext c texts scripts fabric tables limit turns turn
    is_next = record {
      left = λ all. left (subst (AllAnswered scripts) (sym running.calls_are) all);
      few = omega (arith, few, running.counted);
      region = omega (arith, next.within, regions_are, allowed.of_region);
      allowed = subst (λ r. AllowsTurn c texts tables r (reads c fabric scripts turns r) turn) (sym allowed.of_region) is_turn;
      first = subst (λ r. IsFirstChoice (Allows c texts tables r (reads c fabric scripts turns r)) (Some entry.choice)) (sym allowed.of_region)
          (subst (λ reading. IsFirstChoice (Allows c texts tables region reading) (Some entry.choice)) (reading_is region)
          (subst (IsFirstChoice (Allows c texts tables region (engine_reading engine region))) next.fires.chosen.first (by_tables.first region (engine_reading engine region))));
      passed = λ r below earlier.
          quiet_at r (next.passed r (omega (arith, below, regions_are))
          (subst (λ n. rank_from n place r < rank_from n place region) (sym regions_are)
          (subst (λ p. rank_from fabric.regions p r < rank_from fabric.regions p region) (sym running.place_is)
          (subst (λ x. rank_from fabric.regions (place_of turns) r < rank_from fabric.regions (place_of turns) x) allowed.of_region earlier))));
    }

    under_way_then : IsUnderWay c texts scripts fabric tables limit (turns ++ turn ∷ [])
    under_way_then = turn_more c checked texts scripts fit put fabric tables board limit turns turn running.under_way is_next (subst (λ s. Agrees s entry) running.cells_are next.fires.agrees)

    abbrev ports_then : List PortState
    ports_then = answered engine.ports engine.count entry

    ports_fired : fired.ports ≡ ports_then
    ports_fired = ap (λ (e : EngineState D). e.ports) next.fires.after

    offered_then : (p : ℕ) → p < length c.ports → fires_in (datum step) p ≡ true → (k : ℕ) × (op : Op) × IsNextOf scripts calls k op × (port_of op ≡ p)
    offered_then p below fires =
        subst (λ cs. (k : ℕ) × (op : Op) × IsNextOf scripts cs k op × (port_of op ≡ p)) (sym running.calls_are)
        ((answers_offers c checked texts scripts fit put fabric tables board (state_of c turns) (calls_of scripts (steps_of turns)) turn region is_turn).offered p below fires)

    -- the ports of the step's calls are answered
    pub open_fired : AreOpen scripts calls fired.ports
    open_fired =
        subst (AreOpen scripts calls) (sym ports_fired)
        (open_after c texts scripts fit calls engine.ports running.ports_long running.posted allowed.names entry step is_step engine.count offered_then)

    -- and no others
    pub answered_fired : AreAnsweredAt entry.puts entry.gets fired.ports
    answered_fired port no_put no_get answered =
        none_answered scripts calls engine.ports running.posted port
        (record {
          value = answered.value;
          number = answered.number;
          at = sym (each_same (λ p. port_after engine.count (at_place entry.puts p) (at_place entry.gets p) (port_at engine.ports p)) engine.ports port Idle
              (ap (λ o. port_after engine.count o (at_place entry.gets port) (port_at engine.ports port)) no_put ∙ ap (λ o. port_after engine.count None o (port_at engine.ports port)) no_get))
              ∙ sym (ap (λ ps. port_at ps port) ports_fired) ∙ answered.at;
        })

    pub fabric_fired : fired.fabric ≡ fabric
    fabric_fired = ap (λ (e : EngineState D). e.fabric) next.fires.after ∙ running.fabric_is

    pub long_fired : length fired.ports ≡ length engine.ports
    long_fired =
        ap length ports_fired ∙ length-map (range_with_len 0 (length engine.ports)) (λ q. port_after engine.count (at_place entry.puts q) (at_place entry.gets q) (port_at engine.ports q)) ∙ length-range_with_len 0 (length engine.ports)

    calls_then : (calls_after : List (List Called)) → calls_after ≡ collected scripts fired.ports calls → calls_after ≡ calls_of scripts (steps_of (turns ++ turn ∷ []))
    calls_then calls_after is =
        is ∙ ap (λ ps. collected scripts ps calls) ports_fired
        ∙ same_calls step engine.count ports_then scripts calls (call_then c texts scripts fit calls engine.ports running.ports_long running.posted allowed.names entry step is_step engine.count)
        ∙ ap (λ n. calls_with scripts step n calls) running.counted ∙ ap (calls_with scripts step (length turns)) running.calls_are ∙ sym (calls_turn scripts turns turn)

    -- a turn was taken
    pub running_more : (after : EngineState D) (has_kept_after : List Step → Type 0) (calls_after : List (List Called)) (place_after : ℕ) → after ≡ record fired { ports = after.ports } → ((steps : List Step) → has_kept steps → has_kept_after (steps ++ step ∷ []))
        → calls_after ≡ collected scripts fired.ports calls → place_after ≡ region + 1 → length after.ports ≡ length fired.ports → ArePosted scripts calls_after after.ports
        → IsRunning c texts scripts fabric tables limit decider after has_kept_after calls_after place_after
    running_more after has_kept_after calls_after place_after only_ports keeps are_calls is_place long posted = record {
      turns = turns ++ turn ∷ [];
      under_way = under_way_then;
      kept = subst has_kept_after (sym (steps_turn turns turn)) (keeps (steps_of turns) running.kept);
      calls_are = calls_then calls_after are_calls;
      place_is = is_place ∙ ap (λ r. r + 1) (sym allowed.of_region) ∙ sym (place_turn turns turn);
      within = omega (arith, is_place, next.within, regions_are);
      fabric_is = ap (λ (e : EngineState D). e.fabric) only_ports ∙ fabric_fired;
      decider_is = ap (λ (e : EngineState D). e.decider) only_ports ∙ ap (λ (e : EngineState D). e.decider) next.fires.after ∙ running.decider_is;
      cells_are = ap (λ (e : EngineState D). e.cells) only_ports ∙ ap (λ (e : EngineState D). e.cells) next.fires.after ∙ ap (λ s. carried_out s entry) running.cells_are ∙ sym (state_turn c turns turn);
      counted = ap (λ (e : EngineState D). e.count) only_ports ∙ ap (λ (e : EngineState D). e.count) next.fires.after ∙ omega (arith, running.counted, length-append turns (turn ∷ []));
      ports_long = long ∙ long_fired ∙ running.ports_long;
      posted = posted;
    }

-- scripts that fit the circuit fit its fabric
pub scripts_fit_fabric : (c : RawCircuit) (fabric : Fabric) (tables : List Table) → IsBoard c fabric tables → (scripts : List (List Op)) → ScriptsFit c scripts → ScriptsFitFabric fabric scripts
scripts_fit_fabric c fabric tables board scripts fit = record {
  ported = λ k op is.
      let port = fit.ported k op is in
      let spec = port_spec c fabric tables board (port_of op) (record { node = port.0; way = way_of op }) port.1 in
      (spec.0, spec.1, spec.2);
  unshared = fit.unshared;
}
