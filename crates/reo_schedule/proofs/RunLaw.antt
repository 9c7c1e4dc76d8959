-- How a run of the plain schedule begins, goes on by a turn, and ends.
use Rattle.std.proofs.Common.{◌≡◌, ℕ, zero, suc, ◌<◌, ◌≤◌, ⊎_elim, List, [], ◌∷◌, ◌++◌, length, map, slice_get, flat_map, Bool, true, false, cond, Option, Some, None, is_some, IfSome, IsTrue, All, refl, sym, ap, ◌∙◌, subst, arith, length-append}
use Rattle.std.specs.Prelude.{not}
use Rattle.std.proofs.lemmas.Bool.{false≢true, cases_lt}
use Rattle.std.proofs.lemmas.Option.{same_Some, slice_get_within, get_or_from_slice_get}
use Rattle.std.proofs.lemmas.List.{length-map, get_or_default}
use Rattle.std.proofs.lemmas.List.Elements.{All-nil, All-append, All-cons}
use Rattle.reo_value.specs.declared.value.Value.{Value}
use Rattle.reo_value.specs.declared.op.Op.{Op}
use Rattle.reo_value.specs.declared.op.Op.TheVariants.{Put, Get}
use Rattle.reo_value.specs.declared.op.Way.TheVariants as way
use Rattle.reo_value.specs.Code.{code_of, IsValue}
use Rattle.reo_value.specs.Op.{port_of}
use Rattle.reo_net.specs.declared.kind.Kind.{Kind}
use Rattle.reo_net.specs.declared.kind.Kind.TheVariants.{Sync, Lossy, Drain, Fifo, Filter, Transform}
use Rattle.reo_net.specs.declared.circuit.Channel.{Channel}
use Rattle.reo_net.specs.declared.circuit.Port.{Port}
use Rattle.reo_net.specs.declared.circuit.RawCircuit.{RawCircuit}
use Rattle.reo_net.specs.declared.circuit.Step.{Step}
use Rattle.reo_net.specs.Checks.{IsChecked}
use Rattle.reo_net.specs.Kind.{first_content}
use Rattle.reo_net.specs.Names.{end_a}
use Rattle.reo_net.specs.Regions.{IsRegion}
use Rattle.reo_net.specs.Runs.{IsEnabled}
use Rattle.reo_net.specs.Scripts.{ScriptsFit}
use Rattle.reo_net.specs.Stand.{is_put}
use Rattle.reo_net.specs.Steps.{State, IsState, ProductStep, datum, fires_in}
use Rattle.reo_net.proofs.CellLemmas.{initial_is_state}
use Rattle.reo_net.proofs.NameLemmas.{slice_get_found}
use Rattle.reo_fabric.specs.declared.entry.Entry.{Entry}
use Rattle.reo_fabric.specs.declared.fabric.Fabric.{Fabric}
use Rattle.reo_fabric.specs.declared.reading.Reading.{Reading}
use Rattle.reo_fabric.specs.Entry.{Agrees, at_place, content_at, content_after, carried_out}
use Rattle.reo_fabric.specs.Decider.{port_words}
use Rattle.reo_fabric.specs.Laws.{AreValues}
use Rattle.reo_fabric.specs.Reading.{Offers, offer_at, state_word, data_word, ports_of, reading_of}
use Rattle.reo_fabric.proofs.CodeLemmas.{codes_differ}
use Rattle.reo_fabric.proofs.HistoryLemmas.{length-carried_out, at_carried_out}
use Rattle.reo_fabric.proofs.PlaceLemmas.{at_place_holds}
use Rattle.reo_flow.specs.Places.{buffers, value_at_port}
use Rattle.reo_flow.specs.Allows.{Table, Allows, IsFirstChoice}
use Rattle.reo_flow.proofs.OnceLaw.{one_step_at_most}
use Rattle.reo_flow.proofs.PlacesLemmas.{at_with}
use Rattle.reo_flow.proofs.StepLaw.{entries_are_steps}
use Rattle.reo_trace.specs.declared.report.Called.{Called}
use Rattle.reo_trace.specs.declared.report.Ending.{Ending}
use Rattle.reo_trace.specs.declared.report.Ending.TheVariants.{Done, Stuck, Limit}
use Rattle.reo_trace.specs.Lawful.{HasItsValue, FiresOneRegion, AreFirstOf, AllAnswered, call_at, next_ops, IsEndingOf}
use Rattle.reo_schedule.specs.Board.{IsBoard}
use Rattle.reo_schedule.specs.Calls.{IsNextOf, calls_with, calls_of}
use Rattle.reo_schedule.specs.Offers.{offers_in}
use Rattle.reo_schedule.specs.Plain.{IsPlainReport}
use Rattle.reo_schedule.specs.Turn.{Turn, steps_of, state_of, ops_of, reads, AllowsTurn, IsNext}
use Rattle.reo_schedule.specs.UnderWay.{ScriptsPutValues, IsLawfulSoFar, IsUnderWay}
use Rattle.reo_schedule.specs.Values.{HasValues, BringsValues}
use Rattle.reo_schedule.proofs.CallLemmas.{state_turn, steps_turn, calls_more, led_more, led_follows}
use Rattle.reo_schedule.proofs.OfferLemmas.{next_ops-only, offer_stands, offer_listed, next_stands, port_below, is_operation, are_offered, put_values}
use Rattle.reo_schedule.proofs.PlaceLemmas.{with_all, words_at}
use Rattle.reo_schedule.proofs.QuietLaw.{quiet_is_not_enabled}
use Rattle.reo_schedule.proofs.TurnLaw.{AnswersOffers, lawful_more}

-- a state word 1 shows an offer
shows_offer : (o : Option (Option Value)) → 1 ≡ state_word o → (offer : Option Value) × (o ≡ Some offer)
shows_offer None e = absurd (omega (arith, e))
shows_offer (Some offer) e = (offer, refl)

module _ (c : RawCircuit) (checked : IsChecked c) (texts : List (List ℕ)) (scripts : List (List Op)) (fit : ScriptsFit c scripts) (put : ScriptsPutValues scripts) (fabric : Fabric) (tables : List Table) (board : IsBoard c fabric tables) where
  module _ (state : State) (calls : List (List Called)) (turn : Turn) (region : ℕ) (is : AllowsTurn c texts tables region (reading_of fabric region state (offers_in (next_ops scripts calls) (length c.ports))) turn) where
    abbrev ops : List Op
    ops = next_ops scripts calls

    abbrev offers : Offers
    offers = offers_in ops (length c.ports)

    abbrev shown : Reading
    shown = reading_of fabric region state offers

    step_value : (name : ℕ) (v : Value) → datum turn.step name ≡ Some v → IsValue v
    step_value name v at = at_place_holds (λ p. IsValue p.1) turn.step.pairs name v is.is_step.values at

    put_words : (p : ℕ) (port : Port) (v : Value) → slice_get c.ports p ≡ Some port → is_put port.way ≡ true → datum turn.step p ≡ Some v → port_words shown p ≡ Some (1, code_of v)
    put_words p port v found is_port at =
        at_place_holds (λ q. port_words shown q.0 ≡ Some (1, code_of q.1)) turn.entry.puts p v is.allowed.read.puts
        (ap (λ (x : Entry). at_place x.puts p) is.is_step.stands ∙ at_with (value_at_port true (datum turn.step)) 0 c.ports p port p (omega arith) found
        ∙ ap (λ b. cond b (datum turn.step p) None) is_port ∙ at)

    get_words : (p : ℕ) (port : Port) (v : Value) → slice_get c.ports p ≡ Some port → is_put port.way ≡ false → datum turn.step p ≡ Some v → (word : ℕ) × (port_words shown p ≡ Some (1, word))
    get_words p port v found is_port at =
        at_place_holds (λ q. (word : ℕ) × (port_words shown q.0 ≡ Some (1, word))) turn.entry.gets p v is.allowed.read.gets
        (ap (λ (x : Entry). at_place x.gets p) is.is_step.stands ∙ at_with (value_at_port false (datum turn.step)) 0 c.ports p port p (omega arith) found
        ∙ ap (λ b. cond (not b) (datum turn.step p) None) is_port ∙ at)

    words_are : (p : ℕ) (words : ℕ × ℕ) → port_words shown p ≡ Some words → (words.0 ≡ state_word (offer_at offers p)) × (words.1 ≡ data_word (offer_at offers p))
    words_are p words at = words_at (λ q. state_word (offer_at offers q)) (λ q. data_word (offer_at offers q)) (ports_of fabric region) p words at

    offered : (p : ℕ) → p < length c.ports → IsTrue (fires_in (datum turn.step) p) → (k : ℕ) × (op : Op) × IsNextOf scripts calls k op × (port_of op ≡ p)
    offered p below fires = go (datum turn.step p) refl fires
      where
        port : (port : Port) × (slice_get c.ports p ≡ Some port)
        port = slice_get_found c.ports p below

        by_words : (word : ℕ) → port_words shown p ≡ Some (1, word) → (k : ℕ) × (op : Op) × IsNextOf scripts calls k op × (port_of op ≡ p)
        by_words word at =
            let offer = shows_offer (offer_at offers p) (words_are p (1, word) at).0 in
            let stands = offer_stands ops p offer.0 (sym (offer_listed ops (length c.ports) p below) ∙ offer.1) in
            let next = next_ops-only scripts calls stands.0 stands.1 in
            (next.0, stands.0, next.1, stands.2)

        by_way : (v : Value) → datum turn.step p ≡ Some v → (b : Bool) → is_put port.0.way ≡ b → (k : ℕ) × (op : Op) × IsNextOf scripts calls k op × (port_of op ≡ p)
        by_way v at true e = by_words (code_of v) (put_words p port.0 v port.1 e at)
        by_way v at false e = let words = get_words p port.0 v port.1 e at in by_words words.0 words.1

        go : (o : Option Value) → datum turn.step p ≡ o → IsTrue (is_some o) → (k : ℕ) × (op : Op) × IsNextOf scripts calls k op × (port_of op ≡ p)
        go None e h = absurd (false≢true h)
        go (Some v) e h = by_way v e (is_put port.0.way) refl

    own_value : (k : ℕ) (op : Op) (value : Value) → IsNextOf scripts calls k op → datum turn.step (port_of op) ≡ Some value → HasItsValue op value
    own_value k (Get p) value next at = tt
    own_value k (Put p own) value next at =
        let port = fit.ported k (Put p own) (is_operation c scripts fit calls k (Put p own) next) in
        let words = words_are p (1, code_of value) (put_words p (record { node = port.0; way = way.Put }) value port.1 refl at) in
        let stands : offer_at offers p ≡ Some (Some own) = offer_listed ops (length c.ports) p (port_below c scripts fit calls k (Put p own) next) ∙ next_stands c scripts fit calls k (Put p own) next in
        codes_differ value own (step_value p value at) (put k (Put p own) (is_operation c scripts fit calls k (Put p own) next)) (words.1 ∙ ap data_word stands)

    pub answers_offers : AnswersOffers c scripts calls turn.step
    answers_offers = record { offered = offered; own = own_value }

    pub is_product : IsState c state → Agrees state turn.entry → ProductStep c texts state turn.step (carried_out state turn.entry) × FiresOneRegion c turn.step
    is_product is_state agrees =
        let law = entries_are_steps c texts tables board.are_tables region shown turn.entry is.allowed state is_state agrees in
        let same = one_step_at_most c texts tables checked board.are_tables region shown turn.entry is.allowed turn.step is.is_step in
        let fires : FiresOneRegion c is.allowed.step = record {
          root = law.1.root;
          region = subst (IsRegion c) (get_or_from_slice_get law.1.roots turn.entry.region law.1.root law.1.root law.1.at) (law.1.regions.each turn.entry.region law.1.root (slice_get_within law.1.roots turn.entry.region law.1.root law.1.at));
          connected = law.1.connected;
        } in
        (subst (λ s. ProductStep c texts state s (carried_out state turn.entry)) (sym same) law.0, subst (FiresOneRegion c) (sym same) fires)

    fill_value : (cell : ℕ) (v : Value) → at_place turn.entry.fills cell ≡ Some v → IsValue v
    fill_value cell v at =
        at_place_holds (λ p. IsValue p.1) turn.entry.fills cell v
        (subst (λ (x : Entry). All (λ p. IsValue p.1) x.fills) (sym is.is_step.stands) (with_all (λ p. IsValue p.1) (λ cell k. datum turn.step (end_a c k)) (buffers c) (λ cell k w found gives. step_value (end_a c k) w gives)))
        at

    pub values_after : AreValues state → AreValues (carried_out state turn.entry)
    values_after values k d below =
        let inside : k < length state = omega (arith, below, length-carried_out state turn.entry) in
        subst (λ o. IfSome o IsValue) (sym (get_or_default (carried_out state turn.entry) k d None below ∙ at_carried_out state turn.entry k inside)) (go (at_place turn.entry.takes k) (at_place turn.entry.fills k) refl (values k None inside))
      where
        go : (take fill : Option Value) → at_place turn.entry.fills k ≡ fill → IfSome (content_at state k) IsValue → IfSome (content_after take fill (content_at state k)) IsValue
        go (Some t) fill e held = tt
        go None (Some v) e held = fill_value k v e
        go None None e held = held

  module _ (limit : ℕ) where
    -- a turn more
    pub turn_more : (turns : List Turn) (turn : Turn) → IsUnderWay c texts scripts fabric tables limit turns → IsNext c texts scripts fabric tables limit turns turn → Agrees (state_of c turns) turn.entry
        → IsUnderWay c texts scripts fabric tables limit (turns ++ turn ∷ [])
    turn_more turns turn so_far next agrees =
        let state = state_of c turns in
        let steps = steps_of turns in
        let calls = calls_of scripts steps in
        let product = is_product state calls turn turn.entry.region next.allowed so_far.lawful.is_state agrees in
        let lawful = lawful_more c texts scripts fit state steps calls so_far.lawful (carried_out state turn.entry) turn.step product.0 product.1 (answers_offers state calls turn turn.entry.region next.allowed) in
        record {
          led = led_more (IsNext c texts scripts fabric tables limit) [] turns turn so_far.led next;
          few = omega (arith, length-append turns (turn ∷ []), next.few);
          lawful = subst (λ cs. IsLawfulSoFar c texts scripts (state_of c (turns ++ turn ∷ [])) (steps_of (turns ++ turn ∷ [])) cs) (sym (calls_more scripts steps turn.step) ∙ ap (calls_of scripts) (sym (steps_turn turns turn)))
              (subst (λ ss. IsLawfulSoFar c texts scripts (state_of c (turns ++ turn ∷ [])) ss (calls_with scripts turn.step (length steps) calls)) (sym (steps_turn turns turn))
              (subst (λ q. IsLawfulSoFar c texts scripts q (steps ++ turn.step ∷ []) (calls_with scripts turn.step (length steps) calls)) (sym (state_turn c turns turn)) lawful));
          values = subst AreValues (sym (state_turn c turns turn)) (values_after state calls turn turn.entry.region next.allowed so_far.values);
        }

    -- the start
    first_values : (channels : List Channel) → All (λ channel. HasValues channel.kind) channels → AreValues (flat_map (λ channel. first_content channel.kind) channels)
    first_values [] values = All-nil (λ held. IfSome held IsValue)
    first_values (channel ∷ channels) values =
        All-append (λ held. IfSome held IsValue) (first_content channel.kind) (flat_map (λ ch. first_content ch.kind) channels) (of_kind channel.kind (values 0 channel (omega arith)))
        (first_values channels (λ k d below. values (suc k) d (omega (arith, below))))
      where
        of_kind : (kind : Kind) → HasValues kind → AreValues (first_content kind)
        of_kind Sync has = All-nil (λ held. IfSome held IsValue)
        of_kind Lossy has = All-nil (λ held. IfSome held IsValue)
        of_kind Drain has = All-nil (λ held. IfSome held IsValue)
        of_kind (Fifo first) has = All-cons (λ held. IfSome held IsValue) first [] has (All-nil (λ held. IfSome held IsValue))
        of_kind (Filter guard) has = All-nil (λ held. IfSome held IsValue)
        of_kind (Transform fun) has = All-nil (λ held. IfSome held IsValue)

    no_own : (some : List (List Op)) (k : ℕ) (own : List Called) → slice_get (map (λ script. []) some) k ≡ Some own → own ≡ []
    no_own [] k own e = cc
    no_own (s ∷ some) zero own e = sym (same_Some [] own e)
    no_own (s ∷ some) (suc k) own e = no_own some k own e

    no_call : (some : List (List Op)) (k i : ℕ) (call : Called) → call_at (map (λ script. []) some) k i ≡ Some call → ⊥
    no_call [] k i call e = cc
    no_call (s ∷ some) zero i call e = cc
    no_call (s ∷ some) (suc k) i call e = no_call some k i call e

    pub begins : BringsValues c texts → IsUnderWay c texts scripts fabric tables limit []
    begins brings = record {
      led = tt;
      few = omega arith;
      lawful = record {
        is_state = initial_is_state c;
        run = refl;
        firings = All-nil (FiresOneRegion c);
        components = length-map scripts (λ script. []);
        in_order = λ k script own of_script of_calls.
            subst (AreFirstOf script) (sym (no_own scripts k own of_calls)) (record { first = refl; rising = λ i h. absurd (omega (arith, h)) });
        placed = λ k i call e. absurd (no_call scripts k i call e);
        once = λ number step port found within fires. cc;
      };
      values = first_values c.channels brings.channels;
    }

    -- and the end
    module _ (some : 1 ≤ limit) (turns : List Turn) (so_far : IsUnderWay c texts scripts fabric tables limit turns) where
      abbrev steps : List Step
      steps = steps_of turns

      abbrev calls : List (List Called)
      calls = calls_of scripts steps

      as_long : length steps ≡ length turns
      as_long = length-map turns (λ turn. turn.step)

      reported : (ending : Ending) → IsEndingOf c texts scripts calls limit (length steps) (state_of c turns) ending → ((turn : Turn) → IsNext c texts scripts fabric tables limit turns turn → ⊥)
          → IsPlainReport c texts scripts limit (record { steps = steps; calls = calls; ending = ending })
      reported ending ended last = record {
        lawful = record {
          final = state_of c turns;
          run = so_far.lawful.run;
          firings = so_far.lawful.firings;
          components = so_far.lawful.components;
          in_order = so_far.lawful.in_order;
          placed = so_far.lawful.placed;
          once = so_far.lawful.once;
          roots = board.is_cut.roots;
          regions = board.is_cut.regions;
          bound = ⊎_elim
              (λ (below : length steps < limit). omega arith)
              (λ (reached : limit ≤ length steps). (let firing = so_far.lawful.firings 0 (record { pairs = [] }) (omega arith) in let found = board.is_cut.regions.every firing.root firing.region in omega (arith, found.1, so_far.few, as_long)))
              (cases_lt (length steps) limit);
          ended = ended;
        };
        within = omega (arith, so_far.few, as_long);
        fabric = fabric;
        tables = tables;
        board = board;
        turns = turns;
        follow = led_follows (IsNext c texts scripts fabric tables limit) [] turns so_far.led last;
        steps = refl;
        calls = refl;
      }

      pub ends_done : AllAnswered scripts calls → IsPlainReport c texts scripts limit (record { steps = steps; calls = calls; ending = Done })
      ends_done all =
          reported Done
          (record {
            done = (λ e. all, λ h. refl);
            at_limit = (λ e. (let clash : Done ≡ Limit = e in cc), λ h. absurd (h.0 all));
            stuck = (λ e. (let clash : Done ≡ Stuck = e in cc), λ h. absurd (h.0 all));
          })
          (λ turn next. next.left all)

      pub ends_at_limit : (AllAnswered scripts calls → ⊥) → limit ≤ length turns → IsPlainReport c texts scripts limit (record { steps = steps; calls = calls; ending = Limit })
      ends_at_limit left reached =
          reported Limit
          (record {
            done = (λ e. (let clash : Limit ≡ Done = e in cc), λ all. absurd (left all));
            at_limit = (λ e. (left, omega (arith, reached, as_long)), λ h. refl);
            stuck = (λ e. (let clash : Limit ≡ Stuck = e in cc), λ h. absurd (omega (arith, h.1, reached, as_long)));
          })
          (λ turn next. absurd (omega (arith, next.few, reached)))

      pub ends_stuck : BringsValues c texts → (AllAnswered scripts calls → ⊥) → length turns < limit
          → ((region : ℕ) → region < fabric.regions → IsFirstChoice (Allows c texts tables region (reads c fabric scripts turns region)) None)
          → IsPlainReport c texts scripts limit (record { steps = steps; calls = calls; ending = Stuck })
      ends_stuck brings left below quiet =
          reported Stuck
          (record {
            done = (λ e. (let clash : Stuck ≡ Done = e in cc), λ all. absurd (left all));
            at_limit = (λ e. (let clash : Stuck ≡ Limit = e in cc), λ h. absurd (omega (arith, h.1, below, as_long)));
            stuck = (λ e. (left, omega (arith, below, as_long), nothing), λ h. refl);
          })
          (λ turn next. quiet turn.entry.region next.region turn.entry next.allowed.allowed)
        where
          nothing : IsEnabled c texts (state_of c turns) (next_ops scripts calls) → ⊥
          nothing =
              quiet_is_not_enabled c texts fabric tables checked brings board (state_of c turns) so_far.lawful.is_state so_far.values (ops_of scripts turns) (offers_in (ops_of scripts turns) (length c.ports))
              (put_values c scripts fit calls put) (are_offered c scripts fit calls)
              (λ region entry in_regions allowed. quiet region in_regions entry allowed)
