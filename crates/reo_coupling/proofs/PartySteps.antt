-- Each step of a party keeps what the words stand for.
use Rattle.std.proofs.Common.{◌≡◌, ℕ, ◌<◌, Bool, true, false, cond, List, [], ◌∷◌, ◌++◌, length, slice_get, slice_index, nat_eq, All, Option, Some, None, refl, sym, ap, ◌∙◌, subst, arith, append-nil}
use Rattle.std.proofs.lemmas.Bool.{eq-eqb, ne_eqb}
use Rattle.std.proofs.lemmas.List.Elements.{All-head, All-tail, All-push}
use Rattle.std.proofs.lemmas.Option.{same_Some, slice_get_within}
use Rattle.reo_value.specs.declared.value.Value.{Value}
use Rattle.reo_value.specs.Code.{code_of}
use Rattle.reo_fabric.specs.declared.fabric.PortSpec.{PortSpec}
use Rattle.reo_coupling.specs.declared.view.Call.{Call}
use Rattle.reo_coupling.specs.declared.view.PartyView.{PartyView}
use Rattle.reo_coupling.specs.Moment.{Setting, Moment, state_place, data_place}
use Rattle.reo_coupling.specs.PortViews.{port_of, party_after_load, seen_in, after_call, answered_call}
use Rattle.reo_coupling.specs.Ports.{taken_at, PortNow, PortStands, IsAnswered}
use Rattle.reo_coupling.specs.PortParts.{CallStands, known_at, calls_of, state_at, data_at, port_now, IsOwned}
use Rattle.reo_coupling.specs.PartySteps.{IsOfParty, known_of, SetsPut, MakesOffer, SeesState, SeesGot, Clears, PartyKeeps}
use Rattle.reo_coupling.specs.Whole.{StandsFor}
use Rattle.reo_coupling.proofs.Placed.{Placed, in_history}
use Rattle.reo_coupling.proofs.Frames.{word_else, word_here, length_else}
use Rattle.reo_coupling.proofs.OnePort.{same_port}
use Rattle.reo_coupling.proofs.OneCall.{uncalled_is_idle, seen_is_answered, one_sets_put, one_offers, one_sees_state, one_sees_got, one_clears}
use Rattle.reo_coupling.proofs.PartyFrames.{port_here, port_else, party_keeps, each_port, port_after}
use Rattle.reo_coupling.proofs.PortStores.{state_is_no_data, apart_state, apart_data}

-- a port of the party, by what the party knows
module _ (setting : Setting) (party : ℕ) (before : Moment) (stands : StandsFor setting before) (port : ℕ) (own : IsOwned setting.fabric party port) where
  unfoldable pub own_now : PortSpec → PortNow
  own_now spec = record (port_now setting before port spec) { known = known_of before party port; calls = (before.folk party).calls; taken = taken_at port (before.folk party).calls }

  pub own_stands : (spec : PortSpec) → slice_get setting.fabric.ports port ≡ Some spec → PortStands (own_now spec)
  unfolding own_now
  own_stands spec found =
      let owned : Some party ≡ spec.owner = sym (ap (λ (p : PortSpec). p.owner) (same_Some spec own.spec (sym found ∙ own.found)) ∙ own.owner) in
      same_port (own_now spec) (port_now setting before port spec) refl refl refl (ap (λ o. known_at before.folk o port) owned) (ap (calls_of before.folk) owned) (ap (λ o. taken_at port (calls_of before.folk o)) owned) refl refl refl
      (stands.ports port spec found)

  pub own_idle : (known_of before party port).call ≡ None → state_at setting before port ≡ 0
  unfolding own_now
  own_idle none = (uncalled_is_idle (own_now own.spec) none (own_stands own.spec own.found)).state

  pub own_answered : (number : ℕ) → (known_of before party port).seen ≡ Some number → IsAnswered (own_now own.spec)
  unfolding own_now
  own_answered number seen = seen_is_answered (own_now own.spec) number seen (own_stands own.spec own.found)

  pub within : port < length setting.fabric.ports
  within = slice_get_within setting.fabric.ports port own.spec own.found

-- what was noted as offered is at another port, or untouched
noted_else : (setting : Setting) (before after : Moment) (port : ℕ) → (state_at setting before port ≡ 1 → ⊥) → ((other : ℕ) → (other ≡ port → ⊥) → state_at setting after other ≡ state_at setting before other)
    → ((other : ℕ) → (other ≡ port → ⊥) → data_at setting after other ≡ data_at setting before other) → (other : ℕ) → state_at setting before other ≡ 1
    → (state_at setting after other ≡ state_at setting before other) × (data_at setting after other ≡ data_at setting before other)
noted_else setting before after port never states datas other one =
    let ne : other ≡ port → ⊥ = λ is. never (ap (state_at setting before) (sym is) ∙ one) in
    (states other ne, datas other ne)

zero_no_one : (word : ℕ) → word ≡ 0 → word ≡ 1 → ⊥
zero_no_one word zero_is one_is = omega (arith, zero_is, one_is)

pub set_put_keeps : PartyKeeps SetsPut
unfolding own_now
set_put_keeps setting party before after inside stands step =
    let states : (other : ℕ) → state_at setting after other ≡ state_at setting before other = λ other. word_else before.words after.words _ _ (state_place setting.fabric other) step.words (state_is_no_data setting.fabric other step.port) in
    let datas : (other : ℕ) → (other ≡ step.port → ⊥) → data_at setting after other ≡ data_at setting before other =
    λ other ne. word_else before.words after.words _ _ (data_place setting.fabric other) step.words (apart_data setting.fabric other step.port ne) in
    let same_calls : (after.folk party).calls ≡ (before.folk party).calls = ap (λ (v : PartyView). v.calls) step.view in
    let at : step.port < length setting.fabric.ports = within setting party before stands step.port step.own in
    party_keeps setting party before after stands step.frame (length_else before.words after.words _ _ step.words) (λ place low. word_else before.words after.words _ _ place step.words (λ same. omega (arith, low, same)))
    (noted_else setting before after step.port (zero_no_one _ (own_idle setting party before stands step.port step.own step.idle)) (λ other ne. states other) datas) (ap (λ (v : PartyView). v.party) step.view)
    (subst (λ l. All (CallStands setting.fabric before.history party) l) (sym same_calls) (stands.calls party inside))
    (each_port setting party before after stands step.frame step.port [] (same_calls ∙ sym (append-nil (before.folk party).calls)) (λ other ne. ap (taken_at other) (append-nil (before.folk party).calls))
    (λ other ne. ap (λ (v : PartyView). port_of v other) step.view ∙ port_else (before.folk party) step.port other _ ne) (λ other ne. states other) datas
    (λ spec found.
    port_after setting party before after stands step.frame step.port step.own (record (known_of before party step.port) { set = Some step.value })
    (ap (λ (v : PartyView). port_of v step.port) step.view ∙ port_here (before.folk party) step.port _) (state_at setting before step.port) (code_of step.value) (states step.port)
    (word_here before.words after.words _ _ step.words (omega (arith, stands.sized.words, at))) (before.folk party).calls same_calls spec found
    (one_sets_put (own_now setting party before stands step.port step.own spec) step.value (own_stands setting party before stands step.port step.own spec found) step.idle
    (ap (λ (p : PortSpec). p.way) (same_Some spec step.own.spec (sym found ∙ step.own.found)) ∙ step.way) step.real)))
    inside

pub offer_keeps : PartyKeeps MakesOffer
unfolding own_now
offer_keeps setting party before after inside stands step =
    let states : (other : ℕ) → (other ≡ step.port → ⊥) → state_at setting after other ≡ state_at setting before other =
    λ other ne. word_else before.words after.words _ _ (state_place setting.fabric other) step.words (apart_state setting.fabric other step.port ne) in
    let datas : (other : ℕ) → data_at setting after other ≡ data_at setting before other = λ other. word_else before.words after.words _ _ (data_place setting.fabric other) step.words (λ same. state_is_no_data setting.fabric step.port other (sym same)) in
    let same_calls : (after.folk party).calls ≡ (before.folk party).calls = ap (λ (v : PartyView). v.calls) step.view in
    let at : step.port < length setting.fabric.ports = within setting party before stands step.port step.own in
    party_keeps setting party before after stands step.frame (length_else before.words after.words _ _ step.words) (λ place low. word_else before.words after.words _ _ place step.words (λ same. omega (arith, low, same)))
    (noted_else setting before after step.port (zero_no_one _ (own_idle setting party before stands step.port step.own step.idle)) states (λ other ne. datas other)) (ap (λ (v : PartyView). v.party) step.view)
    (subst (λ l. All (CallStands setting.fabric before.history party) l) (sym same_calls) (stands.calls party inside))
    (each_port setting party before after stands step.frame step.port [] (same_calls ∙ sym (append-nil (before.folk party).calls)) (λ other ne. ap (taken_at other) (append-nil (before.folk party).calls))
    (λ other ne. ap (λ (v : PartyView). port_of v other) step.view ∙ port_else (before.folk party) step.port other _ ne) states (λ other ne. datas other)
    (λ spec found.
    port_after setting party before after stands step.frame step.port step.own
    (record (known_of before party step.port) { call = Some (record { value = (known_of before party step.port).set; had = length (before.folk party).calls }); set = None })
    (ap (λ (v : PartyView). port_of v step.port) step.view ∙ port_here (before.folk party) step.port _) 1 (data_at setting before step.port) (word_here before.words after.words _ _ step.words (omega (arith, stands.sized.words, at))) (datas step.port)
    (before.folk party).calls same_calls spec found
    (one_offers (own_now setting party before stands step.port step.own spec) (own_stands setting party before stands step.port step.own spec found) step.idle
    (subst (λ (w : Rattle.reo_value.specs.declared.op.Way.Way). Rattle.reo_coupling.specs.PartySteps.IsSetFor w (known_of before party step.port).set)
    (ap (λ (p : PortSpec). p.way) (same_Some step.own.spec spec (sym step.own.found ∙ found))) step.set))))
    inside

pub see_state_keeps : PartyKeeps SeesState
unfolding own_now
see_state_keeps setting party before after inside stands step =
    let states : (other : ℕ) → state_at setting after other ≡ state_at setting before other = λ other. ap (λ ws. slice_index ws (state_place setting.fabric other)) step.words in
    let datas : (other : ℕ) → data_at setting after other ≡ data_at setting before other = λ other. ap (λ ws. slice_index ws (data_place setting.fabric other)) step.words in
    let same_calls : (after.folk party).calls ≡ (before.folk party).calls = ap (λ (v : PartyView). v.calls) step.view in
    party_keeps setting party before after stands step.frame (ap length step.words) (λ place low. ap (λ ws. slice_index ws place) step.words) (λ other one. (states other, datas other)) (ap (λ (v : PartyView). v.party) step.view)
    (subst (λ l. All (CallStands setting.fabric before.history party) l) (sym same_calls) (stands.calls party inside))
    (each_port setting party before after stands step.frame step.port [] (same_calls ∙ sym (append-nil (before.folk party).calls)) (λ other ne. ap (taken_at other) (append-nil (before.folk party).calls))
    (λ other ne. ap (λ (v : PartyView). port_of v other) step.view ∙ port_else (party_after_load (before.folk party) (state_place setting.fabric step.port) (state_at setting before step.port)) step.port other _ ne) (λ other ne. states other)
    (λ other ne. datas other)
    (λ spec found.
    port_after setting party before after stands step.frame step.port step.own (record (known_of before party step.port) { seen = seen_in (state_at setting before step.port) (known_of before party step.port).seen })
    (ap (λ (v : PartyView). port_of v step.port) step.view ∙ port_here (party_after_load (before.folk party) (state_place setting.fabric step.port) (state_at setting before step.port)) step.port _) (state_at setting before step.port)
    (data_at setting before step.port) (states step.port) (datas step.port) (before.folk party).calls same_calls spec found
    (one_sees_state (own_now setting party before stands step.port step.own spec) (own_stands setting party before stands step.port step.own spec found))))
    inside

pub see_got_keeps : PartyKeeps SeesGot
unfolding own_now
see_got_keeps setting party before after inside stands step =
    let states : (other : ℕ) → state_at setting after other ≡ state_at setting before other = λ other. ap (λ ws. slice_index ws (state_place setting.fabric other)) step.words in
    let datas : (other : ℕ) → data_at setting after other ≡ data_at setting before other = λ other. ap (λ ws. slice_index ws (data_place setting.fabric other)) step.words in
    let same_calls : (after.folk party).calls ≡ (before.folk party).calls = ap (λ (v : PartyView). v.calls) step.view in
    party_keeps setting party before after stands step.frame (ap length step.words) (λ place low. ap (λ ws. slice_index ws place) step.words) (λ other one. (states other, datas other)) (ap (λ (v : PartyView). v.party) step.view)
    (subst (λ l. All (CallStands setting.fabric before.history party) l) (sym same_calls) (stands.calls party inside))
    (each_port setting party before after stands step.frame step.port [] (same_calls ∙ sym (append-nil (before.folk party).calls)) (λ other ne. ap (taken_at other) (append-nil (before.folk party).calls))
    (λ other ne. ap (λ (v : PartyView). port_of v other) step.view ∙ port_else (party_after_load (before.folk party) (data_place setting.fabric step.port) (data_at setting before step.port)) step.port other _ ne) (λ other ne. states other)
    (λ other ne. datas other)
    (λ spec found.
    port_after setting party before after stands step.frame step.port step.own (record (known_of before party step.port) { datum = Some step.value })
    (ap (λ (v : PartyView). port_of v step.port) step.view ∙ port_here (party_after_load (before.folk party) (data_place setting.fabric step.port) (data_at setting before step.port)) step.port _) (state_at setting before step.port)
    (data_at setting before step.port) (states step.port) (datas step.port) (before.folk party).calls same_calls spec found
    (one_sees_got (own_now setting party before stands step.port step.own spec) step.number step.value (own_stands setting party before stands step.port step.own spec found) step.seen step.real step.code)))
    inside

pub all_last : {A : Type 0} (P : A → Type 0) (xs : List A) (x : A) → All P (xs ++ x ∷ []) → P x
all_last P [] x all = All-head P x [] all
all_last P (y ∷ xs) x all = all_last P xs x (All-tail P y (xs ++ x ∷ []) all)

-- the places of collected calls, with a call more
taken_more : (port : ℕ) (calls : List Call) (call : Call) → call.port ≡ port → taken_at port (calls ++ call ∷ []) ≡ taken_at port calls ++ (call.number, call.value) ∷ []
taken_more port [] call is = ap (λ b. cond b ((call.number, call.value) ∷ []) []) (eq-eqb port call.port (sym is))
taken_more port (c ∷ calls) call is = go (nat_eq port c.port) (taken_more port calls call is)
  where
    go : (b : Bool) → taken_at port (calls ++ call ∷ []) ≡ taken_at port calls ++ (call.number, call.value) ∷ []
        → cond b ((c.number, c.value) ∷ taken_at port (calls ++ call ∷ [])) (taken_at port (calls ++ call ∷ [])) ≡ cond b ((c.number, c.value) ∷ taken_at port calls) (taken_at port calls) ++ (call.number, call.value) ∷ []
    go true rest = ap (λ l. (c.number, c.value) ∷ l) rest
    go false rest = rest

taken_else : (other : ℕ) (calls : List Call) (call : Call) → (other ≡ call.port → ⊥) → taken_at other (calls ++ call ∷ []) ≡ taken_at other calls
taken_else other [] call ne = ap (λ b. cond b ((call.number, call.value) ∷ []) []) (ne_eqb other call.port ne)
taken_else other (c ∷ calls) call ne = ap (λ l. cond (nat_eq other c.port) ((c.number, c.value) ∷ l) l) (taken_else other calls call ne)

pub call_is : (port : ℕ) (seen : Option ℕ) (datum : Option Value) (number : ℕ) (value : Value) → seen ≡ Some number → datum ≡ Some value → answered_call port seen datum ≡ record { port = port; value = value; number = number } ∷ []
call_is port seen datum number value of_seen of_datum = ap (λ s. answered_call port s datum) of_seen ∙ ap (answered_call port (Some number)) of_datum

pub clear_keeps : PartyKeeps Clears
unfolding own_now
clear_keeps setting party before after inside stands step =
    let states : (other : ℕ) → (other ≡ step.port → ⊥) → state_at setting after other ≡ state_at setting before other =
    λ other ne. word_else before.words after.words _ _ (state_place setting.fabric other) step.words (apart_state setting.fabric other step.port ne) in
    let datas : (other : ℕ) → data_at setting after other ≡ data_at setting before other = λ other. word_else before.words after.words _ _ (data_place setting.fabric other) step.words (λ same. state_is_no_data setting.fabric step.port other (sym same)) in
    let call : Call = record { port = step.port; value = step.value; number = step.number } in
    let collected : (after.folk party).calls ≡ (before.folk party).calls ++ record { port = step.port; value = step.value; number = step.number } ∷ [] =
    ap (λ (v : PartyView). v.calls) step.view ∙ ap (λ (l : List Call). (before.folk party).calls ++ l) (call_is step.port _ _ step.number step.value step.seen step.datum) in
    let at : step.port < length setting.fabric.ports = within setting party before stands step.port step.own in
    let answered = own_answered setting party before stands step.port step.own step.number step.seen in
    let same_number : step.number ≡ answered.number = answered.seen step.number step.seen in
    let place : Placed step.port 0 before.history (answered.number, answered.value) =
    all_last (Placed step.port 0 before.history) (taken_at step.port (before.folk party).calls) (answered.number, answered.value)
    (subst (λ l. All (Placed step.port 0 before.history) l) answered.place.last (in_history step.port 0 before.history)) in
    let same_value : step.value ≡ answered.value = answered.datum step.value step.datum in
    let stands_there : CallStands setting.fabric before.history party call = record {
      own = step.own;
      entry = place.entry;
      found = ap (slice_get before.history) (omega (arith, same_number, place.numbered)) ∙ place.found;
      datum = place.datum ∙ ap Some (sym same_value);
    } in
    party_keeps setting party before after stands step.frame (length_else before.words after.words _ _ step.words) (λ place below. word_else before.words after.words _ _ place step.words (λ same. omega (arith, below, same)))
    (noted_else setting before after step.port (λ one_is. omega (arith, one_is, answered.state)) states (λ other ne. datas other)) (ap (λ (v : PartyView). v.party) step.view)
    (subst (λ l. All (CallStands setting.fabric before.history party) l) (sym collected)
    (All-push (CallStands setting.fabric before.history party) (before.folk party).calls call (stands.calls party inside) stands_there))
    (each_port setting party before after stands step.frame step.port (record { port = step.port; value = step.value; number = step.number } ∷ []) collected (λ other ne. taken_else other (before.folk party).calls call ne)
    (λ other ne. ap (λ (v : PartyView). port_of v other) step.view ∙ port_else (record (before.folk party) { calls = (before.folk party).calls ++ answered_call step.port (known_of before party step.port).seen (known_of before party step.port).datum }) step.port other _ ne) states (λ other ne. datas other)
    (λ spec found.
    port_after setting party before after stands step.frame step.port step.own (after_call (known_of before party step.port))
    (ap (λ (v : PartyView). port_of v step.port) step.view ∙ port_here (record (before.folk party) { calls = (before.folk party).calls ++ answered_call step.port (known_of before party step.port).seen (known_of before party step.port).datum }) step.port _) 0
    (data_at setting before step.port) (word_here before.words after.words _ _ step.words (omega (arith, stands.sized.words, at))) (datas step.port) ((before.folk party).calls ++ record { port = step.port; value = step.value; number = step.number } ∷ []) collected spec found
    (subst
    (λ (l : List (ℕ × Value)). PortStands (record (port_now setting before step.port spec) {
      state_word = 0;
      known = after_call (known_of before party step.port);
      calls = (before.folk party).calls ++ record { port = step.port; value = step.value; number = step.number } ∷ [];
      taken = l;
    }))
    (sym (taken_more step.port (before.folk party).calls call refl))
    (one_clears (own_now setting party before stands step.port step.own spec) step.number step.value (record { port = step.port; value = step.value; number = step.number } ∷ [])
    (own_stands setting party before stands step.port step.own spec found) step.seen step.datum))))
    inside
