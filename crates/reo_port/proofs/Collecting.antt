-- What an answered call leaves.
use Rattle.std.proofs.Common.{◌≡◌, ℕ, ◌+◌, ◌-◌, ◌<◌, ◌≤◌, Bool, true, false, List, [], ◌∷◌, ◌++◌, set, get_or, slice_get, nat_lt, All, Option, Some, None, refl, sym, ap, ◌∙◌, subst, arith}
use Rattle.std.specs.Option.{is_some}
use Rattle.atomic_table.specs.Seated.{TableId}
use Rattle.std.proofs.lemmas.Option.{same_Some}
use Rattle.std.proofs.lemmas.List.Elements.{All-push}
use Rattle.reo_value.specs.declared.value.Value.{Value}
use Rattle.reo_value.specs.Code.{code_of, IsValue}
use Rattle.reo_fabric.proofs.CodeLemmas.{codes_differ}
use Rattle.reo_value.specs.declared.op.Op.{Op}
use Rattle.reo_value.specs.declared.op.Way.{Way}
use Rattle.reo_coupling.specs.declared.view.Call.{Call}
use Rattle.reo_coupling.specs.declared.view.Offer.{Offer}
use Rattle.reo_coupling.specs.PortParts.{IsOwned, CallStands}
use Rattle.reo_coupling.specs.declared.view.PartyView.{PartyView}
use Rattle.reo_coupling.specs.declared.view.PortView.{PortView}
use Rattle.reo_coupling.specs.Moment.{Setting, state_place, data_place}
use Rattle.reo_coupling.specs.PortViews.{port_of, answered_call, seen_in, after_call, after_see_state, after_see_got, after_clear, party_after_load}
use Rattle.reo_coupling.proofs.OneCall.{seen_high}
use Rattle.reo_coupling.proofs.PartyFrames.{port_here, port_else}
use Rattle.reo_coupling.proofs.PartySteps.{call_is}
use Rattle.reo_table.specs.History.{IsAnsweredWith}
use Rattle.reo_table.specs.Shared.{WordsState, PartyState, party_knowing, after_state_look, GotLook}
use Rattle.reo_port.specs.Party.{PartyValue, IsPartyOf, way_at, standing, call_at, AreNoted, IsAnswer}
use Rattle.reo_port.proofs.OwnPorts.{IsAt, owned, noted_after, has_place}

module _ (setting : Setting) (v0 v1 v2 v3 : PartyView) (port s word : ℕ) (value : Value) (read : v1 ≡ after_see_state v0 port (state_place setting.fabric port) s) (high : 3 ≤ s) (answered : IsAnsweredWith setting v1 port word value)
    (looked : v2 ≡ after_see_got v1 port (data_place setting.fabric port) word value) where
  at_one : port_of v1 port ≡ record (port_of v0 port) { seen = seen_in s (port_of v0 port).seen }
  at_one = ap (λ (v : PartyView). port_of v port) read ∙ port_here (party_after_load v0 (state_place setting.fabric port) s) port _

  at_two : port_of v2 port ≡ record (port_of v1 port) { datum = Some value }
  at_two = ap (λ (v : PartyView). port_of v port) looked ∙ port_here (party_after_load v1 (data_place setting.fabric port) word) port _

  pub seen_one : (port_of v1 port).seen ≡ Some (s - 3)
  seen_one = ap (λ (k : PortView). k.seen) at_one ∙ seen_high s (s - 3) (port_of v0 port).seen (nat_lt s 3) refl (omega (arith, high))

  pub seen_two : (port_of v2 port).seen ≡ Some (s - 3)
  seen_two = ap (λ (k : PortView). k.seen) at_two ∙ seen_one

  pub datum_two : (port_of v2 port).datum ≡ Some value
  datum_two = ap (λ (k : PortView). k.datum) at_two

  abbrev loads_with : ℕ → ℕ → List (ℕ × ℕ)
  loads_with n w = (v0.loads ++ (state_place setting.fabric port, n) ∷ []) ++ (data_place setting.fabric port, w) ∷ []

  number_is : answered.number ≡ s - 3
  number_is = same_Some _ _ (sym answered.seen ∙ seen_one)

  calls_one : v1.calls ≡ v0.calls
  calls_one = ap (λ (v : PartyView). v.calls) read

  calls_two : v2.calls ≡ v0.calls
  calls_two = ap (λ (v : PartyView). v.calls) looked ∙ calls_one

  pub else_two : (other : ℕ) → (other ≡ port → ⊥) → port_of v2 other ≡ port_of v0 other
  else_two other ne =
      ap (λ (v : PartyView). port_of v other) looked
      ∙ (port_else (party_after_load v1 (data_place setting.fabric port) word) port other _ ne ∙ (ap (λ (v : PartyView). port_of v other) read ∙ port_else (party_after_load v0 (state_place setting.fabric port) s) port other _ ne))

  abbrev call_of : Value → ℕ → Call
  call_of found number = record { port = port; value = found; number = number }

  -- the calls with this one, which the party collects
  calls_with : (found : Value) → value ≡ found → v3 ≡ after_clear v2 port → v3.calls ≡ v0.calls ++ call_of found (s - 3) ∷ []
  calls_with found is cleared =
      ap (λ (v : PartyView). v.calls) cleared
      ∙ (ap (λ (l : List Call). v2.calls ++ l) (call_is port _ _ (s - 3) value seen_two datum_two)
      ∙ (ap (λ (l : List Call). l ++ call_of value (s - 3) ∷ []) calls_two ∙ ap (λ (v : Value). v0.calls ++ call_of v (s - 3) ∷ []) is))

  party_is : v3 ≡ after_clear v2 port → v3.party ≡ v1.party
  party_is cleared = ap (λ (v : PartyView). v.party) cleared ∙ ap (λ (v : PartyView). v.party) looked

  stand_with : (found : Value) → value ≡ found → v3 ≡ after_clear v2 port → All (CallStands setting.fabric answered.history v3.party) v3.calls
  stand_with found is cleared =
      subst (λ p. All (CallStands setting.fabric answered.history p) v3.calls) (sym (party_is cleared))
      (subst (λ (l : List Call). All (CallStands setting.fabric answered.history v1.party) l) (sym (calls_with found is cleared))
      (All-push (CallStands setting.fabric answered.history v1.party) v0.calls (call_of found (s - 3))
      (subst (λ (l : List Call). All (CallStands setting.fabric answered.history v1.party) l) calls_one answered.calls)
      (subst (CallStands setting.fabric answered.history v1.party) (ap (call_of value) number_is ∙ ap (λ v. call_of v (s - 3)) is) answered.stands)))

  pub collected : (found : Value) → IsValue found → code_of found ≡ word → v3 ≡ after_clear v2 port → IsAnswer setting v0 v3 port found (s - 3)
  collected found real code cleared =
      let is : value ≡ found = codes_differ value found answered.is_value real (sym answered.code ∙ sym code) in
      record {
        calls = calls_with found is cleared;
        at = ap (λ (v : PartyView). port_of v port) cleared
            ∙ (port_here (record v2 { calls = v2.calls ++ answered_call port (port_of v2 port).seen (port_of v2 port).datum }) port _ ∙ (ap after_call at_two ∙ ap after_call at_one));
        others = λ other ne.
            ap (λ (v : PartyView). port_of v other) cleared
            ∙ (port_else (record v2 { calls = v2.calls ++ answered_call port (port_of v2 port).seen (port_of v2 port).datum }) port other _ ne ∙ else_two other ne);
        loads =
            ap (λ (v : PartyView). v.loads) cleared
            ∙ (ap (λ (v : PartyView). v.loads) looked
            ∙ (ap (λ (l : List (ℕ × ℕ)). l ++ (data_place setting.fabric port, word) ∷ []) (ap (λ (v : PartyView). v.loads) read)
            ∙ (ap (λ (n : ℕ). loads_with n word) (omega (arith, high)) ∙ ap (λ (w : ℕ). loads_with (3 + (s - 3)) w) (sym code))));
        party = party_is cleared ∙ ap (λ (v : PartyView). v.party) read;
        history = answered.history;
        real = answered.real;
        stand = stand_with found is cleared;
        offer = answered.offer;
        called = ap (λ (k : PortView). k.call) (sym at_one) ∙ answered.called;
        later = subst (λ n. Rattle.reo_coupling.specs.Ports.IsAfterItsPast v0.calls answered.offer n) number_is
            (subst (λ (l : List Call). Rattle.reo_coupling.specs.Ports.IsAfterItsPast l answered.offer answered.number) calls_one answered.later);
        given = λ spec at. subst (λ (v : Value). Rattle.reo_coupling.specs.Ports.IsGiven spec.way answered.offer.value v) is (answered.given spec at);
      }

true_no_false : true ≡ false → ⊥
true_no_false e = cc

-- a call that was found is one that stands
pub stands_there : (found at : Option Op) → found ≡ at → is_some found ≡ true → at ≡ None → ⊥
stands_there found at is some none = true_no_false (sym some ∙ ap is_some (is ∙ none))

pub way_there : (way : Option Way) (port : ℕ) (call : Option Offer) → (standing way port call ≡ None → ⊥) → (w : Way) × (way ≡ Some w)
way_there None port call some = absurd (some refl)
way_there (Some w) port call some = (w, refl)

pub owned_there : (words : WordsState) (told state : PartyValue) (port : ℕ) → state ≡ told → IsPartyOf words told → (call_at told port ≡ None → ⊥) → IsOwned words.setting.fabric state.view.party port
owned_there words told state port is of_words some =
    let way = way_there (way_at told port) port (port_of told.view port).call some in
    let at = owned words told port way.0 of_words way.1 in
    record { spec = at.spec; found = at.found; owner = at.owner ∙ ap (λ (s : PartyValue). Some s.view.party) (sym is) }

module _ (words : WordsState) (told : PartyValue) (seat0 seat1 seat2 seat3 : PartyState) (ways : List (Option Way)) (port s word : ℕ) (is : record { id = seat0.id; view = seat0.view; ways = ways } ≡ told) (read : seat1 ≡ after_state_look words seat0 port s)
    (high : 3 ≤ s) (look : GotLook words seat1 seat2 port word) (cleared : seat3 ≡ party_knowing seat2 (after_clear seat2.view port)) (found : Value) (real : IsValue found) (code : code_of found ≡ word) where
  answer : IsAnswer words.setting seat0.view seat3.view port found (s - 3)
  answer =
      collected words.setting seat0.view seat1.view seat2.view seat3.view port s word look.value (ap (λ (p : PartyState). p.view) read) high look.answered (ap (λ (p : PartyState). p.view) look.view) found real code
      (ap (λ (p : PartyState). p.view) cleared)

  pub answer_told : IsAnswer words.setting told.view seat3.view port found (s - 3)
  answer_told = subst (λ (v : PartyView). IsAnswer words.setting v seat3.view port found (s - 3)) (ap (λ (p : PartyValue). p.view) is) answer

  pub left : record { id = seat3.id; view = seat3.view; ways = ways } ≡ record told { view = seat3.view }
  left =
      let id_is : seat3.id ≡ told.id = ap (λ (p : PartyState). p.id) cleared ∙ (ap (λ (p : PartyState). p.id) look.view ∙ (ap (λ (p : PartyState). p.id) read ∙ ap (λ (p : PartyValue). p.id) is)) in
      ap (λ (i : TableId). record { id = i; view = seat3.view; ways = ways }) id_is ∙ ap (λ (w : List (Option Way)). record { id = told.id; view = seat3.view; ways = w }) (ap (λ (p : PartyValue). p.ways) is)

  pub noted_none : (calls : List (Option Op)) → AreNoted ways seat0.view calls → (call_at told port ≡ None → ⊥) → AreNoted ways seat3.view (set calls port None)
  noted_none calls noted some =
      let there = way_there (way_at told port) port (port_of told.view port).call some in
      let way_is : get_or ways port None ≡ Some there.0 = ap (λ (p : PartyValue). way_at p port) is ∙ there.1 in
      noted_after ways seat0.view seat3.view calls port None None noted (subst (λ n. port < n) (sym noted.same) (has_place ways port there.0 way_is)) (ap (λ (k : PortView). k.call) answer.at) (λ other ne. ap (λ (k : PortView). k.call) (answer.others other ne)) (ap (λ w. standing w port None) (sym way_is))
      (λ offer way called empty. no_offer offer called)
    where
      no_offer : (offer : Offer) → ◌≡◌ {A = Option Offer} None (Some offer) → ⊥
      no_offer offer e = cc
