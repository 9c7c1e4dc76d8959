-- Calls that are posted.
use Rattle.std.proofs.Common.{◌≡◌, ℕ, ◌<◌, List, [], ◌∷◌, length, set, get_or, Option, Some, None, refl, sym, ap, ◌∙◌, subst, arith}
use Rattle.std.proofs.lemmas.Option.{same_Some}
use Rattle.reo_value.specs.declared.value.Value.{Value}
use Rattle.reo_value.specs.declared.op.Op.{Op}
use Rattle.reo_value.specs.declared.op.Op.TheVariants as op
use Rattle.reo_value.specs.declared.op.Way.{Way}
use Rattle.reo_value.specs.declared.op.Way.TheVariants.{Put, Get}
use Rattle.reo_coupling.specs.declared.view.Offer.{Offer}
use Rattle.reo_coupling.specs.declared.view.PartyView.{PartyView}
use Rattle.reo_coupling.specs.declared.view.PortView.{PortView}
use Rattle.reo_coupling.specs.PortViews.{port_of, after_set_put, after_offer}
use Rattle.reo_coupling.specs.PartySteps.{IsOwnedPut, IsSetFor, IsReady}
use Rattle.reo_coupling.specs.PortParts.{IsOwned}
use Rattle.reo_coupling.proofs.PartyFrames.{port_here, port_else}
use Rattle.reo_table.specs.Shared.{WordsState}
use Rattle.reo_port.specs.Party.{PartyValue, IsPartyOf, way_at, standing, put_of, refusal_of, call_at, AreNoted}
use Rattle.reo_port.proofs.OwnPorts.{IsAt, owned, not_refused, idle_at, noted_after, has_place}

put_is_no_get : Get ≡ Put → ⊥
put_is_no_get e = cc

none_some : {P : Type 0} (x : Value) → ◌≡◌ {A = Option Value} (Some x) None → P
none_some x is = absurd (clash is)
  where
    clash : ◌≡◌ {A = Option Value} (Some x) None → ⊥
    clash e = cc

module _ (words : WordsState) (told state : PartyValue) (port : ℕ) (is : state ≡ told) (of_words : IsPartyOf words told) where
  owned_as : (way : Way) → refusal_of told port way ≡ None → IsAt words.setting.fabric.ports state.view.party port way
  owned_as way none =
      let here : IsPartyOf words state = subst (IsPartyOf words) (sym is) of_words in
      owned words state port way here (ap (λ (s : PartyValue). way_at s port) is ∙ (not_refused (way_at told port) way (call_at told port) none).0)

  pub ready_get : refusal_of told port Get ≡ None → IsReady words.setting.fabric state.view port
  ready_get none =
      let at = owned_as Get none in
      record { own = record { spec = at.spec; found = at.found; owner = at.owner }; set = subst (λ (w : Way). IsSetFor w (port_of state.view port).set) (sym at.goes) tt }

  pub owned_put : refusal_of told port Put ≡ None → IsOwnedPut words.setting.fabric state.view.party port
  owned_put none =
      let at = owned_as Put none in
      record { own = record { spec = at.spec; found = at.found; owner = at.owner }; way = at.goes }

  pub ready_put : (value : Value) (new : PartyView) → new ≡ after_set_put state.view port value → refusal_of told port Put ≡ None → IsReady words.setting.fabric new port
  ready_put value new stored none =
      let at = owned_as Put none in
      let set_is : (port_of new port).set ≡ Some value = ap (λ (v : PartyView). (port_of v port).set) stored ∙ ap (λ (k : PortView). k.set) (port_here state.view port (record (port_of state.view port) { set = Some value })) in
      record {
        own = record { spec = at.spec; found = at.found; owner = at.owner ∙ ap (λ (v : PartyView). Some v.party) (sym stored) };
        set = subst (λ (w : Way). IsSetFor w (port_of new port).set) (sym at.goes) (subst (IsSetFor Put) (sym set_is) tt);
      }

module _ (told state : PartyValue) (calls : List (Option Op)) (new : PartyView) (call : Option Op) (port : ℕ) (is : state ≡ told) (noted : AreNoted state.ways state.view calls) where
  way_is : (way : Way) → refusal_of told port way ≡ None → way_at state port ≡ Some way
  way_is way none = ap (λ (s : PartyValue). way_at s port) is ∙ (not_refused (way_at told port) way (call_at told port) none).0

  pub idle_now : (way : Way) → refusal_of told port way ≡ None → (port_of state.view port).call ≡ None
  idle_now way none =
      idle_at state.ways state.view calls port way noted (way_is way none) (ap (λ (s : PartyValue). call_at s port) is ∙ (not_refused (way_at told port) way (call_at told port) none).1)

  pub within : (way : Way) → refusal_of told port way ≡ None → port < length calls
  within way none = subst (λ n. port < n) (sym noted.same) (has_place state.ways port way (way_is way none))

  pub noted_get : refusal_of told port Get ≡ None → new ≡ after_offer state.view port → call ≡ Some (op.Get port) → AreNoted state.ways new (set calls port call)
  noted_get none offered of_call =
      let opened = ap (λ (v : PartyView). (port_of v port).call) offered ∙ ap (λ (k : PortView). k.call) (port_here state.view port (record (port_of state.view port) { call = Some (record { value = (port_of state.view port).set; had = length state.view.calls }); set = None })) in
      noted_after state.ways state.view new calls port call (Some (record { value = (port_of state.view port).set; had = length state.view.calls })) noted (within Get none) opened
      (λ other ne. ap (λ (v : PartyView). (port_of v other).call) offered ∙ ap (λ (k : PortView). k.call) (port_else state.view port other _ ne))
      (of_call ∙ ap (λ w. standing w port (Some (record { value = (port_of state.view port).set; had = length state.view.calls }))) (sym (way_is Get none)))
      (λ offer way called empty. put_is_no_get (same_Some Get Put (sym (way_is Get none) ∙ way)))

  pub noted_put : (value : Value) (between : PartyView) → between ≡ after_set_put state.view port value → refusal_of told port Put ≡ None → new ≡ after_offer between port → call ≡ Some (op.Put port value)
      → AreNoted state.ways new (set calls port call)
  noted_put value between stored none offered of_call =
      let set_is : (port_of between port).set ≡ Some value = ap (λ (v : PartyView). (port_of v port).set) stored ∙ ap (λ (k : PortView). k.set) (port_here state.view port (record (port_of state.view port) { set = Some value })) in
      let opened : (port_of new port).call ≡ Some (record { value = (port_of between port).set; had = length between.calls }) =
      ap (λ (v : PartyView). (port_of v port).call) offered
      ∙ ap (λ (k : PortView). k.call) (port_here between port (record (port_of between port) { call = Some (record { value = (port_of between port).set; had = length between.calls }); set = None })) in
      noted_after state.ways state.view new calls port call (Some (record { value = (port_of between port).set; had = length between.calls })) noted (within Put none) opened
      (λ other ne.
      ap (λ (v : PartyView). (port_of v other).call) offered
      ∙ (ap (λ (k : PortView). k.call) (port_else between port other _ ne) ∙ (ap (λ (v : PartyView). (port_of v other).call) stored ∙ ap (λ (k : PortView). k.call) (port_else state.view port other _ ne))))
      (of_call
      ∙ (ap (put_of port) (sym set_is) ∙ ap (λ w. standing w port (Some (record { value = (port_of between port).set; had = length between.calls }))) (sym (way_is Put none))))
      (λ offer way called empty.
      let none_it : (port_of between port).set ≡ None = ap (λ (o : Offer). o.value) (same_Some _ _ called) ∙ empty in
      none_some value (sym set_is ∙ none_it))
