-- What a party is told by the words of its ports.
use Rattle.std.proofs.Common.{◌≡◌, ℕ, ◌+◌, ◌<◌, ◌⊎◌, inl, inr, ⊎_elim, List, [], ◌∷◌, length, slice_get, All, Option, Some, None, refl, sym, ap, ◌∙◌, subst, arith}
use Rattle.std.proofs.lemmas.Option.{same_Some}
use Rattle.reo_value.specs.declared.value.Value.{Value}
use Rattle.reo_value.specs.declared.op.Way.{Way}
use Rattle.reo_fabric.specs.declared.fabric.PortSpec.{PortSpec}
use Rattle.reo_coupling.specs.Moment.{Setting, Moment}
use Rattle.reo_coupling.specs.Ports.{places_of, taken_at, PortNow, PortStands, IsAnswered, IsGiven}
use Rattle.reo_coupling.specs.PortParts.{CallStands, state_at, data_at, IsOwned}
use Rattle.reo_coupling.specs.PartySteps.{known_of}
use Rattle.reo_coupling.specs.Whole.{StandsFor}
use Rattle.reo_coupling.proofs.OnePort.{none_some}
use Rattle.reo_coupling.proofs.PartySteps.{own_now, own_stands, own_idle, own_answered, all_last}
use Rattle.reo_coupling.proofs.Placed.{Placed, in_history}
use Rattle.reo_table.specs.History.{SaysHowItStands, IsAnsweredWith}

pub some_of : {A : Type 0} (o : Option A) → (o ≡ None → ⊥) → (x : A) × (o ≡ Some x)
some_of None none = absurd (none refl)
some_of (Some x) none = (x, refl)

module _ (setting : Setting) (party : ℕ) (before : Moment) (stands : StandsFor setting before) (port : ℕ) (own : IsOwned setting.fabric party port) where
  pub says_how : SaysHowItStands (before.folk party) port (state_at setting before port)
  unfolding own_now
  says_how = record {
    idle = own_idle setting party before stands port own;
    called = λ offer call.
        ⊎_elim
        (λ idle. none_some (known_of before party port).call offer idle.no_call call)
        (λ rest. ⊎_elim (λ offered. inl offered.state) (λ more. ⊎_elim (λ committed. inl committed.state) (λ answered. inr (omega (arith, answered.state))) more) rest)
        (own_stands setting party before stands port own own.spec own.found).phase;
    seen = λ number seen.
        let answered = own_answered setting party before stands port own number seen in
        let same = answered.seen number seen in
        omega (arith, answered.state, same);
  }

  module _ (number : ℕ) (seen : (known_of before party port).seen ≡ Some number) where
    pub got : IsAnswered (own_now setting party before stands port own own.spec)
    got = own_answered setting party before stands port own number seen

    number_is : number ≡ got.number
    unfolding own_now
    number_is = got.seen number seen

    placed : Placed port 0 before.history (got.number, got.value)
    unfolding own_now
    placed =
        all_last (Placed port 0 before.history) (taken_at port (before.folk party).calls) (got.number, got.value)
        (subst (λ l. All (Placed port 0 before.history) l) got.place.last (in_history port 0 before.history))

    pub answered_with : party < setting.fabric.parties → IsAnsweredWith setting (before.folk party) port (data_at setting before port) got.value
    unfolding own_now
    answered_with inside = record {
      code = got.word;
      is_value = got.place.real;
      number = number;
      seen = seen;
      history = before.history;
      real = record { few = omega (arith, stands.limit); regions = stands.counted.regions; lawful = stands.lawful.history };
      calls = subst (λ p. All (CallStands setting.fabric before.history p) (before.folk party).calls) (sym (stands.parties party inside)) (stands.calls party inside);
      stands =
          subst (λ p. CallStands setting.fabric before.history p (record { port = port; value = got.value; number = number })) (sym (stands.parties party inside))
          (record { own = own; entry = placed.entry; found = ap (slice_get before.history) (omega (arith, number_is, placed.numbered)) ∙ placed.found; datum = placed.datum });
      offer = got.offer;
      called = got.called.call;
      later = subst (λ n. Rattle.reo_coupling.specs.Ports.IsAfterItsPast (before.folk party).calls got.offer n) (sym number_is) got.place.later;
      given = λ spec found. subst (λ (w : Way). IsGiven w got.offer.value got.value) (ap (λ (p : PortSpec). p.way) (same_Some own.spec spec (sym own.found ∙ found))) got.place.given;
    }
