-- The table allows each kind of a party's step.
use Rattle.std.proofs.Common.{◌≡◌, ℕ, ◌+◌, ◌<◌, List, [], ◌∷◌, length, slice_get, slice_index, slice_set, Some, None, refl, sym, ap, ◌∙◌, subst}
use Rattle.std.proofs.lemmas.List.{set-get_or}
use Rattle.atomic_table.specs.Table.{State, Me, keeps, Allows, Splits}
use Rattle.reo_value.specs.declared.value.Value.{Value}
use Rattle.reo_value.specs.Code.{code_of, IsValue}
use Rattle.reo_fabric.specs.declared.fabric.Fabric.{Fabric}
use Rattle.reo_coupling.specs.declared.view.PartyView.{PartyView}
use Rattle.reo_coupling.specs.declared.view.Mark.TheVariants.{Fresh}
use Rattle.reo_coupling.specs.declared.view.View.{View}
use Rattle.reo_coupling.specs.declared.view.View.TheVariants.{Root, Party}
use Rattle.reo_coupling.specs.Moment.{Setting, Moment, state_place, data_place}
use Rattle.reo_coupling.specs.PortViews.{port_of, fresh_party, after_set_put, after_offer, after_see_state, after_see_got, after_clear}
use Rattle.reo_coupling.specs.PartySteps.{IsOwnedPut, IsReady, IsOfParty, SetsPut, MakesOffer, SeesState, SeesGot, Clears}
use Rattle.reo_coupling.specs.PortParts.{IsOwned}
use Rattle.reo_coupling.specs.Seats.{moment_of, with_party, IsCoupled, PartyKeepsTheRule, party_mark_at, after_party_split}
use Rattle.reo_coupling.proofs.PartySteps.{set_put_keeps, offer_keeps, see_state_keeps, see_got_keeps, clear_keeps}
use Rattle.reo_coupling.proofs.Seating.{party_keeps_the_rule, party_splitting_keeps_the_rule, party_here, party_else}
use Rattle.reo_table.specs.Plays.{root_of, party_of, PutSet, OfferMade, StateSeen, GotSeen, Cleared}
use Rattle.reo_table.specs.History.{IsAnsweredWith}
use Rattle.reo_table.proofs.Views.{found}
use Rattle.reo_table.proofs.Kept.{Rule}
use Rattle.reo_table.proofs.Told.{some_of, says_how, got, answered_with}

-- a step of a party on plain data, the view that it leaves, and what is told of it
record Done {S : Type 0} (setting : Setting) (Step : Setting → ℕ → Moment → Moment → Type 0) (before : Moment) (later : List ℕ) (old : PartyView) (told : Me S View → Type 0) : Type 0 where
  pub new : PartyView
  pub same : new.party ≡ old.party
  pub step : Step setting old.party before (moment_of later before.history before.book (with_party before.folk new))
  pub tells : told (Party new, [])

module _ {S : Type 0} (setting : Setting) (slots id : ℕ) (me : Me S View) (is : me.0 ≡ Party (party_of me.0)) (no_slot : me.1 ≡ []) where
  -- A step that keeps the rule on plain data is allowed, where the word becomes f of what was found.
  lifted : (Step : Setting → ℕ → Moment → Moment → Type 0) (i : ℕ) (f : ℕ → ℕ) (then : ℕ → Me S View → Type 0) → PartyKeepsTheRule Step
      → ((words : List ℕ) (views : List View) (rule : IsCoupled setting words views) → (party_of me.0).party < setting.fabric.parties → rule.folk (party_of me.0).party ≡ party_of me.0
      → Done setting Step (moment_of words rule.history rule.book rule.folk) (slice_set words i (f (slice_index words i))) (party_of me.0) (then (slice_index words i)))
      → Allows (Rule setting) slots id me i f then
  lifted Step i f then law steps s rule homes there small =
      let here : slice_get s.views id ≡ Some (Party (party_of me.0)) = found s.views id me.0 there ∙ ap Some is in
      let seat = rule.tells.parties.seats id (party_of me.0) here in
      let done = steps s.words s.views rule seat.within seat.known in
      let n : ℕ = slice_index s.words i in (
        Party done.new,
        keeps,
        tt,
        (law setting s.words (slice_set s.words i (f n)) s.views id (party_of me.0) done.new rule here done.same done.step).rule,
        subst (λ l. then n (Party done.new, l)) (sym no_slot) done.tells,
      )

  -- what each step on plain data says of the view and of the others
  view_is : (folk : ℕ → PartyView) (new : PartyView) (F : PartyView → PartyView) → new.party ≡ (party_of me.0).party → folk (party_of me.0).party ≡ party_of me.0 → new ≡ F (party_of me.0)
      → with_party folk new (party_of me.0).party ≡ F (folk (party_of me.0).party)
  view_is folk new F same known step = party_here folk new (party_of me.0).party (sym same) ∙ (step ∙ ap F (sym known))

  frame_of : (words later : List ℕ) (views : List View) (rule : IsCoupled setting words views) (new : PartyView) → new.party ≡ (party_of me.0).party
      → IsOfParty (party_of me.0).party (moment_of words rule.history rule.book rule.folk) (moment_of later rule.history rule.book (with_party rule.folk new))
  frame_of words later views rule new same = record { history = refl; regions = refl; others = λ other ne. party_else rule.folk new other (λ mine. ne (mine ∙ same)) }

  pub allows_set_put : (port : ℕ) (value : Value) → IsOwnedPut setting.fabric (party_of me.0).party port → (port_of (party_of me.0) port).call ≡ None → IsValue value
      → Allows (Rule setting) slots id me (data_place setting.fabric port) (λ n. code_of value) (λ n. PutSet port value me (code_of value))
  allows_set_put port value own idle real =
      lifted SetsPut (data_place setting.fabric port) (λ n. code_of value) (λ n. PutSet port value me (code_of value)) (party_keeps_the_rule SetsPut set_put_keeps)
      (λ words views rule within known. record {
        new = after_set_put (party_of me.0) port value;
        same = refl;
        step = record {
          port = port;
          value = value;
          own = own.own;
          way = own.way;
          idle = ap (λ (v : PartyView). (port_of v port).call) known ∙ idle;
          real = real;
          words = refl;
          view = view_is rule.folk (after_set_put (party_of me.0) port value) (λ v. after_set_put v port value) refl known refl;
          frame = frame_of words _ views rule (after_set_put (party_of me.0) port value) refl;
        };
        tells = (refl, refl);
      })

  pub allows_offer : (port : ℕ) → IsReady setting.fabric (party_of me.0) port → (port_of (party_of me.0) port).call ≡ None → Allows (Rule setting) slots id me (state_place setting.fabric port) (λ n. 1) (λ n. OfferMade port me 1)
  allows_offer port ready idle =
      lifted MakesOffer (state_place setting.fabric port) (λ n. 1) (λ n. OfferMade port me 1) (party_keeps_the_rule MakesOffer offer_keeps)
      (λ words views rule within known. record {
        new = after_offer (party_of me.0) port;
        same = refl;
        step = record {
          port = port;
          own = ready.own;
          idle = ap (λ (v : PartyView). (port_of v port).call) known ∙ idle;
          set = subst (λ (v : PartyView). Rattle.reo_coupling.specs.PartySteps.IsSetFor ready.own.spec.way (port_of v port).set) (sym known) ready.set;
          words = refl;
          view = view_is rule.folk (after_offer (party_of me.0) port) (λ v. after_offer v port) refl known refl;
          frame = frame_of words _ views rule (after_offer (party_of me.0) port) refl;
        };
        tells = (refl, refl);
      })

  pub allows_see_state : (port : ℕ) → IsOwned setting.fabric (party_of me.0).party port → Allows (Rule setting) slots id me (state_place setting.fabric port) (λ n. n) (StateSeen port (state_place setting.fabric port) me)
  allows_see_state port own =
      lifted SeesState (state_place setting.fabric port) (λ n. n) (StateSeen port (state_place setting.fabric port) me) (party_keeps_the_rule SeesState see_state_keeps)
      (λ words views rule within known.
      let new : PartyView = after_see_state (party_of me.0) port (state_place setting.fabric port) (slice_index words (state_place setting.fabric port)) in
      record {
        new = new;
        same = refl;
        step = record {
          port = port;
          own = own;
          words = set-get_or words (state_place setting.fabric port) 0;
          view = view_is rule.folk new (λ v. after_see_state v port (state_place setting.fabric port) (slice_index words (state_place setting.fabric port))) refl known refl;
          frame = frame_of words _ views rule new refl;
        };
        tells = (
          subst (λ (v : PartyView). Rattle.reo_table.specs.History.SaysHowItStands v port (slice_index words (state_place setting.fabric port))) known
              (says_how setting (party_of me.0).party (moment_of words rule.history rule.book rule.folk) rule.stands port own),
          (refl, refl),
        );
      })

  pub allows_see_got : (port number : ℕ) → IsOwned setting.fabric (party_of me.0).party port → (port_of (party_of me.0) port).seen ≡ Some number
      → Allows (Rule setting) slots id me (data_place setting.fabric port) (λ n. n) (GotSeen setting port (data_place setting.fabric port) me)
  allows_see_got port number own seen =
      lifted SeesGot (data_place setting.fabric port) (λ n. n) (GotSeen setting port (data_place setting.fabric port) me) (party_keeps_the_rule SeesGot see_got_keeps)
      (λ words views rule within known.
      let before : Moment = moment_of words rule.history rule.book rule.folk in
      let noted : (port_of (rule.folk (party_of me.0).party) port).seen ≡ Some number = ap (λ (v : PartyView). (port_of v port).seen) known ∙ seen in
      let value : Value = (got setting (party_of me.0).party (moment_of words rule.history rule.book rule.folk) rule.stands port own number noted).value in
      let told = answered_with setting (party_of me.0).party (moment_of words rule.history rule.book rule.folk) rule.stands port own number noted within in
      let new : PartyView = after_see_got (party_of me.0) port (data_place setting.fabric port) (slice_index words (data_place setting.fabric port)) value in
      record {
        new = new;
        same = refl;
        step = record {
          port = port;
          own = own;
          number = number;
          seen = noted;
          value = value;
          real = told.is_value;
          code = told.code;
          words = set-get_or words (data_place setting.fabric port) 0;
          view = view_is rule.folk new (λ v. after_see_got v port (data_place setting.fabric port) (slice_index words (data_place setting.fabric port)) value) refl known refl;
          frame = frame_of words _ views rule new refl;
        };
        tells = record {
          value = value;
          told = subst (λ (v : PartyView). IsAnsweredWith setting v port (slice_index words (data_place setting.fabric port)) value) known told;
          leaves = (refl, refl);
        };
      })

  pub allows_clear : (port number : ℕ) (value : Value) → IsOwned setting.fabric (party_of me.0).party port → (port_of (party_of me.0) port).seen ≡ Some number → (port_of (party_of me.0) port).datum ≡ Some value
      → Allows (Rule setting) slots id me (state_place setting.fabric port) (λ n. 0) (λ n. Cleared port me 0)
  allows_clear port number value own seen datum =
      lifted Clears (state_place setting.fabric port) (λ n. 0) (λ n. Cleared port me 0) (party_keeps_the_rule Clears clear_keeps)
      (λ words views rule within known. record {
        new = after_clear (party_of me.0) port;
        same = refl;
        step = record {
          port = port;
          own = own;
          number = number;
          value = value;
          seen = ap (λ (v : PartyView). (port_of v port).seen) known ∙ seen;
          datum = ap (λ (v : PartyView). (port_of v port).datum) known ∙ datum;
          words = refl;
          view = view_is rule.folk (after_clear (party_of me.0) port) (λ v. after_clear v port) refl known refl;
          frame = frame_of words _ views rule (after_clear (party_of me.0) port) refl;
        };
        tells = (refl, refl);
      })

pub allows_party_split : {S : Type 0} (setting : Setting) (id party : ℕ) (me : Me S View) → me.0 ≡ Root (root_of me.0) → party < setting.fabric.parties → party_mark_at (root_of me.0) party ≡ Fresh
    → Splits (Rule {S = S} setting) id me.0 (Root (after_party_split (root_of me.0) party)) (Party (fresh_party party))
allows_party_split setting id party me is within fresh s rule there =
    (party_splitting_keeps_the_rule setting s.words s.views id party (root_of me.0) rule (found s.views id me.0 there ∙ ap Some is) within fresh).rule
