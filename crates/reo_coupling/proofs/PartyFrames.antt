-- A party's step keeps each part that speaks of nothing which it changes.
use Rattle.std.proofs.Common.{◌≡◌, ℕ, ◌+◌, ◌<◌, ⊎_elim, List, ◌++◌, length, slice_get, slice_index, All, Option, Some, None, refl, sym, ap, ◌∙◌, subst, arith}
use Rattle.std.proofs.lemmas.Bool.{cases_eq, eq-eqb, ne_eqb}
use Rattle.std.proofs.lemmas.Option.{same_Some}
use Rattle.reo_fabric.specs.declared.entry.Entry.{Entry}
use Rattle.reo_fabric.specs.declared.fabric.PortSpec.{PortSpec}
use Rattle.reo_fabric.specs.Entry.{at_place}
use Rattle.reo_fabric.proofs.PlaceLemmas.{at_first, at_later}
use Rattle.reo_coupling.specs.declared.view.Call.{Call}
use Rattle.reo_coupling.specs.declared.view.PartyView.{PartyView}
use Rattle.reo_coupling.specs.declared.view.PortView.{PortView}
use Rattle.reo_coupling.specs.declared.view.RegionView.{RegionView}
use Rattle.reo_coupling.specs.Moment.{Setting, Moment, round_place, cell_place}
use Rattle.reo_coupling.specs.PortViews.{port_of, with_port, known_or_fresh}
use Rattle.reo_coupling.specs.Parts.{view_of, cleared_below}
use Rattle.reo_coupling.specs.Ports.{places_of, taken_at, PortStands}
use Rattle.reo_coupling.specs.PortParts.{ports_of, known_at, calls_of, state_at, data_at, port_now, PortsStand, IsPortOf, OffersStand, OwesNothing, IsStoring, PortDuesAreOfTheLast, IsOwned, CallStands}
use Rattle.reo_coupling.specs.PartySteps.{IsOfParty, known_of}
use Rattle.reo_coupling.specs.Whole.{StandsFor}
use Rattle.reo_coupling.proofs.Frames.{sized_stays, named_stays, counted_stays, lawful_stays, cells_stay, notes_stay, rounds_stay, limit_stays}
use Rattle.reo_coupling.proofs.OnePort.{same_port}
use Rattle.reo_coupling.proofs.OneCall.{one_collects_elsewhere}

-- what is known of the port that a step of its party changed, and of each other
pub port_here : (base : PartyView) (port : ℕ) (known : PortView) → port_of (with_port base port known) port ≡ known
port_here base port known = ap known_or_fresh (at_first (port, known) base.ports port (eq-eqb port port refl))

pub port_else : (base : PartyView) (port other : ℕ) (known : PortView) → (other ≡ port → ⊥) → port_of (with_port base port known) other ≡ port_of base other
port_else base port other known ne = ap known_or_fresh (at_later (port, known) base.ports other (ne_eqb other port ne))

module _ (setting : Setting) (party : ℕ) (before after : Moment) (stands : StandsFor setting before) (frame : IsOfParty party before after) where
  book_is : {X : Type 0} (F : RegionView → X) (r : ℕ) → F (after.book r) ≡ F (before.book r)
  book_is F r = ap (λ (b : ℕ → RegionView). F (b r)) frame.regions

  -- a fact of each party
  each_party : (P : ℕ → PartyView → Type 0) → P party (after.folk party) → ((other : ℕ) → other < setting.fabric.parties → P other (before.folk other)) → (other : ℕ) → other < setting.fabric.parties → P other (after.folk other)
  each_party P mine theirs other within =
      ⊎_elim
      (λ same. subst (λ k. P k (after.folk k)) (sym same) mine)
      (λ ne. subst (P other) (sym (frame.others other ne)) (theirs other within))
      (cases_eq other party)

  module _ (size : length after.words ≡ length before.words) (words : (place : ℕ) → place < 1 + setting.fabric.regions + length setting.fabric.cells → slice_index after.words place ≡ slice_index before.words place)
      (noted : (port : ℕ) → state_at setting before port ≡ 1 → (state_at setting after port ≡ state_at setting before port) × (data_at setting after port ≡ data_at setting before port))
      (named : (after.folk party).party ≡ (before.folk party).party) (calls : All (CallStands setting.fabric before.history party) (after.folk party).calls) (ports : PortsStand setting after) (inside : party < setting.fabric.parties) where
    offers_keep : (r : ℕ) → OffersStand setting before r (ports_of before r) → OffersStand setting after r (ports_of before r)
    offers_keep r stand = record {
      states = λ port at.
          let was = stand.states port at in
          record { own = was.own; state = (noted port was.state).0 ∙ was.state };
      laid = λ port word at.
          let was = stand.laid port word at in
          record { offered = record { own = was.offered.own; state = (noted port was.offered.state).0 ∙ was.offered.state }; way = was.way; laid = (noted port was.offered.state).1 ∙ was.laid };
    }

    pub party_keeps : StandsFor setting after
    party_keeps = record {
      sized = sized_stays setting before after size stands.sized;
      named = named_stays setting before after (book_is (λ v. v.cells.region)) (book_is (λ v. v.cells.limit)) stands.named;
      counted = counted_stays setting before after (words 0 (omega arith)) frame.history (book_is (λ v. v.cells.entries)) stands.counted;
      lawful = lawful_stays setting before after frame.history stands.lawful;
      cells = cells_stay setting before after frame.history (λ cell within. words (cell_place setting.fabric cell) (omega (arith, within))) (λ r cell. book_is (λ v. at_place v.cells.fills_due cell) r)
          (λ r cell. book_is (λ v. at_place v.cells.takes_due cell) r) stands.cells;
      notes = notes_stay setting before after frame.history (λ cell within. words (cell_place setting.fabric cell) (omega (arith, within)))
          (λ r within cell word at lasts. stands.notes r within cell word (sym (book_is (λ v. at_place v.cells.notes cell) r) ∙ at) lasts);
      dues = subst (λ (b : ℕ → RegionView). Rattle.reo_coupling.specs.Parts.DuesAreOfTheLast setting (record before { book = b })) (sym frame.regions) stands.dues;
      limit = limit_stays setting before after frame.history (λ r. let same = book_is (λ v. Rattle.reo_coupling.specs.Parts.clearance v.cells.stage) r in omega (arith, same)) stands.limit;
      rounds = rounds_stay setting before after (λ r within. words (round_place r) (omega (arith, within))) (book_is (λ v. v.cells.round)) stands.rounds;
      ports = ports;
      offers = λ r within. subst (λ (b : ℕ → RegionView). OffersStand setting after r (b r).ports) (sym frame.regions) (offers_keep r (stands.offers r within));
      stores = subst (λ (b : ℕ → RegionView). Rattle.reo_coupling.specs.PortParts.StoresComeFirst setting (record before { book = b })) (sym frame.regions) stands.stores;
      answers = subst (λ (b : ℕ → RegionView). Rattle.reo_coupling.specs.PortParts.AnswersAreOfTheLast setting (record before { book = b })) (sym frame.regions) stands.answers;
      calls = each_party (λ k view. All (CallStands setting.fabric after.history k) view.calls) (subst (λ (h : List Entry). All (CallStands setting.fabric h party) (after.folk party).calls) (sym frame.history) calls)
          (λ other within. subst (λ (h : List Entry). All (CallStands setting.fabric h other) (before.folk other).calls) (sym frame.history) (stands.calls other within));
      parties = each_party (λ k view. view.party ≡ k) (named ∙ stands.parties party inside) stands.parties;
    }

  -- each other port stays, but that its party may have collected a call more
  module _ (port : ℕ) (more : List Call) (collected : (after.folk party).calls ≡ (before.folk party).calls ++ more) (none_else : (other : ℕ) → (other ≡ port → ⊥) → taken_at other ((before.folk party).calls ++ more) ≡ taken_at other (before.folk party).calls)
      (known_else : (other : ℕ) → (other ≡ port → ⊥) → known_of after party other ≡ known_of before party other) (state_else : (other : ℕ) → (other ≡ port → ⊥) → state_at setting after other ≡ state_at setting before other)
      (data_else : (other : ℕ) → (other ≡ port → ⊥) → data_at setting after other ≡ data_at setting before other) where
    -- the party's, and any other's
    by_owner : (other : ℕ) (spec : PortSpec) (owner : Option ℕ) → spec.owner ≡ owner → (other ≡ port → ⊥) → slice_get setting.fabric.ports other ≡ Some spec → PortStands (port_now setting after other spec)
    by_owner other spec None is ne found =
        same_port (port_now setting after other spec) (port_now setting before other spec) refl (state_else other ne) (data_else other ne)
        (ap (λ o. known_at after.folk o other) is ∙ ap (λ o. known_at before.folk o other) (sym is)) (ap (calls_of after.folk) is ∙ ap (calls_of before.folk) (sym is))
        (ap (λ o. taken_at other (calls_of after.folk o)) is ∙ ap (λ o. taken_at other (calls_of before.folk o)) (sym is)) (ap (places_of other 0) frame.history) (book_is (λ v. at_place v.ports.gots_due other) spec.region)
        (book_is (λ v. at_place v.ports.answers_due other) spec.region) (stands.ports other spec found)
    by_owner other spec (Some owner) is ne found =
        ⊎_elim
        (λ mine.
        let owned : spec.owner ≡ Some party = is ∙ ap Some mine in
        let grown : calls_of after.folk spec.owner ≡ calls_of before.folk spec.owner ++ more =
        ap (calls_of after.folk) owned ∙ (collected ∙ ap (λ o. calls_of before.folk o ++ more) (sym owned)) in
        same_port (port_now setting after other spec) (record (port_now setting before other spec) { calls = calls_of before.folk spec.owner ++ more }) refl (state_else other ne) (data_else other ne)
        (ap (λ o. known_at after.folk o other) owned ∙ (known_else other ne ∙ ap (λ o. known_at before.folk o other) (sym owned))) grown
        (ap (taken_at other) grown ∙ (ap (λ o. taken_at other (calls_of before.folk o ++ more)) owned ∙ (none_else other ne ∙ ap (λ o. taken_at other (calls_of before.folk o)) (sym owned)))) (ap (places_of other 0) frame.history)
        (book_is (λ v. at_place v.ports.gots_due other) spec.region) (book_is (λ v. at_place v.ports.answers_due other) spec.region)
        (one_collects_elsewhere (port_now setting before other spec) more (stands.ports other spec found)))
        (λ theirs.
        let view : after.folk owner ≡ before.folk owner = frame.others owner theirs in
        same_port (port_now setting after other spec) (port_now setting before other spec) refl (state_else other ne) (data_else other ne)
        (ap (λ o. known_at after.folk o other) is ∙ (ap (λ (v : PartyView). port_of v other) view ∙ ap (λ o. known_at before.folk o other) (sym is)))
        (ap (calls_of after.folk) is ∙ (ap (λ (v : PartyView). v.calls) view ∙ ap (calls_of before.folk) (sym is)))
        (ap (λ o. taken_at other (calls_of after.folk o)) is ∙ (ap (λ (v : PartyView). taken_at other v.calls) view ∙ ap (λ o. taken_at other (calls_of before.folk o)) (sym is))) (ap (places_of other 0) frame.history)
        (book_is (λ v. at_place v.ports.gots_due other) spec.region) (book_is (λ v. at_place v.ports.answers_due other) spec.region) (stands.ports other spec found))
        (cases_eq owner party)

    pub each_port : ((spec : PortSpec) → slice_get setting.fabric.ports port ≡ Some spec → PortStands (port_now setting after port spec)) → PortsStand setting after
    each_port here other spec found =
        ⊎_elim
        (λ same. subst (λ p. PortStands (port_now setting after p spec)) (sym same) (here spec (subst (λ p. slice_get setting.fabric.ports p ≡ Some spec) same found)))
        (λ ne. by_owner other spec spec.owner refl ne found)
        (cases_eq other port)

  -- the port itself, where its party knows this of it now
  module _ (port : ℕ) (own : IsOwned setting.fabric party port) (known : PortView) (known_is : known_of after party port ≡ known) (state_word data_word : ℕ) (state_is : state_at setting after port ≡ state_word)
      (data_is : data_at setting after port ≡ data_word) (calls : List Call) (calls_are : (after.folk party).calls ≡ calls) where
    pub port_after : (spec : PortSpec) → slice_get setting.fabric.ports port ≡ Some spec
        → PortStands (record (port_now setting before port spec) { state_word = state_word; data_word = data_word; known = known; calls = calls; taken = taken_at port calls }) → PortStands (port_now setting after port spec)
    port_after spec found stand =
        let owned : spec.owner ≡ Some party = ap (λ (p : PortSpec). p.owner) (same_Some spec own.spec (sym found ∙ own.found)) ∙ own.owner in
        same_port (port_now setting after port spec) (record (port_now setting before port spec) { state_word = state_word; data_word = data_word; known = known; calls = calls; taken = taken_at port calls }) refl state_is data_is
        (ap (λ o. known_at after.folk o port) owned ∙ known_is) (ap (calls_of after.folk) owned ∙ calls_are) (ap (λ o. taken_at port (calls_of after.folk o)) owned ∙ ap (taken_at port) calls_are) (ap (places_of port 0) frame.history)
        (book_is (λ v. at_place v.ports.gots_due port) spec.region) (book_is (λ v. at_place v.ports.answers_due port) spec.region) stand
