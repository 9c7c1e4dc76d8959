-- A region's step keeps each part on ports that speaks of nothing which it changes.
use Rattle.std.proofs.Common.{◌≡◌, ℕ, ◌<◌, ◌⊎◌, ⊎_elim, inl, List, length, All, Some, refl, sym, ap, ◌∙◌, subst}
use Rattle.std.proofs.lemmas.Bool.{cases_eq}
use Rattle.std.proofs.lemmas.Option.{slice_get_within}
use Rattle.reo_value.specs.declared.value.Value.{Value}
use Rattle.reo_fabric.specs.declared.entry.Entry.{Entry}
use Rattle.reo_fabric.specs.declared.fabric.Fabric.{Fabric}
use Rattle.reo_fabric.specs.declared.fabric.PortSpec.{PortSpec}
use Rattle.reo_fabric.specs.Entry.{at_place}
use Rattle.reo_coupling.specs.declared.view.CellsView.{CellsView}
use Rattle.reo_coupling.specs.declared.view.PartyView.{PartyView}
use Rattle.reo_coupling.specs.declared.view.PortsView.{PortsView}
use Rattle.reo_coupling.specs.declared.view.RegionView.{RegionView}
use Rattle.reo_coupling.specs.Moment.{Setting, Moment}
use Rattle.reo_coupling.specs.Ports.{places_of, taken_at}
use Rattle.reo_coupling.specs.PortParts.{known_at, calls_of, state_at, data_at, port_now, PortsStand, IsPortOf, OffersStand, OffersAreNoted, OwesNothing, IsStoring, StoresComeFirst, AreOnce, PortDuesAreOfTheLast, AnswersAreOfTheLast, CallStands, CallsStand, PartiesAreNamed}
use Rattle.reo_coupling.specs.Steps.{OthersStay}
use Rattle.reo_coupling.proofs.OnePort.{same_port}

pub whole_view : (view : RegionView) (cells : CellsView) (ports : PortsView) → view.cells ≡ cells → view.ports ≡ ports → view ≡ record { cells = cells; ports = ports }
whole_view view cells ports of_cells of_ports =
    ap (λ (c : CellsView). record { cells = c; ports = view.ports }) of_cells ∙ ap (λ (p : PortsView). record { cells = cells; ports = p }) of_ports

-- one port is at one region
pub one_region : (fabric : Fabric) (r s port : ℕ) → IsPortOf fabric r port → IsPortOf fabric s port → r ≡ s
one_region fabric r s port one other =
    sym one.at ∙ (ap (λ (p : PortSpec). p.region) (Rattle.std.proofs.lemmas.Option.same_Some one.spec other.spec (sym one.found ∙ other.found)) ∙ other.at)

pub port_within : (fabric : Fabric) (region port : ℕ) → IsPortOf fabric region port → port < length fabric.ports
port_within fabric region port own = slice_get_within fabric.ports port own.spec own.found

-- what is due is less, and of the same last entry
pub dues_fewer : (fabric : Fabric) (region : ℕ) (old new : RegionView) → new.cells.entries ≡ old.cells.entries
    → ((port : ℕ) (value : Value) → at_place new.ports.gots_due port ≡ Some value → at_place old.ports.gots_due port ≡ Some value)
    → ((port number : ℕ) → at_place new.ports.answers_due port ≡ Some number → at_place old.ports.answers_due port ≡ Some number)
    → (AreOnce old.ports.gots_due → AreOnce new.ports.gots_due) → (AreOnce old.ports.answers_due → AreOnce new.ports.answers_due)
    → PortDuesAreOfTheLast fabric region old → PortDuesAreOfTheLast fabric region new
dues_fewer fabric region old new entries gots answers gots_once answers_once are = record {
  gots = λ port value due.
      let was = are.gots port value (gots port value due) in
      record { own = was.own; way = was.way; last = was.last; is_last = record { earlier = was.is_last.earlier; entries = entries ∙ was.is_last.entries }; gets = was.gets };
  answers = λ port number due.
      let was = are.answers port number (answers port number due) in
      record { own = was.own; last = was.last; is_last = record { earlier = was.is_last.earlier; entries = entries ∙ was.is_last.entries }; numbered = was.numbered; value = was.value; has = was.has };
  gots_once = gots_once are.gots_once;
  answers_once = answers_once are.answers_once;
}

-- notes stand where the words of their ports stay
pub offers_else : (setting : Setting) (before after : Moment) (region : ℕ) (view : PortsView) → ((port : ℕ) → IsPortOf setting.fabric region port → state_at setting after port ≡ state_at setting before port)
    → ((port : ℕ) → IsPortOf setting.fabric region port → data_at setting after port ≡ data_at setting before port) → OffersStand setting before region view → OffersStand setting after region view
offers_else setting before after region view states datas stand = record {
  states = λ port noted.
      let was = stand.states port noted in
      record { own = was.own; state = states port was.own ∙ was.state };
  laid = λ port word noted.
      let was = stand.laid port word noted in
      record { offered = record { own = was.offered.own; state = states port was.offered.own ∙ was.offered.state }; way = was.way; laid = datas port was.offered.own ∙ was.laid };
}

module _ (setting : Setting) (region : ℕ) (before after : Moment) (now : RegionView) (is : after.book region ≡ now) (others : OthersStay region before after) (parties : after.folk ≡ before.folk) where
  -- what holds of the view that the step leaves to its region, and of all others before, holds of each after
  pub each_book : (P : ℕ → RegionView → Type 0) (n : ℕ) → (region < n → P region now) → ((r : ℕ) → r < n → (r ≡ region → ⊥) → P r (before.book r)) → (r : ℕ) → r < n → P r (after.book r)
  each_book P n mine theirs r within =
      ⊎_elim
      (λ same. subst (λ k. P k (after.book k)) (sym same) (subst (P region) (sym is) (mine (subst (λ k. k < n) same within))))
      (λ ne. subst (P r) (sym (others r ne)) (theirs r within ne))
      (cases_eq r region)

  -- what the step leaves alone in the views
  pub part_stays : {X : Type 0} (F : RegionView → X) → F now ≡ F (before.book region) → (r : ℕ) → F (after.book r) ≡ F (before.book r)
  part_stays F same r =
      ⊎_elim
      (λ eq. subst (λ n. F (after.book n) ≡ F (before.book n)) (sym eq) (ap F is ∙ same))
      (λ ne. ap F (others r ne))
      (cases_eq r region)

  pub parties_stay : PartiesAreNamed setting before → PartiesAreNamed setting after
  parties_stay named party within = ap (λ (f : ℕ → PartyView). (f party).party) parties ∙ named party within

  pub stores_none : OwesNothing now → StoresComeFirst setting before → StoresComeFirst setting after
  stores_none none first = each_book (λ r view. OwesNothing view ⊎ IsStoring view) setting.fabric.regions (λ within. inl none) (λ r within ne. first r within)

  pub dues_stay : (region < setting.fabric.regions → PortDuesAreOfTheLast setting.fabric region now) → AnswersAreOfTheLast setting before → AnswersAreOfTheLast setting after
  dues_stay mine are = each_book (λ r view. PortDuesAreOfTheLast setting.fabric r view) setting.fabric.regions mine (λ r within ne. are r within)

  -- no word of a port changes
  module _ (states : (port : ℕ) → port < length setting.fabric.ports → state_at setting after port ≡ state_at setting before port) (datas : (port : ℕ) → port < length setting.fabric.ports → data_at setting after port ≡ data_at setting before port) where
    pub offers_stay : (region < setting.fabric.regions → OffersStand setting before region now.ports) → OffersAreNoted setting before → OffersAreNoted setting after
    offers_stay mine noted =
        each_book (λ r view. OffersStand setting after r view.ports) setting.fabric.regions
        (λ within. offers_else setting before after region now.ports (λ port own. states port (port_within setting.fabric region port own)) (λ port own. datas port (port_within setting.fabric region port own)) (mine within))
        (λ r within ne. offers_else setting before after r (before.book r).ports (λ port own. states port (port_within setting.fabric r port own)) (λ port own. datas port (port_within setting.fabric r port own)) (noted r within))

    pub ports_stay : after.history ≡ before.history → ((port : ℕ) → at_place now.ports.gots_due port ≡ at_place (before.book region).ports.gots_due port)
        → ((port : ℕ) → at_place now.ports.answers_due port ≡ at_place (before.book region).ports.answers_due port) → PortsStand setting before → PortsStand setting after
    ports_stay history gots answers stand port spec found =
        same_port (port_now setting after port spec) (port_now setting before port spec) refl (states port (slice_get_within setting.fabric.ports port spec found)) (datas port (slice_get_within setting.fabric.ports port spec found))
        (ap (λ f. known_at f spec.owner port) parties) (ap (λ f. calls_of f spec.owner) parties) (ap (λ f. taken_at port (calls_of f spec.owner)) parties) (ap (places_of port 0) history)
        (part_stays (λ view. at_place view.ports.gots_due port) (gots port) spec.region) (part_stays (λ view. at_place view.ports.answers_due port) (answers port) spec.region) (stand port spec found)

  pub calls_stay : after.history ≡ before.history → CallsStand setting before → CallsStand setting after
  calls_stay history stand party within =
      subst (λ (f : ℕ → PartyView). All (CallStands setting.fabric after.history party) (f party).calls) (sym parties)
      (subst (λ (h : List Entry). All (CallStands setting.fabric h party) (before.folk party).calls) (sym history) (stand party within))
