-- What a region's steps on its round, on the commit word and on cells leave of ports, and its reading of ports.
use Rattle.std.proofs.Common.{◌≡◌, ℕ, ◌+◌, ◌*◌, ◌<◌, ◌⊎◌, ⊎_elim, inr, [], length, slice_get, slice_index, Some, refl, sym, ap, ◌∙◌, subst, arith}
use Rattle.reo_fabric.specs.declared.fabric.Fabric.{Fabric}
use Rattle.reo_fabric.specs.Entry.{at_place}
use Rattle.reo_coupling.specs.declared.view.CellsView.{CellsView}
use Rattle.reo_coupling.specs.declared.view.PortsView.{PortsView}
use Rattle.reo_coupling.specs.declared.view.RegionView.{RegionView}
use Rattle.reo_coupling.specs.Moment.{Setting, Moment, cell_place, state_place, data_place}
use Rattle.reo_coupling.specs.Views.{after_load, after_begin, after_clock, after_see_cell, after_set_cell}
use Rattle.reo_coupling.specs.PortViews.{ports_after_begin, after_see_port, after_see_offer}
use Rattle.reo_coupling.specs.Parts.{view_of}
use Rattle.reo_coupling.specs.PortParts.{ports_of, state_at, data_at, IsPortOf, OffersStand, OwesNothing, IsStoring, StoresComeFirst, AreOnce}
use Rattle.reo_coupling.specs.Steps.{Begins, ReadsClock, SeesCell, SeesPort, SeesOffer, SetsCell, OthersStay}
use Rattle.reo_coupling.specs.Whole.{StandsFor, KeepsPart, KeepsCellParts, KeepsPortParts}
use Rattle.reo_coupling.proofs.Above.{above, loads_only}
use Rattle.reo_coupling.proofs.Frames.{word_else}
use Rattle.reo_coupling.proofs.Lists.{at_more}
use Rattle.reo_coupling.proofs.Store.{same_field, taken_off, filled_off, nothing_at, set_within}
use Rattle.reo_coupling.proofs.PortFrames.{whole_view, dues_fewer, each_book, parties_stay, stores_none, dues_stay, offers_stay, ports_stay, calls_stay}

nothing_noted : {A : Type 0} (port : ℕ) (word : A) → at_place [] port ≡ Some word → ⊥
nothing_noted port word noted = cc

owes_as : (old new : RegionView) → new.cells.takes_due ≡ old.cells.takes_due → new.cells.fills_due ≡ old.cells.fills_due → new.ports.gots_due ≡ old.ports.gots_due → new.ports.answers_due ≡ old.ports.answers_due → OwesNothing old → OwesNothing new
owes_as old new takes fills gots answers none =
    record { cells = record { takes = takes ∙ none.cells.takes; fills = fills ∙ none.cells.fills }; gots = gots ∙ none.gots; answers = answers ∙ none.answers }

-- A step that changes no word of a port, no due at ports and no list of entries keeps the parts on ports, where it keeps the
-- order of stores and notes and what its region notes of ports stands.
module _ (Step : Setting → ℕ → Moment → Moment → Type 0) (now : (setting : Setting) (region : ℕ) (before after : Moment) → Step setting region before after → RegionView)
    (is : (setting : Setting) (region : ℕ) (before after : Moment) (step : Step setting region before after) → after.book region ≡ now setting region before after step)
    (others : (setting : Setting) (region : ℕ) (before after : Moment) → Step setting region before after → OthersStay region before after) (parties : (setting : Setting) (region : ℕ) (before after : Moment) → Step setting region before after → after.folk ≡ before.folk)
    (history : (setting : Setting) (region : ℕ) (before after : Moment) → Step setting region before after → after.history ≡ before.history)
    (states : (setting : Setting) (region : ℕ) (before after : Moment) → Step setting region before after → StandsFor setting before → region < setting.fabric.regions → (port : ℕ) → state_at setting after port ≡ state_at setting before port)
    (datas : (setting : Setting) (region : ℕ) (before after : Moment) → Step setting region before after → StandsFor setting before → region < setting.fabric.regions → (port : ℕ) → data_at setting after port ≡ data_at setting before port)
    (gots : (setting : Setting) (region : ℕ) (before after : Moment) (step : Step setting region before after) → (now setting region before after step).ports.gots_due ≡ (ports_of before region).gots_due)
    (answers : (setting : Setting) (region : ℕ) (before after : Moment) (step : Step setting region before after) → (now setting region before after step).ports.answers_due ≡ (ports_of before region).answers_due)
    (entries : (setting : Setting) (region : ℕ) (before after : Moment) (step : Step setting region before after) → (now setting region before after step).cells.entries ≡ (view_of before region).entries) (stores : KeepsPart Step StoresComeFirst)
    (mine : (setting : Setting) (region : ℕ) (before after : Moment) (step : Step setting region before after) → StandsFor setting before → region < setting.fabric.regions → OffersStand setting before region (now setting region before after step).ports) where
  pub aside : KeepsPortParts Step
  aside = record {
    ports = λ setting region before after within stands step.
        ports_stay setting region before after (now setting region before after step) (is setting region before after step) (others setting region before after step) (parties setting region before after step)
        (λ port inside. states setting region before after step stands within port) (λ port inside. datas setting region before after step stands within port) (history setting region before after step)
        (λ port. ap (λ l. at_place l port) (gots setting region before after step)) (λ port. ap (λ l. at_place l port) (answers setting region before after step)) stands.ports;
    offers = λ setting region before after within stands step.
        offers_stay setting region before after (now setting region before after step) (is setting region before after step) (others setting region before after step) (parties setting region before after step)
        (λ port inside. states setting region before after step stands within port) (λ port inside. datas setting region before after step stands within port) (mine setting region before after step stands) stands.offers;
    stores = stores;
    answers = λ setting region before after within stands step.
        dues_stay setting region before after (now setting region before after step) (is setting region before after step) (others setting region before after step) (parties setting region before after step)
        (λ inside.
        dues_fewer setting.fabric region (before.book region) (now setting region before after step) (entries setting region before after step)
        (λ port value due. sym (ap (λ l. at_place l port) (gots setting region before after step)) ∙ due) (λ port number due. sym (ap (λ l. at_place l port) (answers setting region before after step)) ∙ due)
        (subst AreOnce (sym (gots setting region before after step))) (subst AreOnce (sym (answers setting region before after step))) (stands.answers region inside))
        stands.answers;
    calls = λ setting region before after within stands step.
        calls_stay setting region before after (now setting region before after step) (is setting region before after step) (others setting region before after step) (parties setting region before after step) (history setting region before after step) stands.calls;
    parties = λ setting region before after within stands step.
        parties_stay setting region before after (now setting region before after step) (is setting region before after step) (others setting region before after step) (parties setting region before after step) stands.parties;
  }

-- a step of a region that owes nothing, after which it owes nothing
free : (setting : Setting) (region : ℕ) (before after : Moment) (cells : CellsView) (ports : PortsView) → view_of after region ≡ cells → ports_of after region ≡ ports → OthersStay region before after → after.folk ≡ before.folk
    → OwesNothing (record { cells = cells; ports = ports }) → StoresComeFirst setting before → StoresComeFirst setting after
free setting region before after cells ports of_cells of_ports others parties none first =
    stores_none setting region before after (record { cells = cells; ports = ports }) (whole_view (after.book region) cells ports of_cells of_ports) others parties none first

pub begin_ports : KeepsPortParts Begins
begin_ports =
    aside Begins (λ setting region before after step. record { cells = after_begin (view_of before region); ports = ports_after_begin (ports_of before region) })
    (λ setting region before after step. whole_view (after.book region) _ _ step.view step.ports) (λ setting region before after step. step.others) (λ setting region before after step. step.parties)
    (λ setting region before after step. step.history)
    (λ setting region before after step stands within port. word_else before.words after.words _ _ (state_place setting.fabric port) step.words (λ same. omega (arith, within)))
    (λ setting region before after step stands within port. word_else before.words after.words _ _ (data_place setting.fabric port) step.words (λ same. omega (arith, within)))
    (λ setting region before after step. refl) (λ setting region before after step. refl) (λ setting region before after step. refl)
    (λ setting region before after within stands step.
    free setting region before after _ _ step.view step.ports step.others step.parties
    (owes_as (before.book region) (record { cells = after_begin (view_of before region); ports = ports_after_begin (ports_of before region) }) refl refl refl refl step.quiet) stands.stores)
    (λ setting region before after step stands inside. record { states = λ port noted. absurd (nothing_noted port 1 noted); laid = λ port word noted. absurd (nothing_noted port word noted) })

pub clock_ports : KeepsPortParts ReadsClock
clock_ports =
    aside ReadsClock (λ setting region before after step. record { cells = after_clock (view_of before region) (slice_index before.words 0); ports = ports_of before region })
    (λ setting region before after step. whole_view (after.book region) _ _ step.view step.ports) (λ setting region before after step. step.others) (λ setting region before after step. step.parties)
    (λ setting region before after step. step.history) (λ setting region before after step stands within port. ap (λ ws. slice_index ws (state_place setting.fabric port)) step.words)
    (λ setting region before after step stands within port. ap (λ ws. slice_index ws (data_place setting.fabric port)) step.words) (λ setting region before after step. refl) (λ setting region before after step. refl)
    (λ setting region before after step. refl)
    (λ setting region before after within stands step.
    free setting region before after _ _ step.view step.ports step.others step.parties
    (owes_as (before.book region) (record { cells = after_clock (view_of before region) (slice_index before.words 0); ports = ports_of before region }) refl refl refl refl step.quiet) stands.stores)
    (λ setting region before after step stands inside. stands.offers region inside)

pub see_cell_ports : KeepsPortParts SeesCell
see_cell_ports =
    aside SeesCell
    (λ setting region before after step. record {
      cells = after_see_cell (view_of before region) step.cell (cell_place setting.fabric step.cell) (slice_index before.words (cell_place setting.fabric step.cell));
      ports = ports_of before region;
    })
    (λ setting region before after step. whole_view (after.book region) _ _ step.view step.ports) (λ setting region before after step. step.others) (λ setting region before after step. step.parties)
    (λ setting region before after step. step.history) (λ setting region before after step stands within port. ap (λ ws. slice_index ws (state_place setting.fabric port)) step.words)
    (λ setting region before after step stands within port. ap (λ ws. slice_index ws (data_place setting.fabric port)) step.words) (λ setting region before after step. refl) (λ setting region before after step. refl)
    (λ setting region before after step. refl)
    (λ setting region before after within stands step.
    free setting region before after _ _ step.view step.ports step.others step.parties
    (owes_as (before.book region) (record {
      cells = after_see_cell (view_of before region) step.cell (cell_place setting.fabric step.cell) (slice_index before.words (cell_place setting.fabric step.cell));
      ports = ports_of before region;
    }) refl refl refl refl step.quiet) stands.stores)
    (λ setting region before after step stands inside. stands.offers region inside)

pub see_port_ports : KeepsPortParts SeesPort
see_port_ports =
    aside SeesPort
    (λ setting region before after step. record {
      cells = after_load (view_of before region) (state_place setting.fabric step.port) (state_at setting before step.port);
      ports = after_see_port (ports_of before region) step.port (state_at setting before step.port);
    })
    (λ setting region before after step. whole_view (after.book region) _ _ step.view step.ports) (λ setting region before after step. step.others) (λ setting region before after step. step.parties)
    (λ setting region before after step. step.history) (λ setting region before after step stands within port. ap (λ ws. slice_index ws (state_place setting.fabric port)) step.words)
    (λ setting region before after step stands within port. ap (λ ws. slice_index ws (data_place setting.fabric port)) step.words) (λ setting region before after step. refl) (λ setting region before after step. refl)
    (λ setting region before after step. refl)
    (λ setting region before after within stands step.
    free setting region before after _ _ step.view step.ports step.others step.parties
    (owes_as (before.book region) (record {
      cells = after_load (view_of before region) (state_place setting.fabric step.port) (state_at setting before step.port);
      ports = after_see_port (ports_of before region) step.port (state_at setting before step.port);
    }) refl refl refl refl step.quiet) stands.stores)
    (λ setting region before after step stands inside. record {
      states = λ port noted.
          ⊎_elim
          (λ old. (stands.offers region inside).states port old)
          (λ new. record {
            own = subst (IsPortOf setting.fabric region) (sym new.0) step.own;
            state = ap (state_at setting before) new.0 ∙ new.1;
          })
          (at_more (ports_of before region).states step.port port (state_at setting before step.port) 1 noted);
      laid = λ port word noted. (stands.offers region inside).laid port word noted;
    })

pub see_offer_ports : KeepsPortParts SeesOffer
see_offer_ports =
    aside SeesOffer
    (λ setting region before after step. record {
      cells = after_load (view_of before region) (data_place setting.fabric step.port) (data_at setting before step.port);
      ports = after_see_offer (ports_of before region) step.port (data_at setting before step.port);
    })
    (λ setting region before after step. whole_view (after.book region) _ _ step.view step.ports) (λ setting region before after step. step.others) (λ setting region before after step. step.parties)
    (λ setting region before after step. step.history) (λ setting region before after step stands within port. ap (λ ws. slice_index ws (state_place setting.fabric port)) step.words)
    (λ setting region before after step stands within port. ap (λ ws. slice_index ws (data_place setting.fabric port)) step.words) (λ setting region before after step. refl) (λ setting region before after step. refl)
    (λ setting region before after step. refl)
    (λ setting region before after within stands step.
    free setting region before after _ _ step.view step.ports step.others step.parties
    (owes_as (before.book region) (record {
      cells = after_load (view_of before region) (data_place setting.fabric step.port) (data_at setting before step.port);
      ports = after_see_offer (ports_of before region) step.port (data_at setting before step.port);
    }) refl refl refl refl step.quiet) stands.stores)
    (λ setting region before after step stands inside. record {
      states = λ port noted. (stands.offers region inside).states port noted;
      laid = λ port word noted.
          ⊎_elim
          (λ old. (stands.offers region inside).laid port word old)
          (λ new. record {
            offered = record {
              own = record { spec = step.own.spec; found = ap (slice_get setting.fabric.ports) new.0 ∙ step.own.found; at = step.own.at };
              state = ap (state_at setting before) new.0 ∙ ((stands.offers region inside).states step.port step.noted).state;
            };
            way = step.own.goes;
            laid = ap (data_at setting before) new.0 ∙ new.1;
          })
          (at_more (ports_of before region).laid step.port port (data_at setting before step.port) word noted);
    })

-- what a region has to store first, after a store in a cell
still_storing : (view : CellsView) (ports : PortsView) (cell word : ℕ) → IsStoring (record { cells = view; ports = ports }) → IsStoring (record { cells = after_set_cell view cell word; ports = ports })
unfolding taken_off filled_off
still_storing view ports cell word storing = record {
  stage = same_field (λ v. v.stage) view cell word refl refl ∙ storing.stage;
  notes = same_field (λ v. v.notes) view cell word refl refl ∙ storing.notes;
  states = storing.states;
  laid = storing.laid;
}

-- the place of a cell is none of a port
other_place : (fabric : Fabric) (cell k : ℕ) → cell < length fabric.cells → 1 + fabric.regions + length fabric.cells + k ≡ cell_place fabric cell → ⊥
other_place fabric cell k within same = omega (arith, within)

pub set_cell_ports : KeepsPortParts SetsCell
unfolding taken_off filled_off
set_cell_ports =
    aside SetsCell (λ setting region before after step. record { cells = after_set_cell (view_of before region) step.cell step.word; ports = ports_of before region })
    (λ setting region before after step. whole_view (after.book region) _ _ step.view step.ports) (λ setting region before after step. step.others) (λ setting region before after step. step.parties)
    (λ setting region before after step. step.history)
    (λ setting region before after step stands within port.
    word_else before.words after.words _ _ (state_place setting.fabric port) step.words (other_place setting.fabric step.cell (2 * port) (set_within setting region before after within stands step)))
    (λ setting region before after step stands within port.
    word_else before.words after.words _ _ (data_place setting.fabric port) step.words (λ same. other_place setting.fabric step.cell (1 + 2 * port) (set_within setting region before after within stands step) (omega (arith, same))))
    (λ setting region before after step. refl) (λ setting region before after step. refl)
    (λ setting region before after step. same_field (λ v. v.entries) (view_of before region) step.cell step.word refl refl)
    (λ setting region before after within stands step.
    each_book setting region before after (record { cells = after_set_cell (view_of before region) step.cell step.word; ports = ports_of before region }) (whole_view (after.book region) _ _ step.view step.ports) step.others step.parties
    (λ r view. OwesNothing view ⊎ IsStoring view) setting.fabric.regions
    (λ inside. inr (still_storing (view_of before region) (ports_of before region) step.cell step.word (set_storing setting region before after within stands step))) (λ r inside ne. stands.stores r inside))
    (λ setting region before after step stands inside. stands.offers region inside)
  where
    set_storing : (setting : Setting) (region : ℕ) (before after : Moment) → region < setting.fabric.regions → StandsFor setting before → SetsCell setting region before after → IsStoring (before.book region)
    set_storing setting region before after within stands step =
        ⊎_elim
        (λ none. absurd (⊎_elim (λ take. nothing_at _ step.cell take.value none.cells.takes take.found) (λ fill. nothing_at _ step.cell fill.value none.cells.fills fill.found) step.due)) (λ storing. storing) (stands.stores region within)

pub see_port_cells : KeepsCellParts SeesPort
see_port_cells =
    above SeesPort (λ setting region before after within stands step.
    loads_only setting region before after _ step.view step.others (ap length step.words) (λ place low. ap (λ ws. slice_index ws place) step.words) step.history)

pub see_offer_cells : KeepsCellParts SeesOffer
see_offer_cells =
    above SeesOffer (λ setting region before after within stands step.
    loads_only setting region before after _ step.view step.others (ap length step.words) (λ place low. ap (λ ws. slice_index ws place) step.words) step.history)
