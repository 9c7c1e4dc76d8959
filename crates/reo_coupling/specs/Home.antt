-- What the words say: one history explains all that the seats know which came home to the root.
use Rattle.std.specs.Prelude.{◌≡◌, ℕ, ◌+◌, ◌<◌, ◌⊎◌, List, length, slice_index, slice_get, All, Some}
use Rattle.reo_value.specs.declared.value.Value.{Value}
use Rattle.reo_value.specs.declared.op.Way.{Way}
use Rattle.reo_fabric.specs.declared.entry.Entry.{Entry}
use Rattle.reo_fabric.specs.declared.fabric.PortSpec.{PortSpec}
use Rattle.reo_fabric.specs.Entry.{State, content_at}
use Rattle.reo_fabric.specs.Fabric.{first_state}
use Rattle.reo_fabric.specs.History.{IsLawfulHistory, state_after}
use Rattle.reo_fabric.specs.Laws.{AreValues}
use Rattle.reo_fabric.specs.Reading.{cell_word}
use Rattle.reo_coupling.specs.declared.view.Call.{Call}
use Rattle.reo_coupling.specs.declared.view.Offer.{Offer}
use Rattle.reo_coupling.specs.declared.view.PartyView.{PartyView}
use Rattle.reo_coupling.specs.declared.view.PortView.{PortView}
use Rattle.reo_coupling.specs.declared.view.RegionView.{RegionView}
use Rattle.reo_coupling.specs.declared.view.RootView.{RootView}
use Rattle.reo_coupling.specs.declared.view.Mark.TheVariants.{Fresh, Out}
use Rattle.reo_coupling.specs.declared.view.View.{View}
use Rattle.reo_coupling.specs.declared.view.View.TheVariants as seat
use Rattle.reo_coupling.specs.Moment.{Setting, cell_place}
use Rattle.reo_coupling.specs.Ports.{places_of, taken_at, HasPlace, ArePaired}
use Rattle.reo_coupling.specs.Parts.{entries_of, NothingDue}
use Rattle.reo_coupling.specs.PortViews.{fresh_party}
use Rattle.reo_coupling.specs.PortParts.{known_at, calls_of, CallStands}
use Rattle.reo_coupling.specs.Seats.{fresh_region, region_name, party_name, mark_at, party_mark_at, IsAmong, IsKnownBy, IsCoupled}

-- The call that stands has the port's last place in the history, after all that its party had collected when it offered.
pub record HasTheLastPlace (way : Way) (known : PortView) (calls : List Call) (taken places : List (ℕ × Value)) : Type 0 where
  pub offer : Offer
  pub called : known.call ≡ Some offer
  pub number : ℕ
  pub value : Value
  pub place : HasPlace way calls taken places offer number value

-- The places of a port in the history are those of the calls that its party collected there, in order, and at most one more,
-- that of the call that stands. Each collected call goes with its offer.
pub record HasItsPlaces (way : Way) (known : PortView) (calls : List Call) (taken places : List (ℕ × Value)) : Type 0 where
  pub each : (places ≡ taken) ⊎ HasTheLastPlace way known calls taken places
  pub offers : ArePaired way calls known.past taken

-- the state that a history leaves
abbrev pub state_by : Setting → List Entry → State
state_by setting history = state_after (first_state setting.fabric) history

-- no region has a store to a cell due
abbrev pub NoCellIsDue : Setting → (ℕ → RegionView) → Type 0
NoCellIsDue setting book = (region : ℕ) → region < setting.fabric.regions → NothingDue (book region).cells

-- The history is lawful and explains what the regions and the parties know: each region's list has its entries of the history
-- with their numbers, each call that a party collected stands in it, and each port's places are the calls there.
pub record Explains (setting : Setting) (book : ℕ → RegionView) (folk : ℕ → PartyView) (history : List Entry) : Type 0 where
  pub few : length history < setting.limit + setting.fabric.regions
  pub of_regions : All (λ entry. entry.region < setting.fabric.regions) history
  pub lawful : IsLawfulHistory (first_state setting.fabric) history
  pub lists : (region : ℕ) → region < setting.fabric.regions → (book region).cells.entries ≡ entries_of region 0 history
  pub calls : (party : ℕ) → party < setting.fabric.parties → All (CallStands setting.fabric history party) (folk party).calls
  pub ports : (port : ℕ) (spec : PortSpec) → slice_get setting.fabric.ports port ≡ Some spec
      → HasItsPlaces spec.way (known_at folk spec.owner port) (calls_of folk spec.owner) (taken_at port (calls_of folk spec.owner)) (places_of port 0 history)

-- The commit word is the length of the history. Where no store to a cell is due, the cells' words show the state that it leaves.
pub record ShowsHistory (setting : Setting) (words : List ℕ) (book : ℕ → RegionView) (history : List Entry) : Type 0 where
  pub count : slice_index words 0 ≡ length history
  pub values : AreValues (state_by setting history)
  pub cells : NoCellIsDue setting book → (cell : ℕ) → cell < length setting.fabric.cells → slice_index words (cell_place setting.fabric cell) ≡ cell_word (content_at (state_by setting history) cell)

-- The books have what each seat knew that came home to the root, and of a seat that was never made that it knows nothing.
pub record AreBooks (setting : Setting) (root : RootView) (book : ℕ → RegionView) (folk : ℕ → PartyView) : Type 0 where
  pub regions : (view : RegionView) → IsAmong root.regions_home view → IsKnownBy region_name setting.fabric.regions book view
  pub parties : (view : PartyView) → IsAmong root.parties_home view → IsKnownBy party_name setting.fabric.parties folk view
  pub no_region : (region : ℕ) → region < setting.fabric.regions → mark_at root region ≡ Fresh → book region ≡ fresh_region setting.limit region
  pub no_party : (party : ℕ) → party < setting.fabric.parties → party_mark_at root party ≡ Fresh → folk party ≡ fresh_party party

-- No region's seat is out, and those that came home have no store to a cell due.
pub record AreHome (setting : Setting) (root : RootView) : Type 0 where
  pub none_out : (region : ℕ) → region < setting.fabric.regions → mark_at root region ≡ Out → ⊥
  pub quiet : (view : RegionView) → IsAmong root.regions_home view → NothingDue view.cells

-- One history explains the words and all that the seats knew which came home to the root.
pub record ExplainsAll (setting : Setting) (words : List ℕ) (root : RootView) (book : ℕ → RegionView) (folk : ℕ → PartyView) (history : List Entry) : Type 0 where
  pub books : AreBooks setting root book folk
  pub history_explains : Explains setting book folk history
  pub words_show : ShowsHistory setting words book history
  pub nothing_due : AreHome setting root → NoCellIsDue setting book

-- Whenever the rule holds, its history and its books do so.
abbrev pub OneHistoryExplainsAll : Type 0
OneHistoryExplainsAll =
    (setting : Setting) (words : List ℕ) (views : List View) (id : ℕ) (root : RootView) (rule : IsCoupled setting words views) → slice_get views id ≡ Some (seat.Root root)
    → ExplainsAll setting words root rule.book rule.folk rule.history
