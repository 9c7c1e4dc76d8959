-- The history for which the words stand, as far as a seat is told of it.
use Rattle.std.specs.Prelude.{◌≡◌, ℕ, ◌+◌, ◌<◌, ◌≤◌, ◌⊎◌, List, [], ◌∷◌, ◌++◌, length, slice_get, All, Some, None}
use Rattle.reo_value.specs.declared.value.Value.{Value}
use Rattle.reo_value.specs.Code.{code_of, IsValue}
use Rattle.reo_fabric.specs.declared.entry.Entry.{Entry}
use Rattle.reo_fabric.specs.declared.fabric.PortSpec.{PortSpec}
use Rattle.reo_fabric.specs.Entry.{content_at}
use Rattle.reo_fabric.specs.Fabric.{first_state}
use Rattle.reo_fabric.specs.History.{IsLawfulHistory, state_after}
use Rattle.reo_fabric.specs.Reading.{cell_word}
use Rattle.reo_coupling.specs.declared.view.CellsView.{CellsView}
use Rattle.reo_coupling.specs.declared.view.RegionView.{RegionView}
use Rattle.reo_coupling.specs.declared.view.PartyView.{PartyView}
use Rattle.reo_coupling.specs.declared.view.Offer.{Offer}
use Rattle.reo_coupling.specs.PortViews.{port_of}
use Rattle.reo_coupling.specs.Ports.{IsAfterItsPast, IsGiven}
use Rattle.reo_coupling.specs.Moment.{Setting}
use Rattle.reo_coupling.specs.Parts.{entries_of, IsLasting}
use Rattle.reo_coupling.specs.PortParts.{OwesNothing, CallStands}

-- The history is lawful from the first cells, its entries are of regions, and it has fewer than the limit and the number of
-- regions together.
pub record IsHistory (setting : Setting) (history : List Entry) : Type 0 where
  pub few : length history < setting.limit + setting.fabric.regions
  pub regions : All (λ entry. entry.region < setting.fabric.regions) history
  pub lawful : IsLawfulHistory (first_state setting.fabric) history

-- The view is that of a region of this setting, and where the region has no entry, no store is due.
pub record IsViewIn (setting : Setting) (view : RegionView) : Type 0 where
  pub region : view.cells.region < setting.fabric.regions
  pub limit : view.cells.limit ≡ setting.limit
  pub fresh : view.cells.entries ≡ [] → OwesNothing view

-- There is a history of this many entries, and the view has its region's entries of it, with their numbers.
pub record HasHistory (setting : Setting) (view : RegionView) (count : ℕ) : Type 0 where
  pub own : IsViewIn setting view
  pub history : List Entry
  pub real : IsHistory setting history
  pub counted : length history ≡ count
  pub mine : view.cells.entries ≡ entries_of view.cells.region 0 history

-- The entry has this number in a history, in which it is the last, and the view has the region's entries of it, with their
-- numbers.
pub record IsNumbered (setting : Setting) (view : CellsView) (number : ℕ) (entry : Entry) : Type 0 where
  pub earlier : List Entry
  pub counted : number ≡ length earlier
  pub real : IsHistory setting (earlier ++ entry ∷ [])
  pub mine : view.entries ≡ entries_of view.region 0 (earlier ++ entry ∷ [])

-- There is a history, and where what the word says lasts, the state that it leaves has in the cell what the word says.
pub record SaysWhatIsHeld (setting : Setting) (view : CellsView) (cell word : ℕ) : Type 0 where
  pub history : List Entry
  pub real : IsHistory setting history
  pub mine : view.entries ≡ entries_of view.region 0 history
  pub held : IsLasting setting.fabric view.region cell word → cell_word (content_at (state_after (first_state setting.fabric) history) cell) ≡ word

-- What the state word of a port says to its party: 0 where no call stands, and else 1 or 3 and the number of the answer. What
-- was read of an answer stays so.
pub record SaysHowItStands (view : PartyView) (port word : ℕ) : Type 0 where
  pub idle : (port_of view port).call ≡ None → word ≡ 0
  pub called : (offer : Offer) → (port_of view port).call ≡ Some offer → (word ≡ 1) ⊎ (3 ≤ word)
  pub seen : (number : ℕ) → (port_of view port).seen ≡ Some number → word ≡ 3 + number

-- The call at a port was answered with this value, whose code the word is. There is a history in which all calls stand that the
-- party collected, and this one with the number that was read. The number is above those of all calls that the party had
-- collected when it made the offer, and at a put the value is what was offered.
pub record IsAnsweredWith (setting : Setting) (view : PartyView) (port word : ℕ) (value : Value) : Type 0 where
  pub code : word ≡ code_of value
  pub is_value : IsValue value
  pub number : ℕ
  pub seen : (port_of view port).seen ≡ Some number
  pub history : List Entry
  pub real : IsHistory setting history
  pub calls : All (CallStands setting.fabric history view.party) view.calls
  pub stands : CallStands setting.fabric history view.party (record { port = port; value = value; number = number })
  pub offer : Offer
  pub called : (port_of view port).call ≡ Some offer
  pub later : IsAfterItsPast view.calls offer number
  pub given : (spec : PortSpec) → slice_get setting.fabric.ports port ≡ Some spec → IsGiven spec.way offer.value value
