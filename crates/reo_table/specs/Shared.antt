-- The shared words and the seats, as contracts see them.
use Rattle.std.specs.Prelude.{◌≡◌, ℕ}
use Rattle.atomic_table.specs.Seated.{TableId}
use Rattle.reo_value.specs.declared.value.Value.{Value}
use Rattle.reo_coupling.specs.declared.view.PartyView.{PartyView}
use Rattle.reo_coupling.specs.declared.view.RegionView.{RegionView}
use Rattle.reo_coupling.specs.declared.view.RootView.{RootView}
use Rattle.reo_coupling.specs.Moment.{Setting, cell_place, state_place, data_place}
use Rattle.reo_coupling.specs.PortViews.{after_see_state, after_see_got}
use Rattle.reo_table.specs.History.{IsAnsweredWith}
use Rattle.reo_coupling.specs.RegionViews.{region_after_see_cell, region_after_see_port, region_after_see_offer}

pub record WordsState : Type 0 where
  -- which words they are
  pub id : TableId
  pub setting : Setting

pub record SeatState : Type 0 where
  -- the words that the seat belongs to
  pub id : TableId
  pub view : RegionView

pub record PartyState : Type 0 where
  -- the words that the seat belongs to
  pub id : TableId
  pub view : PartyView

pub record RootState : Type 0 where
  pub id : TableId
  pub view : RootView

-- the seat knows this now
abbrev pub knowing : SeatState → RegionView → SeatState
knowing seat view = record seat { view = view }

-- the seat after it read this word of a cell, this state word or this data word of a port
abbrev pub after_look : WordsState → SeatState → ℕ → ℕ → SeatState
after_look words seat cell word = knowing seat (region_after_see_cell seat.view cell (cell_place words.setting.fabric cell) word)

abbrev pub after_port_look : WordsState → SeatState → ℕ → ℕ → SeatState
after_port_look words seat port word = knowing seat (region_after_see_port seat.view port (state_place words.setting.fabric port) word)

abbrev pub after_offer_look : WordsState → SeatState → ℕ → ℕ → SeatState
after_offer_look words seat port word = knowing seat (region_after_see_offer seat.view port (data_place words.setting.fabric port) word)

-- the party's seat knows this now
abbrev pub party_knowing : PartyState → PartyView → PartyState
party_knowing seat view = record seat { view = view }

-- the party's seat after it read this state word of a port
abbrev pub after_state_look : WordsState → PartyState → ℕ → ℕ → PartyState
after_state_look words seat port word = party_knowing seat (after_see_state seat.view port (state_place words.setting.fabric port) word)

-- the party's seat after it read this data word of a port, the code of the value with which its call there was answered
pub record GotLook (words : WordsState) (old new : PartyState) (port word : ℕ) : Type 0 where
  pub value : Value
  pub answered : IsAnsweredWith words.setting old.view port word value
  pub view : new ≡ party_knowing old (after_see_got old.view port (data_place words.setting.fabric port) word value)
