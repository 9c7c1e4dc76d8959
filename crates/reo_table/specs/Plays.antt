-- What each kind of step tells: the view after it, by the view before and the word that was found.
use Rattle.std.specs.Prelude.{◌≡◌, ℕ, []}
use Rattle.atomic_table.specs.Table.{Me}
use Rattle.reo_fabric.specs.declared.entry.Entry.{Entry}
use Rattle.reo_coupling.specs.declared.view.PartyView.{PartyView}
use Rattle.reo_coupling.specs.declared.view.RegionView.{RegionView}
use Rattle.reo_coupling.specs.declared.view.RootView.{RootView}
use Rattle.reo_coupling.specs.declared.view.View.{View}
use Rattle.reo_coupling.specs.declared.view.View.TheVariants.{Root, Region, Party, Spent}
use Rattle.reo_coupling.specs.Moment.{Setting}
use Rattle.reo_value.specs.declared.value.Value.{Value}
use Rattle.reo_coupling.specs.Views.{after_commit}
use Rattle.reo_coupling.specs.PortViews.{fresh_party, after_set_put, after_offer, after_see_state, after_see_got, after_clear}
use Rattle.reo_coupling.specs.RegionViews.{region_after_begin, region_after_clock, region_after_see_cell, region_after_see_port, region_after_see_offer, region_after_commit, region_after_set_cell, region_after_set_got, region_after_answer}
use Rattle.reo_coupling.specs.Seats.{fresh_region, after_join, after_party_join}
use Rattle.reo_coupling.specs.Opening.{first_root}
use Rattle.reo_table.specs.declared.rule.Key.{Key}
use Rattle.reo_table.specs.History.{HasHistory, IsNumbered, SaysWhatIsHeld, SaysHowItStands, IsAnsweredWith}

-- the setting of nothing
abbrev pub no_setting : Setting
no_setting = record { fabric = record { regions = 0; parties = 0; cells = []; ports = [] }; limit = 0 }

abbrev pub setting_of : Key → Setting
setting_of key = record { fabric = key.fabric.value; limit = key.limit }

-- the view of a region's seat, and of the root's
abbrev pub region_of : View → RegionView
region_of (Root view) = fresh_region 0 0
region_of (Region view) = view
region_of (Party view) = fresh_region 0 0
region_of Spent = fresh_region 0 0

abbrev pub root_of : View → RootView
root_of (Root view) = view
root_of (Region view) = first_root no_setting
root_of (Party view) = first_root no_setting
root_of Spent = first_root no_setting

-- the view of a party's seat
abbrev pub party_of : View → PartyView
party_of (Root view) = fresh_party 0
party_of (Region view) = fresh_party 0
party_of (Party view) = view
party_of Spent = fresh_party 0

-- the seat has this view now, and no slot of the table
abbrev pub Leaves : {S : Type 0} → RegionView → Me S View → Type 0
Leaves view after = (after.0 ≡ Region view) × (after.1 ≡ [])

abbrev pub view_before : {S : Type 0} → Me S View → RegionView
view_before before = region_of before.0

-- the word found is the view's round
abbrev pub Begun : {S : Type 0} → Me S View → ℕ → Me S View → Type 0
Begun before found after = (found ≡ (view_before before).cells.round) × Leaves (region_after_begin (view_before before)) after

abbrev pub Clocked : {S : Type 0} → Setting → Me S View → ℕ → Me S View → Type 0
Clocked setting before found after = HasHistory setting (view_before before) found × Leaves (region_after_clock (view_before before) found) after

abbrev pub Seen : {S : Type 0} → Setting → ℕ → ℕ → Me S View → ℕ → Me S View → Type 0
Seen setting cell place before found after = SaysWhatIsHeld setting (view_before before).cells cell found × Leaves (region_after_see_cell (view_before before) cell place found) after

abbrev pub PortSeen : {S : Type 0} → ℕ → ℕ → Me S View → ℕ → Me S View → Type 0
PortSeen port place before found after = Leaves (region_after_see_port (view_before before) port place found) after

abbrev pub OfferSeen : {S : Type 0} → ℕ → ℕ → Me S View → ℕ → Me S View → Type 0
OfferSeen port place before found after = Leaves (region_after_see_offer (view_before before) port place found) after

abbrev pub Committed : {S : Type 0} → Setting → Entry → Me S View → ℕ → Me S View → Type 0
Committed setting entry before found after =
    IsNumbered setting (after_commit (view_before before).cells found entry) found entry × Leaves (region_after_commit (view_before before) found entry) after

abbrev pub Stored : {S : Type 0} → ℕ → Me S View → ℕ → Me S View → Type 0
Stored cell before word after = Leaves (region_after_set_cell (view_before before) cell word) after

abbrev pub GotStored : {S : Type 0} → ℕ → Me S View → ℕ → Me S View → Type 0
GotStored port before word after = Leaves (region_after_set_got (view_before before) port) after

abbrev pub PortAnswered : {S : Type 0} → ℕ → Me S View → ℕ → Me S View → Type 0
PortAnswered port before word after = Leaves (region_after_answer (view_before before) port) after

-- a party's seat has this view now, and no slot of the table
abbrev pub PartyLeaves : {S : Type 0} → PartyView → Me S View → Type 0
PartyLeaves view after = (after.0 ≡ Party view) × (after.1 ≡ [])

abbrev pub PutSet : {S : Type 0} → ℕ → Value → Me S View → ℕ → Me S View → Type 0
PutSet port value before word after = PartyLeaves (after_set_put (party_of before.0) port value) after

abbrev pub OfferMade : {S : Type 0} → ℕ → Me S View → ℕ → Me S View → Type 0
OfferMade port before word after = PartyLeaves (after_offer (party_of before.0) port) after

abbrev pub StateSeen : {S : Type 0} → ℕ → ℕ → Me S View → ℕ → Me S View → Type 0
StateSeen port place before found after = SaysHowItStands (party_of before.0) port found × PartyLeaves (after_see_state (party_of before.0) port place found) after

-- the word is the code of the datum with which the call was answered
pub record GotSeen {S : Type 0} (setting : Setting) (port place : ℕ) (before : Me S View) (found : ℕ) (after : Me S View) : Type 0 where
  pub value : Value
  pub told : IsAnsweredWith setting (party_of before.0) port found value
  pub leaves : PartyLeaves (after_see_got (party_of before.0) port place found value) after

abbrev pub Cleared : {S : Type 0} → ℕ → Me S View → ℕ → Me S View → Type 0
Cleared port before word after = PartyLeaves (after_clear (party_of before.0) port) after

-- the root where another seat came home
abbrev pub root_with : RootView → View → RootView
root_with root (Root other) = root
root_with root (Region view) = after_join root view
root_with root (Party view) = after_party_join root view
root_with root Spent = root

-- the seat with another joined into it, which the root's alone is
abbrev pub joined : View → View → View
joined view other = Root (root_with (root_of view) other)
