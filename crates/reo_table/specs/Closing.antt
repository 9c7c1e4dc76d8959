-- How the words end: all seats come home, and one history explains what they knew.
use Rattle.std.specs.Prelude.{◌≡◌, ℕ, ◌+◌, ◌<◌, List, [], ◌∷◌, ◌++◌, length, map, slice_index, slice_index_or, slice_get, slice_set, Option, Some, None, IfSome}
use mathlib.Core.Option.{some}
use lib.ListN.{get_elem?}
use Rattle.reo_value.specs.declared.value.Value.{Value}
use Rattle.reo_value.specs.Code.{IsValue}
use Rattle.reo_fabric.specs.declared.entry.Entry.{Entry}
use Rattle.reo_fabric.specs.Reading.{cell_word}
use Rattle.reo_coupling.specs.declared.view.Mark.{Mark}
use Rattle.reo_coupling.specs.declared.view.Mark.TheVariants.{Fresh, Out, Home}
use Rattle.reo_coupling.specs.declared.view.PartyView.{PartyView}
use Rattle.reo_coupling.specs.declared.view.RegionView.{RegionView}
use Rattle.reo_coupling.specs.declared.view.RootView.{RootView}
use Rattle.reo_coupling.specs.PortViews.{fresh_party}
use Rattle.reo_coupling.specs.declared.view.View.{View}
use Rattle.reo_coupling.specs.declared.view.View.TheVariants.{Root}
use Rattle.reo_coupling.specs.Moment.{Setting, cell_place}
use Rattle.reo_coupling.specs.Seats.{fresh_region, region_name, party_name, mark_at, party_mark_at, IsAmong, IsKnownBy, IsCoupled}
use Rattle.reo_coupling.specs.Home.{state_by, Explains}
use Rattle.reo_table.specs.Shared.{WordsState, SeatState, PartyState}

-- what the seats of regions know, and those of parties
abbrev pub views_of : List SeatState → List RegionView
views_of seats = map (λ seat. seat.view) seats

abbrev pub party_views_of : List PartyState → List PartyView
party_views_of seats = map (λ seat. seat.view) seats

-- the marks where the seats with these views came home
abbrev pub joined_marks : {W : Type 0} → (W → ℕ) → List Mark → List W → List Mark
joined_marks name marks [] = marks
joined_marks name marks (view ∷ views) = slice_set (joined_marks name marks views) (name view) Home

-- the root where regions' seats with these views came home, and where parties' seats did
abbrev pub after_regions : RootView → List RegionView → RootView
after_regions root views = record root { regions = joined_marks region_name root.regions views; regions_home = views ++ root.regions_home }

abbrev pub after_parties : RootView → List PartyView → RootView
after_parties root views = record root { parties = joined_marks party_name root.parties views; parties_home = views ++ root.parties_home }

-- one of the views is that of this number
pub record HasMember {W : Type 0} (name : W → ℕ) (views : List W) (number : ℕ) : Type 0 where
  pub view : W
  pub among : IsAmong views view
  pub named : name view ≡ number

-- each region whose seat the root gave away is among these
abbrev pub AllAreHere : WordsState → RootView → List RegionView → Type 0
AllAreHere words root views = (region : ℕ) → region < words.setting.fabric.regions → mark_at root region ≡ Out → HasMember region_name views region

-- The words are closed: one history explains what the seats knew that came home, and of a region or a party without a seat it
-- explains that it knew nothing. The count is the length of the history, and the cells have what it leaves in them.
pub record IsFinal (words : WordsState) (root : RootView) (regions : List RegionView) (parties : List PartyView) (count : ℕ) (cells : List (Option Value)) : Type 0 where
  pub history : List Entry
  pub book : ℕ → RegionView
  pub folk : ℕ → PartyView
  pub explains : Explains words.setting book folk history
  pub of_regions : (view : RegionView) → IsAmong regions view → IsKnownBy region_name words.setting.fabric.regions book view
  pub of_parties : (view : PartyView) → IsAmong parties view → IsKnownBy party_name words.setting.fabric.parties folk view
  pub no_region : (region : ℕ) → region < words.setting.fabric.regions → mark_at root region ≡ Fresh → (HasMember region_name regions region → ⊥) → book region ≡ fresh_region words.setting.limit region
  pub no_party : (party : ℕ) → party < words.setting.fabric.parties → party_mark_at root party ≡ Fresh → (HasMember party_name parties party → ⊥) → folk party ≡ fresh_party party
  pub counted : count ≡ length history
  pub held : cells ≡ state_by words.setting history

-- the word of a cell says that this is in it
abbrev pub SaysHeld : ℕ → Option Value → Type 0
SaysHeld word held = (what : Option Value) → IfSome what IsValue → word ≡ cell_word what → held ≡ what

-- what was read of the words from `first` on
abbrev pub AreRead : List ℕ → ℕ → List (Option Value) → Type 0
AreRead words first room = (cell word : ℕ) → cell < length room → get_elem? words (first + cell) ≡ some word → SaysHeld word (slice_index_or room cell None)

-- The last words and views meet the rule, the root has this view, and this was read of the commit word and of the cells.
pub record IsReadOut (setting : Setting) (root : RootView) (count : ℕ) (cells : List (Option Value)) : Type 0 where
  pub words : List ℕ
  pub views : List View
  pub id : ℕ
  pub rule : IsCoupled setting words views
  pub at_root : slice_get views id ≡ Some (Root root)
  pub counted : count ≡ slice_index words 0
  pub all : length cells ≡ length setting.fabric.cells
  pub each : (cell : ℕ) → cell < length setting.fabric.cells → SaysHeld (slice_index words (cell_place setting.fabric cell)) (slice_index_or cells cell None)
