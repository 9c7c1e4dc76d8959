-- The seats and their views. The root has the first seat; it marks for each region and each party whether its seat is not made
-- yet, out with some thread, or joined into the root again.
use Rattle.std.specs.Prelude.{◌≡◌, ℕ, ◌<◌, List, [], ◌∷◌, ◌++◌, length, slice_get, slice_set, slice_index_or, Some, nat_eq, if◌then◌else◌}
use Rattle.reo_fabric.specs.declared.entry.Entry.{Entry}
use Rattle.reo_coupling.specs.declared.view.PartyView.{PartyView}
use Rattle.reo_coupling.specs.declared.view.RegionView.{RegionView}
use Rattle.reo_coupling.specs.declared.view.RootView.{RootView}
use Rattle.reo_coupling.specs.declared.view.Mark.{Mark}
use Rattle.reo_coupling.specs.declared.view.Mark.TheVariants.{Fresh, Out, Home}
use Rattle.reo_coupling.specs.declared.view.View.{View}
use Rattle.reo_coupling.specs.declared.view.View.TheVariants as seat
use Rattle.reo_coupling.specs.Moment.{Setting, Moment}
use Rattle.reo_coupling.specs.Views.{fresh_view}
use Rattle.reo_coupling.specs.PortViews.{no_ports, fresh_party}
use Rattle.reo_coupling.specs.Whole.{StandsFor}

abbrev pub moment_of : List ℕ → List Entry → (ℕ → RegionView) → (ℕ → PartyView) → Moment
moment_of words history book folk = record { words = words; history = history; book = book; folk = folk }

abbrev pub fresh_region : ℕ → ℕ → RegionView
fresh_region limit region = record { cells = fresh_view limit region; ports = no_ports }

-- the number that a view names
abbrev pub region_name : RegionView → ℕ
region_name view = view.cells.region

abbrev pub party_name : PartyView → ℕ
party_name view = view.party

-- what a list of marks has for a number
abbrev pub mark_of : List Mark → ℕ → Mark
mark_of marks number = slice_index_or marks number Fresh

-- the mark of a region, and of a party
abbrev pub mark_at : RootView → ℕ → Mark
mark_at root region = mark_of root.regions region

abbrev pub party_mark_at : RootView → ℕ → Mark
party_mark_at root party = mark_of root.parties party

-- the view stands in the list
pub record IsAmong {W : Type 0} (views : List W) (view : W) : Type 0 where
  pub place : ℕ
  pub found : slice_get views place ≡ Some view

-- the book with another view under the view's number
abbrev pub with_member : {W : Type 0} → (W → ℕ) → (ℕ → W) → W → ℕ → W
with_member name book view number = if nat_eq number (name view) then view else book number

abbrev pub with_view : (ℕ → RegionView) → RegionView → ℕ → RegionView
with_view book view region = with_member region_name book view region

abbrev pub with_party : (ℕ → PartyView) → PartyView → ℕ → PartyView
with_party folk view party = with_member party_name folk view party

-- What a mark says: of a number without a seat that its view is fresh, of one whose seat is out that this seat has its view, and
-- of one that came home that its view is among those that did.
abbrev pub MarkTells : {W : Type 0} → (W → View) → (ℕ → W) → (ℕ → W) → List View → List W → (ℕ → ℕ) → ℕ → Mark → Type 0
MarkTells wrap fresh book views home seat_of number Fresh = book number ≡ fresh number
MarkTells wrap fresh book views home seat_of number Out = slice_get views (seat_of number) ≡ Some (wrap (book number))
MarkTells wrap fresh book views home seat_of number Home = IsAmong home (book number)

-- the seat with this number is the one seat of the view's number, and has its view
pub record IsTheSeat {W : Type 0} (name : W → ℕ) (count : ℕ) (marks : List Mark) (book : ℕ → W) (seat_of : ℕ → ℕ) (id : ℕ) (view : W) : Type 0 where
  pub within : name view < count
  pub only : seat_of (name view) ≡ id
  pub known : book (name view) ≡ view
  pub out : mark_of marks (name view) ≡ Out

-- the book has the view, under its number
pub record IsKnownBy {W : Type 0} (name : W → ℕ) (count : ℕ) (book : ℕ → W) (view : W) : Type 0 where
  pub within : name view < count
  pub known : book (name view) ≡ view

-- the view of a seat that came home is that of its number
pub record IsFromHome {W : Type 0} (name : W → ℕ) (count : ℕ) (marks : List Mark) (book : ℕ → W) (view : W) : Type 0 where
  pub own : IsKnownBy name count book view
  pub joined : mark_of marks (name view) ≡ Home

-- Seats of one kind, the regions' or the parties': each number is marked as it is, has exactly one seat where its seat is out,
-- and the views that came home are those of their numbers.
pub record KindTells {W : Type 0} (wrap : W → View) (name : W → ℕ) (fresh : ℕ → W) (count : ℕ) (marks : List Mark) (home : List W) (book : ℕ → W) (views : List View) : Type 0 where
  -- the seat of a number
  pub seat_of : ℕ → ℕ
  pub all : length marks ≡ count
  pub each : (number : ℕ) → number < count → MarkTells wrap fresh book views home seat_of number (mark_of marks number)
  pub seats : (id : ℕ) (view : W) → slice_get views id ≡ Some (wrap view) → IsTheSeat name count marks book seat_of id view
  pub back : (view : W) → IsAmong home view → IsFromHome name count marks book view

-- The first seat is the root's and no other, and it marks the seats of the regions and of the parties. A seat that was joined
-- into another says nothing.
pub record SeatsTell (setting : Setting) (book : ℕ → RegionView) (folk : ℕ → PartyView) (views : List View) : Type 0 where
  pub root : RootView
  pub first : slice_get views 0 ≡ Some (seat.Root root)
  pub only : (id : ℕ) (view : RootView) → slice_get views id ≡ Some (seat.Root view) → id ≡ 0
  pub limit : root.limit ≡ setting.limit
  pub regions : KindTells seat.Region region_name (fresh_region setting.limit) setting.fabric.regions root.regions root.regions_home book views
  pub parties : KindTells seat.Party party_name fresh_party setting.fabric.parties root.parties root.parties_home folk views

-- The rule of the shared words: there are a history, a book of the regions' views and one of the parties' for which the words
-- stand, and the seats' views are those of the books.
pub record IsCoupled (setting : Setting) (words : List ℕ) (views : List View) : Type 0 where
  pub history : List Entry
  pub book : ℕ → RegionView
  pub folk : ℕ → PartyView
  pub stands : StandsFor setting (moment_of words history book folk)
  pub tells : SeatsTell setting book folk views

-- the rule holds, for this history
pub record IsCoupledStill (setting : Setting) (words : List ℕ) (views : List View) (history : List Entry) : Type 0 where
  pub rule : IsCoupled setting words views
  pub same : rule.history ≡ history

-- A step of a region, made with its seat, keeps the rule, for the history that it leaves.
abbrev pub KeepsTheRule : (Setting → ℕ → Moment → Moment → Type 0) → Type 0
KeepsTheRule Step =
    (setting : Setting) (words later : List ℕ) (views : List View) (id : ℕ) (old new : RegionView) (history : List Entry) (rule : IsCoupled setting words views) → slice_get views id ≡ Some (seat.Region old)
    → new.cells.region ≡ old.cells.region → Step setting old.cells.region (moment_of words rule.history rule.book rule.folk) (moment_of later history (with_view rule.book new) rule.folk)
    → IsCoupledStill setting later (slice_set views id (seat.Region new)) history

-- A step of a party, made with its seat, keeps the rule, for the same history.
abbrev pub PartyKeepsTheRule : (Setting → ℕ → Moment → Moment → Type 0) → Type 0
PartyKeepsTheRule Step =
    (setting : Setting) (words later : List ℕ) (views : List View) (id : ℕ) (old new : PartyView) (rule : IsCoupled setting words views) → slice_get views id ≡ Some (seat.Party old) → new.party ≡ old.party
    → Step setting old.party (moment_of words rule.history rule.book rule.folk) (moment_of later rule.history rule.book (with_party rule.folk new))
    → IsCoupledStill setting later (slice_set views id (seat.Party new)) rule.history

-- the root after it gave away the seat of a region, and of a party
abbrev pub after_split : RootView → ℕ → RootView
after_split root region = record root { regions = slice_set root.regions region Out }

abbrev pub after_party_split : RootView → ℕ → RootView
after_party_split root party = record root { parties = slice_set root.parties party Out }

-- The root gives away the seat of a region that has none yet, and the rule holds after it, for the same history.
abbrev pub SplittingKeepsTheRule : Type 0
SplittingKeepsTheRule =
    (setting : Setting) (words : List ℕ) (views : List View) (id region : ℕ) (root : RootView) (rule : IsCoupled setting words views) → slice_get views id ≡ Some (seat.Root root) → region < setting.fabric.regions
    → mark_at root region ≡ Fresh → IsCoupledStill setting words (slice_set views id (seat.Root (after_split root region)) ++ seat.Region (fresh_region root.limit region) ∷ []) rule.history

-- It gives away the seat of a party likewise.
abbrev pub PartySplittingKeepsTheRule : Type 0
PartySplittingKeepsTheRule =
    (setting : Setting) (words : List ℕ) (views : List View) (id party : ℕ) (root : RootView) (rule : IsCoupled setting words views) → slice_get views id ≡ Some (seat.Root root) → party < setting.fabric.parties
    → party_mark_at root party ≡ Fresh → IsCoupledStill setting words (slice_set views id (seat.Root (after_party_split root party)) ++ seat.Party (fresh_party party) ∷ []) rule.history

-- the root after the seat with this view came home
abbrev pub after_join : RootView → RegionView → RootView
after_join root view = record root { regions = slice_set root.regions view.cells.region Home; regions_home = view ∷ root.regions_home }

abbrev pub after_party_join : RootView → PartyView → RootView
after_party_join root view = record root { parties = slice_set root.parties view.party Home; parties_home = view ∷ root.parties_home }

-- The seat of a region comes home to the root, and the rule holds after it, for the same history. The seat is spent.
abbrev pub JoiningKeepsTheRule : Type 0
JoiningKeepsTheRule =
    (setting : Setting) (words : List ℕ) (views : List View) (id other : ℕ) (root : RootView) (view : RegionView) (rule : IsCoupled setting words views) → slice_get views id ≡ Some (seat.Root root)
    → slice_get views other ≡ Some (seat.Region view) → IsCoupledStill setting words (slice_set (slice_set views id (seat.Root (after_join root view))) other seat.Spent) rule.history

-- The seat of a party comes home likewise.
abbrev pub PartyJoiningKeepsTheRule : Type 0
PartyJoiningKeepsTheRule =
    (setting : Setting) (words : List ℕ) (views : List View) (id other : ℕ) (root : RootView) (view : PartyView) (rule : IsCoupled setting words views) → slice_get views id ≡ Some (seat.Root root)
    → slice_get views other ≡ Some (seat.Party view) → IsCoupledStill setting words (slice_set (slice_set views id (seat.Root (after_party_join root view))) other seat.Spent) rule.history
