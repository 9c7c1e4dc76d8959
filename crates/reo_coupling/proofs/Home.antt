-- All seats are home, and one history explains what they know.
use Rattle.std.proofs.Common.{◌≡◌, ℕ, ◌<◌, inl, inr, ⊎_elim, List, slice_get, slice_index, Option, Some, None, refl, sym, ap, ◌∙◌, subst, arith}
use Rattle.std.proofs.lemmas.Option.{same_Some, slice_get_within, slice_get-get_or, get_or_from_slice_get}
use Rattle.reo_value.specs.declared.value.Value.{Value}
use Rattle.reo_fabric.specs.declared.fabric.CellSpec.{CellSpec}
use Rattle.reo_fabric.specs.Entry.{at_place, content_at}
use Rattle.reo_fabric.specs.Reading.{cell_word}
use Rattle.reo_coupling.specs.declared.view.RegionView.{RegionView}
use Rattle.reo_coupling.specs.declared.view.RootView.{RootView}
use Rattle.reo_coupling.specs.declared.view.Mark.{Mark}
use Rattle.reo_coupling.specs.declared.view.Mark.TheVariants.{Fresh, Out, Home}
use Rattle.reo_coupling.specs.declared.view.View.{View}
use Rattle.reo_coupling.specs.declared.view.View.TheVariants as seat
use Rattle.reo_coupling.specs.Moment.{Setting, Moment, cell_place}
use Rattle.reo_coupling.specs.PortViews.{fresh_party}
use Rattle.reo_coupling.specs.Ports.{PortNow, PortStands}
use Rattle.reo_coupling.specs.Parts.{NothingDue, Shows, fill_due, take_due, held_at, word_at}
use Rattle.reo_coupling.specs.PortParts.{port_now}
use Rattle.reo_coupling.specs.Seats.{IsCoupled, moment_of, fresh_region, region_name, party_name, mark_at, IsAmong, MarkTells, KindTells}
use Rattle.reo_coupling.specs.Home.{HasItsPlaces, NoCellIsDue, state_by, AreBooks, OneHistoryExplainsAll}
use Rattle.reo_coupling.proofs.Seating.{root_injective}

-- a port that stands has its places
pub places_of_port : (now : PortNow) → PortStands now → HasItsPlaces now.way now.known now.calls now.taken now.places
places_of_port now stands = record {
  each =
      ⊎_elim (λ idle. inl idle.places)
      (⊎_elim (λ offered. inl offered.places)
      (⊎_elim (λ one. inr (record { offer = one.offer; called = one.called.call; number = one.number; value = one.value; place = one.place }))
      (λ one. inr (record { offer = one.offer; called = one.called.call; number = one.number; value = one.value; place = one.place }))))
      stands.phase;
  offers = stands.past;
}

nothing_shown : (word : ℕ) (held filled taken : Option Value) → filled ≡ None → taken ≡ None → Shows word held filled taken → word ≡ cell_word held
nothing_shown word held filled taken no_fill no_take shows = subst (λ t. Shows word held None t) no_take (subst (λ f. Shows word held f taken) no_fill shows)

module _ (setting : Setting) (words : List ℕ) (views : List View) (id : ℕ) (root : RootView) (rule : IsCoupled setting words views) (found : slice_get views id ≡ Some (seat.Root root)) where
  abbrev now : Moment
  now = moment_of words rule.history rule.book rule.folk

  root_is : rule.tells.root ≡ root
  root_is = root_injective rule.tells.root root (same_Some _ _ (sym rule.tells.first ∙ (ap (slice_get views) (sym (rule.tells.only id root found)) ∙ found)))

  region_told : KindTells seat.Region region_name (fresh_region setting.limit) setting.fabric.regions root.regions root.regions_home rule.book views
  region_told = subst (λ (r : RootView). KindTells seat.Region region_name (fresh_region setting.limit) setting.fabric.regions r.regions r.regions_home rule.book views) root_is rule.tells.regions

  party_told : KindTells seat.Party party_name fresh_party setting.fabric.parties root.parties root.parties_home rule.folk views
  party_told = subst (λ (r : RootView). KindTells seat.Party party_name fresh_party setting.fabric.parties r.parties r.parties_home rule.folk views) root_is rule.tells.parties

  books : AreBooks setting root rule.book rule.folk
  books = record {
    regions = λ view among. (region_told.back view among).own;
    parties = λ view among. (party_told.back view among).own;
    no_region = λ region within fresh.
        subst (MarkTells seat.Region (fresh_region setting.limit) rule.book views root.regions_home region_told.seat_of region) fresh (region_told.each region within);
    no_party = λ party within fresh. subst (MarkTells seat.Party fresh_party rule.folk views root.parties_home party_told.seat_of party) fresh (party_told.each party within);
  }

  filler_is : (cell : ℕ) (spec : CellSpec) → slice_get setting.fabric.cells cell ≡ Some spec → (spec.filler < setting.fabric.regions) × (spec.taker < setting.fabric.regions)
  filler_is cell spec there =
      let inside = slice_get_within setting.fabric.cells cell spec there in
      let is = get_or_from_slice_get setting.fabric.cells cell spec spec there in (
        subst (λ (s : CellSpec). s.filler < setting.fabric.regions) is (rule.stands.sized.fabric.fillers cell spec inside),
        subst (λ (s : CellSpec). s.taker < setting.fabric.regions) is (rule.stands.sized.fabric.takers cell spec inside),
      )

  cell_shows : NoCellIsDue setting rule.book → (cell : ℕ) (spec : CellSpec) → slice_get setting.fabric.cells cell ≡ Some spec → slice_index words (cell_place setting.fabric cell) ≡ cell_word (content_at (state_by setting rule.history) cell)
  cell_shows quiet cell spec there =
      nothing_shown (word_at setting now cell) (held_at setting now cell) (fill_due now spec.filler cell) (take_due now spec.taker cell)
      (ap (λ dues. at_place dues cell) (quiet spec.filler (filler_is cell spec there).0).fills) (ap (λ dues. at_place dues cell) (quiet spec.taker (filler_is cell spec there).1).takes) (rule.stands.cells cell spec there)

  -- a region whose seat is not out owes nothing, where those at home do not
  owes_none : (region : ℕ) → ((view : RegionView) → IsAmong root.regions_home view → NothingDue view.cells) → (mark : Mark) → (mark ≡ Out → ⊥)
      → MarkTells seat.Region (fresh_region setting.limit) rule.book views root.regions_home region_told.seat_of region mark → NothingDue (rule.book region).cells
  owes_none region quiet Fresh not_out told = subst (λ (v : RegionView). NothingDue v.cells) (sym told) (record { takes = refl; fills = refl })
  owes_none region quiet Out not_out told = absurd (not_out refl)
  owes_none region quiet Home not_out told = quiet (rule.book region) told

no_spec : CellSpec
no_spec = record { filler = 0; taker = 0; first = None }

pub one_history_explains_all : OneHistoryExplainsAll
one_history_explains_all setting words views id root rule found = record {
  books = books setting words views id root rule found;
  history_explains = record {
    few = omega (arith, rule.stands.limit);
    of_regions = rule.stands.counted.regions;
    lawful = rule.stands.lawful.history;
    lists = rule.stands.counted.lists;
    calls = rule.stands.calls;
    ports = λ port spec there. places_of_port (port_now setting (moment_of words rule.history rule.book rule.folk) port spec) (rule.stands.ports port spec there);
  };
  words_show = record {
    count = rule.stands.counted.count;
    values = rule.stands.lawful.values;
    cells = λ quiet cell within. cell_shows setting words views id root rule found quiet cell _ (slice_get-get_or setting.fabric.cells cell no_spec within);
  };
  nothing_due = λ home region within.
      owes_none setting words views id root rule found region home.quiet (mark_at root region) (home.none_out region within) ((region_told setting words views id root rule found).each region within);
}
