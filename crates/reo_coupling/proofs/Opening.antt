-- The first words and views.
use Rattle.std.proofs.Common.{◌≡◌, ℕ, zero, suc, ◌+◌, ◌*◌, ◌<◌, ◌≤◌, ◌^◌, inl, List, [], ◌∷◌, ◌++◌, length, map, replicate, get_or, slice_get, slice_index, Option, Some, None, refl, sym, ap, ◌∙◌, subst, arith, length-append}
use Rattle.std.proofs.lemmas.List.{length-map, length-replicate, get_or-replicate, get_or_append_left, get_or-append-add}
use Rattle.std.proofs.lemmas.List.{get_or-map}
use Rattle.std.proofs.lemmas.List.Elements.{All-nil}
use Rattle.std.proofs.lemmas.Option.{same_Some, slice_get_within, get_or_from_slice_get}
use Rattle.reo_fabric.specs.declared.entry.Entry.{Entry}
use Rattle.reo_fabric.specs.declared.fabric.CellSpec.{CellSpec}
use Rattle.reo_fabric.specs.Fabric.{IsLawfulFabric, first_state}
use Rattle.reo_fabric.specs.Entry.{at_place}
use Rattle.reo_fabric.specs.Reading.{cell_word}
use Rattle.reo_fabric.specs.Laws.{AreValues}
use Rattle.reo_coupling.specs.declared.view.PartyView.{PartyView}
use Rattle.reo_coupling.specs.declared.view.RegionView.{RegionView}
use Rattle.reo_coupling.specs.declared.view.RootView.{RootView}
use Rattle.reo_coupling.specs.declared.view.Mark.{Mark}
use Rattle.reo_coupling.specs.declared.view.View.{View}
use Rattle.reo_coupling.specs.declared.view.Mark.TheVariants.{Fresh}
use Rattle.reo_coupling.specs.declared.view.View.TheVariants as seat
use Rattle.reo_coupling.specs.Moment.{Setting, round_place, cell_place}
use Rattle.reo_coupling.specs.Whole.{StandsFor}
use Rattle.reo_coupling.specs.PortViews.{fresh_port, fresh_party}
use Rattle.reo_coupling.specs.Ports.{taken_at}
use Rattle.reo_coupling.specs.PortParts.{CallStands, known_at, calls_of, port_now}
use Rattle.reo_value.specs.declared.value.Value.{Value}
use Rattle.reo_coupling.specs.Seats.{moment_of, fresh_region, region_name, party_name, MarkTells, KindTells, SeatsTell}
use Rattle.reo_coupling.specs.Opening.{first_words, first_root, OpensCoupled}
use Rattle.reo_coupling.proofs.Lists.{cleared_few}
use Rattle.reo_coupling.proofs.OnePort.{fresh_stands}

module _ (setting : Setting) where
  first_book : ℕ → RegionView
  first_book region = fresh_region setting.limit region

  zeros : List ℕ
  zeros = replicate (1 + setting.fabric.regions) 0

  before_ports : List ℕ
  before_ports = replicate (1 + setting.fabric.regions) 0 ++ map (λ (s : CellSpec). cell_word s.first) setting.fabric.cells

  port_zeros : List ℕ
  port_zeros = replicate (2 * length setting.fabric.ports) 0

  length-before_ports : length before_ports ≡ 1 + setting.fabric.regions + length setting.fabric.cells
  unfolding before_ports
  length-before_ports = omega (arith, length-append (replicate (1 + setting.fabric.regions) 0) (map (λ (s : CellSpec). cell_word s.first) setting.fabric.cells), length-replicate {A = ℕ} (1 + setting.fabric.regions) 0, length-map setting.fabric.cells (λ (s : CellSpec). cell_word s.first))

  -- a word that is not of a port
  word_before : (place : ℕ) → place < 1 + setting.fabric.regions + length setting.fabric.cells → slice_index (first_words setting.fabric) place ≡ get_or before_ports place 0
  unfolding before_ports port_zeros
  word_before place within = get_or_append_left before_ports port_zeros 0 place (omega (arith, length-before_ports, within))

  -- the words of ports are 0
  port_word : (k : ℕ) → k < 2 * length setting.fabric.ports → slice_index (first_words setting.fabric) (1 + setting.fabric.regions + length setting.fabric.cells + k) ≡ 0
  unfolding before_ports port_zeros
  port_word k within =
      let start : 1 + setting.fabric.regions + length setting.fabric.cells + k ≡ length before_ports + k = omega (arith, length-before_ports) in
      ap (slice_index (first_words setting.fabric)) start ∙ (get_or-append-add before_ports port_zeros k 0 ∙ get_or-replicate (2 * length setting.fabric.ports) k 0 0 within)

  -- the commit word and the round words are 0
  zero_at : (place : ℕ) → place < 1 + setting.fabric.regions → slice_index (first_words setting.fabric) place ≡ 0
  unfolding before_ports
  zero_at place within =
      word_before place (omega arith)
      ∙ get_or_append_left (replicate (1 + setting.fabric.regions) 0) (map (λ (s : CellSpec). cell_word s.first) setting.fabric.cells) 0 place (omega (arith, length-replicate {A = ℕ} (1 + setting.fabric.regions) 0))
      ∙ get_or-replicate (1 + setting.fabric.regions) place 0 0 within

  cell_at : (cell : ℕ) (spec : CellSpec) → slice_get setting.fabric.cells cell ≡ Some spec → slice_index (first_words setting.fabric) (cell_place setting.fabric cell) ≡ cell_word spec.first
  unfolding before_ports
  cell_at cell spec found =
      let cells : List ℕ = map (λ (s : CellSpec). cell_word s.first) setting.fabric.cells in
      let start : cell_place setting.fabric cell ≡ length (replicate (1 + setting.fabric.regions) 0) + cell = omega (arith, length-replicate {A = ℕ} (1 + setting.fabric.regions) 0) in
      word_before (cell_place setting.fabric cell) (omega (arith, slice_get_within setting.fabric.cells cell spec found))
      ∙ (ap (λ i. get_or before_ports i 0) start
      ∙ (get_or-append-add (replicate (1 + setting.fabric.regions) 0) cells cell 0
      ∙ (get_or-map (λ (s : CellSpec). cell_word s.first) setting.fabric.cells cell spec 0 (slice_get_within setting.fabric.cells cell spec found)
      ∙ ap (λ (s : CellSpec). cell_word s.first) (get_or_from_slice_get setting.fabric.cells cell spec spec found))))

  held_first : (cell : ℕ) (spec : CellSpec) → slice_get setting.fabric.cells cell ≡ Some spec → get_or (first_state setting.fabric) cell None ≡ spec.first
  held_first cell spec found =
      get_or-map (λ (s : CellSpec). s.first) setting.fabric.cells cell spec None (slice_get_within setting.fabric.cells cell spec found)
      ∙ ap (λ (s : CellSpec). s.first) (get_or_from_slice_get setting.fabric.cells cell spec spec found)

  nothing_noted : (cell word : ℕ) → at_place [] cell ≡ Some word → ⊥
  nothing_noted cell word noted = cc

  fresh_known : (owner : Option ℕ) (port : ℕ) → known_at fresh_party owner port ≡ fresh_port
  fresh_known None port = refl
  fresh_known (Some party) port = refl

  fresh_calls : (owner : Option ℕ) → calls_of fresh_party owner ≡ []
  fresh_calls None = refl
  fresh_calls (Some party) = refl

  module _ (lawful : IsLawfulFabric setting.fabric) (values : AreValues (first_state setting.fabric)) (some : 1 ≤ setting.limit) (small : setting.limit < 2 ^ 31) where
    first_stands : StandsFor setting (moment_of (first_words setting.fabric) [] first_book fresh_party)
    unfolding first_book before_ports port_zeros
    first_stands = record {
      sized = record {
        fabric = lawful;
        limit = small;
        words = omega (arith, length-append before_ports port_zeros, length-before_ports, length-replicate {A = ℕ} (2 * length setting.fabric.ports) 0);
      };
      named = record { regions = λ r within. refl; limits = λ r within. refl };
      counted = record { count = zero_at 0 (omega arith); regions = All-nil (λ (e : Entry). e.region < setting.fabric.regions); lists = λ r within. refl };
      lawful = record { history = tt; values = values };
      cells = λ cell spec found. cell_at cell spec found ∙ ap cell_word (sym (held_first cell spec found));
      notes = λ r within cell word noted lasts. absurd (nothing_noted cell word noted);
      dues = λ r within. inl (record { takes = refl; fills = refl });
      limit = omega (arith, cleared_few setting.fabric.regions first_book);
      rounds = λ r within. zero_at (round_place r) (omega arith);
      ports = λ port spec found.
          let few = slice_get_within setting.fabric.ports port spec found in
          fresh_stands (port_now setting (moment_of (first_words setting.fabric) [] first_book fresh_party) port spec) (ap (slice_index (first_words setting.fabric)) (omega arith) ∙ port_word (2 * port) (omega (arith, few)))
          (fresh_known spec.owner port) (ap (taken_at port) (fresh_calls spec.owner)) refl refl refl;
      offers = λ r within. record { states = λ port noted. absurd (nothing_noted port 1 noted); laid = λ port word noted. absurd (nothing_noted port word noted) };
      stores = λ r within. inl (record { cells = record { takes = refl; fills = refl }; gots = refl; answers = refl });
      answers = λ r within. record { gots = λ port value due. absurd (no_value port value due); answers = λ port number due. absurd (nothing_noted port number due); gots_once = tt; answers_once = tt };
      calls = λ party within. All-nil (CallStands setting.fabric [] party);
      parties = λ party within. refl;
    }
      where
        no_value : (port : ℕ) (value : Value) → at_place [] port ≡ Some value → ⊥
        no_value port value due = cc

  no_seat : (id : ℕ) {P : Type 0} (view : View) → ((root : RootView) → seat.Root root ≡ view → ⊥) → slice_get (seat.Root (first_root setting) ∷ []) id ≡ Some view → P
  no_seat zero view no_root found = absurd (no_root (first_root setting) (same_Some _ _ found))
  no_seat (suc id) view no_root found = absurd (no_more view found)
    where
      no_more : (v : View) → ◌≡◌ {A = Option View} None (Some v) → ⊥
      no_more v is = cc

  only_root : (id : ℕ) (view : RootView) → slice_get (seat.Root (first_root setting) ∷ []) id ≡ Some (seat.Root view) → id ≡ 0
  only_root zero view found = refl
  only_root (suc id) view found = absurd (no_more (seat.Root view) found)
    where
      no_more : (v : View) → ◌≡◌ {A = Option View} None (Some v) → ⊥
      no_more v is = cc

  no_region : (view : RegionView) (root : RootView) → seat.Root root ≡ seat.Region view → ⊥
  no_region view root e = cc

  no_party : (view : PartyView) (root : RootView) → seat.Root root ≡ seat.Party view → ⊥
  no_party view root e = cc

  all_fresh : {W : Type 0} (wrap : W → View) (name : W → ℕ) (fresh : ℕ → W) (count : ℕ) → ((view : W) (root : RootView) → seat.Root root ≡ wrap view → ⊥)
      → KindTells wrap name fresh count (replicate count Fresh) [] fresh (seat.Root (first_root setting) ∷ [])
  all_fresh {W} wrap name fresh count no_root = record {
    seat_of = λ n. 0;
    all = length-replicate {A = Mark} count Fresh;
    each = λ number within. subst (MarkTells wrap fresh fresh (seat.Root (first_root setting) ∷ []) [] (λ n. 0) number) (sym (get_or-replicate count number Fresh Fresh within)) refl;
    seats = λ id view found. no_seat id (wrap view) (no_root view) found;
    back = λ view among. absurd (none_home view among.place among.found);
  }
    where
      none_home : (view : W) (place : ℕ) → slice_get [] place ≡ Some view → ⊥
      none_home view place found = cc

  first_tells : SeatsTell setting first_book fresh_party (seat.Root (first_root setting) ∷ [])
  unfolding first_book
  first_tells = record {
    root = first_root setting;
    first = refl;
    only = only_root;
    limit = refl;
    regions = all_fresh seat.Region region_name (fresh_region setting.limit) setting.fabric.regions no_region;
    parties = all_fresh seat.Party party_name fresh_party setting.fabric.parties no_party;
  }

pub opens_coupled : OpensCoupled
opens_coupled setting lawful values some small = record { history = []; book = first_book setting; folk = fresh_party; stands = first_stands setting lawful values some small; tells = first_tells setting }
