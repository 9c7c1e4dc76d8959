-- What is kept inside an engine, from step to step.
use Rattle.std.proofs.Common.{◌≡◌, ℕ, ◌<◌, ⊎_elim, nat_eq, List, [], ◌∷◌, ◌++◌, length, set, get_or, slice_get, All, Option, Some, None, IfSome, refl, sym, ap, ◌∙◌, subst, arith, length-set, length-append, get_or-set_same, get_or-set_other}
use Rattle.std.specs.Option.{option_map}
use Rattle.std.proofs.Math.Seq.{get_or-append_seam}
use Rattle.std.proofs.lemmas.Simd.{map-map}
use Rattle.std.proofs.lemmas.List.{map-id, get_or_append_left}
use Rattle.std.proofs.lemmas.List.FromFn.{length-map-range_with_len, get_or-map-range_with_len}
use Rattle.std.proofs.lemmas.Bool.{cases_eq}
use Rattle.std.proofs.lemmas.Option.{slice_get-get_or, slice_get_within, slice_get_read, same_Some}
use Rattle.reo_value.specs.Code.{IsValue}
use Rattle.reo_value.specs.declared.value.Value.{Value}
use Rattle.reo_fabric.specs.declared.entry.Entry.{Entry}
use Rattle.reo_fabric.specs.declared.fabric.CellSpec.{CellSpec}
use Rattle.reo_fabric.specs.declared.fabric.PortSpec.{PortSpec}
use Rattle.reo_fabric.specs.declared.fabric.Fabric.{Fabric}
use Rattle.reo_fabric.specs.declared.reading.Reading.{Reading}
use Rattle.reo_fabric.specs.declared.port_state.PortState.{PortState}
use Rattle.reo_fabric.specs.Entry.{State, Agrees, at_place, content_after, carried_out}
use Rattle.reo_fabric.specs.Reading.{Offers, reading_of, cells_of, ports_of, cell_word, state_word, data_word}
use Rattle.reo_fabric.specs.Decider.{IsFitting, Fills}
use Rattle.reo_fabric.specs.Room.{RoomState, room_of, IsRewritten, HasRoomFor}
use Rattle.reo_fabric.specs.Engine.{EngineState, offers_of, answered}
use Rattle.reo_fabric.specs.inside.Whole.{IsUnread}
use Rattle.reo_fabric.specs.Laws.{AreValues}
use Rattle.reo_fabric.specs.inside.Writes.{IsWithin}
use Rattle.reo_fabric.specs.inside.Whole.{EachAt, IsRoomOf, IsEngine, last_entry}
use Rattle.reo_fabric.specs.inside.Counts.{AreCounts, room_for}
use Rattle.reo_fabric.proofs.PlaceLemmas.{at_place_holds}
use Rattle.reo_fabric.proofs.FittingLemmas.{fitting_agree, fitting_have_room}

-- an element that is set at its place, where the others are as they have to be
pub each_changed : {A : Type 0} (P Q : ℕ → A → Type 0) (xs : List A) (i : ℕ) (x : A) → i < length xs → Q i x → ((k : ℕ) (y : A) → (k ≡ i → ⊥) → P k y → Q k y) → EachAt P xs → EachAt Q (set xs i x)
each_changed P Q xs i x within here others each = λ place y found.
    let inside : place < length xs = omega (arith, slice_get_within (set xs i x) place y found, length-set xs i x) in
    let there : slice_get (set xs i x) place ≡ Some (get_or (set xs i x) place x) = slice_get-get_or (set xs i x) place x (omega (arith, length-set xs i x)) in
    let value : get_or (set xs i x) place x ≡ y = same_Some (get_or (set xs i x) place x) y (sym there ∙ found) in
    ⊎_elim
    (λ is. subst (Q place) (sym (subst (λ k. get_or (set xs i x) k x ≡ x) (sym is) (get_or-set_same xs i x x within)) ∙ value) (subst (λ k. Q k x) (sym is) here))
    (λ ne. others place y ne (each place y (slice_get-get_or xs place x inside ∙ ap Some (sym (get_or-set_other xs i place x x ne) ∙ value))))
    (cases_eq place i)

pub each_set : {A : Type 0} (P : ℕ → A → Type 0) (xs : List A) (i : ℕ) (x : A) → i < length xs → P i x → EachAt P xs → EachAt P (set xs i x)
each_set P xs i x within here each = each_changed P P xs i x within here (λ k y ne is. is) each

-- an element that comes at the end
pub each_more : {A : Type 0} (P : ℕ → A → Type 0) (xs : List A) (n : ℕ) (x : A) → length xs ≡ n → P n x → EachAt P xs → EachAt P (xs ++ x ∷ [])
each_more P xs n x len here each = λ place y found.
    let inside : place < length (xs ++ x ∷ []) = slice_get_within (xs ++ x ∷ []) place y found in
    let value : get_or (xs ++ x ∷ []) place x ≡ y = same_Some (get_or (xs ++ x ∷ []) place x) y (sym (slice_get-get_or (xs ++ x ∷ []) place x inside) ∙ found) in
    ⊎_elim
    (λ is. subst (P place) (sym (subst (λ k. get_or (xs ++ x ∷ []) k x ≡ x) (len ∙ sym is) (get_or-append_seam xs x [] x)) ∙ value) (subst (λ k. P k x) (sym is) here))
    (λ ne.
    let under : place < length xs = omega (arith, length-append xs (x ∷ []), len) in
    each place y (slice_get-get_or xs place x under ∙ ap Some (sym (get_or_append_left xs (x ∷ []) x place under) ∙ value)))
    (cases_eq place n)

-- a reading of the region's places reads the region's places
pub reading_is_unread : (fabric : Fabric) (region : ℕ) (state : State) (offers : Offers) → IsUnread fabric region (reading_of fabric region state offers)
reading_is_unread fabric region state offers = record {
  of_region = record {
    region_is = refl;
    cells = map-map (λ (p : ℕ × ℕ). p.0) (λ c. (c, cell_word (get_or state c None))) (cells_of fabric region) ∙ map-id (cells_of fabric region);
    ports = map-map (λ (p : ℕ × ℕ × ℕ). p.0) (λ p. (p, state_word (get_or offers p None), data_word (get_or offers p None))) (ports_of fabric region) ∙ map-id (ports_of fabric region);
  };
  no_round = refl;
  no_clock = refl;
}

-- a fitting entry has places that there are
pub fitting_within : (fabric : Fabric) (reading : Reading) (entry : Entry) (cells ports : ℕ) → cells ≡ length fabric.cells → ports ≡ length fabric.ports → IsFitting fabric reading entry → IsWithin cells ports entry
fitting_within fabric reading entry cells ports cells_are ports_are fits = record {
  takes = λ k d within. let at = (fits.takes k d within).own in omega (arith, slice_get_within fabric.cells _ at.spec at.found, cells_are);
  fills = λ k d within. let at = (fits.fills k d within).own in omega (arith, slice_get_within fabric.cells _ at.spec at.found, cells_are);
  puts = λ k d within. let at = (fits.puts k d within).own in omega (arith, slice_get_within fabric.ports _ at.spec at.found, ports_are);
  gets = λ k d within. let at = (fits.gets k d within).own in omega (arith, slice_get_within fabric.ports _ at.spec at.found, ports_are);
  takes_rise = fits.takes_rise;
  fills_rise = fits.fills_rise;
  puts_rise = fits.puts_rise;
  gets_rise = fits.gets_rise;
}

content_is_value : (take fill held : Option Value) → IfSome fill IsValue → IfSome held IsValue → IfSome (content_after take fill held) IsValue
content_is_value (Some v) fill held is_fill is_held = tt
content_is_value None (Some w) held is_fill is_held = is_fill
content_is_value None None held is_fill is_held = is_held

at_place_value : (P : ℕ × Value → Type 0) (places : List (ℕ × Value)) (c : ℕ) (o : Option Value) → ((p : ℕ × Value) → P p → IsValue p.1) → All P places → at_place places c ≡ o → IfSome o IsValue
at_place_value P places c None is all at = tt
at_place_value P places c (Some v) is all at = is (c, v) (at_place_holds P places c v all at)

-- after a fitting entry there are values in the cells
pub values_after : (fabric : Fabric) (reading : Reading) (entry : Entry) (cells : State) → IsFitting fabric reading entry → AreValues cells → AreValues (carried_out cells entry)
values_after fabric reading entry cells fits values = λ c d within.
    let after : ℕ → Option Value = λ cell. content_after (at_place entry.takes cell) (at_place entry.fills cell) (get_or cells cell None) in
    let under : c < length cells = subst (λ n. c < n) (length-map-range_with_len after 0 (length cells)) within in
    subst (λ held. IfSome held IsValue) (sym (get_or-map-range_with_len after 0 (length cells) c c d under (omega arith)))
    (content_is_value (at_place entry.takes c) (at_place entry.fills c) (get_or cells c None)
    (at_place_value (Fills fabric reading) entry.fills c (at_place entry.fills c) (λ p is. is.value) fits.fills refl) (values c None under))

-- a room that an entry was written into has the same room
pub room_has_room : (fabric : Fabric) (region : ℕ) (room : RoomState) (entry : Entry) → IsRoomOf fabric region room → HasRoomFor (room_of fabric region) entry → HasRoomFor room entry
room_has_room fabric region room entry is has = subst (λ r. HasRoomFor r entry) (sym is) (record { takes = has.takes; fills = has.fills; puts = has.puts; gets = has.gets })

pub region_of_room : (fabric : Fabric) (region : ℕ) (room : RoomState) → IsRoomOf fabric region room → room.entry.region ≡ region
region_of_room fabric region room is = ap (λ (r : RoomState). r.entry.region) is

pub rewritten_room : (fabric : Fabric) (region : ℕ) (old new : RoomState) → IsRoomOf fabric region old → IsRewritten old new → IsRoomOf fabric region new
rewritten_room fabric region old new is rewritten =
    rewritten ∙ ap (λ (r : RoomState). record r { entry = record new.entry { region = r.entry.region } }) is

-- what is read back where it was set
pub read_back : {A : Type 0} (xs : List A) (i : ℕ) (new x : A) → i < length xs → x ≡ get_or (set xs i new) i x → x ≡ new
read_back xs i new x within is = is ∙ get_or-set_same xs i new x within

-- the last entry is that of the room that was set
pub last_is : (rooms : List RoomState) (region : ℕ) (room : RoomState) → region < length rooms → last_entry (set rooms region room) (Some region) ≡ Some room.entry
last_is rooms region room within =
    ap (option_map (λ (r : RoomState). r.entry)) (slice_get-get_or (set rooms region room) region room (omega (arith, length-set rooms region room)) ∙ ap Some (get_or-set_same rooms region room room within))

pub same_state : {D : Type 0} (fabric : Fabric) (decider : D) (count : ℕ) (cells cells_are : State) (ports ports_are : List PortState) (last last_is : Option Entry) → cells ≡ cells_are → ports ≡ ports_are → last ≡ last_is
    → ◌≡◌ {A = EngineState D} (record { fabric = fabric; decider = decider; cells = cells; ports = ports; count = count; last = last })
    (record { fabric = fabric; decider = decider; cells = cells_are; ports = ports_are; count = count; last = last_is })
same_state fabric decider count cells cells_are ports ports_are last last_is of_cells of_ports of_last = cc

module _ (fabric : Fabric) (Allows : ℕ → Reading → Entry → Type 0) (cells : State) (ports : List PortState) (readings : List Reading) (rooms : List RoomState) (last : Option ℕ) (region : ℕ)
    (engine : IsEngine fabric Allows cells ports readings rooms last) (within : region < fabric.regions) where
  pub within_readings : region < length readings
  within_readings = omega (arith, engine.readings_len)

  pub within_rooms : region < length rooms
  within_rooms = omega (arith, engine.rooms_len)

  unread_at : (old : Reading) → old ≡ get_or readings region old → IsUnread fabric region old
  unread_at old is = engine.unread region old (slice_get_read readings (length readings) region old refl within_readings is)

  room_at : (old : RoomState) → old ≡ get_or rooms region old → IsRoomOf fabric region old
  room_at old is = engine.made region old (slice_get_read rooms (length rooms) region old refl within_rooms is)

  -- the region's words, read anew
  pub read_anew : (old new : Reading) (seen_cells : State) (seen_ports : List PortState) → old ≡ get_or readings region old
      → ((f : Fabric) (r : ℕ) → IsUnread f r old → new ≡ reading_of f r seen_cells (offers_of seen_ports)) → seen_cells ≡ cells → seen_ports ≡ ports
      → new ≡ reading_of fabric region cells (offers_of ports)
  read_anew old new seen_cells seen_ports is_old reads same_cells same_ports =
      reads fabric region (unread_at old is_old) ∙ (ap (λ (s : State). reading_of fabric region s (offers_of seen_ports)) same_cells ∙ ap (λ (s : List PortState). reading_of fabric region cells (offers_of s)) same_ports)

  fits_reading : (entry : Entry) → Allows region (reading_of fabric region cells (offers_of ports)) entry → IsFitting fabric (reading_of fabric region cells (offers_of ports)) entry
  fits_reading entry allowed = engine.fits region (reading_of fabric region cells (offers_of ports)) entry within (reading_is_unread fabric region cells (offers_of ports)).of_region allowed

  -- the room has room for what is allowed
  pub allowed_has_room : (room : RoomState) → room ≡ get_or rooms region room → (entry : Entry) → Allows region (reading_of fabric region cells (offers_of ports)) entry → HasRoomFor room entry
  allowed_has_room room is entry allowed =
      room_has_room fabric region room entry (room_at room is) (fitting_have_room fabric (reading_of fabric region cells (offers_of ports)) entry (fits_reading entry allowed))

  pub room_region : (room : RoomState) → room ≡ get_or rooms region room → room.entry.region ≡ region
  room_region room is = region_of_room fabric region room (room_at room is)

  -- an allowed entry has places that there are
  pub allowed_within : (entry : Entry) (n m : ℕ) → Allows region (reading_of fabric region cells (offers_of ports)) entry → n ≡ length cells → m ≡ length ports → IsWithin n m entry
  allowed_within entry n m allowed of_cells of_ports =
      fitting_within fabric (reading_of fabric region cells (offers_of ports)) entry n m (of_cells ∙ engine.cells_len) (of_ports ∙ engine.ports_len) (fits_reading entry allowed)

  pub allowed_agrees : (entry : Entry) → Allows region (reading_of fabric region cells (offers_of ports)) entry → Agrees cells entry
  allowed_agrees entry allowed = fitting_agree fabric region cells (offers_of ports) entry engine.cells_len engine.values (fits_reading entry allowed)

  -- a region that was read
  pub quiet_engine : (new : Reading) → new ≡ reading_of fabric region cells (offers_of ports) → IsEngine fabric Allows cells ports (set readings region new) rooms last
  quiet_engine new is = record {
    lawful = engine.lawful;
    fits = engine.fits;
    cells_len = engine.cells_len;
    values = engine.values;
    ports_len = engine.ports_len;
    readings_len = length-set readings region new ∙ engine.readings_len;
    unread = each_set (IsUnread fabric) readings region new within_readings (subst (IsUnread fabric region) (sym is) (reading_is_unread fabric region cells (offers_of ports))) engine.unread;
    rooms_len = engine.rooms_len;
    made = engine.made;
    known = engine.known;
  }

  -- a region that fired
  pub fired_engine : (new : Reading) (old room : RoomState) (after : State) (ports_after : List PortState) (number : ℕ) → new ≡ reading_of fabric region cells (offers_of ports) → old ≡ get_or rooms region old
      → IsRewritten old room → Allows region (reading_of fabric region cells (offers_of ports)) room.entry → after ≡ carried_out cells room.entry → ports_after ≡ answered ports number room.entry
      → IsEngine fabric Allows after ports_after (set readings region new) (set rooms region room) (Some region)
  fired_engine new old room after ports_after number is is_old rewritten allowed carried answers = record {
    lawful = engine.lawful;
    fits = engine.fits;
    cells_len = ap length carried ∙ (length-map-range_with_len _ 0 (length cells) ∙ engine.cells_len);
    values = subst AreValues (sym carried) (values_after fabric (reading_of fabric region cells (offers_of ports)) room.entry cells (fits_reading room.entry allowed) engine.values);
    ports_len = ap length answers ∙ (length-map-range_with_len _ 0 (length ports) ∙ engine.ports_len);
    readings_len = length-set readings region new ∙ engine.readings_len;
    unread = (quiet_engine new is).unread;
    rooms_len = length-set rooms region room ∙ engine.rooms_len;
    made = each_set (IsRoomOf fabric) rooms region room within_rooms (rewritten_room fabric region old room (room_at old is_old) rewritten) engine.made;
    known = within;
  }

-- a room as it was made
pub new_room : (fabric : Fabric) (region : ℕ) (room : RoomState) → room ≡ room_of fabric region → IsRoomOf fabric region room
new_room fabric region room is = subst (IsRoomOf fabric region) (sym is) refl

-- a room that was made for counts
pub counted_room : (fabric : Fabric) (takers fillers : List CellSpec) (there : List PortSpec) → takers ≡ fabric.cells → fillers ≡ fabric.cells → there ≡ fabric.ports → (takes fills ports : List ℕ)
    → AreCounts (λ region cell. nat_eq cell.taker region) fabric.regions takers takes → AreCounts (λ region cell. nat_eq cell.filler region) fabric.regions fillers fills
    → AreCounts (λ region port. nat_eq port.region region) fabric.regions there ports → (region take fill port : ℕ) → region < fabric.regions
    → take ≡ get_or takes region take → fill ≡ get_or fills region fill → port ≡ get_or ports region port → room_for region take fill port ≡ room_of fabric region
counted_room fabric takers fillers there are_takers are_fillers are_ports takes fills ports takes_are fills_are ports_are region take fill port within is_take is_fill is_port =
    let of_takes = is_take ∙ takes_are.each region take within in
    let of_fills = is_fill ∙ fills_are.each region fill within in
    let of_ports = is_port ∙ ports_are.each region port within in
    cc
