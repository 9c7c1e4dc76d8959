-- What a region reads where an entry names no place of it, and where a port is offered or idle anew.
use Rattle.std.proofs.Common.{◌≡◌, ℕ, zero, suc, ◌+◌, ◌<◌, ◌≤◌, ◌⊎◌, inl, inr, ⊎_elim, List, [], ◌∷◌, length, map, slice_get, get_or, set, Bool, true, false, cond, ◌||◌, Option, Some, None, refl, sym, ap, ◌∙◌, subst, arith, zero-add, length-set}
use Rattle.std.specs.Prelude.{nat_eq}
use Rattle.std.specs.Option.{option_map}
use Rattle.std.proofs.lemmas.Bool.{cases_eq, cases_lt, eqb-true, or_cases}
use Rattle.std.proofs.lemmas.List.{get_or_past}
use Rattle.std.proofs.lemmas.List.FromFn.{get_or-map-range_with_len, length-map-range_with_len}
use Rattle.std.proofs.lemmas.Option.{slice_get-map}
use Rattle.reo_value.specs.declared.value.Value.{Value}
use Rattle.reo_fabric.specs.declared.entry.Entry.{Entry}
use Rattle.reo_fabric.specs.declared.fabric.CellSpec.{CellSpec}
use Rattle.reo_fabric.specs.declared.fabric.PortSpec.{PortSpec}
use Rattle.reo_fabric.specs.declared.fabric.Fabric.{Fabric}
use Rattle.reo_fabric.specs.declared.reading.Reading.{Reading}
use Rattle.reo_fabric.specs.declared.port_state.PortState.{PortState}
use Rattle.reo_fabric.specs.declared.port_state.PortState.TheVariants.{Idle, Offered, Answered}
use Rattle.reo_fabric.specs.Entry.{State, at_place, at_each_place, content_at, content_after, carried_out}
use Rattle.reo_fabric.specs.Reading.{Offers, places_of, cell_word, state_word, data_word, offer_at, reading_of}
use Rattle.reo_fabric.specs.Engine.{EngineState, port_at, port_after, offer_of, offers_of, answered, after_entry, engine_reading, with_port, without_answer, taken_answer}
use Rattle.reo_fabric.proofs.PlaceLemmas.{at_place_holds}
use Rattle.reo_session.specs.declared.watch.Watch.{Watch}
use Rattle.reo_session.specs.Watch.{AreApart, AsleepAreQuiet, HasPlacesOf, IsUntouched, IsWatch, KeepsAsleep, WakesFor}
use Rattle.reo_session.proofs.CollectLemmas.{port_set_same, port_set_other}

one_place : {B : Type 0} (f g : ℕ → B) (first : ℕ) (rest : List ℕ) (b : Bool) → (b ≡ true → f first ≡ g first) → map f rest ≡ map g rest → map f (cond b (first ∷ rest) rest) ≡ map g (cond b (first ∷ rest) rest)
one_place f g first rest true here same = ap (λ y. y ∷ map f rest) (here refl) ∙ ap (λ ys. g first ∷ ys) same
one_place f g first rest false here same = same

-- what stands at the places of those that pass a test
pub places_same : {A B : Type 0} (test : A → Bool) (f g : ℕ → B) (first : ℕ) (xs : List A) → ((k : ℕ) (x : A) → slice_get xs k ≡ Some x → test x ≡ true → f (first + k) ≡ g (first + k))
    → map f (places_of test first xs) ≡ map g (places_of test first xs)
places_same test f g first [] same = refl
places_same test f g first (x ∷ xs) same =
    one_place f g first (places_of test (first + 1) xs) (test x) (λ passes. subst (λ n. f n ≡ g n) (let e : first + 0 ≡ first = omega arith in e) (same 0 x refl passes))
    (places_same test f g (first + 1) xs (λ k y at passes. subst (λ n. f n ≡ g n) (let e : first + suc k ≡ first + 1 + k = omega arith in e) (same (suc k) y at passes)))

-- a list that has at a place what another has there
pub each_same : {A : Type 0} (f : ℕ → A) (xs : List A) (p : ℕ) (d : A) → f p ≡ get_or xs p d → get_or (at_each_place f xs) p d ≡ get_or xs p d
each_same f xs p d same =
    ⊎_elim
    (λ below. get_or-map-range_with_len f 0 (length xs) p p d below (zero-add p) ∙ same)
    (λ past. get_or_past (at_each_place f xs) p d (omega (arith, past, length-map-range_with_len f 0 (length xs))) ∙ sym (get_or_past xs p d past))
    (cases_lt p (length xs))

none_there : (table : List ℕ) (places : List (ℕ × Value)) (region place : ℕ) → AreApart table places region → slice_get table place ≡ Some region → at_place places place ≡ None
none_there table places region place apart is = go (at_place places place) refl
  where
    go : (o : Option Value) → at_place places place ≡ o → at_place places place ≡ None
    go None e = e
    go (Some value) e = absurd (at_place_holds (λ p. slice_get table p.0 ≡ Some region → ⊥) places place value apart e is)

module _ (fabric : Fabric) (region : ℕ) where
  -- a reading where the words are the same
  pub reads_same : (state after : State) (offers later : Offers)
      → ((cell : ℕ) (spec : CellSpec) → slice_get fabric.cells cell ≡ Some spec → (nat_eq spec.filler region || nat_eq spec.taker region) ≡ true → content_at after cell ≡ content_at state cell)
      → ((port : ℕ) (spec : PortSpec) → slice_get fabric.ports port ≡ Some spec → nat_eq spec.region region ≡ true → offer_at later port ≡ offer_at offers port)
      → reading_of fabric region after later ≡ reading_of fabric region state offers
  reads_same state after offers later same_cells same_ports =
      let cell_was : ℕ → ℕ × ℕ = λ cell. (cell, cell_word (content_at state cell)) in
      let cell_is : ℕ → ℕ × ℕ = λ cell. (cell, cell_word (content_at after cell)) in
      let port_was : ℕ → ℕ × ℕ × ℕ = λ port. (port, state_word (offer_at offers port), data_word (offer_at offers port)) in
      let port_is : ℕ → ℕ × ℕ × ℕ = λ port. (port, state_word (offer_at later port), data_word (offer_at later port)) in
      ap (λ (cells : List (ℕ × ℕ)). record (reading_of fabric region after later) { cells = cells })
      (places_same (λ cell. nat_eq cell.filler region || nat_eq cell.taker region) cell_is cell_was 0 fabric.cells
      (λ k spec at own. subst (λ n. cell_is n ≡ cell_was n) (sym (zero-add k)) (ap (λ content. (k, cell_word content)) (same_cells k spec at own))))
      ∙ ap (λ (ports : List (ℕ × ℕ × ℕ)). record (reading_of fabric region state later) { ports = ports })
      (places_same (λ port. nat_eq port.region region) port_is port_was 0 fabric.ports
      (λ k spec at own. subst (λ n. port_is n ≡ port_was n) (sym (zero-add k)) (ap (λ offer. (k, state_word offer, data_word offer)) (same_ports k spec at own))))

  pub offers_same : {D : Type 0} (engine : EngineState D) (ports : List PortState) → engine.fabric ≡ fabric
      → ((port : ℕ) (spec : PortSpec) → slice_get fabric.ports port ≡ Some spec → nat_eq spec.region region ≡ true → offer_at (offers_of ports) port ≡ offer_at (offers_of engine.ports) port)
      → engine_reading (record engine { ports = ports }) region ≡ engine_reading engine region
  offers_same engine ports is same =
      subst (λ f. reading_of f region engine.cells (offers_of ports) ≡ reading_of f region engine.cells (offers_of engine.ports)) (sym is)
      (reads_same engine.cells engine.cells (offers_of engine.ports) (offers_of ports) (λ cell spec found own. refl) same)

-- an offer in a list of ports
pub offer_is : (ports : List PortState) (port : ℕ) → offer_at (offers_of ports) port ≡ offer_of (port_at ports port)
offer_is [] port = refl
offer_is (state ∷ ports) zero = refl
offer_is (state ∷ ports) (suc port) = offer_is ports port

-- an entry that names no place of the region leaves its reading
module _ {D : Type 0} (engine : EngineState D) (watch : Watch) (is : IsWatch engine.fabric watch) (entry : Entry) (region : ℕ) (apart : IsUntouched watch entry region) where
  at_filler : (cell : ℕ) (spec : CellSpec) → slice_get engine.fabric.cells cell ≡ Some spec → spec.filler ≡ region → slice_get watch.fillers.items cell ≡ Some region
  at_filler cell spec found own =
      ap (λ xs. slice_get xs cell) is.fillers ∙ slice_get-map (λ (s : CellSpec). s.filler) engine.fabric.cells cell ∙ ap (option_map (λ (s : CellSpec). s.filler)) found ∙ ap Some own

  at_taker : (cell : ℕ) (spec : CellSpec) → slice_get engine.fabric.cells cell ≡ Some spec → spec.taker ≡ region → slice_get watch.takers.items cell ≡ Some region
  at_taker cell spec found own =
      ap (λ xs. slice_get xs cell) is.takers ∙ slice_get-map (λ (s : CellSpec). s.taker) engine.fabric.cells cell ∙ ap (option_map (λ (s : CellSpec). s.taker)) found ∙ ap Some own

  cell_stays : (cell : ℕ) (spec : CellSpec) → slice_get engine.fabric.cells cell ≡ Some spec → (nat_eq spec.filler region || nat_eq spec.taker region) ≡ true
      → content_at (carried_out engine.cells entry) cell ≡ content_at engine.cells cell
  cell_stays cell spec found own =
      each_same (λ c. content_after (at_place entry.takes c) (at_place entry.fills c) (content_at engine.cells c)) engine.cells cell None
      (ap (λ o. content_after o (at_place entry.fills cell) (content_at engine.cells cell)) not_taken ∙ ap (λ o. content_after None o (content_at engine.cells cell)) not_filled)
    where
      not_taken : at_place entry.takes cell ≡ None
      not_taken =
          ⊎_elim
          (λ fills. none_there watch.fillers.items entry.takes region cell apart.takes_fillers (at_filler cell spec found (eqb-true spec.filler region fills)))
          (λ takes. none_there watch.takers.items entry.takes region cell apart.takes_takers (at_taker cell spec found (eqb-true spec.taker region takes)))
          (or_cases (nat_eq spec.filler region) (nat_eq spec.taker region) own)

      not_filled : at_place entry.fills cell ≡ None
      not_filled =
          ⊎_elim
          (λ fills. none_there watch.fillers.items entry.fills region cell apart.fills_fillers (at_filler cell spec found (eqb-true spec.filler region fills)))
          (λ takes. none_there watch.takers.items entry.fills region cell apart.fills_takers (at_taker cell spec found (eqb-true spec.taker region takes)))
          (or_cases (nat_eq spec.filler region) (nat_eq spec.taker region) own)

  port_stays_there : (port : ℕ) (spec : PortSpec) → slice_get engine.fabric.ports port ≡ Some spec → nat_eq spec.region region ≡ true
      → offer_at (offers_of (answered engine.ports engine.count entry)) port ≡ offer_at (offers_of engine.ports) port
  port_stays_there port spec found own =
      offer_is (answered engine.ports engine.count entry) port
      ∙ ap offer_of (each_same (λ p. port_after engine.count (at_place entry.puts p) (at_place entry.gets p) (port_at engine.ports p)) engine.ports port Idle
      (ap (λ o. port_after engine.count o (at_place entry.gets port) (port_at engine.ports port)) (none_there watch.regions.items entry.puts region port apart.puts at)
      ∙ ap (λ o. port_after engine.count None o (port_at engine.ports port)) (none_there watch.regions.items entry.gets region port apart.gets at)))
      ∙ sym (offer_is engine.ports port)
    where
      at : slice_get watch.regions.items port ≡ Some region
      at = ap (λ xs. slice_get xs port) is.regions ∙ slice_get-map (λ (s : PortSpec). s.region) engine.fabric.ports port ∙ ap (option_map (λ (s : PortSpec). s.region)) found ∙ ap Some (eqb-true spec.region region own)

  pub reading_stays : engine_reading (after_entry engine entry) region ≡ engine_reading engine region
  reading_stays =
      reads_same engine.fabric region engine.cells (carried_out engine.cells entry) (offers_of engine.ports) (offers_of (answered engine.ports engine.count entry)) cell_stays port_stays_there

-- what is at one port does not tell at another's region
pub post_keeps : {D : Type 0} (engine : EngineState D) (watch : Watch) → IsWatch engine.fabric watch → (place : ℕ) (state : PortState) (region : ℕ) → (slice_get watch.regions.items place ≡ Some region → ⊥)
    → engine_reading (with_port engine place state) region ≡ engine_reading engine region
post_keeps engine watch is place state region apart =
    offers_same engine.fabric region engine (set engine.ports place state) refl (λ port spec found own.
    let at : slice_get watch.regions.items port ≡ Some region =
    ap (λ xs. slice_get xs port) is.regions ∙ slice_get-map (λ (s : PortSpec). s.region) engine.fabric.ports port ∙ ap (option_map (λ (s : PortSpec). s.region)) found ∙ ap Some (eqb-true spec.region region own) in
    offer_is (set engine.ports place state) port
    ∙ ap offer_of (port_set_other engine.ports place port state (λ same. apart (ap (slice_get watch.regions.items) same ∙ at)))
    ∙ sym (offer_is engine.ports port))

-- an answer that is taken was no offer
pub answer_keeps : {D : Type 0} (engine : EngineState D) (place region : ℕ) → engine_reading (taken_answer engine place) region ≡ engine_reading engine region
answer_keeps engine place region = go (port_at engine.ports place) refl
  where
    go : (state : PortState) → port_at engine.ports place ≡ state → engine_reading (without_answer engine place state) region ≡ engine_reading engine region
    go Idle e = refl
    go (Offered offer) e = refl
    go (Answered value number) e =
        offers_same engine.fabric region engine (set engine.ports place Idle) refl (λ port spec found own.
        offer_is (set engine.ports place Idle) port
        ∙ ⊎_elim
        (λ same. ap (λ p. offer_of (port_at (set engine.ports place Idle) p)) (sym same) ∙ there (cases_lt place (length engine.ports)) ∙ sym (ap offer_of e) ∙ ap (λ p. offer_of (port_at engine.ports p)) same)
        (λ apart. ap offer_of (port_set_other engine.ports place port Idle apart))
        (cases_eq place port)
        ∙ sym (offer_is engine.ports port))
      where
        there : (place < length engine.ports) ⊎ (length engine.ports ≤ place) → offer_of (port_at (set engine.ports place Idle) place) ≡ None
        there (inl below) = ap offer_of (port_set_same engine.ports place Idle below)
        there (inr past) = ap offer_of (get_or_past (set engine.ports place Idle) place Idle (omega (arith, past, length-set engine.ports place Idle)))

-- the watch has the places of the fabric still
pub still_watch : (fabric : Fabric) (old new : Watch) → IsWatch fabric old → HasPlacesOf old new → IsWatch fabric new
still_watch fabric old new is same = record {
  awake = same.awake ∙ is.awake;
  regions = same.regions ∙ is.regions;
  fillers = same.fillers ∙ is.fillers;
  takers = same.takers ∙ is.takers;
}

pub same_places : (watch : Watch) → HasPlacesOf watch watch
same_places watch = record { awake = refl; regions = refl; fillers = refl; takers = refl }

pub more_places : (old middle new : Watch) → HasPlacesOf old middle → HasPlacesOf middle new → HasPlacesOf old new
more_places old middle new first second = record {
  awake = second.awake ∙ first.awake;
  regions = second.regions ∙ first.regions;
  fillers = second.fillers ∙ first.fillers;
  takers = second.takers ∙ first.takers;
}

-- what is asleep after a turn is quiet
pub quiet_then : {D : Type 0} (first_choice : ℕ → Reading → Option ℕ) (old fired new : EngineState D) (was woken watch : Watch) (entry : Entry) → IsWatch old.fabric was → AsleepAreQuiet first_choice old was.awake.items
    → fired ≡ after_entry old entry → WakesFor entry was woken → KeepsAsleep fired woken.awake.items new watch.awake.items → AsleepAreQuiet first_choice new watch.awake.items
quiet_then first_choice old fired new was woken watch entry is quiet after wakes keeps region asleep =
    let then = keeps region asleep in
    ap (first_choice region) (then.1 ∙ ap (λ (e : EngineState _). engine_reading e region) after ∙ reading_stays old was is entry region (wakes.apart region then.0)) ∙ quiet region (wakes.were region then.0)
