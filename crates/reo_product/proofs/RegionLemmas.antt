-- The automata with a region's number are those of the region.
use Rattle.std.proofs.Common.{Result, Ok, Err, IfOk, IfErr, ◌≡◌, ℕ, ◌+◌, ◌-◌, ◌<◌, ◌⊎◌, inl, inr, zero, suc, List, [], ◌∷◌, length, map, All, get_or, slice_get, Bool, true, false, cond, Option, Some, None, refl, sym, ◌∙◌, ap, subst, arith}
use Rattle.std.specs.Prelude.{nat_lt, nat_eq}
use Rattle.std.specs.List.{range_with_len}
use Rattle.std.specs.Option.{option_map_or}
use Rattle.std.specs.List.Sorted.{IsStrictlyIncreasing}
use Rattle.std.proofs.lemmas.Bool.{false≢true, cases_Bool, ltb-true, ltb-false, lt-ltb, eqb-true, eq-eqb}
use Rattle.std.proofs.lemmas.Option.{slice_get_within, get_or_from_slice_get, same_Some}
use Rattle.std.proofs.lemmas.List.{get_or-map, length-map}
use Rattle.std.proofs.lemmas.List.Kept.{IsStrictlyIncreasing-filter}
use Rattle.reo_net.specs.declared.circuit.Channel.{Channel}
use Rattle.reo_net.specs.declared.circuit.RawCircuit.{RawCircuit}
use Rattle.reo_net.specs.Kind.{is_fifo}
use Rattle.reo_net.specs.Regions.{Automaton, OfChannel, OfNode, automaton_number, IsSynchronous, SameRegion, IsRegion}
use Rattle.reo_net.specs.Regions.SameRegion.{here, linked}
use Rattle.reo_automata.specs.Template.{automaton_of}
use Rattle.reo_automata.proofs.HasLemmas.{range_rises}
use Rattle.reo_growth.specs.Lists.{Among}
use Rattle.reo_growth.proofs.ListLemmas.{among_at, among_filter, among_place, among_range, all_among, filter_gives, range_gives}
use Rattle.reo_cut.specs.declared.cut.Cut.{Cut}
use Rattle.reo_cut.specs.Cut.{IsCut, IsOfRegion, is_buffer}
use Rattle.reo_product.specs.Places.{AreRegionAutomata}
use Rattle.reo_product.specs.Region.{is_of, is_at, numbers_of}
use Rattle.reo_product.proofs.BridgeLemmas.{number_of, one_place}

pub numbers_rise : (region_of : List (Option ℕ)) (region : ℕ) → IsStrictlyIncreasing (numbers_of region_of region)
numbers_rise region_of region = IsStrictlyIncreasing-filter (is_at region_of region) (range_with_len 0 (length region_of)) (range_rises (length region_of))

pub all_from_among : {A : Type 0} (P : A → Type 0) (xs : List A) → ((x : A) → Among x xs → P x) → All P xs
all_from_among P xs each = λ k d below. each (get_or xs k d) (among_at xs k d below)

pub numbers_below : (region_of : List (Option ℕ)) (region : ℕ) → All (λ x. x < length region_of) (numbers_of region_of region)
numbers_below region_of region = all_from_among (λ x. x < length region_of) (numbers_of region_of region)
    (λ x at. let e = range_gives 0 (length region_of) x (filter_gives (is_at region_of region) (range_with_len 0 (length region_of)) x at).0 in omega (arith, e.1))

module _ (c : RawCircuit) where
  pub sync_to : (x y : Automaton) → SameRegion c x y → IsSynchronous c y
  sync_to x y (here s) = s
  sync_to x y (linked name path s at_z at_y) = s

  pub follow : (x y z : Automaton) → SameRegion c x y → SameRegion c y z → SameRegion c x z
  follow x y z before (here s) = before
  follow x y z before (linked {x = u} name path s at_u at_z) = linked name (follow x y u before path) s at_u at_z

  pub turn : (x y : Automaton) → SameRegion c x y → SameRegion c y x
  turn x y (here s) = here s
  turn x y (linked {x = z} name path s at_z at_y) = follow y z x (linked name (here s) (sync_to x z path) at_y at_z) (turn x z path)

  pub of_number : (x : Automaton) → IsSynchronous c x → automaton_of c (automaton_number c x) ≡ x
  of_number (OfChannel k) s = ap (λ b. cond b (OfChannel k) (OfNode (k - length c.channels))) (lt-ltb k (length c.channels) (slice_get_within c.channels k s.0 s.1))
  of_number (OfNode node) s = go (nat_lt (length c.channels + node) (length c.channels)) refl
    where
      go : (b : Bool) → nat_lt (length c.channels + node) (length c.channels) ≡ b → cond b (OfChannel (length c.channels + node)) (OfNode (length c.channels + node - length c.channels)) ≡ OfNode node
      go true is = let h = ltb-true (length c.channels + node) (length c.channels) is in absurd (omega arith)
      go false is = ap OfNode (omega arith)

module _ (c : RawCircuit) (cut : Cut) (is : IsCut c cut) (region : ℕ) (root : Automaton) (at : slice_get is.roots region ≡ Some root) where
  entry : ℕ → Option ℕ
  entry n = get_or cut.region_of n None

  of_entry : (n : ℕ) (o : Option ℕ) → slice_get cut.region_of n ≡ Some o → is_at cut.region_of region n ≡ is_of region o
  of_entry n o found = ap (is_of region) (get_or_from_slice_get cut.region_of n o None found)

  -- an automaton with the region's number is no FIFO1
  synchronous : (n : ℕ) → n < length cut.region_of → is_at cut.region_of region n ≡ true → IsSynchronous c (automaton_of c n)
  synchronous n below h = go (nat_lt n (length c.channels)) refl
    where
      channel_at : n < length c.channels → (channel : Channel) → slice_get c.channels n ≡ Some channel → IsSynchronous c (OfChannel n)
      channel_at inside channel found = decide (cases_Bool (is_fifo channel.kind))
        where
          decide : (is_fifo channel.kind ≡ true) ⊎ (is_fifo channel.kind ≡ false) → IsSynchronous c (OfChannel n)
          decide (inl fifo) =
              let buffer : is_buffer c n ≡ true = ap (λ o. option_map_or (λ (ch : Channel). is_fifo ch.kind) o false) found ∙ fifo in
              absurd (false≢true (sym (of_entry n None (is.buffers n buffer)) ∙ h))
          decide (inr other) = (channel, found, other)

      go : (b : Bool) → nat_lt n (length c.channels) ≡ b → IsSynchronous c (cond b (OfChannel n) (OfNode (n - length c.channels)))
      go true h' = let inside = ltb-true n (length c.channels) h' in let e = some_at c.channels n inside in channel_at inside e.0 e.1
        where
          some_at : {A : Type 0} (xs : List A) (k : ℕ) → k < length xs → (x : A) × (slice_get xs k ≡ Some x)
          some_at (x ∷ xs) zero less = (x, refl)
          some_at (x ∷ xs) (suc k) less = some_at xs k (omega arith)
          some_at [] k less = absurd (omega arith)
      go false h' = let above = ltb-false n (length c.channels) h' in omega (arith, is.automata)

  number_is : (r : ℕ) → nat_eq r region ≡ true → r ≡ region
  number_is r h = eqb-true r region h

  some_region : (x : Automaton) → IsSynchronous c x → is_at cut.region_of region (automaton_number c x) ≡ true → SameRegion c root x
  some_region x s h = go (is.region_of x s)
    where
      go : (r : ℕ) × (slice_get cut.region_of (automaton_number c x) ≡ Some (Some r)) × IsOfRegion c is.roots x r → SameRegion c root x
      go e =
          let same : e.0 ≡ region = number_is e.0 (sym (of_entry (automaton_number c x) (Some e.0) e.1) ∙ h) in
          let begins : e.2.root ≡ root = same_Some e.2.root root (sym e.2.at ∙ ap (slice_get is.roots) same ∙ at) in
          subst (λ y. SameRegion c y x) begins e.2.same

  root_is : (r : ℕ) (y : Automaton) → slice_get is.roots r ≡ Some y → IsRegion c y
  root_is r y found = all_among (IsRegion c) is.roots is.regions.each y
      (subst (λ z. Among z is.roots) (get_or_from_slice_get is.roots r y y found) (among_at is.roots r y (slice_get_within is.roots r y found)))

  -- two regions with a common automaton are one
  one_region : (x : Automaton) (r : ℕ) (y : Automaton) → slice_get is.roots r ≡ Some y → SameRegion c y x → SameRegion c root x → r ≡ region
  one_region x r y found path_y path =
      let there = follow c root x y path (turn c y x path_y) in
      let less = (root_is region root at).least y there in
      let more = (root_is r y found).least root (turn c root y there) in
      let numbers : List ℕ = map (automaton_number c) is.roots in
      let number_at : (k : ℕ) (z : Automaton) → slice_get is.roots k ≡ Some z → get_or numbers k 0 ≡ automaton_number c z = λ k z e. get_or_of_map is.roots k z e in
      one_place numbers is.regions.rising r region
      (omega (arith, slice_get_within is.roots r y found, length-map is.roots (automaton_number c)))
      (omega (arith, slice_get_within is.roots region root at, length-map is.roots (automaton_number c)))
      (number_at r y found ∙ omega arith ∙ sym (number_at region root at))
    where
      get_or_of_map : (xs : List Automaton) (k : ℕ) (z : Automaton) → slice_get xs k ≡ Some z → get_or (map (automaton_number c) xs) k 0 ≡ automaton_number c z
      get_or_of_map xs k z e = get_or-map (automaton_number c) xs k z 0 (slice_get_within xs k z e) ∙ ap (automaton_number c) (get_or_from_slice_get xs k z z e)

  pub are_automata : AreRegionAutomata c root (numbers_of cut.region_of region)
  are_automata = record {
    rising = numbers_rise cut.region_of region;
    only = λ i below.
        let n = get_or (numbers_of cut.region_of region) i 0 in
        let e = filter_gives (is_at cut.region_of region) (range_with_len 0 (length cut.region_of)) n (among_at (numbers_of cut.region_of region) i 0 below) in
        let inside = range_gives 0 (length cut.region_of) n e.0 in
        some_region (automaton_of c n) (synchronous n (omega (arith, inside.1)) e.1) (ap (is_at cut.region_of region) (number_of c n) ∙ e.1);
    all = λ x path.
        let s = sync_to c root x path in
        let e = is.region_of x s in
        let same : e.0 ≡ region = one_region x e.0 e.2.root e.2.at e.2.same path in
        let n = automaton_number c x in
        let h : is_at cut.region_of region n ≡ true = of_entry n (Some e.0) e.1 ∙ ap (λ r. nat_eq r region) same ∙ eq-eqb region region refl in
        let place = among_place (numbers_of cut.region_of region) n
        (among_filter (is_at cut.region_of region) (range_with_len 0 (length cut.region_of)) n (among_range 0 (length cut.region_of) n (omega arith) (omega (arith, slice_get_within cut.region_of n (Some e.0) e.1))) h) in
        (place.0, place.1, ap (automaton_of c) (place.2 0) ∙ of_number c x s);
  }

pub ok_more : {A E : Type 0} (r : Result A E) (P Q : A → Type 0) → ((a : A) → P a → Q a) → IfOk r P → IfOk r Q
ok_more (Ok a) P Q more h = more a h
ok_more (Err e) P Q more h = h

pub err_more : {A E : Type 0} (r : Result A E) (P Q : E → Type 0) → ((e : E) → P e → Q e) → IfErr r P → IfErr r Q
err_more (Ok a) P Q more h = h
err_more (Err e) P Q more h = more e h
