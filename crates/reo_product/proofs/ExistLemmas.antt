-- Each region of a circuit has a web, by the definitions alone.
use Rattle.std.proofs.Common.{◌≡◌, ℕ, zero, suc, ◌+◌, ◌<◌, ◌≤◌, ◌⊎◌, ⊎_elim, inl, inr, Bool, true, false, List, [], ◌∷◌, ◌++◌, length, map, filter, slice_get, Option, Some, None, refl, sym, ◌∙◌, ap, subst, arith, add-one}
use Rattle.std.specs.Prelude.{flat_map}
use Rattle.std.specs.List.{range_with_len}
use Rattle.std.specs.List.Sorted.{IsStrictlyIncreasing}
use Rattle.std.proofs.lemmas.Bool.{false≢true, true≢false, cases_Bool, cases_lt}
use Rattle.std.proofs.lemmas.List.Kept.{IsStrictlyIncreasing-filter}
use Rattle.reo_net.specs.declared.circuit.Channel.{Channel}
use Rattle.reo_net.specs.declared.circuit.RawCircuit.{RawCircuit}
use Rattle.reo_net.specs.Kind.{is_fifo}
use Rattle.reo_net.specs.Names.{end_a, name_count}
use Rattle.reo_net.specs.Checks.{IsCircuit}
use Rattle.reo_net.specs.Regions.{Automaton, IsSynchronous}
use Rattle.reo_net.proofs.NameLemmas.{slice_get_found}
use Rattle.reo_automata.specs.declared.template.Link.{Link}
use Rattle.reo_automata.specs.declared.template.Template.{Template}
use Rattle.reo_automata.specs.Template.{automaton_of, IsTemplate}
use Rattle.reo_automata.proofs.HasLemmas.{range_rises}
use Rattle.reo_automata.proofs.TemplateLaw.{of_channel, of_node}
use Rattle.reo_growth.specs.declared.web.Automaton.{Automaton as WebAutomaton}
use Rattle.reo_growth.specs.Lists.{has, Among}
use Rattle.reo_growth.proofs.ListLemmas.{has_among, among_has, among_at, among_place, among_filter, filter_gives, among_range, map_gives, among_flat_map, flat_map_gives, all_among}
use Rattle.reo_cut.proofs.ExistLaw.{cut_exists}
use Rattle.reo_product.specs.RegionWeb.{name_at}
use Rattle.reo_product.specs.Places.{ArePlacesOf, AreKnown, ArePaired, IsPlacedTemplate, IsKnownTemplate, AreTemplates, AreNamesOf, AreCells, FindsCell, AreRegionAutomata}
use Rattle.reo_product.specs.Region.{numbers_of}
use Rattle.reo_product.specs.Laws.{RegionsHaveWebs}
use Rattle.reo_product.proofs.PlacedLemmas.{among_index, left_partner}
use Rattle.reo_product.proofs.RegionLemmas.{follow, turn, all_from_among, are_automata}
use Rattle.reo_product.proofs.WebLemmas.{cells_none, cells_some, has_name_below, templates_known, region_web}

-- a partner for each element makes a list of partners
paired_exist : {A B : Type 0} (R : A → B → Type 0) (xs : List A) → ((x : A) → Among x xs → (y : B) × R x y) → (ys : List B) × ArePaired R xs ys
paired_exist R [] each = ([], tt)
paired_exist R (x ∷ xs) each =
    let y = each x (inl refl) in
    let rest = paired_exist R xs (λ z at. each z (inr at)) in
    (y.0 ∷ rest.0, (y.1, rest.1))

module _ (c : RawCircuit) where
  -- the automata of a region, by numbers
  automata_exist : IsCircuit c → (root : Automaton) → IsSynchronous c root → (numbers : List ℕ) × AreRegionAutomata c root numbers
  automata_exist circuit root sync =
      let cut = cut_exists c circuit in
      let e = cut.1.region_of root sync in
      let least = e.2.root in
      let are = are_automata c cut.0 cut.1 e.0 least e.2.at in (
        numbers_of cut.0.region_of e.0,
        record {
          rising = are.rising;
          only = λ i below. follow c root least _ (turn c least root e.2.same) (are.only i below);
          all = λ x path. are.all x (follow c least root x e.2.same path);
        },
      )

  template_exists : (number : ℕ) → (t : Template) × IsTemplate c (automaton_of c number) t
  template_exists number = ⊎_elim
      (λ below.
      let channel = slice_get_found c.channels number below in
      (_, of_channel c number _ c.channels channel.0 (end_a c number) refl below refl refl))
      (λ past. (_, of_node c number _ c.channels refl past refl))
      (cases_lt number (length c.channels))

  -- the names of templates of automata
  module _ (numbers : List ℕ) (templates : List Template) (are : AreTemplates c numbers templates) where
    all_names : List ℕ
    all_names = flat_map (λ (t : Template). t.names) templates

    name_below : (name : ℕ) → Among name all_names → name < name_count c
    unfolding all_names
    name_below name at =
        let f = flat_map_gives (λ (t : Template). t.names) templates name at in
        let i = among_index templates f.0 f.1 in
        let x = left_partner (λ x. IsTemplate c (automaton_of c x)) numbers templates are i.0 f.0 i.1 in
        has_name_below c x.0 name ((x.2.named name).0 (among_has f.0.names name f.2))

    names_exist : (names : List ℕ) × AreNamesOf templates names
    unfolding all_names
    names_exist =
        let chosen : List ℕ = filter (has all_names) (range_with_len 0 (name_count c)) in (
          chosen,
          record {
            rising = IsStrictlyIncreasing-filter (has all_names) (range_with_len 0 (name_count c)) (range_rises (name_count c));
            every = λ t name at h.
                let in_all = among_flat_map (λ (t : Template). t.names) templates t name at (has_among t.names name h) in
                let below = name_below name in_all in
                among_has chosen name (among_filter (has all_names) (range_with_len 0 (name_count c)) name (among_range 0 (name_count c) name (omega arith) (omega arith)) (among_has all_names name in_all));
            only = λ name h.
                let f = filter_gives (has all_names) (range_with_len 0 (name_count c)) name (has_among chosen name h) in
                let g = flat_map_gives (λ (t : Template). t.names) templates name (has_among all_names name f.1) in
                (g.0, g.1, among_has g.0.names name g.2);
          },
        )

  -- the cells, channel by channel
  module _ (names : List ℕ) (rising : IsStrictlyIncreasing names) where
    absent : (a : ℕ) → has names a ≡ false → (p : ℕ) → p < length names → name_at names p ≡ a → ⊥
    absent a none p below is = true≢false (sym (among_has names a (subst (λ n. Among n names) is (among_at names p 0 below))) ∙ none)

    present : (a : ℕ) → has names a ≡ true → (p : ℕ) × (p < length names) × (name_at names p ≡ a)
    present a some = let p = among_place names a (has_among names a some) in (p.0, p.1, p.2 0)

    finds : (b : Bool) (a : ℕ) → (o : Option (ℕ × ℕ)) × FindsCell names b a o
    finds false a = (None, λ never p q below_p below_q is_p is_q. false≢true never)
    finds true a = go (cases_Bool (has names a)) (cases_Bool (has names (a + 1)))
      where
        go : (has names a ≡ true) ⊎ (has names a ≡ false) → (has names (a + 1) ≡ true) ⊎ (has names (a + 1) ≡ false) → (o : Option (ℕ × ℕ)) × FindsCell names true a o
        go (inl some) (inl next) = let p = present a some in let q = present (a + 1) next in (Some (p.0, q.0), (refl, p.1, q.1, p.2, q.2))
        go (inl some) (inr none) = (None, λ is p q below_p below_q is_p is_q. absent (a + 1) none q below_q is_q)
        go (inr none) next = (None, λ is p q below_p below_q is_p is_q. absent a none p below_p is_p)

    cells_exist : (i : ℕ) → i ≤ length c.channels → (cells : List (ℕ × ℕ)) × AreCells c names i cells
    cells_exist zero within = ([], record { only = λ a b at. elim at [ ]; all = λ k channel below found fifo a b in_a in_b at_a at_b. absurd (omega arith) })
    cells_exist (suc i) within =
        let channel = slice_get_found c.channels i (omega arith) in
        let before = cells_exist i (omega arith) in
        subst (λ n. (cells : List (ℕ × ℕ)) × AreCells c names n cells) (add-one i) (go channel.0 channel.1 before (finds (is_fifo channel.0.kind) (end_a c i)))
      where
        go : (channel : Channel) → slice_get c.channels i ≡ Some channel → (cells : List (ℕ × ℕ)) × AreCells c names i cells → (o : Option (ℕ × ℕ)) × FindsCell names (is_fifo channel.kind) (end_a c i) o → (cells : List (ℕ × ℕ)) × AreCells c names (i + 1) cells
        go channel found before (None, none) = (before.0, cells_none c names i (end_a c i) before.0 channel found refl before.1 none)
        go channel found before (Some cell, some) = (before.0 ++ cell ∷ [], cells_some c names rising i (end_a c i) before.0 cell channel found refl before.1 some)

-- known names have places
places_exist : (names list : List ℕ) → ((name : ℕ) → Among name list → (place : ℕ) × (place < length names) × (name_at names place ≡ name)) → (places : List ℕ) × ArePlacesOf names list places
places_exist names [] known = ([], record { named = refl; within = λ k d below. absurd (omega arith) })
places_exist names (name ∷ list) known =
    let p = known name (inl refl) in
    let rest = places_exist names list (λ other at. known other (inr at)) in (
      p.0 ∷ rest.0,
      record {
        named = ap (λ n. n ∷ map (name_at names) rest.0) p.2 ∙ ap (λ ns. name ∷ ns) rest.1.named;
        within = all_from_among (λ place. place < length names) (p.0 ∷ rest.0) (λ place at. ⊎_elim
            (λ is. subst (λ q. q < length names) is p.1)
            (λ later. all_among (λ place. place < length names) rest.0 rest.1.within place later)
            at);
      },
    )

placed_exists : (names : List ℕ) (t : Template) → IsKnownTemplate names t → (a : WebAutomaton) × IsPlacedTemplate names t a
placed_exists names t known =
    let own = places_exist names t.names (λ name at. all_among (λ n. (place : ℕ) × (place < length names) × (name_at names place ≡ n)) t.names known.known name at) in
    let links = paired_exist (ArePlacesOf names) (map (λ (link : Link). link.fires) t.links) (λ list at.
    let m = map_gives (λ (link : Link). link.fires) t.links list at in
    let all = all_among (λ (link : Link). AreKnown names link.fires) t.links known.links_known m.0 m.1 in
    subst (λ ns. (places : List ℕ) × ArePlacesOf names ns places) m.2
    (places_exist names m.0.fires (λ name there. all_among (λ n. (place : ℕ) × (place < length names) × (name_at names place ≡ n)) m.0.fires all name there))) in
    (record { names = own.0; links = links.0 }, record { names_placed = own.1; links_placed = links.1 })

pub regions_have_webs : RegionsHaveWebs
regions_have_webs c circuit root sync =
    let numbers = automata_exist c circuit root sync in
    let templates = paired_exist (λ x. IsTemplate c (automaton_of c x)) numbers.0 (λ x at. template_exists c x) in
    let names = names_exist c numbers.0 templates.0 templates.1 in
    let known = templates_known c numbers.0 templates.0 templates.1 names.0 names.1 in
    let placed = paired_exist (IsPlacedTemplate names.0) templates.0 (λ t at. placed_exists names.0 t (all_among (IsKnownTemplate names.0) templates.0 known t at)) in
    let cells = cells_exist c names.0 names.1.rising (length c.channels) (omega arith) in
    (names.0, _, region_web c root numbers.0 templates.0 names.0 placed.0 cells.0 (length names.0) numbers.1 templates.1 names.1 placed.1 cells.1 refl)
