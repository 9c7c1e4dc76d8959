-- The vertices of a region's web are the vertices of the region.
use Rattle.std.proofs.Common.{◌≡◌, ℕ, ◌<◌, ◌≤◌, inl, inr, ⊎_elim, List, [], ◌∷◌, length, map, filter, get_or, true, ◌||◌, Option, Some, None, refl, sym, ◌∙◌, ap, subst, arith}
use Rattle.std.specs.List.{range_with_len}
use Rattle.std.specs.List.Sorted.{IsStrictlyIncreasing}
use Rattle.std.proofs.lemmas.Bool.{true≢false, cases_lt, false_from_ne_true}
use Rattle.std.proofs.lemmas.List.Kept.{IsStrictlyIncreasing-filter, AllPairs-from_increasing}
use Rattle.reo_net.specs.declared.circuit.RawCircuit.{RawCircuit}
use Rattle.reo_net.specs.Regions.{Automaton, automaton_number, HasName, FiresNoCellTwice}
use Rattle.reo_net.proofs.RegionListLemmas.{StandsIn, same_list}
use Rattle.reo_automata.proofs.HasLemmas.{range_rises}
use Rattle.reo_growth.specs.declared.web.Web.{Web}
use Rattle.reo_growth.specs.Lists.{has, Among}
use Rattle.reo_growth.specs.Web.{names_of, links_of}
use Rattle.reo_growth.specs.Growth.{Vertex, fired as web_fired, is_listed, is_open, least_open, agrees, fits, with_link, IsVertex as WebIsVertex}
use Rattle.reo_growth.specs.Growth.{Move as WebMove}
use Rattle.reo_growth.specs.Growth.IsVertex.{alone as web_alone, child as web_child}
use Rattle.reo_growth.proofs.ListLemmas.{same_tests, has_among, among_has, among_at, among_place, among_map, map_gives, among_filter, filter_gives, among_range, range_gives, any_gives, find_gives, find_fails}
use Rattle.reo_growth.proofs.VertexLemmas.{name_within, link_within, fired_from, listed_from, listed_gives, open_from, open_gives, agrees_gives, agrees_from, fits_gives, fits_from}
use Rattle.reo_product.specs.RegionWeb.{name_at, IsRegionWeb}
use Rattle.reo_product.specs.Growth.{Move, PartialFiring, IsTransition, fired, IsOpen, IsLeastOpen, Agrees}
use Rattle.reo_product.proofs.BridgeLemmas.{one_place, at, one_number, number_at, of_region, automaton_at, names_are, links_are, of_place, of_name}
use Rattle.reo_product.proofs.PlaceLemmas.{not_down}
use Rattle.reo_product.proofs.NamedLemmas.{rising_named}
use Rattle.reo_product.proofs.RegionLemmas.{follow, turn}

pub rising_same : (xs ys : List ℕ) → IsStrictlyIncreasing xs → IsStrictlyIncreasing ys → ((name : ℕ) → has xs name ≡ has ys name) → xs ≡ ys
unfolding StandsIn
rising_same xs ys rises_x rises_y same = same_list xs ys rises_x rises_y (λ n at. over xs ys same n at) (λ n at. over ys xs (λ name. sym (same name)) n at)
  where
    over : (xs ys : List ℕ) → ((name : ℕ) → has xs name ≡ has ys name) → (n : ℕ) → (k : ℕ) × (k < length xs) × (get_or xs k 0 ≡ n) → (k : ℕ) × (k < length ys) × (get_or ys k 0 ≡ n)
    over xs ys same n at =
        let here = among_has xs n (subst (λ m. Among m xs) at.2 (among_at xs at.0 0 at.1)) in
        let p = among_place ys n (has_among ys n (sym (same n) ∙ here)) in
        (p.0, p.1, p.2 0)

module _ (c : RawCircuit) (root : Automaton) (names : List ℕ) (w : Web) (web : IsRegionWeb c root names w) where
  abbrev pub auto : ℕ → Automaton
  auto = at c root names w web

  pub below_region : (i : ℕ) → i < length w.automata → i < length web.region
  below_region i below = omega (arith, web.as_many)

  -- the names of a link, rising
  pub link_names : List ℕ → List ℕ
  link_names link = map (name_at names) (filter (has link) (range_with_len 0 (length names)))

  pub link_at : (link : List ℕ) (place : ℕ) → place < length names → has (link_names link) (name_at names place) ≡ has link place
  unfolding link_names
  link_at link place below =
      let chosen : List ℕ = filter (has link) (range_with_len 0 (length names)) in
      same_tests (has (map (name_at names) chosen) (name_at names place)) (has link place)
      (λ h.
      let m = map_gives (name_at names) chosen (name_at names place) (has_among (map (name_at names) chosen) (name_at names place) h) in
      let f = filter_gives (has link) (range_with_len 0 (length names)) m.0 m.1 in
      let same = one_place names web.rising m.0 place (omega (arith, (range_gives 0 (length names) m.0 f.0).1)) below m.2 in
      ap (has link) (sym same) ∙ f.1)
      (λ h. among_has (map (name_at names) chosen) (name_at names place)
      (among_map (name_at names) chosen place (among_filter (has link) (range_with_len 0 (length names)) place (among_range 0 (length names) place (omega arith) (omega arith)) h)))

  link_gives : (link : List ℕ) (name : ℕ) → has (link_names link) name ≡ true → (place : ℕ) × (place < length names) × (name_at names place ≡ name) × (has link place ≡ true)
  unfolding link_names
  link_gives link name h =
      let chosen : List ℕ = filter (has link) (range_with_len 0 (length names)) in
      let m = map_gives (name_at names) chosen name (has_among (map (name_at names) chosen) name h) in
      let f = filter_gives (has link) (range_with_len 0 (length names)) m.0 m.1 in
      (m.0, omega (arith, (range_gives 0 (length names) m.0 f.0).1), m.2, f.1)

  link_rises : (link : List ℕ) → IsStrictlyIncreasing (link_names link)
  unfolding link_names
  link_rises link =
      rising_named names web.rising (filter (has link) (range_with_len 0 (length names)))
      (λ place at. let f = filter_gives (has link) (range_with_len 0 (length names)) place at in omega (arith, (range_gives 0 (length names) place f.0).1))
      (IsStrictlyIncreasing-filter (has link) (range_with_len 0 (length names)) (range_rises (length names)))

  -- a list of the web's automata as one of the circuit's
  unfoldable pub named_move : WebMove → Move
  named_move move = record { automaton = at c root names w web move.automaton; fires = link_names move.fires }

  unfoldable pub named_list : Vertex → PartialFiring
  named_list v = map named_move v

  fired_at : (v : Vertex) (place : ℕ) → place < length names → fired (named_list v) (name_at names place) ≡ web_fired v place
  unfolding named_list named_move fired web_fired
  fired_at [] place below = refl
  fired_at (move ∷ v) place below =
      ap (λ b. b || fired (map named_move v) (name_at names place)) (link_at move.fires place below) ∙ ap (λ b. has move.fires place || b) (fired_at v place below)

  fired_place : (v : Vertex) (name : ℕ) → fired (named_list v) name ≡ true → (place : ℕ) × (place < length names) × (name_at names place ≡ name) × (web_fired v place ≡ true)
  unfolding named_list named_move fired
  fired_place v name h =
      let f = any_gives (λ (move : Move). has move.fires name) (map named_move v) h in
      let m = map_gives named_move v f.0 f.1 in
      let g = link_gives m.0.fires name (ap (λ (move : Move). has move.fires name) m.2 ∙ f.2) in
      (g.0, g.1, g.2, fired_from v m.0 g.0 m.1 g.3)

  -- links are transitions
  pub transition : (i : ℕ) (link : List ℕ) → Among link (links_of w i) → IsTransition c (auto i) (link_names link)
  transition i link its =
      let below = link_within w i link its in
      let a = automaton_at c root names w web i below in
      let there = subst (Among link) (links_are c root names w web i below) its in
      record {
        rising = link_rises link;
        own = λ name h. let p = link_gives link name h in subst (HasName c (auto i)) p.2 (a.named p.0 (a.own link there p.0 p.3));
        fires = a.fires (has (link_names link)) link there (λ place h. link_at link place (a.below place h));
      }

  pub link_of : (i : ℕ) (ns : List ℕ) → i < length w.automata → IsTransition c (auto i) ns → (link : List ℕ) × Among link (links_of w i) × (link_names link ≡ ns)
  link_of i ns below t =
      let a = automaton_at c root names w web i below in
      let l = a.links (has ns) t.fires in (
        l.0,
        subst (Among l.0) (sym (links_are c root names w web i below)) l.1,
        rising_same (link_names l.0) ns (link_rises l.0) t.rising (λ name. same_tests (has (link_names l.0) name) (has ns name)
            (λ h. let p = link_gives l.0 name h in ap (has ns) (sym p.2) ∙ l.2 p.0 (a.own l.0 l.1 p.0 p.3) ∙ p.3)
            (λ h.
            let e = a.every name (t.own name h) in
            ap (has (link_names l.0)) (sym e.2) ∙ link_at l.0 e.0 (a.below e.0 e.1) ∙ sym (l.2 e.0 e.1) ∙ ap (has ns) e.2 ∙ h)),
      )

  -- no FIFO1 has both ends
  pub fits_there : (v : Vertex) → fits w v ≡ true → FiresNoCellTwice c (fired (named_list v))
  fits_there v fit k channel found fifo fires_a fires_b =
      let p = fired_place v _ fires_a in
      let q = fired_place v _ fires_b in
      fits_gives w v fit p.0 q.0 (web.all_cells k channel found fifo p.0 q.0 p.1 q.1 p.2 q.2) p.3 q.3

  pub fits_here : (v : Vertex) → FiresNoCellTwice c (fired (named_list v)) → fits w v ≡ true
  fits_here v none = fits_from w v (λ a b at fires_a fires_b.
      let e = web.cells a b at in
      none e.2.0 e.2.1 e.2.2 e.2.3
      (ap (fired (named_list v)) (sym e.2.4) ∙ fired_at v a e.0 ∙ fires_a)
      (ap (fired (named_list v)) (sym e.2.5) ∙ fired_at v b e.1 ∙ fires_b))

  -- the numbers of automata rise with their places
  pub number_up : (i j : ℕ) → i ≤ j → j < length w.automata → automaton_number c (auto i) ≤ automaton_number c (auto j)
  number_up i j before below =
      let h = not_down web.region web.in_order i j before (below_region j below) in
      omega (arith, number_at c root names w web i, number_at c root names w web j)

  pub number_back : (i j : ℕ) → i < length w.automata → j < length w.automata → automaton_number c (auto i) ≤ automaton_number c (auto j) → i ≤ j
  number_back i j in_i in_j h = ⊎_elim
      (λ less. let up = AllPairs-from_increasing web.region web.in_order j i 0 less (below_region i in_i) in absurd (omega (arith, number_at c root names w web i, number_at c root names w web j)))
      (λ more. more)
      (cases_lt j i)

  -- what is true of a vertex: each move is by a link of its automaton
  unfoldable pub Its : Vertex → Type 0
  Its v = (move : WebMove) → Among move v → Among move.fires (links_of w move.automaton)

  pub its_of : (i : ℕ) (v : Vertex) → WebIsVertex w i v → Its v
  unfolding Its with_link
  its_of i v (web_alone link its fit) move (inl is) = subst (λ (m : WebMove). Among m.fires (links_of w m.automaton)) is its
  its_of i v (web_alone link its fit) move (inr never) = elim never [ ]
  its_of i v (web_child u x link vertex least above its agree fit) move (inl is) = subst (λ (m : WebMove). Among m.fires (links_of w m.automaton)) is its
  its_of i v (web_child u x link vertex least above its agree fit) move (inr later) = its_of i u vertex move later

  module _ (v : Vertex) (its : Its v) where
    move_below : (move : WebMove) → Among move v → move.automaton < length w.automata
    unfolding Its
    move_below move at = link_within w move.automaton move.fires (its move at)

    pub agrees_there : (i : ℕ) (link : List ℕ) → i < length w.automata → agrees w v i link ≡ true → Agrees c (named_list v) (auto i) (link_names link)
    unfolding named_list named_move
    agrees_there i link below agree other at name has_x has_y =
        let m = map_gives named_move v other at in
        let in_m = move_below m.0 m.1 in
        let y = ap (λ (move : Move). move.automaton) m.2 in
        let p = (automaton_at c root names w web i below).every name has_x in
        let q = (automaton_at c root names w web m.0.automaton in_m).every name (subst (λ z. HasName c z name) (sym y) has_y) in
        let at_p = ap (λ ns. has ns p.0) (names_are c root names w web i below) ∙ p.1 in
        let at_q = ap (λ ns. has ns q.0) (names_are c root names w web m.0.automaton in_m) ∙ q.1 in
        let below_p = (of_place c root names w web i p.0 at_p).0 in
        let same : q.0 ≡ p.0 = one_place names web.rising q.0 p.0 (of_place c root names w web m.0.automaton q.0 at_q).0 below_p (q.2 ∙ sym p.2) in
        let one = agrees_gives w v i link agree m.0 p.0 m.1 at_p (ap (has (names_of w m.0.automaton)) (sym same) ∙ at_q) in
        ap (has (link_names link)) (sym p.2) ∙ link_at link p.0 below_p ∙ one ∙ sym (link_at m.0.fires p.0 below_p) ∙ ap (has (link_names m.0.fires)) p.2 ∙ ap (λ (move : Move). has move.fires name) m.2

    pub agrees_here : (i : ℕ) (link : List ℕ) → Agrees c (named_list v) (auto i) (link_names link) → agrees w v i link ≡ true
    unfolding named_list named_move
    agrees_here i link agree = agrees_from w v i link (λ move place at at_x at_y.
        let o = of_place c root names w web i place at_x in
        let p = of_place c root names w web move.automaton place at_y in
        sym (link_at link place o.0) ∙ agree (named_move move) (among_map named_move v move at) (name_at names place) o.1 p.1 ∙ link_at move.fires place o.0)

    -- what is open
    open_there : (r i : ℕ) → r < length w.automata → is_open w v i ≡ true → IsOpen c (auto r) (named_list v) (auto i)
    unfolding named_list named_move
    open_there r i in_r h =
        let o = open_gives w v i h in
        let below = name_within w i o.1.0 o.1.1 in
        let p = of_place c root names w web i o.1.0 o.1.1 in
        record {
          of_region = follow c (auto r) root (auto i) (turn c root (auto r) (of_region c root names w web r (below_region r in_r))) p.2;
          not_listed = λ listed.
              let m = map_gives named_move v listed.0 listed.1 in
              let is = ap (λ (move : Move). move.automaton) m.2 ∙ listed.2 in
              let same = one_number c root names w web m.0.automaton i (below_region m.0.automaton (move_below m.0 m.1)) (below_region i below) is in
              true≢false (sym (ap (is_listed v) (sym same) ∙ listed_from v m.0 m.1) ∙ o.0);
          name = name_at names o.1.0;
          its = p.1;
          fires = fired_at v o.1.0 p.0 ∙ o.1.2;
        }

    open_here : (r : ℕ) (y : Automaton) → r < length w.automata → IsOpen c (auto r) (named_list v) y → (j : ℕ) × (j < length w.automata) × (auto j ≡ y) × (is_open w v j ≡ true)
    unfolding named_list named_move
    open_here r y in_r is =
        let region = follow c root (auto r) y (of_region c root names w web r (below_region r in_r)) is.of_region in
        let n = of_name c root names w web y is.name region is.its in
        let place = of_place c root names w web n.0 n.3.0 n.3.1 in
        let f = fired_place v is.name is.fires in
        let same : f.0 ≡ n.3.0 = one_place names web.rising f.0 n.3.0 f.1 place.0 (f.2 ∙ sym n.3.2) in
        let new = false_from_ne_true (is_listed v n.0) (λ h.
        let m = listed_gives v n.0 h in
        is.not_listed (named_move m.0, among_map named_move v m.0 m.1, ap (at c root names w web) m.2 ∙ n.2)) in
        (n.0, name_within w n.0 n.3.0 n.3.1, n.2, open_from w v n.0 n.3.0 new n.3.1 (ap (web_fired v) (sym same) ∙ f.3))

    pub least_there : (r i : ℕ) → r < length w.automata → least_open w v ≡ Some i → IsLeastOpen c (auto r) (named_list v) (auto i)
    unfolding least_open
    least_there r i in_r h =
        let f = find_gives (is_open w v) 0 (length w.automata) i h in
        record {
          is_open = open_there r i in_r f.2;
          least = λ y is.
              let o = open_here r y in_r is in
              let later : i ≤ o.0 = ⊎_elim (λ less. absurd (true≢false (sym o.3 ∙ f.3 o.0 (omega arith) less))) (λ more. more) (cases_lt o.0 i) in
              subst (λ z. automaton_number c (auto i) ≤ automaton_number c z) o.2 (number_up i o.0 later o.1);
        }

    least_is : (r j : ℕ) (y : Automaton) → r < length w.automata → IsLeastOpen c (auto r) (named_list v) y → j < length w.automata → auto j ≡ y → is_open w v j ≡ true
        → (o : Option ℕ) → least_open w v ≡ o → o ≡ Some j
    unfolding least_open
    least_is r j y in_r is below same opened None none = absurd (true≢false (sym opened ∙ find_fails (is_open w v) 0 (length w.automata) none j (omega arith) (omega arith)))
    least_is r j y in_r is below same opened (Some i) some =
        let f = find_gives (is_open w v) 0 (length w.automata) i some in
        let in_i : i < length w.automata = omega (arith, f.1) in
        let order = is.least (auto i) (open_there r i in_r f.2) in
        let before = number_back j i below in_i (subst (λ z. automaton_number c z ≤ automaton_number c (auto i)) (sym same) order) in
        ap Some (⊎_elim (λ less. absurd (true≢false (sym opened ∙ f.3 j (omega arith) less))) (λ more. let e : i ≡ j = omega arith in e) (cases_lt j i))

    pub least_here : (r : ℕ) (y : Automaton) → r < length w.automata → IsLeastOpen c (auto r) (named_list v) y → (j : ℕ) × (j < length w.automata) × (auto j ≡ y) × (least_open w v ≡ Some j)
    least_here r y in_r is =
        let o = open_here r y in_r is.is_open in
        (o.0, o.1, o.2, least_is r o.0 y in_r is o.1 o.2 o.3 (least_open w v) refl)
