-- What is connected in the web of a region is a connected firing of the region.
use Rattle.std.proofs.Common.{◌≡◌, ℕ, ◌-◌, ◌<◌, ◌⊎◌, inl, inr, ⊎_elim, List, [], length, get_or, Bool, true, false, cond, refl, sym, ◌∙◌, ap, subst, arith}
use Rattle.std.specs.Prelude.{nat_lt}
use Rattle.std.specs.List.{list_any}
use Rattle.std.specs.Option.{option_map_or}
use Rattle.std.specs.List.Sorted.{IsStrictlyIncreasing}
use Rattle.std.proofs.lemmas.Bool.{true≢false, cases_Bool, cases_order, ltb-false, false_from_ne_true}
use Rattle.std.proofs.lemmas.Option.{slice_get-get_or}
use Rattle.std.proofs.lemmas.List.Kept.{AllPairs-from_increasing}
use Rattle.reo_net.specs.declared.circuit.RawCircuit.{RawCircuit}
use Rattle.reo_net.specs.Names.{end_a, end_b}
use Rattle.reo_net.specs.Regions.{Automaton, OfChannel, OfNode, automaton_number, HasName, SameRegion, AutomatonFires, IsQuiet, HangsTogether, Moves, IsConnectedFiring}
use Rattle.reo_net.specs.Regions.HangsTogether.{here as together_here, linked as together_linked}
use Rattle.reo_automata.specs.Template.{automaton_of}
use Rattle.reo_growth.specs.declared.web.Automaton.{Automaton as WebAutomaton}
use Rattle.reo_growth.specs.declared.web.Web.{Web}
use Rattle.reo_growth.specs.Lists.{has, Among}
use Rattle.reo_growth.specs.Web.{names_of, links_of, Moves as WebMoves, FiresAs, Together, here, joined, IsConnected}
use Rattle.reo_growth.proofs.ListLemmas.{any_from, any_gives, has_among, among_has}
use Rattle.reo_growth.proofs.VertexLemmas.{name_within}
use Rattle.reo_product.specs.RegionWeb.{name_at, LinkFires, IsWebAutomaton, IsRegionWeb}
use Rattle.reo_product.specs.Laws.{Matches, WebsAreRegions}

-- a rising list has a number at one place
pub one_place : (xs : List ℕ) → IsStrictlyIncreasing xs → (i j : ℕ) → i < length xs → j < length xs → get_or xs i 0 ≡ get_or xs j 0 → i ≡ j
one_place xs rising i j in_i in_j same = go (cases_order i j)
  where
    go : (i ≡ j) ⊎ ((i < j) ⊎ (j < i)) → i ≡ j
    go (inl e) = e
    go (inr (inl less)) = let h = AllPairs-from_increasing xs rising i j 0 less in_j in absurd (omega arith)
    go (inr (inr more)) = let h = AllPairs-from_increasing xs rising j i 0 more in_i in absurd (omega arith)

-- a number is that of its automaton
pub number_of : (c : RawCircuit) (n : ℕ) → automaton_number c (automaton_of c n) ≡ n
number_of c n = go (nat_lt n (length c.channels)) refl
  where
    go : (b : Bool) → nat_lt n (length c.channels) ≡ b → automaton_number c (cond b (OfChannel n) (OfNode (n - length c.channels))) ≡ n
    go true is = refl
    go false is = let above = ltb-false n (length c.channels) is in omega arith

module _ (c : RawCircuit) (root : Automaton) (names : List ℕ) (w : Web) (web : IsRegionWeb c root names w) where
  pub at : ℕ → Automaton
  at i = automaton_of c (get_or web.region i 0)

  pub one_number : (i j : ℕ) → i < length web.region → j < length web.region → at i ≡ at j → i ≡ j
  unfolding at
  one_number i j in_i in_j same =
      one_place web.region web.in_order i j in_i in_j (sym (number_of c (get_or web.region i 0)) ∙ ap (automaton_number c) same ∙ number_of c (get_or web.region j 0))

  pub number_at : (i : ℕ) → automaton_number c (at i) ≡ get_or web.region i 0
  unfolding at
  number_at i = number_of c (get_or web.region i 0)

  pub of_region : (i : ℕ) → i < length web.region → SameRegion c root (at i)
  unfolding at
  of_region i below = web.only i below

  pub place_in : (x : Automaton) → SameRegion c root x → (i : ℕ) × (i < length web.region) × (at i ≡ x)
  unfolding at
  place_in x path = web.all x path

  pub nobody : WebAutomaton
  nobody = record { names = []; links = [] }

  pub automaton_at : (i : ℕ) → i < length w.automata → IsWebAutomaton c names (at i) (get_or w.automata i nobody)
  unfolding at
  automaton_at i below = web.each i (get_or w.automata i nobody) (slice_get-get_or w.automata i nobody below)

  pub names_are : (i : ℕ) → i < length w.automata → names_of w i ≡ (get_or w.automata i nobody).names
  unfolding names_of
  names_are i below = ap (λ o. option_map_or (λ automaton. automaton.names) o []) (slice_get-get_or w.automata i nobody below)

  pub links_are : (i : ℕ) → i < length w.automata → links_of w i ≡ (get_or w.automata i nobody).links
  unfolding links_of
  links_are i below = ap (λ o. option_map_or (λ automaton. automaton.links) o []) (slice_get-get_or w.automata i nobody below)

  -- a name of the web is the region's, and the other way round
  pub of_place : (i place : ℕ) → has (names_of w i) place ≡ true → (place < length names) × (HasName c (at i) (name_at names place)) × (SameRegion c root (at i))
  unfolding at
  of_place i place h =
      let below = name_within w i place h in
      let a = automaton_at i below in
      let its = ap (λ ns. has ns place) (sym (names_are i below)) ∙ h in
      (a.below place its, a.named place its, web.only i (omega (arith, web.as_many)))

  pub of_name : (x : Automaton) (name : ℕ) → SameRegion c root x → HasName c x name
      → (i : ℕ) × (i < length web.region) × (at i ≡ x) × ((place : ℕ) × (has (names_of w i) place ≡ true) × (name_at names place ≡ name))
  unfolding at
  of_name x name region its =
      let i = web.all x region in
      let below : i.0 < length w.automata = omega (arith, i.1, web.as_many) in
      let e = (automaton_at i.0 below).every name (subst (λ y. HasName c y name) (sym i.2) its) in
      (i.0, i.1, i.2, (e.0, ap (λ ns. has ns e.0) (names_are i.0 below) ∙ e.1, e.2))

  -- where an automaton fires a transition, some link of it in the web is fired
  pub link_of_fires : (i : ℕ) (places fires : ℕ → Bool) → i < length w.automata → ((place : ℕ) → has (names_of w i) place ≡ true → places place ≡ fires (name_at names place)) → AutomatonFires c (at i) fires
      → (link : List ℕ) × FiresAs w places i link
  unfolding at
  link_of_fires i places fires below same moved =
      let link = (automaton_at i below).links fires moved in (
        link.0,
        record {
          its = subst (Among link.0) (sym (links_are i below)) link.1;
          same = λ place its. same place its ∙ link.2 place (ap (λ ns. has ns place) (sym (names_are i below)) ∙ its);
        },
      )

  module _ (places fires : ℕ → Bool) (match : Matches names places fires) where
    fires_at : (place : ℕ) → places place ≡ true → fires (name_at names place) ≡ true
    fires_at place h = sym (match.at place (match.within place h)) ∙ h

    place_fires : (place : ℕ) → place < length names → fires (name_at names place) ≡ true → places place ≡ true
    place_fires place below h = match.at place below ∙ h

    moves_there : (i : ℕ) → WebMoves w places i → Moves c root fires (at i)
    moves_there i m = let o = of_place i m.name m.its in record { of_region = o.2; name = name_at names m.name; has = o.1; fired = fires_at m.name m.fires }

    moves_here : (x : Automaton) → Moves c root fires x → (i : ℕ) × (i < length web.region) × (at i ≡ x) × WebMoves w places i
    moves_here x m =
        let o = of_name x m.name m.of_region m.has in
        let p = of_place o.0 o.3.0 o.3.1 in
        (o.0, o.1, o.2, record { name = o.3.0; its = o.3.1; fires = place_fires o.3.0 p.0 (ap fires o.3.2 ∙ m.fired) })

    link_there : (i : ℕ) (link : List ℕ) → i < length w.automata → FiresAs w places i link → LinkFires names (get_or w.automata i nobody) link fires
    link_there i link below f place its =
        let h = ap (λ ns. has ns place) (names_are i below) ∙ its in
        sym (match.at place (of_place i place h).0) ∙ f.same place h

    each_there : IsConnected w places → (x : Automaton) → SameRegion c root x → IsQuiet c x fires ⊎ AutomatonFires c x fires
    unfolding at
    each_there connected x region = go (cases_Bool (list_any places (names_of w i.0)))
      where
        i : (i : ℕ) × (i < length web.region) × (automaton_of c (get_or web.region i 0) ≡ x)
        i = web.all x region

        below : i.0 < length w.automata
        below = omega (arith, i.1, web.as_many)

        go : (list_any places (names_of w i.0) ≡ true) ⊎ (list_any places (names_of w i.0) ≡ false) → IsQuiet c x fires ⊎ AutomatonFires c x fires
        go (inl moves) =
            let f = any_gives places (names_of w i.0) moves in
            let link = connected.each i.0 (record { name = f.0; its = among_has (names_of w i.0) f.0 f.1; fires = f.2 }) in
            inr (subst (λ y. AutomatonFires c y fires) i.2
            ((automaton_at i.0 below).fires fires link.0 (subst (Among link.0) (links_are i.0 below) link.1.its) (link_there i.0 link.0 below link.1)))
        go (inr quiet) = inl (λ name its.
            let e = (automaton_at i.0 below).every name (subst (λ y. HasName c y name) (sym i.2) its) in
            let h = ap (λ ns. has ns e.0) (names_are i.0 below) ∙ e.1 in
            false_from_ne_true (fires name) (λ fired.
            true≢false (sym (any_from places (names_of w i.0) e.0 (has_among (names_of w i.0) e.0 h) (place_fires e.0 (of_place i.0 e.0 h).0 (ap fires e.2 ∙ fired))) ∙ quiet)))

    path_there : (i j : ℕ) → Together w places i j → HangsTogether c root fires (at i) (at j)
    path_there i j here = together_here
    path_there i j (joined {x = u} place path at_u at_j h) =
        let o = of_place u place at_u in
        let p = of_place j place at_j in
        together_linked (name_at names place) (path_there i u path) p.2 o.1 p.1 (fires_at place h)

    pub to_region : IsConnected w places → IsConnectedFiring c root fires
    to_region connected = record {
      some_name = name_at names connected.moving.name;
      some_fires = fires_at connected.moving.name connected.moving.fires;
      within = λ name fired.
          let p = match.every name fired in
          let i = connected.within p.0 (place_fires p.0 p.1 (ap fires p.2 ∙ fired)) in
          let o = of_place i.0 p.0 i.1 in
          (at i.0, o.2, subst (HasName c (at i.0)) p.2 o.1);
      each = each_there connected;
      cells = λ k channel found fifo fired_a fired_b.
          let p = match.every (end_a c k) fired_a in
          let q = match.every (end_b c k) fired_b in
          connected.cells p.0 q.0 (web.all_cells k channel found fifo p.0 q.0 p.1 q.1 p.2 q.2) (place_fires p.0 p.1 (ap fires p.2 ∙ fired_a)) (place_fires q.0 q.1 (ap fires q.2 ∙ fired_b));
      together = λ x y moves_x moves_y.
          let i = moves_here x moves_x in
          let j = moves_here y moves_y in
          subst (λ z. HangsTogether c root fires z y) i.2 (subst (λ z. HangsTogether c root fires (at i.0) z) j.2 (path_there i.0 j.0 (connected.together i.0 j.0 i.3 j.3)));
    }

    -- along a path in the region all is of the region
    stays : (x y : Automaton) → SameRegion c root x → HangsTogether c root fires x y → SameRegion c root y
    stays x y region together_here = region
    stays x y region (together_linked name path of_region at_x at_y h) = of_region

    path_here : (i : ℕ) → i < length web.region → (y : Automaton) → HangsTogether c root fires (at i) y → (j : ℕ) → j < length web.region → at j ≡ y → Together w places i j
    unfolding at
    path_here i in_i y together_here j in_j is = subst (Together w places i) (sym (one_number j i in_j in_i is)) here
    path_here i in_i y (together_linked {x = z} name path of_region at_z at_y h) j in_j is =
        let region_z = stays (at i) z (web.only i in_i) path in
        let u = of_name z name region_z at_z in
        let v = of_name y name of_region at_y in
        let in_v : v.0 ≡ j = one_number v.0 j v.1 in_j (v.2 ∙ sym is) in
        let same : u.3.0 ≡ v.3.0 = one_place names web.rising u.3.0 v.3.0 (of_place u.0 u.3.0 u.3.1).0 (of_place v.0 v.3.0 v.3.1).0 (u.3.2 ∙ sym v.3.2) in
        joined u.3.0 (path_here i in_i z path u.0 u.1 u.2) u.3.1
        (subst (λ n. has (names_of w n) u.3.0 ≡ true) in_v (ap (λ p. has (names_of w v.0) p) same ∙ v.3.1))
        (place_fires u.3.0 (of_place u.0 u.3.0 u.3.1).0 (ap fires u.3.2 ∙ h))

    each_here : IsConnectedFiring c root fires → (i : ℕ) → WebMoves w places i → (link : List ℕ) × FiresAs w places i link
    unfolding at
    each_here firing i m =
        let below = name_within w i m.name m.its in
        let o = of_place i m.name m.its in
        let fired = fires_at m.name m.fires in
        let moved : AutomatonFires c (at i) fires = ⊎_elim (λ quiet. absurd (true≢false (sym fired ∙ quiet (name_at names m.name) o.1))) (λ f. f) (firing.each (at i) o.2) in
        link_of_fires i places fires below (λ place its. match.at place (of_place i place its).0) moved

    pub from_region : IsConnectedFiring c root fires → IsConnected w places
    from_region firing =
        let start = firing.within firing.some_name firing.some_fires in
        let some = of_name start.0 firing.some_name start.1 start.2 in
        record {
          some = some.0;
          moving = record { name = some.3.0; its = some.3.1; fires = place_fires some.3.0 (of_place some.0 some.3.0 some.3.1).0 (ap fires some.3.2 ∙ firing.some_fires) };
          within = λ place h.
              let x = firing.within (name_at names place) (fires_at place h) in
              let o = of_name x.0 (name_at names place) x.1 x.2 in
              let same : o.3.0 ≡ place = one_place names web.rising o.3.0 place (of_place o.0 o.3.0 o.3.1).0 (match.within place h) o.3.2 in
              (o.0, ap (λ p. has (names_of w o.0) p) (sym same) ∙ o.3.1);
          each = each_here firing;
          cells = λ a b among fires_a fires_b.
              let e = web.cells a b among in
              firing.cells e.2.0 e.2.1 e.2.2 e.2.3 (ap fires (sym e.2.4) ∙ fires_at a fires_a) (ap fires (sym e.2.5) ∙ fires_at b fires_b);
          together = λ i j moves_i moves_j.
              let in_i = name_within w i moves_i.name moves_i.its in
              let in_j = name_within w j moves_j.name moves_j.its in
              path_here i (omega (arith, web.as_many)) (at j) (firing.together (at i) (at j) (moves_there i moves_i) (moves_there j moves_j)) j (omega (arith, web.as_many)) refl;
        }

pub webs_are_regions : WebsAreRegions
webs_are_regions c root names w web places fires match = (to_region c root names w web places fires match, from_region c root names w web places fires match)
