-- The growth of a region is the number of vertices of its web, and one number.
use Rattle.std.proofs.Common.{◌≡◌, ℕ, ◌+◌, ◌<◌, ◌≤◌, inl, inr, List, [], ◌∷◌, length, map, slice_index, true, refl, sym, ◌∙◌, ap, subst, arith}
use Rattle.std.proofs.lemmas.List.{length-map}
use Rattle.reo_net.specs.declared.circuit.RawCircuit.{RawCircuit}
use Rattle.reo_net.specs.Regions.{Automaton, automaton_number, FiresNoCellTwice}
use Rattle.reo_automata.specs.Template.{automaton_of}
use Rattle.reo_growth.specs.declared.web.Web.{Web}
use Rattle.reo_growth.specs.Lists.{has, Among, AtMostOne}
use Rattle.reo_growth.specs.Web.{links_of, AreApart, IsWeb}
use Rattle.reo_growth.specs.Growth.{Vertex, places, with_link, vertices_of, vertices, growth_count, IsVertex as WebIsVertex}
use Rattle.reo_growth.specs.Growth.{Move as WebMove}
use Rattle.reo_growth.specs.Growth.IsVertex.{alone as web_alone, child as web_child}
use Rattle.reo_growth.proofs.ListLemmas.{same_tests, among_map, map_gives, among_flat_map, flat_map_gives, among_range, range_gives}
use Rattle.reo_growth.proofs.VertexLemmas.{link_within}
use Rattle.reo_growth.proofs.RuleLemmas.{vertices_by_rule}
use Rattle.reo_growth.proofs.DistinctLemmas.{vertices_once}
use Rattle.reo_product.specs.RegionWeb.{name_at, IsRegionWeb}
use Rattle.reo_product.specs.Growth.{Move, PartialFiring, with_move, fired, IsTransition, IsLeastOpen, Agrees, IsVertex, HasGrowth}
use Rattle.reo_product.specs.Growth.IsVertex.{alone, child}
use Rattle.reo_product.specs.Laws.{GrowthIsOne, FiringsAreSoMany, RegionsHaveGrowth, WebsHaveGrowth}
use Rattle.reo_product.specs.Table.{AreFirings}
use Rattle.reo_product.proofs.BridgeLemmas.{one_number, of_place, of_region, place_in}
use Rattle.reo_product.proofs.MadeLemmas.{made_web}
use Rattle.reo_product.proofs.ExistLemmas.{regions_have_webs}
use Rattle.reo_product.proofs.NamedLemmas.{once_injective}
use Rattle.reo_product.proofs.GrowthLemmas.{rising_same, auto, below_region, link_names, link_at, named_move, named_list, transition, link_of, fits_there, fits_here, Its, its_of, agrees_there, agrees_here, least_there, least_here, number_up, number_back}

-- an element taken out of a list
record TakesOut {A : Type 0} (x : A) (ys rest : List A) : Type 0 where
  shorter : length ys ≡ length rest + 1
  other : (y : A) → Among y ys → (y ≡ x → ⊥) → Among y rest

take_out : {A : Type 0} (x : A) (ys : List A) → Among x ys → (rest : List A) × TakesOut x ys rest
take_out x [] at = elim at [ ]
take_out {A} x (z ∷ zs) (inl is) = (zs, record { shorter = omega arith; other = λ y at apart. out y at apart })
  where
    out : (y : A) → Among y (z ∷ zs) → (y ≡ x → ⊥) → Among y zs
    out y (inl same) apart = absurd (apart (sym same ∙ is))
    out y (inr later) apart = later
take_out {A} x (z ∷ zs) (inr later) =
    let r = take_out x zs later in
    (z ∷ r.0, record { shorter = omega (arith, r.1.shorter); other = λ y at apart. out r.0 r.1 y at apart })
  where
    out : (rest : List A) → TakesOut x zs rest → (y : A) → Among y (z ∷ zs) → (y ≡ x → ⊥) → Among y (z ∷ rest)
    out rest r y (inl same) apart = inl same
    out rest r y (inr in_zs) apart = inr (r.other y in_zs apart)

-- a list with each element once, all in another list, is no longer than that
no_longer : {A : Type 0} (xs ys : List A) → ((x : A) → AtMostOne (λ other. other ≡ x) xs) → ((x : A) → Among x xs → Among x ys) → length xs ≤ length ys
no_longer [] ys once within = omega arith
no_longer (x ∷ xs) ys once within =
    let t = take_out x ys (within x (inl refl)) in
    let rest = no_longer xs t.0 (λ z. (once z).1) (λ z at. t.1.other z (within z (inr at)) (λ is. (once x).0 refl z at is)) in
    omega (arith, t.1.shorter)

pub growth_is_one : GrowthIsOne
growth_is_one c root one other first second =
    let up = no_longer first.vertices second.vertices first.are_all.once (λ v at. let r = first.are_all.only v at in second.are_all.all r.0 v r.1 r.2) in
    let down = no_longer second.vertices first.vertices second.are_all.once (λ v at. let r = second.are_all.only v at in first.are_all.all r.0 v r.1 r.2) in
    omega (arith, first.are_so_many, second.are_so_many)

-- a connected firing of one list is in the other
listed_too : (c : RawCircuit) (root : Automaton) (xs ys : List (List ℕ)) → AreFirings c root xs → AreFirings c root ys → (names : List ℕ) → Among names xs → Among names ys
listed_too c root xs ys first second names at =
    let firing = first.only names at in
    let other = second.all (has names) firing.connected in
    subst (λ l. Among l ys) (rising_same other.0 names (second.only other.0 other.1).rising firing.rising other.2) other.1

pub firings_are_so_many : FiringsAreSoMany
firings_are_so_many c root one other first second =
    let up = no_longer first.firings second.firings first.are_all.once (listed_too c root first.firings second.firings first.are_all second.are_all) in
    let down = no_longer second.firings first.firings second.are_all.once (listed_too c root second.firings first.firings second.are_all first.are_all) in
    omega (arith, first.are_so_many, second.are_so_many)

-- links that are the same sets are one link
one_link : (links : List (List ℕ)) → AreApart links → (one other : List ℕ) → Among one links → Among other links → ((place : ℕ) → has one place ≡ has other place) → one ≡ other
one_link [] apart one other at_one at_other same = elim at_one [ ]
one_link (link ∷ links) apart one other (inl first) (inl second) same = sym first ∙ second
one_link (link ∷ links) apart one other (inl first) (inr later) same = absurd (apart.0 other later (λ place. ap (λ l. has l place) first ∙ same place))
one_link (link ∷ links) apart one other (inr later) (inl second) same = absurd (apart.0 one later (λ place. ap (λ l. has l place) second ∙ sym (same place)))
one_link (link ∷ links) apart one other (inr at_one) (inr at_other) same = one_link links apart.1 one other at_one at_other same

module _ (c : RawCircuit) (root : Automaton) (names : List ℕ) (w : Web) (web : IsRegionWeb c root names w) where
  is_web : IsWeb w
  is_web = made_web c names w web.size (λ i a found. (automaton_of c (slice_index web.region i), web.each i a found)) (λ a b among. let e = web.cells a b among in (e.0, e.1))

  -- a vertex of the web is one of the region
  there : (r : ℕ) (v : Vertex) → r < length w.automata → WebIsVertex w r v → IsVertex c (auto c root names w web r) (named_list c root names w web v)
  unfolding with_link with_move named_list named_move
  there r v in_r (web_alone link its fit) =
      alone (link_names c root names w web link) (transition c root names w web r link its) (fits_there c root names w web (with_link [] r link) fit)
  there r v in_r (web_child u x link vertex least above its agree fit) =
      let below = link_within w x link its in
      let sound = its_of c root names w web r u vertex in
      child (named_list c root names w web u) (auto c root names w web x) (link_names c root names w web link) (there r u in_r vertex)
      (least_there c root names w web u sound r x in_r least) (number_up c root names w web r x above below) (transition c root names w web x link its)
      (agrees_there c root names w web u sound x link below agree) (fits_there c root names w web (with_link u x link) fit)

  -- and the other way round
  here : (r : ℕ) (u : PartialFiring) → r < length w.automata → IsVertex c (auto c root names w web r) u → (v : Vertex) × WebIsVertex w r v × (named_list c root names w web v ≡ u)
  unfolding with_link with_move named_list named_move
  here r u in_r (alone ns t fit) =
      let start = auto c root names w web r in
      let l = link_of c root names w web r ns in_r t in
      let fit_there = subst (λ xs. FiresNoCellTwice c (fired (with_move [] start xs))) (sym l.2) fit in
      (with_link [] r l.0, web_alone l.0 l.1 (fits_here c root names w web (with_link [] r l.0) fit_there), ap (with_move [] start) l.2)
  here r u in_r (child v x ns vertex least above t agree fit) =
      let start = auto c root names w web r in
      let b = here r v in_r vertex in
      let sound = its_of c root names w web r b.0 b.1 in
      let m = least_here c root names w web b.0 sound r x in_r (subst (λ z. IsLeastOpen c start z x) (sym b.2) least) in
      let l = link_of c root names w web m.0 ns m.1 (subst (λ y. IsTransition c y ns) (sym m.2) t) in
      let listed = named_list c root names w web b.0 in
      let next = auto c root names w web m.0 in
      let its = link_names c root names w web l.0 in
      let after = number_back c root names w web r m.0 in_r m.1 (subst (λ y. automaton_number c start ≤ automaton_number c y) (sym m.2) above) in
      let agree_there : Agrees c listed next its = subst (λ xs. Agrees c listed next xs) (sym l.2) (subst (λ y. Agrees c listed y ns) (sym m.2) (subst (λ z. Agrees c z x ns) (sym b.2) agree)) in
      let same : with_move listed next its ≡ with_move v x ns = ap (λ z. with_move z next its) b.2 ∙ ap (λ y. with_move v y its) m.2 ∙ ap (with_move v x) l.2 in
      let fit_there = subst (λ z. FiresNoCellTwice c (fired z)) (sym same) fit in (
        with_link b.0 m.0 l.0,
        web_child b.0 m.0 l.0 b.1 m.3 after l.1 (agrees_here c root names w web b.0 sound m.0 l.0 agree_there) (fits_here c root names w web (with_link b.0 m.0 l.0) fit_there),
        same,
      )

  -- lists that are one by names are one by places
  link_below : (move : WebMove) → Among move.fires (links_of w move.automaton) → (place : ℕ) → has move.fires place ≡ true → place < length names
  link_below move its place h = (of_place c root names w web move.automaton place (is_web.own move.automaton move.fires its place h)).0

  one_move : (move other : WebMove) → Among move.fires (links_of w move.automaton) → Among other.fires (links_of w other.automaton) → named_move c root names w web move ≡ named_move c root names w web other → move ≡ other
  unfolding named_move
  one_move move other its_move its_other same =
      let in_move = below_region c root names w web move.automaton (link_within w move.automaton move.fires its_move) in
      let in_other = below_region c root names w web other.automaton (link_within w other.automaton other.fires its_other) in
      let autos : move.automaton ≡ other.automaton = one_number c root names w web move.automaton other.automaton in_move in_other (ap (λ (m : Move). m.automaton) same) in
      let sets = ap (λ (m : Move). m.fires) same in
      let links : move.fires ≡ other.fires =
      one_link (links_of w move.automaton) (is_web.apart move.automaton) move.fires other.fires its_move (subst (λ i. Among other.fires (links_of w i)) (sym autos) its_other)
      (λ place. same_tests (has move.fires place) (has other.fires place)
      (λ h. let below = link_below move its_move place h in sym (link_at c root names w web other.fires place below) ∙ ap (λ l. has l (name_at names place)) (sym sets) ∙ link_at c root names w web move.fires place below ∙ h)
      (λ h. let below = link_below other its_other place h in sym (link_at c root names w web move.fires place below) ∙ ap (λ l. has l (name_at names place)) sets ∙ link_at c root names w web other.fires place below ∙ h)) in
      let first : move ≡ record { automaton = other.automaton; fires = move.fires } = ap (λ i. record { automaton = i; fires = move.fires }) autos in
      let second : record { automaton = other.automaton; fires = move.fires } ≡ other = ap (λ l. record { automaton = other.automaton; fires = l }) links in
      first ∙ second

  one_list : (v u : Vertex) → Its c root names w web v → Its c root names w web u → named_list c root names w web v ≡ named_list c root names w web u → v ≡ u
  unfolding Its named_list
  one_list [] [] its_v its_u same = refl
  one_list [] (other ∷ u) its_v its_u same = absurd (cc)
  one_list (move ∷ v) [] its_v its_u same = absurd (cc)
  one_list (move ∷ v) (other ∷ u) its_v its_u same =
      let head : named_move c root names w web move ≡ named_move c root names w web other = cc in
      let tail : map (named_move c root names w web) v ≡ map (named_move c root names w web) u = cc in
      let one = one_move move other (its_v move (inl refl)) (its_u other (inl refl)) head in
      let rest = one_list v u (λ m at. its_v m (inr at)) (λ m at. its_u m (inr at)) tail in
      ap (λ m. m ∷ v) one ∙ ap (λ t. other ∷ t) rest

  its_among : (v : Vertex) → Among v (vertices w) → Its c root names w web v
  unfolding vertices
  its_among v at = let f = flat_map_gives (vertices_of w) (places w) v at in its_of c root names w web f.0 v ((vertices_by_rule w f.0 v).0 f.2)

  pub grows : HasGrowth c root (growth_count w)
  unfolding vertices growth_count
  grows = record {
    vertices = map (named_list c root names w web) (vertices w);
    are_all = record {
      only = λ u at.
          let m = map_gives (named_list c root names w web) (vertices w) u at in
          let f = flat_map_gives (vertices_of w) (places w) m.0 m.1 in
          let in_r : f.0 < length w.automata = omega (arith, (range_gives 0 (length w.automata) f.0 f.1).1) in (
            auto c root names w web f.0,
            of_region c root names w web f.0 (below_region c root names w web f.0 in_r),
            subst (IsVertex c (auto c root names w web f.0)) m.2 (there f.0 m.0 in_r ((vertices_by_rule w f.0 m.0).0 f.2)),
          );
      all = λ r u path vertex.
          let i = place_in c root names w web r path in
          let in_i : i.0 < length w.automata = omega (arith, i.1, web.as_many) in
          let h = here i.0 u in_i (subst (λ y. IsVertex c y u) (sym i.2) vertex) in
          let at = among_flat_map (vertices_of w) (places w) i.0 h.0 (among_range 0 (length w.automata) i.0 (omega arith) (omega arith)) ((vertices_by_rule w i.0 h.0).1 h.1) in
          subst (λ z. Among z (map (named_list c root names w web) (vertices w))) h.2 (among_map (named_list c root names w web) (vertices w) h.0 at);
      once = once_injective (named_list c root names w web) (vertices w) (λ v u in_v in_u same. one_list v u (its_among v in_v) (its_among u in_u) same) (vertices_once w is_web);
    };
    are_so_many = length-map (vertices w) (named_list c root names w web);
  }

pub webs_have_growth : WebsHaveGrowth
webs_have_growth = grows

pub regions_have_growth : RegionsHaveGrowth
regions_have_growth c circuit root sync =
    let web = regions_have_webs c circuit root sync in
    (growth_count web.1, webs_have_growth c root web.0 web.1 web.2)
