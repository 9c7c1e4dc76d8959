-- A template by places is an automaton of the web.
use Rattle.std.proofs.Common.{◌≡◌, ℕ, zero, suc, ◌<◌, inl, inr, List, [], ◌∷◌, length, map, slice_get, Some, Bool, true, refl, sym, ◌∙◌, ap, subst, arith}
use Rattle.std.specs.List.Sorted.{IsStrictlyIncreasing}
use Rattle.reo_net.specs.declared.circuit.RawCircuit.{RawCircuit}
use Rattle.reo_net.specs.Regions.{Automaton, HasName, AutomatonFires}
use Rattle.reo_automata.specs.declared.template.Link.{Link}
use Rattle.reo_automata.specs.declared.template.Template.{Template}
use Rattle.reo_automata.specs.Template.{IsTemplate}
use Rattle.reo_growth.specs.declared.web.Automaton.{Automaton as WebAutomaton}
use Rattle.reo_growth.specs.Lists.{has, Among}
use Rattle.reo_growth.specs.Web.{AreApart}
use Rattle.reo_growth.proofs.ListLemmas.{same_tests, has_among, among_has, among_map, map_gives, all_among}
use Rattle.reo_product.specs.RegionWeb.{name_at, LinkFires, IsWebAutomaton}
use Rattle.reo_product.specs.Places.{ArePlacesOf, ArePaired, IsPlacedTemplate}
use Rattle.reo_product.proofs.BridgeLemmas.{one_place}

pub among_index : {A : Type 0} (xs : List A) (x : A) → Among x xs → (i : ℕ) × (slice_get xs i ≡ Some x)
among_index [] x at = elim at [ ]
among_index (y ∷ ys) x (inl is) = (0, ap Some is)
among_index (y ∷ ys) x (inr later) = let r = among_index ys x later in (suc r.0, r.1)

pub index_among : {A : Type 0} (xs : List A) (i : ℕ) (x : A) → slice_get xs i ≡ Some x → Among x xs
index_among [] i x at = absurd (cc)
index_among (y ∷ ys) zero x at = inl (cc)
index_among (y ∷ ys) (suc i) x at = inr (index_among ys i x at)

pub left_partner : {A B : Type 0} (R : A → B → Type 0) (xs : List A) (ys : List B) → ArePaired R xs ys → (i : ℕ) (y : B) → slice_get ys i ≡ Some y → (x : A) × (slice_get xs i ≡ Some x) × R x y
left_partner R [] [] all i y at = absurd (cc)
left_partner R [] (v ∷ vs) all i y at = absurd all
left_partner R (u ∷ us) [] all i y at = absurd all
left_partner R (u ∷ us) (v ∷ vs) all zero y at = let f : v ≡ y = cc in (u, refl, subst (R u) f all.0)
left_partner R (u ∷ us) (v ∷ vs) all (suc i) y at = left_partner R us vs all.1 i y at

pub right_partner : {A B : Type 0} (R : A → B → Type 0) (xs : List A) (ys : List B) → ArePaired R xs ys → (i : ℕ) (x : A) → slice_get xs i ≡ Some x → (y : B) × (slice_get ys i ≡ Some y) × R x y
right_partner R [] [] all i x at = absurd (cc)
right_partner R [] (v ∷ vs) all i x at = absurd all
right_partner R (u ∷ us) [] all i x at = absurd all
right_partner R (u ∷ us) (v ∷ vs) all zero x at = let e : u ≡ x = cc in (v, refl, subst (λ z. R z v) e all.0)
right_partner R (u ∷ us) (v ∷ vs) all (suc i) x at = right_partner R us vs all.1 i x at

-- an element of the mapped list, and of the list
pub map_index : {A B : Type 0} (f : A → B) (xs : List A) (i : ℕ) (y : B) → slice_get (map f xs) i ≡ Some y → (x : A) × (slice_get xs i ≡ Some x) × (f x ≡ y)
map_index f [] i y at = absurd (cc)
map_index f (x ∷ xs) zero y at = (x, refl, cc)
map_index f (x ∷ xs) (suc i) y at = map_index f xs i y at

pub index_map : {A B : Type 0} (f : A → B) (xs : List A) (i : ℕ) (x : A) → slice_get xs i ≡ Some x → slice_get (map f xs) i ≡ Some (f x)
index_map f [] i x at = absurd (cc)
index_map f (y ∷ ys) zero x at = let e : y ≡ x = cc in ap (λ z. Some (f z)) e
index_map f (y ∷ ys) (suc i) x at = index_map f ys i x at

apart_from : (links : List (List ℕ)) → ((i j : ℕ) (one other : List ℕ) → slice_get links i ≡ Some one → slice_get links j ≡ Some other → ((place : ℕ) → has one place ≡ has other place) → i ≡ j) → AreApart links
apart_from [] once = tt
apart_from (link ∷ links) once = (
  λ other at same. let j = among_index links other at in absurd (zero-suc j.0 (once 0 (suc j.0) link other refl j.1 same)),
  apart_from links (λ i j one other at_i at_j same. let e = once (suc i) (suc j) one other at_i at_j same in omega arith),
)
  where
    zero-suc : (n : ℕ) → 0 ≡ suc n → ⊥
    zero-suc n e = omega arith

module _ (names : List ℕ) (rising : IsStrictlyIncreasing names) where
  place_within : (list places : List ℕ) → ArePlacesOf names list places → (place : ℕ) → has places place ≡ true → place < length names
  place_within list places are place h = all_among (λ place. place < length names) places are.within place (has_among places place h)

  has_places : (list places : List ℕ) → ArePlacesOf names list places → (place : ℕ) → place < length names → has places place ≡ has list (name_at names place)
  has_places list places are place below = same_tests (has places place) (has list (name_at names place))
      (λ h. among_has list (name_at names place) (subst (Among (name_at names place)) are.named (among_map (name_at names) places place (has_among places place h))))
      (λ h.
      let m = map_gives (name_at names) places (name_at names place) (subst (Among (name_at names place)) (sym are.named) (has_among list (name_at names place) h)) in
      let same = one_place names rising m.0 place (all_among (λ place. place < length names) places are.within m.0 m.1) below m.2 in
      among_has places place (subst (λ p. Among p places) same m.1))

  place_of_name : (list places : List ℕ) → ArePlacesOf names list places → (name : ℕ) → has list name ≡ true → (place : ℕ) × (has places place ≡ true) × (name_at names place ≡ name)
  place_of_name list places are name h =
      let m = map_gives (name_at names) places name (subst (Among name) (sym are.named) (has_among list name h)) in
      (m.0, among_has places m.0 m.1, m.2)

  module _ (c : RawCircuit) (x : Automaton) (t : Template) (is : IsTemplate c x t) (a : WebAutomaton) (placed : IsPlacedTemplate names t a) where
    below : (place : ℕ) → has a.names place ≡ true → place < length names
    below place h = place_within t.names a.names placed.names_placed place h

    named : (place : ℕ) → has a.names place ≡ true → HasName c x (name_at names place)
    named place h = (is.named (name_at names place)).0 (sym (has_places t.names a.names placed.names_placed place (below place h)) ∙ h)

    every : (name : ℕ) → HasName c x name → (place : ℕ) × (has a.names place ≡ true) × (name_at names place ≡ name)
    every name its = place_of_name t.names a.names placed.names_placed name ((is.named name).1 its)

    fires_of : Link → List ℕ
    fires_of link = link.fires

    -- the template's link of a link in the web
    link_of : (i : ℕ) (link : List ℕ) → slice_get a.links i ≡ Some link → (from : Link) × (slice_get t.links i ≡ Some from) × ArePlacesOf names from.fires link
    unfolding fires_of
    link_of i link at =
        let p = left_partner (ArePlacesOf names) (map (λ (link : Link). link.fires) t.links) a.links placed.links_placed i link at in
        let m = map_index (λ (link : Link). link.fires) t.links i p.0 p.1 in
        (m.0, m.1, subst (λ list. ArePlacesOf names list link) (sym m.2) p.2)

    link_to : (i : ℕ) (from : Link) → slice_get t.links i ≡ Some from → (link : List ℕ) × (slice_get a.links i ≡ Some link) × ArePlacesOf names from.fires link
    link_to i from at = right_partner (ArePlacesOf names) (map (λ (link : Link). link.fires) t.links) a.links placed.links_placed i from.fires (index_map (λ (link : Link). link.fires) t.links i from at)

    fires : (F : ℕ → Bool) (link : List ℕ) → Among link a.links → LinkFires names a link F → AutomatonFires c x F
    fires F link at same =
        let i = among_index a.links link at in
        let l = link_of i.0 link i.1 in
        (is.fires F).1 (
          i.0,
          l.0,
          l.1,
          λ name its.
              let p = every name its in
              ap F (sym p.2) ∙ same p.0 p.1 ∙ has_places l.0.fires link l.2 p.0 (below p.0 p.1) ∙ ap (has l.0.fires) p.2,
        )

    links : (F : ℕ → Bool) → AutomatonFires c x F → (link : List ℕ) × Among link a.links × LinkFires names a link F
    links F moved =
        let s = (is.fires F).0 moved in
        let l = link_to s.0 s.1 s.2 in
        (l.0, index_among a.links s.0 l.0 l.1, λ place its. s.3 (name_at names place) (named place its) ∙ sym (has_places s.1.fires l.0 l.2 place (below place its)))

    own : (link : List ℕ) → Among link a.links → (place : ℕ) → has link place ≡ true → has a.names place ≡ true
    own link at place h =
        let i = among_index a.links link at in
        let l = link_of i.0 link i.1 in
        let within = place_within l.0.fires link l.2 place h in
        let its = is.own i.0 l.0 l.1 (name_at names place) (sym (has_places l.0.fires link l.2 place within) ∙ h) in
        let p = every (name_at names place) its in
        let same = one_place names rising p.0 place (below p.0 p.1) within p.2 in
        subst (λ q. has a.names q ≡ true) same p.1

    some : (link : List ℕ) → Among link a.links → (place : ℕ) × (has link place ≡ true)
    some link at =
        let i = among_index a.links link at in
        let l = link_of i.0 link i.1 in
        let s = is.some i.0 l.0 l.1 in
        let p = place_of_name l.0.fires link l.2 s.0 s.1 in
        (p.0, p.1)

    sets_same : (one other : Link) (first second : List ℕ) → ArePlacesOf names one.fires first → ArePlacesOf names other.fires second → ((place : ℕ) → has first place ≡ has second place) → (name : ℕ) → has one.fires name ≡ true → has other.fires name ≡ true
    sets_same one other first second are_first are_second same name h =
        let p = place_of_name one.fires first are_first name h in
        let there = sym (same p.0) ∙ p.1 in
        ap (has other.fires) (sym p.2) ∙ sym (has_places other.fires second are_second p.0 (place_within other.fires second are_second p.0 there)) ∙ there

    apart : AreApart a.links
    apart = apart_from a.links (λ i j one other at_i at_j same.
        let f = link_of i one at_i in
        let g = link_of j other at_j in
        is.once i j f.0 g.0 f.1 g.1 (λ name. same_tests (has f.0.fires name) (has g.0.fires name)
        (sets_same f.0 g.0 one other f.2 g.2 same name) (sets_same g.0 f.0 other one g.2 f.2 (λ place. sym (same place)) name)))

    pub placed_automaton : IsWebAutomaton c names x a
    placed_automaton = record { below = below; named = named; every = every; fires = fires; links = links; own = own; some = some; apart = apart }
