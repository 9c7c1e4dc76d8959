-- No list of automata stands twice among the vertices: what grows from a list ends with that list.
use Rattle.std.proofs.Common.{◌≡◌, ℕ, zero, suc, ◌+◌, ◌<◌, inl, inr, List, [], ◌∷◌, ◌++◌, length, map, Bool, true, false, cond, ◌&&◌, Option, Some, None, refl, sym, ◌∙◌, ap, subst, arith}
use Rattle.std.specs.Prelude.{nat_lt, flat_map, filter}
use Rattle.std.specs.List.{range_with_len}
use Rattle.std.proofs.lemmas.List.{append_assoc}
use Rattle.reo_growth.specs.declared.web.Web.{Web}
use Rattle.reo_growth.specs.Lists.{has, Among, AtMostOne}
use Rattle.reo_growth.specs.Web.{links_of, Differ, AreApart, IsWeb}
use Rattle.reo_growth.specs.Growth.{Move, Vertex, places, least_open, agrees, fits, with_link, extended, children_at, grown, vertices_of, vertices}
use Rattle.reo_growth.specs.Laws.{VerticesOnce}
use Rattle.reo_growth.proofs.ListLemmas.{map_gives, filter_gives, flat_map_gives, range_gives, once_flat_map, AreSeparate}
use Rattle.reo_growth.proofs.VertexLemmas.{extended_gives}

-- the list ends with the other
abbrev EndsWith : Vertex → Vertex → Type 0
EndsWith u v = (front : Vertex) × (front ++ v ≡ u)

longer : (front v : Vertex) → length (front ++ v) ≡ length front + length v
longer [] v = omega arith
longer (move ∷ front) v = let r = longer front v in omega arith

-- two ends of one length are one
same_end : (front other v u : Vertex) → length v ≡ length u → front ++ v ≡ other ++ u → v ≡ u
same_end [] [] v u long is = is
same_end [] (move ∷ other) v u long is = let l = longer other u in let e = ap length is in absurd (omega arith)
same_end (move ∷ front) [] v u long is = let l = longer front v in let e = ap length is in absurd (omega arith)
same_end (move ∷ front) (more ∷ other) v u long is = same_end front other v u long (cc)

one_first : (move other : Move) (v : Vertex) → move ∷ v ≡ other ∷ v → move ≡ other
one_first move other v same = cc

module _ (w : Web) (root : ℕ) where
  child_ends : (v c : Vertex) (o : Option ℕ) → Among c (children_at w root v o) → (move : Move) × (move ∷ v ≡ c)
  unfolding children_at with_link
  child_ends v c None h = elim h [ ]
  child_ends v c (Some x) h = go (nat_lt x root) h
    where
      go : (b : Bool) → Among c (cond b [] (extended w v x)) → (move : Move) × (move ∷ v ≡ c)
      go true h = elim h [ ]
      go false h = let e = extended_gives w v x c h in (record { automaton = x; fires = e.link }, e.is)

  grown_ends : (n : ℕ) (v u : Vertex) → Among u (grown w root n v) → EndsWith u v
  unfolding grown
  grown_ends zero v u (inl is) = ([], is)
  grown_ends zero v u (inr never) = elim never [ ]
  grown_ends (suc n) v u (inl is) = ([], is)
  grown_ends (suc n) v u (inr grows) =
      let f = flat_map_gives (grown w root n) (children_at w root v (least_open w v)) u grows in
      let m = child_ends v f.0 (least_open w v) f.1 in
      let e = grown_ends n f.0 u f.2 in
      (e.0 ++ m.0 ∷ [], append_assoc e.0 (m.0 ∷ []) v ∙ ap (λ t. e.0 ++ t) m.1 ∙ e.1)

  -- what grows from the children is not the list itself
  not_itself : (n : ℕ) (v u : Vertex) → Among u (flat_map (grown w root n) (children_at w root v (least_open w v))) → u ≡ v → ⊥
  not_itself n v u at is =
      let f = flat_map_gives (grown w root n) (children_at w root v (least_open w v)) u at in
      let m = child_ends v f.0 (least_open w v) f.1 in
      let e = grown_ends n f.0 u f.2 in
      let l = longer e.0 f.0 in
      let one = ap length e.1 in
      let two = ap length m.1 in
      let three = ap length is in
      omega arith

module _ (w : Web) (is_web : IsWeb w) (z : Vertex) where
  Is : Vertex → Type 0
  Is u = u ≡ z

  module _ (root n x : ℕ) (v : Vertex) where
    links_apart : (one other : List ℕ) (a b : Vertex) → Differ one other → Among a (grown w root n (with_link v x one)) → Among b (grown w root n (with_link v x other)) → Is a → Is b → ⊥
    unfolding Is with_link
    links_apart one other a b differ at_a at_b is_a is_b =
        let first : Vertex = record { automaton = x; fires = one } ∷ v in
        let second : Vertex = record { automaton = x; fires = other } ∷ v in
        let e = grown_ends w root n first a at_a in
        let f = grown_ends w root n second b at_b in
        let same : first ≡ second = same_end e.0 f.0 first second refl (e.1 ∙ is_a ∙ sym (f.1 ∙ is_b)) in
        differ (λ name. ap (λ (move : Move). has move.fires name) (one_first (record { automaton = x; fires = one }) (record { automaton = x; fires = other }) v same))

    links_separate : (test : List ℕ → Bool) (links : List (List ℕ)) → AreApart links → AreSeparate Is (grown w root n) (map (with_link v x) (filter test links))
    unfolding AreSeparate
    links_separate test [] apart = tt
    links_separate test (link ∷ links) apart = go (test link) (links_separate test links apart.1)
      where
        go : (b : Bool) → AreSeparate Is (grown w root n) (map (with_link v x) (filter test links)) → AreSeparate Is (grown w root n) (map (with_link v x) (cond b (link ∷ filter test links) (filter test links)))
        go false rest = rest
        go true rest = (
          λ y a b at at_a at_b is_a is_b.
              let m = map_gives (with_link v x) (filter test links) y at in
              let other = filter_gives test links m.0 m.1 in
              links_apart link m.0 a b (apart.0 m.0 other.0) at_a (subst (λ u. Among b (grown w root n u)) (sym m.2) at_b) is_a is_b,
          rest,
        )

    distinct_extended : ((u : Vertex) → AtMostOne Is (grown w root n u)) → AtMostOne Is (flat_map (grown w root n) (extended w v x))
    unfolding extended
    distinct_extended each =
        once_flat_map Is (grown w root n) (extended w v x) (λ u at. each u)
        (links_separate (λ link. agrees w v x link && fits w (with_link v x link)) (links_of w x) (is_web.apart x))

  distinct_grown : (root n : ℕ) (v : Vertex) → AtMostOne Is (grown w root n v)
  unfolding grown children_at Is
  distinct_grown root zero v = (λ is y at other. elim at [ ], tt)
  distinct_grown root (suc n) v = (λ is y at other. not_itself w root n v y at (other ∙ sym is), go (least_open w v) (distinct_grown root n))
    where
      go : (o : Option ℕ) → ((u : Vertex) → AtMostOne Is (grown w root n u)) → AtMostOne Is (flat_map (grown w root n) (children_at w root v o))
      go None each = tt
      go (Some x) each = below (nat_lt x root)
        where
          below : (b : Bool) → AtMostOne Is (flat_map (grown w root n) (cond b [] (extended w v x)))
          below true = tt
          below false = distinct_extended root n x v each

  -- a vertex ends with its root
  root_ends : (root : ℕ) (u : Vertex) → Among u (vertices_of w root) → (link : List ℕ) × EndsWith u (with_link [] root link)
  unfolding vertices_of
  root_ends root u at =
      let f = flat_map_gives (grown w root (length w.automata)) (extended w [] root) u at in
      let e = extended_gives w [] root f.0 f.1 in
      let g = grown_ends w root (length w.automata) f.0 u f.2 in
      (e.link, (g.0, ap (λ t. g.0 ++ t) e.is ∙ g.1))

  roots_apart : (root other : ℕ) (a b : Vertex) → root < other → Among a (vertices_of w root) → Among b (vertices_of w other) → Is a → Is b → ⊥
  unfolding Is with_link
  roots_apart root other a b less at_a at_b is_a is_b =
      let e = root_ends root a at_a in
      let f = root_ends other b at_b in
      let first : Vertex = record { automaton = root; fires = e.0 } ∷ [] in
      let second : Vertex = record { automaton = other; fires = f.0 } ∷ [] in
      let same : first ≡ second = same_end e.1.0 f.1.0 first second refl (e.1.1 ∙ is_a ∙ sym (f.1.1 ∙ is_b)) in
      let roots : root ≡ other = ap (λ (move : Move). move.automaton) (one_first (record { automaton = root; fires = e.0 }) (record { automaton = other; fires = f.0 }) [] same) in
      omega arith

  roots_separate : (a n : ℕ) → AreSeparate Is (vertices_of w) (range_with_len a n)
  unfolding AreSeparate
  roots_separate a zero = tt
  roots_separate a (suc n) = (
    λ y one other at at_one at_other is_one is_other. let r = range_gives (a + 1) n y at in roots_apart a y one other (omega (arith, r.0)) at_one at_other is_one is_other,
    roots_separate (a + 1) n,
  )

  distinct_of_root : (root : ℕ) → AtMostOne Is (vertices_of w root)
  unfolding vertices_of
  distinct_of_root root = distinct_extended root (length w.automata) root [] (distinct_grown root (length w.automata))

  distinct_all : AtMostOne Is (vertices w)
  unfolding vertices
  distinct_all = once_flat_map Is (vertices_of w) (places w) (λ root at. distinct_of_root root) (roots_separate 0 (length w.automata))

pub vertices_once : VerticesOnce
unfolding Is
vertices_once w is_web z = distinct_all w is_web z
