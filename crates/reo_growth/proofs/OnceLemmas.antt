-- No two vertices stand for the same set.
use Rattle.std.proofs.Common.{◌≡◌, ℕ, zero, suc, ◌+◌, ◌<◌, ◌⊎◌, inl, inr, List, [], ◌∷◌, length, map, Bool, true, false, not, cond, ◌&&◌, Option, Some, None, is_some, refl, sym, ◌∙◌, subst, arith}
use Rattle.std.specs.Prelude.{nat_lt, flat_map, filter}
use Rattle.std.specs.List.{range_with_len}
use Rattle.std.proofs.lemmas.Bool.{false≢true, true≢false, cases_Bool, false_from_ne_true}
use Rattle.reo_growth.specs.declared.web.Web.{Web}
use Rattle.reo_growth.specs.Lists.{has, Among, AtMostOne}
use Rattle.reo_growth.specs.Web.{names_of, links_of, Differ, AreApart, IsWeb}
use Rattle.reo_growth.specs.Growth.{Move, Vertex, places, least_open, agrees, fits, with_link, extended, children_at, grown, vertices_of, vertices, is_complete}
use Rattle.reo_growth.specs.Laws.{StandsFor, GrowsOnce}
use Rattle.reo_growth.proofs.ListLemmas.{among_map, map_gives, filter_gives, flat_map_gives, range_gives, once_flat_map, AreSeparate}
use Rattle.reo_growth.proofs.VertexLemmas.{fired_from, listed_gives, complete_lists, extended_gives}
use Rattle.reo_growth.specs.Sound.{IsSound}
use Rattle.reo_growth.proofs.SoundLemmas.{fires_as, sound_first, sound_child, sound_grown, sound_of_root}

module _ (w : Web) (is_web : IsWeb w) (F : ℕ → Bool) where
  -- what grows from a list has the moves of the list
  keeps : (root n : ℕ) (v u : Vertex) → IsSound w root v → Among u (grown w root n v) → (move : Move) → Among move v → Among move u
  unfolding grown children_at with_link
  keeps root zero v u sound (inl is) move at = subst (Among move) is at
  keeps root zero v u sound (inr never) move at = elim never [ ]
  keeps root (suc n) v u sound (inl is) move at = subst (Among move) is at
  keeps root (suc n) v u sound (inr grows) move at =
      let f = flat_map_gives (grown w root n) (children_at w root v (least_open w v)) u grows in
      keeps root n f.0 u (sound_child w is_web root v f.0 sound f.1) f.2 move (child_keeps (least_open w v) f.0 f.1)
    where
      child_keeps : (o : Option ℕ) (c : Vertex) → Among c (children_at w root v o) → Among move c
      child_keeps None c h = elim h [ ]
      child_keeps (Some x) c h = go (nat_lt x root) h
        where
          go : (b : Bool) → Among c (cond b [] (extended w v x)) → Among move c
          go true h = elim h [ ]
          go false h = let e = extended_gives w v x c h in subst (Among move) e.is (inr at)

  -- below lists that differ in one link, no two vertices stand for one set
  module _ (root : ℕ) (x : ℕ) (v : Vertex) where
    Below : ℕ → List ℕ → Vertex → Type 0
    Below n link u = Among u (grown w root n (with_link v x link)) × IsSound w root (with_link v x link)

    links_apart : (n : ℕ) (one other : List ℕ) (a b : Vertex) → Among one (links_of w x) → Among other (links_of w x) → Differ one other
        → Below n one a → Below n other b → StandsFor w F a → StandsFor w F b → ⊥
    unfolding Below with_link
    links_apart n one other a b its_one its_other differ below_a below_b for_a for_b =
        let move_a : Move = record { automaton = x; fires = one } in
        let move_b : Move = record { automaton = x; fires = other } in
        let at_a = keeps root n (with_link v x one) a below_a.1 below_a.0 move_a (inl refl) in
        let at_b = keeps root n (with_link v x other) b below_b.1 below_b.0 move_b (inl refl) in
        let sound_a = sound_grown w is_web root n (with_link v x one) a below_a.1 below_a.0 in
        let sound_b = sound_grown w is_web root n (with_link v x other) b below_b.1 below_b.0 in
        differ (λ name. at_name at_a at_b sound_a sound_b name (cases_Bool (has (names_of w x) name)))
      where
        not_its : (link : List ℕ) (name : ℕ) → has (names_of w x) name ≡ false → Among link (links_of w x) → has link name ≡ false
        not_its link name foreign its = false_from_ne_true (has link name) (λ is. true≢false (sym (is_web.own x link its name is) ∙ foreign))

        at_name : (let move_a : Move = record { automaton = x; fires = one } in Among move_a a) → (let move_b : Move = record { automaton = x; fires = other } in Among move_b b)
            → IsSound w root a → IsSound w root b → (name : ℕ) → (has (names_of w x) name ≡ true) ⊎ (has (names_of w x) name ≡ false) → has one name ≡ has other name
        at_name at_a at_b sound_a sound_b name (inl its) =
            sym (fires_as w is_web root a sound_a (record { automaton = x; fires = one }) name at_a its)
            ∙ for_a.fires name ∙ sym (for_b.fires name)
            ∙ fires_as w is_web root b sound_b (record { automaton = x; fires = other }) name at_b its
        at_name at_a at_b sound_a sound_b name (inr foreign) = not_its one name foreign its_one ∙ sym (not_its other name foreign its_other)

    links_separate : (n : ℕ) (test : List ℕ → Bool) (links : List (List ℕ)) → AreApart links → ((link : List ℕ) → Among link links → Among link (links_of w x))
        → ((link : List ℕ) → Among link (filter test links) → IsSound w root (with_link v x link))
        → AreSeparate (StandsFor w F) (grown w root n) (map (with_link v x) (filter test links))
    unfolding AreSeparate Below
    links_separate n test [] apart its sound = tt
    links_separate n test (link ∷ links) apart its sound =
        go (test link) sound (λ sounds. links_separate n test links apart.1 (λ other at. its other (inr at)) sounds)
      where
        go : (b : Bool) → ((other : List ℕ) → Among other (cond b (link ∷ filter test links) (filter test links)) → IsSound w root (with_link v x other))
            → (((other : List ℕ) → Among other (filter test links) → IsSound w root (with_link v x other)) → AreSeparate (StandsFor w F) (grown w root n) (map (with_link v x) (filter test links)))
            → AreSeparate (StandsFor w F) (grown w root n) (map (with_link v x) (cond b (link ∷ filter test links) (filter test links)))
        go false sound rest = rest sound
        go true sound rest = (first, rest (λ other at. sound other (inr at)))
          where
            first : (y a b : Vertex) → Among y (map (with_link v x) (filter test links)) → Among a (grown w root n (with_link v x link)) → Among b (grown w root n y) → StandsFor w F a → StandsFor w F b → ⊥
            first y a b at at_a at_b for_a for_b =
                let m = map_gives (with_link v x) (filter test links) y at in
                let other = filter_gives test links m.0 m.1 in
                links_apart n link m.0 a b (its link (inl refl)) (its m.0 (inr other.0)) (apart.0 m.0 other.0)
                (at_a, sound link (inl refl)) (subst (λ u. Among b (grown w root n u)) (sym m.2) at_b, sound m.0 (inr m.1)) for_a for_b

    once_extended : (n : ℕ) → ((u : Vertex) → Among u (extended w v x) → IsSound w root u) → ((u : Vertex) → Among u (extended w v x) → AtMostOne (StandsFor w F) (grown w root n u))
        → AtMostOne (StandsFor w F) (flat_map (grown w root n) (extended w v x))
    unfolding extended
    once_extended n sound each =
        let test : List ℕ → Bool = λ link. agrees w v x link && fits w (with_link v x link) in
        once_flat_map (StandsFor w F) (grown w root n) (extended w v x) each
        (links_separate n test (links_of w x) (is_web.apart x) (λ link at. at) (λ link at. sound (with_link v x link) (among_map (with_link v x) (filter test (links_of w x)) link at)))

  none_below : (root : ℕ) (v c : Vertex) → is_complete w v ≡ true → Among c (children_at w root v (least_open w v)) → ⊥
  unfolding children_at is_complete
  none_below root v c complete at = go (least_open w v) complete at
    where
      go : (o : Option ℕ) → not (is_some o) ≡ true → Among c (children_at w root v o) → ⊥
      go None is h = elim h [ ]
      go (Some x) is h = false≢true is

  once_grown : (root n : ℕ) (v : Vertex) → IsSound w root v → AtMostOne (StandsFor w F) (grown w root n v)
  unfolding grown children_at
  once_grown root zero v sound = (λ holds y at other. elim at [ ], tt)
  once_grown root (suc n) v sound = (
    λ holds y at other. none_below root v (flat_map_gives (grown w root n) (children_at w root v (least_open w v)) y at).0 holds.complete (flat_map_gives (grown w root n) (children_at w root v (least_open w v)) y at).1,
    go (least_open w v) (λ u at. sound_child w is_web root v u sound at) (λ u sounds. once_grown root n u sounds),
  )
    where
      go : (o : Option ℕ) → ((u : Vertex) → Among u (children_at w root v o) → IsSound w root u) → ((u : Vertex) → IsSound w root u → AtMostOne (StandsFor w F) (grown w root n u))
          → AtMostOne (StandsFor w F) (flat_map (grown w root n) (children_at w root v o))
      go None sounds rest = tt
      go (Some x) sounds rest = below (nat_lt x root) sounds
        where
          below : (b : Bool) → ((u : Vertex) → Among u (cond b [] (extended w v x)) → IsSound w root u) → AtMostOne (StandsFor w F) (flat_map (grown w root n) (cond b [] (extended w v x)))
          below true sounds = tt
          below false sounds = once_extended root x v n sounds (λ u at. rest u (sounds u at))

  once_of_root : (root : ℕ) → AtMostOne (StandsFor w F) (vertices_of w root)
  unfolding vertices_of
  once_of_root root = once_extended root root [] (length w.automata) (λ u at. sound_first w is_web root u at) (λ u at. once_grown root (length w.automata) u (sound_first w is_web root u at))

  -- the root is the least automaton of a list
  roots_apart : (root other : ℕ) (a b : Vertex) → root < other → Among a (vertices_of w root) → Among b (vertices_of w other) → StandsFor w F a → StandsFor w F b → ⊥
  roots_apart root other a b less at_a at_b for_a for_b =
      let sound_a = sound_of_root w is_web root a at_a in
      let sound_b = sound_of_root w is_web other b at_b in
      let m = listed_gives a root sound_a.root_is in
      let its = sound_a.its m.0 m.1 in
      let some = is_web.some m.0.automaton m.0.fires its in
      let named = is_web.own m.0.automaton m.0.fires its some.0 some.1 in
      let fires = for_b.fires some.0 ∙ sym (for_a.fires some.0) ∙ fired_from a m.0 some.0 m.1 some.1 in
      let n = listed_gives b m.0.automaton (complete_lists w b for_b.complete m.0.automaton some.0 named fires) in
      let above = sound_b.above n.0 n.1 in
      absurd (omega (arith, m.2, n.2, above))

  roots_separate : (a n : ℕ) → AreSeparate (StandsFor w F) (vertices_of w) (range_with_len a n)
  unfolding AreSeparate
  roots_separate a zero = tt
  roots_separate a (suc n) = (
    λ y one other at at_one at_other for_one for_other. let r = range_gives (a + 1) n y at in roots_apart a y one other (omega (arith, r.0)) at_one at_other for_one for_other,
    roots_separate (a + 1) n,
  )

  pub once_all : AtMostOne (StandsFor w F) (vertices w)
  unfolding vertices
  once_all = once_flat_map (StandsFor w F) (vertices_of w) (places w) (λ root at. once_of_root root) (roots_separate 0 (length w.automata))

pub grows_once : GrowsOnce
grows_once w is_web F = once_all w is_web F
