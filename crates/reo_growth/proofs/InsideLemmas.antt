-- Growth finds each connected firing: from its least automaton on, some child stays inside it until it is whole.
use Rattle.std.proofs.Common.{◌≡◌, ℕ, zero, suc, ◌<◌, ◌≤◌, inl, inr, List, [], length, Bool, true, false, not, cond, Option, Some, None, is_some, refl, sym, ◌∙◌, ap, subst, arith}
use Rattle.std.specs.Prelude.{nat_eq, nat_lt}
use Rattle.std.specs.List.{list_any, find}
use Rattle.std.proofs.lemmas.Bool.{true≢false, or_left, or_right, eq-eqb, cases_Bool, le-ltb, ltb-true, lt-ltb}
use Rattle.reo_growth.specs.declared.web.Web.{Web}
use Rattle.reo_growth.specs.Lists.{has, Among}
use Rattle.reo_growth.specs.Web.{names_of, IsWeb, Moves, FiresAs, Together, here, joined, IsConnected}
use Rattle.reo_growth.specs.Growth.{Move, Vertex, fired, is_listed, is_open, places, least_open, agrees, fits, with_link, extended, children_at, grown, vertices_of, vertices, is_complete}
use Rattle.reo_growth.specs.Laws.{StandsFor, GrowsAll}
use Rattle.reo_growth.proofs.ListLemmas.{same_tests, any_from, any_gives, among_flat_map, has_among, among_has, among_range, find_gives, find_fails}
use Rattle.reo_growth.proofs.UnlistedLemmas.{unlisted, unlisted_bound, fewer}
use Rattle.reo_growth.proofs.VertexLemmas.{fired_from, fired_gives, listed_gives, name_within, open_gives, least_gives, complete_lists, agrees_from, fits_from, extended_from}

module _ (w : Web) (F : ℕ → Bool) where
  -- all that moves so far moves as in the set
  pub record IsInside (root : ℕ) (v : Vertex) : Type 0 where
    pub its : (move : Move) → Among move v → FiresAs w F move.automaton move.fires
    pub root_is : is_listed v root ≡ true

  module _ (is_web : IsWeb w) (connected : IsConnected w F) where
    moves_test : ℕ → Bool
    moves_test x = list_any F (names_of w x)

    test_from : (x : ℕ) → Moves w F x → moves_test x ≡ true
    unfolding moves_test
    test_from x moves = any_from F (names_of w x) moves.name (has_among (names_of w x) moves.name moves.its) moves.fires

    test_gives : (x : ℕ) → moves_test x ≡ true → Moves w F x
    unfolding moves_test
    test_gives x h = let f = any_gives F (names_of w x) h in record { name = f.0; its = among_has (names_of w x) f.0 f.1; fires = f.2 }

    -- the least automaton that moves
    least_moving : (x : ℕ) × Moves w F x × ((y : ℕ) → Moves w F y → x ≤ y)
    least_moving = go (find moves_test (places w)) refl
      where
        go : (o : Option ℕ) → find moves_test (places w) ≡ o → (x : ℕ) × Moves w F x × ((y : ℕ) → Moves w F y → x ≤ y)
        go None is =
            let m = connected.moving in
            absurd (true≢false (sym (test_from connected.some m) ∙ find_fails moves_test 0 (length w.automata) is connected.some (omega arith) (let b = name_within w connected.some m.name m.its in omega arith)))
        go (Some x) is =
            let f = find_gives moves_test 0 (length w.automata) x is in (
              x,
              test_gives x f.2,
              λ y moves. elim (cases_Bool (nat_lt y x)) [
                | inl less ↦ absurd (true≢false (sym (test_from y moves) ∙ f.3 y (omega arith) (ltb-true y x less)))
                | inr more ↦ (let ne : y < x → ⊥ = λ l. true≢false (sym (lt-ltb y x l) ∙ more) in omega arith)
              ],
            )

    fires_inside : (root : ℕ) (v : Vertex) → IsInside root v → (name : ℕ) → fired v name ≡ true → F name ≡ true
    fires_inside root v inside name fires =
        let f = fired_gives v name fires in
        let a = inside.its f.0 f.1 in
        a.same name (is_web.own f.0.automaton f.0.fires a.its name f.2) ∙ f.2

    module _ (root : ℕ) (least : (y : ℕ) → Moves w F y → root ≤ y) where
      open_moves : (v : Vertex) → IsInside root v → (x : ℕ) → is_open w v x ≡ true → Moves w F x
      open_moves v inside x opens = let o = (open_gives w v x opens).1 in record { name = o.0; its = o.1; fires = fires_inside root v inside o.0 o.2 }

      -- the automaton's link in the set makes a list that is inside too
      inside_next : (v : Vertex) (x : ℕ) (link : List ℕ) → IsInside root v → FiresAs w F x link → IsInside root (with_link v x link)
      unfolding with_link is_listed
      inside_next v x link inside fires = record {
        its = λ move at. elim at [ inl is ↦ subst (λ (m : Move). FiresAs w F m.automaton m.fires) is fires | inr later ↦ inside.its move later ];
        root_is = or_right (nat_eq x root) (is_listed v root) inside.root_is;
      }

      fits_inside : (v : Vertex) → IsInside root v → fits w v ≡ true
      fits_inside v inside = fits_from w v (λ a b at fires_a fires_b. connected.cells a b at (fires_inside root v inside a fires_a) (fires_inside root v inside b fires_b))

      next_child : (v : Vertex) (x : ℕ) (link : List ℕ) → IsInside root v → FiresAs w F x link → Among (with_link v x link) (extended w v x)
      next_child v x link inside fires =
          extended_from w v x link fires.its
          (agrees_from w v x link (λ move name at its theirs. sym (fires.same name its) ∙ (inside.its move at).same name theirs))
          (fits_inside (with_link v x link) (inside_next v x link inside fires))

      child_inside : (v : Vertex) (x : ℕ) → least_open w v ≡ Some x → IsInside root v
          → (link : List ℕ) × Among (with_link v x link) (children_at w root v (least_open w v)) × IsInside root (with_link v x link) × (unlisted w (with_link v x link) < unlisted w v)
      unfolding children_at
      child_inside v x is inside =
          let opens = least_gives w v x is in
          let moves = open_moves v inside x opens in
          let link = connected.each x moves in
          let at = next_child v x link.0 inside link.1 in
          let above : cond (nat_lt x root) [] (extended w v x) ≡ extended w v x = ap (λ b. cond b [] (extended w v x)) (le-ltb x root (least x moves)) in (
            link.0,
            subst (λ o. Among (with_link v x link.0) (children_at w root v o)) (sym is) (subst (Among (with_link v x link.0)) (sym above) at),
            inside_next v x link.0 inside link.1,
            fewer w v x link.0 (name_within w x moves.name moves.its) (open_gives w v x opens).0,
          )

      Whole : Vertex → ℕ → Type 0
      Whole v n = (u : Vertex) × Among u (grown w root n v) × IsInside root u × (is_complete w u ≡ true)

      -- a complete list inside the set grows from any list inside it
      grows_inside : (n : ℕ) (v : Vertex) → IsInside root v → unlisted w v ≤ n → Whole v n
      unfolding Whole grown is_complete
      grows_inside zero v inside bound = go (least_open w v) refl
        where
          go : (o : Option ℕ) → least_open w v ≡ o → Whole v zero
          go None is = (v, inl refl, inside, ap (λ o. not (is_some o)) is)
          go (Some x) is = let c = child_inside v x is inside in absurd (omega (arith, c.3))
      grows_inside (suc n) v inside bound = go (least_open w v) refl (grows_inside n)
        where
          go : (o : Option ℕ) → least_open w v ≡ o → ((u : Vertex) → IsInside root u → unlisted w u ≤ n → Whole u n) → Whole v (suc n)
          go None is rest = (v, inl refl, inside, ap (λ o. not (is_some o)) is)
          go (Some x) is rest =
              let c = child_inside v x is inside in
              let r = rest (with_link v x c.0) c.2 (omega (arith, c.3)) in
              (r.0, inr (among_flat_map (grown w root n) (children_at w root v (least_open w v)) (with_link v x c.0) r.0 c.1 r.1), r.2, r.3)

      -- in a complete list inside the set, all that moves is listed
      all_listed : (u : Vertex) → IsInside root u → is_complete w u ≡ true → (x : ℕ) → Together w F root x → is_listed u x ≡ true
      all_listed u inside complete x here = inside.root_is
      all_listed u inside complete x (joined {x = y} name path at_y at_x fires) =
          let m = listed_gives u y (all_listed u inside complete y path) in
          let at : has (names_of w m.0.automaton) name ≡ true = subst (λ z. has (names_of w z) name ≡ true) (sym m.2) at_y in
          complete_lists w u complete x name at_x (fired_from u m.0 name m.1 (sym ((inside.its m.0 m.1).same name at) ∙ fires))

      whole_fires : (u : Vertex) → IsInside root u → is_complete w u ≡ true → Moves w F root → (name : ℕ) → fired u name ≡ F name
      whole_fires u inside complete moving name = same_tests (fired u name) (F name) (fires_inside root u inside name) (λ fires.
          let x = connected.within name fires in
          let m = listed_gives u x.0 (all_listed u inside complete x.0 (connected.together root x.0 moving (record { name = name; its = x.1; fires = fires }))) in
          let at : has (names_of w m.0.automaton) name ≡ true = subst (λ z. has (names_of w z) name ≡ true) (sym m.2) x.1 in
          fired_from u m.0 name m.1 (sym ((inside.its m.0 m.1).same name at) ∙ fires))

      first_inside : (link : List ℕ) → FiresAs w F root link → IsInside root (with_link [] root link)
      unfolding with_link is_listed
      first_inside link fires = record {
        its = λ move at. elim at [ inl is ↦ subst (λ (m : Move). FiresAs w F m.automaton m.fires) is fires | inr never ↦ elim never [ ] ];
        root_is = or_left (nat_eq root root) false (eq-eqb root root refl);
      }

      first_is_vertex : (link : List ℕ) → FiresAs w F root link → Among (with_link [] root link) (extended w [] root)
      unfolding agrees
      first_is_vertex link fires = extended_from w [] root link fires.its refl (fits_inside (with_link [] root link) (first_inside link fires))

      found_from : Moves w F root → (v : Vertex) × Among v (vertices w) × StandsFor w F v
      unfolding vertices vertices_of Whole
      found_from moving =
          let link = connected.each root moving in
          let first = with_link [] root link.0 in
          let whole = grows_inside (length w.automata) first (first_inside link.0 link.1)
          (let b = unlisted_bound w first in omega arith) in (
            whole.0,
            among_flat_map (vertices_of w) (places w) root whole.0
                (among_range 0 (length w.automata) root (omega arith) (let b = name_within w root moving.name moving.its in omega arith))
                (among_flat_map (grown w root (length w.automata)) (extended w [] root) first whole.0 (first_is_vertex link.0 link.1) whole.1),
            record { complete = whole.3; fires = whole_fires whole.0 whole.2 whole.3 moving },
          )

pub grows_all : GrowsAll
grows_all w is_web F connected =
    let least = least_moving w F is_web connected in
    found_from w F is_web connected least.0 least.2 least.1
