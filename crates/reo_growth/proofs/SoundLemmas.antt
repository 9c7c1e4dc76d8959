-- What is true of each vertex; and so where no automaton is open, what fires in it is a connected firing.
use Rattle.std.proofs.Common.{◌≡◌, ℕ, zero, suc, ◌≤◌, inl, inr, List, [], ◌∷◌, length, Bool, true, false, cond, Option, Some, None, refl, sym, ◌∙◌, ap, subst, arith}
use Rattle.std.specs.Prelude.{nat_eq, nat_lt}
use Rattle.std.proofs.lemmas.Bool.{or_left, or_right, eq-eqb, ltb-false}
use Rattle.reo_growth.specs.declared.web.Web.{Web}
use Rattle.reo_growth.specs.Lists.{has, Among}
use Rattle.reo_growth.specs.Web.{names_of, links_of, IsWeb, Moves, FiresAs, Together, here, joined, IsConnected}
use Rattle.reo_growth.specs.Growth.{Move, Vertex, fired, is_listed, is_open, places, least_open, agrees, fits, with_link, extended, children_at, grown, vertices_of, vertices, is_complete}
use Rattle.reo_growth.specs.Laws.{GrowsOnly}
use Rattle.reo_growth.specs.Sound.{IsSound}
use Rattle.reo_growth.proofs.ListLemmas.{same_tests, flat_map_gives}
use Rattle.reo_growth.proofs.VertexLemmas.{fired_from, fired_gives, listed_gives, open_gives, least_gives, complete_lists, agrees_gives, fits_gives, extended_gives}

module _ (w : Web) where
  -- what hangs together in a set does so in a wider one
  pub wider : (F G : ℕ → Bool) (from x : ℕ) → ((name : ℕ) → F name ≡ true → G name ≡ true) → Together w F from x → Together w G from x
  wider F G from x more here = here
  wider F G from x more (joined {x = y} name path at_y at_x fires) = joined name (wider F G from y more path) at_y at_x (more name fires)

  pub path_on : (F : ℕ → Bool) (from x y : ℕ) → Together w F from x → Together w F x y → Together w F from y
  path_on F from x y first here = first
  path_on F from x y first (joined {x = z} name path at_z at_y fires) = joined name (path_on F from x z first path) at_z at_y fires

  pub path_back : (F : ℕ → Bool) (x y : ℕ) → Together w F x y → Together w F y x
  path_back F x y here = here
  path_back F x y (joined {x = z} name path at_z at_y fires) = path_on F y z x (joined name here at_y at_z fires) (path_back F x z path)

  pub fired_wider : (v : Vertex) (x : ℕ) (link : List ℕ) (name : ℕ) → fired v name ≡ true → fired (with_link v x link) name ≡ true
  unfolding fired with_link
  fired_wider v x link name h = or_right (has link name) (fired v name) h

  module _ (is_web : IsWeb w) where
    -- of its automaton's names, a move fires those that fire in the list
    pub fires_as : (root : ℕ) (v : Vertex) → IsSound w root v → (move : Move) (name : ℕ) → Among move v → has (names_of w move.automaton) name ≡ true → fired v name ≡ has move.fires name
    fires_as root v sound move name at its =
        same_tests (fired v name) (has move.fires name)
        (λ fires. let f = fired_gives v name fires in
        sound.agree move f.0 name at f.1 its (is_web.own f.0.automaton f.0.fires (sound.its f.0 f.1) name f.2) ∙ f.2)
        (λ fires. fired_from v move name at fires)

    module _ (root : ℕ) (v : Vertex) (sound : IsSound w root v) (x : ℕ) (link : List ℕ) (its : Among link (links_of w x)) (agree : agrees w v x link ≡ true) (fit : fits w (with_link v x link) ≡ true) (above : root ≤ x) (opens : is_open w v x ≡ true) where
      wide : Vertex
      wide = with_link v x link

      new : Move
      new = record { automaton = x; fires = link }

      agree_once : (other : Move) (name : ℕ) → Among other v → has (names_of w x) name ≡ true → has (names_of w other.automaton) name ≡ true → has link name ≡ has other.fires name
      agree_once other name at its_x its_other = agrees_gives w v x link agree other name at its_x its_other

      to_new : Together w (fired wide) root x
      unfolding wide
      to_new =
          let o = (open_gives w v x opens).1 in
          let f = fired_gives v o.0 o.2 in
          joined o.0 (wider (fired v) (fired wide) root f.0.automaton (fired_wider v x link) (sound.hangs f.0 f.1)) (is_web.own f.0.automaton f.0.fires (sound.its f.0 f.1) o.0 f.2) o.1 (fired_wider v x link o.0 o.2)

      -- a wider list is sound
      pub sound_next : IsSound w root (with_link v x link)
      unfolding wide with_link is_listed new
      sound_next = record {
        its = λ move at. its_of move at;
        above = λ move at. above_of move at;
        root_is = or_right (nat_eq x root) (is_listed v root) sound.root_is;
        agree = λ one other name at_one at_other. both one other name at_one at_other;
        fit = fit;
        hangs = λ move at. hangs_of move at;
      }
        where
          its_of : (move : Move) → Among move (new ∷ v) → Among move.fires (links_of w move.automaton)
          its_of move (inl is) = subst (λ (m : Move). Among m.fires (links_of w m.automaton)) is its
          its_of move (inr at) = sound.its move at

          above_of : (move : Move) → Among move (new ∷ v) → root ≤ move.automaton
          above_of move (inl is) = subst (λ (m : Move). root ≤ m.automaton) is above
          above_of move (inr at) = sound.above move at

          hangs_of : (move : Move) → Among move (new ∷ v) → Together w (fired (with_link v x link)) root move.automaton
          hangs_of move (inl is) = subst (λ (m : Move). Together w (fired (with_link v x link)) root m.automaton) is to_new
          hangs_of move (inr at) = wider (fired v) (fired (with_link v x link)) root move.automaton (fired_wider v x link) (sound.hangs move at)

          Agree : Move → Move → ℕ → Type 0
          Agree one other name = has (names_of w one.automaton) name ≡ true → has (names_of w other.automaton) name ≡ true → has one.fires name ≡ has other.fires name

          both : (one other : Move) (name : ℕ) → Among one (new ∷ v) → Among other (new ∷ v) → Agree one other name
          both one other name (inl is) (inl also) = let e : one ≡ other = sym is ∙ also in λ _ _. ap (λ (m : Move). has m.fires name) e
          both one other name (inl is) (inr at) = subst (λ m. Agree m other name) is (λ one_has other_has. agree_once other name at one_has other_has)
          both one other name (inr at) (inl is) = subst (λ m. Agree one m name) is (λ one_has other_has. sym (agree_once one name at other_has one_has))
          both one other name (inr at) (inr too) = sound.agree one other name at too

    -- a list of one automaton is sound
    pub sound_first : (root : ℕ) (u : Vertex) → Among u (extended w [] root) → IsSound w root u
    unfolding with_link is_listed
    sound_first root u at = let e = extended_gives w [] root u at in subst (IsSound w root) e.is (record {
      its = λ move at. elim at [ inl is ↦ subst (λ (m : Move). Among m.fires (links_of w m.automaton)) is e.its | inr never ↦ elim never [ ] ];
      above = λ move at. elim at [ inl is ↦ subst (λ (m : Move). root ≤ m.automaton) is (omega arith) | inr never ↦ elim never [ ] ];
      root_is = or_left (nat_eq root root) false (eq-eqb root root refl);
      agree = λ one other name at_one at_other. elim at_one [
        | inl is ↦ elim at_other [ inl also ↦ (let same : one ≡ other = sym is ∙ also in λ _ _. ap (λ (m : Move). has m.fires name) same) | inr never ↦ elim never [ ] ]
        | inr never ↦ elim never [ ]
      ];
      fit = e.fit;
      hangs = λ move at. elim at [ inl is ↦ subst (λ (m : Move). Together w (fired (with_link [] root e.link)) root m.automaton) is here | inr never ↦ elim never [ ] ];
    })

    -- a child of a sound list is sound
    pub sound_child : (root : ℕ) (v u : Vertex) → IsSound w root v → Among u (children_at w root v (least_open w v)) → IsSound w root u
    unfolding children_at
    sound_child root v u sound at = go (least_open w v) refl at
      where
        go : (o : Option ℕ) → least_open w v ≡ o → Among u (children_at w root v o) → IsSound w root u
        go None is at = elim at [ ]
        go (Some x) is at = below (nat_lt x root) refl at
          where
            below : (b : Bool) → nat_lt x root ≡ b → Among u (cond b [] (extended w v x)) → IsSound w root u
            below true less at = elim at [ ]
            below false less at =
                let e = extended_gives w v x u at in
                subst (IsSound w root) e.is (sound_next root v sound x e.link e.its e.agree e.fit (ltb-false x root less) (least_gives w v x is))

    -- all that grows from a sound list is sound
    pub sound_grown : (root n : ℕ) (v u : Vertex) → IsSound w root v → Among u (grown w root n v) → IsSound w root u
    unfolding grown
    sound_grown root zero v u sound (inl is) = subst (IsSound w root) is sound
    sound_grown root zero v u sound (inr never) = elim never [ ]
    sound_grown root (suc n) v u sound (inl is) = subst (IsSound w root) is sound
    sound_grown root (suc n) v u sound (inr at) =
        let f = flat_map_gives (grown w root n) (children_at w root v (least_open w v)) u at in
        sound_grown root n f.0 u (sound_child root v f.0 sound f.1) f.2

    pub sound_of_root : (root : ℕ) (v : Vertex) → Among v (vertices_of w root) → IsSound w root v
    unfolding vertices_of
    sound_of_root root v at =
        let f = flat_map_gives (grown w root (length w.automata)) (extended w [] root) v at in
        sound_grown root (length w.automata) f.0 v (sound_first root f.0 f.1) f.2

    module _ (root : ℕ) (v : Vertex) (sound : IsSound w root v) (complete : is_complete w v ≡ true) where
      moves_listed : (x : ℕ) → Moves w (fired v) x → (move : Move) × Among move v × (move.automaton ≡ x)
      moves_listed x moves = listed_gives v x (complete_lists w v complete x moves.name moves.its moves.fires)

      each_fires : (x : ℕ) → Moves w (fired v) x → (link : List ℕ) × FiresAs w (fired v) x link
      each_fires x moves =
          let m = moves_listed x moves in
          subst (λ y. (link : List ℕ) × FiresAs w (fired v) y link) m.2
          (m.0.fires, record { its = sound.its m.0 m.1; same = λ name its. fires_as root v sound m.0 name m.1 its })

      root_moves : Moves w (fired v) root
      root_moves =
          let m = listed_gives v root sound.root_is in
          let some = is_web.some m.0.automaton m.0.fires (sound.its m.0 m.1) in
          subst (Moves w (fired v)) m.2 (record { name = some.0; its = is_web.own m.0.automaton m.0.fires (sound.its m.0 m.1) some.0 some.1; fires = fired_from v m.0 some.0 m.1 some.1 })

      to_root : (x : ℕ) → Moves w (fired v) x → Together w (fired v) root x
      to_root x moves = let m = moves_listed x moves in subst (Together w (fired v) root) m.2 (sound.hangs m.0 m.1)

      -- what fires in a sound list with no open automaton is a connected firing
      pub connected_of : IsConnected w (fired v)
      connected_of = record {
        some = root;
        moving = root_moves;
        within = λ name fires. let f = fired_gives v name fires in (f.0.automaton, is_web.own f.0.automaton f.0.fires (sound.its f.0 f.1) name f.2);
        each = each_fires;
        cells = fits_gives w v sound.fit;
        together = λ x y moves_x moves_y. path_on (fired v) x root y (path_back (fired v) root x (to_root x moves_x)) (to_root y moves_y);
      }

pub grows_only : GrowsOnly
unfolding vertices
grows_only w is_web v at complete =
    let f = flat_map_gives (vertices_of w) (places w) v at in
    connected_of w is_web f.0 v (sound_of_root w is_web f.0 v f.2) complete
