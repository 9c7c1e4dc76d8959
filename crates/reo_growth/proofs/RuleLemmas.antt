-- The list of vertices has what the rules give: the bound on further automata cuts nothing off.
use Rattle.std.proofs.Common.{◌≡◌, ℕ, zero, suc, ◌<◌, ◌≤◌, inl, inr, [], length, Bool, true, false, cond, Option, Some, None, refl, sym, subst, arith}
use Rattle.std.specs.Prelude.{nat_lt}
use Rattle.std.proofs.lemmas.Bool.{ltb-false, le-ltb}
use Rattle.reo_growth.specs.declared.web.Web.{Web}
use Rattle.reo_growth.specs.Lists.{Among}
use Rattle.reo_growth.specs.Growth.{Vertex, least_open, agrees, with_link, extended, children_at, grown, vertices_of, IsVertex}
use Rattle.reo_growth.specs.Growth.IsVertex.{alone, child}
use Rattle.reo_growth.specs.Laws.{VerticesByRule}
use Rattle.reo_growth.proofs.ListLemmas.{among_flat_map, flat_map_gives}
use Rattle.reo_growth.proofs.UnlistedLemmas.{unlisted, unlisted_bound, fewer}
use Rattle.reo_growth.proofs.VertexLemmas.{name_within, open_gives, least_gives, IsExtended, extended_gives, extended_from}

module _ (w : Web) (root : ℕ) where
  -- a child, by what it is made of
  record IsChild (v u : Vertex) : Type 0 where
    x : ℕ
    least : least_open w v ≡ Some x
    above : root ≤ x
    made : IsExtended w v x u

  child_gives : (v u : Vertex) → Among u (children_at w root v (least_open w v)) → IsChild v u
  unfolding children_at
  child_gives v u at = go (least_open w v) refl at
    where
      go : (o : Option ℕ) → least_open w v ≡ o → Among u (children_at w root v o) → IsChild v u
      go None is at = elim at [ ]
      go (Some x) is at = below (nat_lt x root) refl at
        where
          below : (b : Bool) → nat_lt x root ≡ b → Among u (cond b [] (extended w v x)) → IsChild v u
          below true less at = elim at [ ]
          below false more at = record { x = x; least = is; above = ltb-false x root more; made = extended_gives w v x u at }

  child_from : (v : Vertex) (x : ℕ) (u : Vertex) → least_open w v ≡ Some x → root ≤ x → Among u (extended w v x) → Among u (children_at w root v (least_open w v))
  unfolding children_at
  child_from v x u is above at =
      subst (λ o. Among u (children_at w root v o)) (sym is) (subst (λ b. Among u (cond b [] (extended w v x))) (sym (le-ltb x root above)) at)

  child_fewer : (v u : Vertex) → Among u (children_at w root v (least_open w v)) → unlisted w u < unlisted w v
  child_fewer v u at =
      let c = child_gives v u at in
      let o = open_gives w v c.x (least_gives w v c.x c.least) in
      subst (λ t. unlisted w t < unlisted w v) c.made.is (fewer w v c.x c.made.link (name_within w c.x o.1.0 o.1.1) o.0)

  child_by_rule : (v u : Vertex) → IsVertex w root v → Among u (children_at w root v (least_open w v)) → IsVertex w root u
  child_by_rule v u vertex at =
      let c = child_gives v u at in
      subst (IsVertex w root) c.made.is (child v c.x c.made.link vertex c.least c.above c.made.its c.made.agree c.made.fit)

  grown_by_rule : (n : ℕ) (v u : Vertex) → IsVertex w root v → Among u (grown w root n v) → IsVertex w root u
  unfolding grown
  grown_by_rule zero v u vertex (inl is) = subst (IsVertex w root) is vertex
  grown_by_rule zero v u vertex (inr never) = elim never [ ]
  grown_by_rule (suc n) v u vertex (inl is) = subst (IsVertex w root) is vertex
  grown_by_rule (suc n) v u vertex (inr at) =
      let f = flat_map_gives (grown w root n) (children_at w root v (least_open w v)) u at in
      grown_by_rule n f.0 u (child_by_rule v f.0 vertex f.1) f.2

  grown_self : (n : ℕ) (v : Vertex) → Among v (grown w root n v)
  unfolding grown
  grown_self zero v = inl refl
  grown_self (suc n) v = inl refl

  -- a child of what grows grows too
  grown_child : (n : ℕ) (v u c : Vertex) → unlisted w v ≤ n → Among u (grown w root n v) → Among c (children_at w root u (least_open w u)) → Among c (grown w root n v)
  unfolding grown
  grown_child zero v u c few (inl is) at =
      let less = child_fewer v c (subst (λ t. Among c (children_at w root t (least_open w t))) (sym is) at) in absurd (omega arith)
  grown_child zero v u c few (inr never) at = elim never [ ]
  grown_child (suc n) v u c few (inl is) at =
      inr (among_flat_map (grown w root n) (children_at w root v (least_open w v)) c c (subst (λ t. Among c (children_at w root t (least_open w t))) (sym is) at) (grown_self n c))
  grown_child (suc n) v u c few (inr grows) at =
      let f = flat_map_gives (grown w root n) (children_at w root v (least_open w v)) u grows in
      let less = child_fewer v f.0 f.1 in
      inr (among_flat_map (grown w root n) (children_at w root v (least_open w v)) f.0 c f.1 (grown_child n f.0 u c (omega arith) f.2 at))

  to_rule : (v : Vertex) → Among v (vertices_of w root) → IsVertex w root v
  unfolding vertices_of
  to_rule v at =
      let f = flat_map_gives (grown w root (length w.automata)) (extended w [] root) v at in
      let e = extended_gives w [] root f.0 f.1 in
      grown_by_rule (length w.automata) f.0 v (subst (IsVertex w root) e.is (alone e.link e.its e.fit)) f.2

  from_rule : (v : Vertex) → IsVertex w root v → Among v (vertices_of w root)
  unfolding vertices_of agrees
  from_rule v (alone link its fit) =
      among_flat_map (grown w root (length w.automata)) (extended w [] root) (with_link [] root link) (with_link [] root link) (extended_from w [] root link its refl fit) (grown_self (length w.automata) (with_link [] root link))
  from_rule v (child u x link vertex is above its agree fit) =
      let f = flat_map_gives (grown w root (length w.automata)) (extended w [] root) u (from_rule u vertex) in
      among_flat_map (grown w root (length w.automata)) (extended w [] root) f.0 (with_link u x link) f.1
      (grown_child (length w.automata) f.0 u (with_link u x link) (unlisted_bound w f.0) f.2 (child_from u x (with_link u x link) is above (extended_from w u x link its agree fit)))

pub vertices_by_rule : VerticesByRule
vertices_by_rule w root v = (to_rule w root v, from_rule w root v)
