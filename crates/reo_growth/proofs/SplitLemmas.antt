-- A set that automata fire together splits into connected firings.
use Rattle.std.proofs.Common.{◌≡◌, ℕ, List, length, Bool, true, ◌&&◌, ◌∙◌, arith}
use Rattle.std.specs.List.{list_any}
use Rattle.std.proofs.lemmas.Bool.{and_parts, and_from}
use Rattle.reo_graph.specs.Paths.{Path}
use Rattle.reo_graph.specs.Paths.Path.{one, more}
use Rattle.reo_graph.specs.Closure.{goes, AreBelow}
use Rattle.reo_graph.proofs.ClosureLemmas.{closure_decides}
use Rattle.reo_growth.specs.declared.web.Web.{Web}
use Rattle.reo_growth.specs.Lists.{has}
use Rattle.reo_growth.specs.Web.{names_of, Moves, FiresAs, Together, here, joined}
use Rattle.reo_growth.specs.Growth.{places}
use Rattle.reo_growth.specs.Laws.{IsJointFiring, IsPart, SplitsIntoParts, PartsShareNothing}
use Rattle.reo_growth.proofs.ListLemmas.{same_tests, any_from, any_gives, has_among, among_has, among_range}
use Rattle.reo_growth.proofs.VertexLemmas.{name_within}
use Rattle.reo_growth.proofs.SoundLemmas.{path_on, path_back}

module _ (w : Web) (F : ℕ → Bool) where
  -- two automata share a name of the set
  shares : ℕ → ℕ → Bool
  shares x y = list_any (λ name. F name && has (names_of w y) name) (names_of w x)

  shares_from : (x y name : ℕ) → has (names_of w x) name ≡ true → has (names_of w y) name ≡ true → F name ≡ true → shares x y ≡ true
  unfolding shares
  shares_from x y name of_x of_y fires = any_from (λ name. F name && has (names_of w y) name) (names_of w x) name (has_among (names_of w x) name of_x) (and_from (F name) (has (names_of w y) name) fires of_y)

  shares_gives : (x y : ℕ) → shares x y ≡ true → (name : ℕ) × (has (names_of w x) name ≡ true) × (has (names_of w y) name ≡ true) × (F name ≡ true)
  unfolding shares
  shares_gives x y h =
      let f = any_gives (λ name. F name && has (names_of w y) name) (names_of w x) h in
      let p = and_parts (F f.0) (has (names_of w y) f.0) f.2 in
      (f.0, among_has (names_of w x) f.0 f.1, p.1, p.0)

  shares_below : AreBelow shares (length w.automata)
  shares_below x y h = let g = shares_gives x y h in (name_within w x g.0 g.1, name_within w y g.0 g.2)

  module _ (joint : IsJointFiring w F) (x : ℕ) (moves : Moves w F x) where
    -- a path of shared names leads from x to y
    near : ℕ → Bool
    near y = goes shares (length w.automata) x y

    near_from : (y : ℕ) → Path shares x y → near y ≡ true
    unfolding near
    near_from y path = (closure_decides shares (length w.automata) shares_below x y).1 path

    near_gives : (y : ℕ) → near y ≡ true → Path shares x y
    unfolding near
    near_gives y h = (closure_decides shares (length w.automata) shares_below x y).0 h

    near_self : near x ≡ true
    near_self = near_from x (one (shares_from x x moves.name moves.its moves.its moves.fires))

    near_next : (y z name : ℕ) → near y ≡ true → has (names_of w y) name ≡ true → has (names_of w z) name ≡ true → F name ≡ true → near z ≡ true
    near_next y z name h of_y of_z fires = near_from z (more (near_gives y h) (shares_from y z name of_y of_z fires))

    pub part : ℕ → Bool
    part name = F name && list_any (λ y. near y && has (names_of w y) name) (places w)

    part_from : (y name : ℕ) → near y ≡ true → has (names_of w y) name ≡ true → F name ≡ true → part name ≡ true
    unfolding part
    part_from y name h its fires =
        and_from (F name) (list_any (λ y. near y && has (names_of w y) name) (places w)) fires
        (any_from (λ y. near y && has (names_of w y) name) (places w) y (among_range 0 (length w.automata) y (omega arith) (let b = name_within w y name its in omega arith)) (and_from (near y) (has (names_of w y) name) h its))

    part_gives : (name : ℕ) → part name ≡ true → (F name ≡ true) × ((y : ℕ) × (near y ≡ true) × (has (names_of w y) name ≡ true))
    unfolding part
    part_gives name h =
        let p = and_parts (F name) (list_any (λ y. near y && has (names_of w y) name) (places w)) h in
        let f = any_gives (λ y. near y && has (names_of w y) name) (places w) p.1 in
        let q = and_parts (near f.0) (has (names_of w f.0) name) f.2 in
        (p.0, (f.0, q.0, q.1))

    -- an automaton with a name in the part is near
    part_near : (y at : ℕ) → has (names_of w y) at ≡ true → part at ≡ true → near y ≡ true
    part_near y at its h = let g = part_gives at h in near_next g.1.0 y at g.1.1 g.1.2 its g.0

    part_closed : (y at name : ℕ) → has (names_of w y) at ≡ true → part at ≡ true → has (names_of w y) name ≡ true → F name ≡ true → part name ≡ true
    part_closed y at name its h also fires = part_from y name (part_near y at its h) also fires

    walk : {y : ℕ} → Path shares x y → Together w part x y
    walk (one {j = y} e) = let g = shares_gives x y e in joined g.0 here g.1 g.2 (part_from x g.0 near_self g.1 g.3)
    walk (more {j = y} {k = z} path e) = let g = shares_gives y z e in joined g.0 (walk path) g.1 g.2 (part_from y g.0 (near_from y path) g.1 g.3)

    reach : (y : ℕ) → Moves w part y → Together w part x y
    reach y m = walk (near_gives y (part_near y m.name m.its m.fires))

    fires_link : (y : ℕ) → Moves w part y → (link : List ℕ) × FiresAs w part y link
    fires_link y m =
        let link = joint.each y (record { name = m.name; its = m.its; fires = (part_gives m.name m.fires).0 }) in (
          link.0,
          record {
            its = link.1.its;
            same = λ name its. same_tests (part name) (F name) (λ h. (part_gives name h).0) (λ fires. part_closed y m.name name m.its m.fires its fires) ∙ link.1.same name its;
          },
        )

    pub is_part : IsPart w F x part
    is_part = record {
      connected = record {
        some = x;
        moving = record { name = moves.name; its = moves.its; fires = part_from x moves.name near_self moves.its moves.fires };
        within = λ name h. joint.within name (part_gives name h).0;
        each = fires_link;
        cells = λ a b at fires_a fires_b. joint.cells a b at (part_gives a fires_a).0 (part_gives b fires_b).0;
        together = λ y z moves_y moves_z. path_on w part y x z (path_back w part x y (reach y moves_y)) (reach z moves_z);
      };
      inside = λ name h. (part_gives name h).0;
      own = λ name its fires. part_from x name near_self its fires;
      closed = part_closed;
    }

pub splits : SplitsIntoParts
splits w F joint x moves = (part w F joint x moves, is_part w F joint x moves)

-- along a path in the one part, all is in the other
follows : (w : Web) (F first second : ℕ → Bool) (x y : ℕ) → IsPart w F x first → IsPart w F y second → (z : ℕ) → Moves w second z → (u : ℕ) → Together w first z u → Moves w second u
follows w F first second x y a b z moves u here = moves
follows w F first second x y a b z moves u (joined {x = v} name path at_v at_u fires) =
    let m = follows w F first second x y a b z moves v path in
    record { name = name; its = at_u; fires = b.closed v m.name name m.its m.fires at_v (a.inside name fires) }

within_other : (w : Web) (F first second : ℕ → Bool) (x y : ℕ) → IsPart w F x first → IsPart w F y second → (shared : ℕ) → first shared ≡ true → second shared ≡ true → (name : ℕ) → first name ≡ true → second name ≡ true
within_other w F first second x y a b shared in_first in_second name h =
    let z = a.connected.within shared in_first in
    let u = a.connected.within name h in
    let path = a.connected.together z.0 u.0 (record { name = shared; its = z.1; fires = in_first }) (record { name = name; its = u.1; fires = h }) in
    let m = follows w F first second x y a b z.0 (record { name = shared; its = z.1; fires = in_second }) u.0 path in
    b.closed u.0 m.name name m.its m.fires u.1 (a.inside name h)

pub share_nothing : PartsShareNothing
share_nothing w F x y first second a b shared in_first in_second name =
    same_tests (first name) (second name) (within_other w F first second x y a b shared in_first in_second name) (within_other w F second first y x b a shared in_second in_first name)
