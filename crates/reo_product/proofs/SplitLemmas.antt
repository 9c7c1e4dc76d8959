-- A product step splits, region by region, into connected firings.
use Rattle.std.proofs.Common.{◌≡◌, ℕ, ◌<◌, ⊎_elim, List, length, slice_get, Bool, true, ◌&&◌, Option, Some, None, is_some, refl, sym, ◌∙◌, ap, subst, arith}
use Rattle.std.specs.Prelude.{nat_eq}
use Rattle.std.specs.List.{list_any, range_with_len}
use Rattle.std.proofs.lemmas.Bool.{false≢true, and_parts, and_from, eqb-true, eq-eqb}
use Rattle.reo_value.specs.declared.value.Value.{Value}
use Rattle.reo_net.specs.declared.kind.Kind.{Kind}
use Rattle.reo_net.specs.declared.kind.Kind.TheVariants.{Sync, Lossy, Drain, Fifo, Filter, Transform}
use Rattle.reo_net.specs.declared.circuit.Channel.{Channel}
use Rattle.reo_net.specs.declared.circuit.RawCircuit.{RawCircuit}
use Rattle.reo_net.specs.declared.circuit.Step.{Step}
use Rattle.reo_net.specs.Names.{end_a, end_b}
use Rattle.reo_net.specs.Kind.{is_fifo, fires_ends, ChannelStep}
use Rattle.reo_net.specs.Steps.{State, datum, fires_in, content, ProductStep}
use Rattle.reo_net.specs.Regions.{Automaton, OfChannel, OfNode, HasName, IsSynchronous, SameRegion, AutomatonFires, HangsTogether, Moves}
use Rattle.reo_net.specs.Regions.SameRegion.{here as region_here, linked as region_linked}
use Rattle.reo_net.specs.Regions.HangsTogether.{here as together_here, linked as together_linked}
use Rattle.reo_growth.specs.declared.web.Web.{Web}
use Rattle.reo_growth.specs.Lists.{has}
use Rattle.reo_growth.specs.Web.{names_of}
use Rattle.reo_growth.specs.Growth.{places}
use Rattle.reo_growth.specs.Laws.{IsJointFiring, IsPart as IsWebPart}
use Rattle.reo_growth.proofs.ListLemmas.{same_tests, any_from, any_gives, among_range}
use Rattle.reo_growth.proofs.VertexLemmas.{name_within}
use Rattle.reo_growth.proofs.SplitLemmas.{splits}
use Rattle.reo_product.specs.RegionWeb.{name_at, IsRegionWeb}
use Rattle.reo_product.specs.Laws.{Matches, IsPart, StepsSplit, PartsShareNothing, RegionsShareNothing}
use Rattle.reo_product.proofs.RegionLemmas.{sync_to, follow, turn}
use Rattle.reo_product.proofs.ExistLemmas.{regions_have_webs}
use Rattle.reo_product.proofs.BridgeLemmas.{one_place, at, of_place, of_name, to_region, one_number, link_of_fires}

-- the ends of a channel that moves are those of a transition
moves_ends : (texts : List (List ℕ)) (kind : Kind) (held a b new : Option Value) → ChannelStep texts kind held a b new → fires_ends kind (is_some a) (is_some b) ≡ true
moves_ends texts Sync held (Some d) (Some e) new s = refl
moves_ends texts Sync held (Some d) None new s = absurd s.0
moves_ends texts Sync held None b new s = absurd s.0
moves_ends texts Lossy held (Some d) b new s = refl
moves_ends texts Lossy held None b new s = absurd s.0
moves_ends texts Drain held (Some d) (Some e) new s = refl
moves_ends texts Drain held (Some d) None new s = absurd s.0
moves_ends texts Drain held None b new s = absurd s.0
moves_ends texts (Fifo first) None (Some d) None new s = refl
moves_ends texts (Fifo first) None (Some d) (Some e) new s = absurd s
moves_ends texts (Fifo first) None None b new s = absurd s
moves_ends texts (Fifo first) (Some held) None (Some d) new s = refl
moves_ends texts (Fifo first) (Some held) None None new s = absurd s
moves_ends texts (Fifo first) (Some held) (Some d) b new s = absurd s
moves_ends texts (Filter guard) held (Some d) b new s = refl
moves_ends texts (Filter guard) held None b new s = absurd s.0
moves_ends texts (Transform fun) held (Some d) (Some e) new s = refl
moves_ends texts (Transform fun) held (Some d) None new s = absurd s.0
moves_ends texts (Transform fun) held None b new s = absurd s.0

-- a buffer never fires both ends
never_both : (texts : List (List ℕ)) (kind : Kind) (held a b new : Option Value) → is_fifo kind ≡ true → ChannelStep texts kind held a b new → is_some a ≡ true → is_some b ≡ true → ⊥
never_both texts Sync held a b new fifo s fires_a fires_b = false≢true fifo
never_both texts Lossy held a b new fifo s fires_a fires_b = false≢true fifo
never_both texts Drain held a b new fifo s fires_a fires_b = false≢true fifo
never_both texts (Filter guard) held a b new fifo s fires_a fires_b = false≢true fifo
never_both texts (Transform fun) held a b new fifo s fires_a fires_b = false≢true fifo
never_both texts (Fifo first) held None b new fifo s fires_a fires_b = false≢true fires_a
never_both texts (Fifo first) held (Some d) None new fifo s fires_a fires_b = false≢true fires_b
never_both texts (Fifo first) None (Some d) (Some e) new fifo s fires_a fires_b = s
never_both texts (Fifo first) (Some held) (Some d) (Some e) new fifo s fires_a fires_b = s

module _ (c : RawCircuit) (texts : List (List ℕ)) (old : State) (step : Step) (new : State) (product : ProductStep c texts old step new) where
  pub F : ℕ → Bool
  F = fires_in (datum step)

  none_fires : (name : ℕ) → datum step name ≡ None → F name ≡ true → ⊥
  unfolding F
  none_fires name none fires = false≢true (sym (ap is_some none) ∙ fires)

  -- an automaton that is no FIFO1 fires one of its transitions, where it moves
  fires_transition : (x : Automaton) (name : ℕ) → IsSynchronous c x → HasName c x name → F name ≡ true → AutomatonFires c x F
  unfolding F
  fires_transition (OfChannel k) name sync its fires = ⊎_elim
      (λ stays. absurd (⊎_elim
      (λ is_a. none_fires name (ap (datum step) is_a ∙ stays.no_a) fires)
      (λ is_b. none_fires name (ap (datum step) is_b ∙ stays.no_b) fires) its))
      (λ moves. (sync.0, sync.1, moves_ends texts sync.0.kind (content c k sync.0.kind old) (datum step (end_a c k)) (datum step (end_b c k)) (content c k sync.0.kind new) moves))
      (product.channels k sync.0 sync.1)
  fires_transition (OfNode node) name sync its fires = ⊎_elim
      (λ stays. absurd (none_fires name (stays name its) fires))
      (λ moves. moves.fires)
      (product.nodes node sync)

  no_cell_twice : (k : ℕ) (channel : Channel) → slice_get c.channels k ≡ Some channel → is_fifo channel.kind ≡ true → F (end_a c k) ≡ true → F (end_b c k) ≡ true → ⊥
  unfolding F
  no_cell_twice k channel found fifo fires_a fires_b = ⊎_elim
      (λ stays. none_fires (end_a c k) stays.no_a fires_a)
      (λ moves. never_both texts channel.kind (content c k channel.kind old) (datum step (end_a c k)) (datum step (end_b c k)) (content c k channel.kind new) fifo moves fires_a fires_b)
      (product.channels k channel found)

  sync_of : (root x : Automaton) → SameRegion c root x → IsSynchronous c x
  sync_of root x (region_here sync) = sync
  sync_of root x (region_linked name path sync at_x at_y) = sync

  module _ (root : Automaton) (names : List ℕ) (w : Web) (web : IsRegionWeb c root names w) where
    -- the places of the region at which names fire
    local : ℕ → Bool
    local place = F (name_at names place) && list_any (λ i. has (names_of w i) place) (places w)

    local_from : (i place : ℕ) → has (names_of w i) place ≡ true → F (name_at names place) ≡ true → local place ≡ true
    unfolding local
    local_from i place its fires =
        and_from (F (name_at names place)) (list_any (λ i. has (names_of w i) place) (places w)) fires
        (any_from (λ i. has (names_of w i) place) (places w) i (among_range 0 (length w.automata) i (omega arith) (let b = name_within w i place its in omega arith)) its)

    local_gives : (place : ℕ) → local place ≡ true → (F (name_at names place) ≡ true) × ((i : ℕ) × (has (names_of w i) place ≡ true))
    unfolding local
    local_gives place h =
        let p = and_parts (F (name_at names place)) (list_any (λ i. has (names_of w i) place) (places w)) h in
        let f = any_gives (λ i. has (names_of w i) place) (places w) p.1 in
        (p.0, (f.0, f.2))

    local_same : (i place : ℕ) → has (names_of w i) place ≡ true → local place ≡ F (name_at names place)
    local_same i place its = same_tests (local place) (F (name_at names place)) (λ h. (local_gives place h).0) (λ h. local_from i place its h)

    joint : IsJointFiring w local
    joint = record {
      within = λ place h. (local_gives place h).1;
      each = λ i m.
          let o = of_place c root names w web i m.name m.its in
          let fires = fires_transition (at c root names w web i) (name_at names m.name) (sync_of root (at c root names w web i) o.2) o.1 (local_gives m.name m.fires).0 in
          link_of_fires c root names w web i local F (name_within w i m.name m.its) (local_same i) fires;
      cells = λ a b among fires_a fires_b.
          let e = web.cells a b among in
          no_cell_twice e.2.0 e.2.1 e.2.2 e.2.3 (ap F (sym e.2.4) ∙ (local_gives a fires_a).0) (ap F (sym e.2.5) ∙ (local_gives b fires_b).0);
    }

    module _ (x : Automaton) (moves : Moves c root F x) where
      home : (i : ℕ) × (i < length web.region) × (at c root names w web i ≡ x) × ((place : ℕ) × (has (names_of w i) place ≡ true) × (name_at names place ≡ moves.name))
      home = of_name c root names w web x moves.name moves.of_region moves.has

      web_part : (part : ℕ → Bool) × IsWebPart w local home.0 part
      web_part = splits w local joint home.0 (record { name = home.3.0; its = home.3.1; fires = local_from home.0 home.3.0 home.3.1 (ap F home.3.2 ∙ moves.fired) })

      pub part : ℕ → Bool
      part name = list_any (λ place. web_part.0 place && nat_eq (name_at names place) name) (range_with_len 0 (length names))

      place_below : (place : ℕ) → web_part.0 place ≡ true → place < length names
      place_below place h = let i = web_part.1.connected.within place h in (of_place c root names w web i.0 place i.1).0

      part_from : (place name : ℕ) → web_part.0 place ≡ true → name_at names place ≡ name → part name ≡ true
      unfolding part
      part_from place name h is =
          any_from (λ place. web_part.0 place && nat_eq (name_at names place) name) (range_with_len 0 (length names)) place
          (among_range 0 (length names) place (omega arith) (let b = place_below place h in omega arith)) (and_from (web_part.0 place) (nat_eq (name_at names place) name) h (eq-eqb (name_at names place) name is))

      part_gives : (name : ℕ) → part name ≡ true → (place : ℕ) × (web_part.0 place ≡ true) × (name_at names place ≡ name)
      unfolding part
      part_gives name h =
          let f = any_gives (λ place. web_part.0 place && nat_eq (name_at names place) name) (range_with_len 0 (length names)) h in
          let p = and_parts (web_part.0 f.0) (nat_eq (name_at names f.0) name) f.2 in
          (f.0, p.0, eqb-true (name_at names f.0) name p.1)

      matches : Matches names web_part.0 part
      matches = record {
        at = λ place below. same_tests (web_part.0 place) (part (name_at names place)) (λ h. part_from place (name_at names place) h refl)
            (λ h. let g = part_gives (name_at names place) h in
            subst (λ p. web_part.0 p ≡ true) (one_place names web.rising g.0 place (place_below g.0 g.1) below g.2) g.1);
        within = place_below;
        every = λ name h. let g = part_gives name h in (g.0, place_below g.0 g.1, g.2);
      }

      pub is_part : IsPart c root F x part
      is_part = record {
        connected = to_region c root names w web web_part.0 part matches web_part.1.connected;
        inside = λ name h. let g = part_gives name h in ap F (sym g.2) ∙ (local_gives g.0 (web_part.1.inside g.0 g.1)).0;
        own = λ name its fires.
            let o = of_name c root names w web x name moves.of_region its in
            let i = home_is o.0 o.1 o.2 in
            let in_names : has (names_of w home.0) o.3.0 ≡ true = ap (λ n. has (names_of w n) o.3.0) (sym i) ∙ o.3.1 in
            part_from o.3.0 name (web_part.1.own o.3.0 in_names (local_from home.0 o.3.0 in_names (ap F o.3.2 ∙ fires))) o.3.2;
        closed = λ y place_at name region its h also fires.
            let g = part_gives place_at h in
            let o = of_name c root names w web y place_at region its in
            let p = of_name c root names w web y name region also in
            let same : g.0 ≡ o.3.0 = one_place names web.rising g.0 o.3.0 (place_below g.0 g.1) (of_place c root names w web o.0 o.3.0 o.3.1).0 (g.2 ∙ sym o.3.2) in
            let i : p.0 ≡ o.0 = one_home p.0 o.0 p.1 o.1 (p.2 ∙ sym o.2) in
            let in_names : has (names_of w o.0) p.3.0 ≡ true = ap (λ n. has (names_of w n) p.3.0) (sym i) ∙ p.3.1 in
            part_from p.3.0 name (web_part.1.closed o.0 o.3.0 p.3.0 o.3.1 (subst (λ q. web_part.0 q ≡ true) same g.1) in_names (local_from o.0 p.3.0 in_names (ap F p.3.2 ∙ fires))) p.3.2;
      }
        where
          one_home : (i j : ℕ) → i < length web.region → j < length web.region → at c root names w web i ≡ at c root names w web j → i ≡ j
          one_home i j = one_number c root names w web i j

          home_is : (i : ℕ) → i < length web.region → at c root names w web i ≡ x → i ≡ home.0
          home_is i in_i is = one_number c root names w web i home.0 in_i home.1 (is ∙ sym home.2)

pub steps_split : StepsSplit
unfolding F
steps_split c circuit root texts old step new product x moves =
    let web = regions_have_webs c circuit root (sync_to c x root (turn c root x moves.of_region)) in
    (part c texts old step new product root web.0 web.1 web.2 x moves, is_part c texts old step new product root web.0 web.1 web.2 x moves)

follows : (c : RawCircuit) (root x y : Automaton) (fires first second : ℕ → Bool) → IsPart c root fires x first → IsPart c root fires y second → (z : Automaton) → Moves c root second z → (u : Automaton) → HangsTogether c root first z u → Moves c root second u
follows c root x y fires first second a b z moves u together_here = moves
follows c root x y fires first second a b z moves u (together_linked {x = v} name path of_region at_v at_u h) =
    let m = follows c root x y fires first second a b z moves v path in
    record { of_region = of_region; name = name; has = at_u; fired = b.closed v m.name name m.of_region m.has m.fired at_v (a.inside name h) }

within_other : (c : RawCircuit) (root x y : Automaton) (fires first second : ℕ → Bool) → IsPart c root fires x first → IsPart c root fires y second → (shared : ℕ) → first shared ≡ true → second shared ≡ true → (name : ℕ) → first name ≡ true → second name ≡ true
within_other c root x y fires first second a b shared in_first in_second name h =
    let z = a.connected.within shared in_first in
    let u = a.connected.within name h in
    let path = a.connected.together z.0 u.0 (record { of_region = z.1; name = shared; has = z.2; fired = in_first }) (record { of_region = u.1; name = name; has = u.2; fired = h }) in
    let m = follows c root x y fires first second a b z.0 (record { of_region = z.1; name = shared; has = z.2; fired = in_second }) u.0 path in
    b.closed u.0 m.name name m.of_region m.has m.fired u.2 (a.inside name h)

pub share_nothing : PartsShareNothing
share_nothing c root x y fires first second a b shared in_first in_second name =
    same_tests (first name) (second name) (within_other c root x y fires first second a b shared in_first in_second name)
    (within_other c root y x fires second first b a shared in_second in_first name)

pub regions_share_nothing : RegionsShareNothing
regions_share_nothing c root other x y fires first second a b shared in_first in_second =
    let u = a.connected.within shared in_first in
    let v = b.connected.within shared in_second in
    follow c root v.0 other (region_linked shared u.1 (sync_to c other v.0 v.1) u.2 v.2) (turn c other v.0 v.1)
