-- What fires in a partial firing, which automata are in it, open in it, and agree with it.
use Rattle.std.proofs.Common.{◌≡◌, ℕ, zero, suc, ◌<◌, ◌⊎◌, inl, inr, List, [], ◌∷◌, length, Bool, true, false, not, ◌&&◌, ◌||◌, Option, Some, None, is_some, slice_get, refl, sym, ◌∙◌, arith}
use Rattle.std.specs.Prelude.{nat_eq, filter}
use Rattle.std.specs.List.{list_any, find}
use Rattle.std.specs.Option.{option_map_or}
use Rattle.std.proofs.lemmas.Bool.{false≢true, true≢false, and_parts, and_from, eqb-true, eq-eqb, cases_Bool, not-true, not_from_false}
use Rattle.reo_growth.specs.declared.web.Automaton.{Automaton}
use Rattle.reo_growth.specs.declared.web.Web.{Web}
use Rattle.reo_growth.specs.Lists.{has, Among}
use Rattle.reo_growth.specs.Web.{names_of, links_of}
use Rattle.reo_growth.specs.Growth.{Move, Vertex, fired, is_listed, is_open, places, least_open, same, agrees_with, agrees, fits, with_link, extended, is_complete}
use Rattle.reo_growth.proofs.ListLemmas.{any_from, any_gives, all_gives, all_from, among_filter, filter_gives, among_map, map_gives, find_gives, find_fails, has_among, among_has}

pub fired_from : (v : Vertex) (move : Move) (name : ℕ) → Among move v → has move.fires name ≡ true → fired v name ≡ true
unfolding fired
fired_from v move name at h = any_from (λ move. has move.fires name) v move at h

pub fired_gives : (v : Vertex) (name : ℕ) → fired v name ≡ true → (move : Move) × Among move v × (has move.fires name ≡ true)
unfolding fired
fired_gives v name h = any_gives (λ move. has move.fires name) v h

pub listed_from : (v : Vertex) (move : Move) → Among move v → is_listed v move.automaton ≡ true
unfolding is_listed
listed_from v move at = any_from (λ other. nat_eq other.automaton move.automaton) v move at (eq-eqb move.automaton move.automaton refl)

pub listed_gives : (v : Vertex) (x : ℕ) → is_listed v x ≡ true → (move : Move) × Among move v × (move.automaton ≡ x)
unfolding is_listed
listed_gives v x h = let f = any_gives (λ move. nat_eq move.automaton x) v h in (f.0, f.1, eqb-true f.0.automaton x f.2)

-- an automaton with names stands at a place
pub name_within : (w : Web) (x name : ℕ) → has (names_of w x) name ≡ true → x < length w.automata
unfolding names_of
name_within w x name h = go w.automata x h
  where
    go : (automata : List Automaton) (x : ℕ) → has (option_map_or (λ automaton. automaton.names) (slice_get automata x) []) name ≡ true → x < length automata
    go [] x h = absurd (false≢true h)
    go (automaton ∷ rest) zero h = omega arith
    go (automaton ∷ rest) (suc x) h = let r = go rest x h in omega arith

pub link_within : (w : Web) (x : ℕ) (link : List ℕ) → Among link (links_of w x) → x < length w.automata
unfolding links_of
link_within w x link h = go w.automata x h
  where
    go : (automata : List Automaton) (x : ℕ) → Among link (option_map_or (λ automaton. automaton.links) (slice_get automata x) []) → x < length automata
    go [] x h = elim h [ ]
    go (automaton ∷ rest) zero h = omega arith
    go (automaton ∷ rest) (suc x) h = let r = go rest x h in omega arith

pub open_from : (w : Web) (v : Vertex) (x name : ℕ) → is_listed v x ≡ false → has (names_of w x) name ≡ true → fired v name ≡ true → is_open w v x ≡ true
unfolding is_open
open_from w v x name new its fires =
    and_from (not (is_listed v x)) (list_any (fired v) (names_of w x)) (not_from_false (is_listed v x) new) (any_from (fired v) (names_of w x) name (has_among (names_of w x) name its) fires)

pub open_gives : (w : Web) (v : Vertex) (x : ℕ) → is_open w v x ≡ true → (is_listed v x ≡ false) × ((name : ℕ) × (has (names_of w x) name ≡ true) × (fired v name ≡ true))
unfolding is_open
open_gives w v x h =
    let parts = and_parts (not (is_listed v x)) (list_any (fired v) (names_of w x)) h in
    let found = any_gives (fired v) (names_of w x) parts.1 in
    (not-true (is_listed v x) parts.0, (found.0, among_has (names_of w x) found.0 found.1, found.2))

-- the least open automaton is open, and none before it is
pub least_gives : (w : Web) (v : Vertex) (x : ℕ) → least_open w v ≡ Some x → is_open w v x ≡ true
unfolding least_open
least_gives w v x h = (find_gives (is_open w v) 0 (length w.automata) x h).2

-- in a complete list an automaton of which a name fires is listed
pub complete_lists : (w : Web) (v : Vertex) → is_complete w v ≡ true → (x name : ℕ) → has (names_of w x) name ≡ true → fired v name ≡ true → is_listed v x ≡ true
unfolding is_complete least_open
complete_lists w v h x name its fires = go (find (is_open w v) (places w)) refl h (cases_Bool (is_listed v x))
  where
    go : (o : Option ℕ) → find (is_open w v) (places w) ≡ o → not (is_some o) ≡ true → (is_listed v x ≡ true) ⊎ (is_listed v x ≡ false) → is_listed v x ≡ true
    go o is h (inl listed) = listed
    go None is h (inr new) =
        absurd (true≢false (sym (open_from w v x name new its fires) ∙ find_fails (is_open w v) 0 (length w.automata) is x (omega arith) (let b = name_within w x name its in omega arith)))
    go (Some y) is h (inr new) = absurd (false≢true h)

pub same_from : (a b : Bool) → a ≡ b → same a b ≡ true
same_from true b e = sym e
same_from false true e = absurd (false≢true e)
same_from false false e = refl

pub same_gives : (a b : Bool) → same a b ≡ true → a ≡ b
same_gives true b h = sym h
same_gives false true h = absurd (false≢true h)
same_gives false false h = refl

-- a move agrees about a name that both automata have
pub implied : (a b : Bool) → (not a || b) ≡ true → a ≡ true → b ≡ true
implied true b h is = h
implied false b h is = absurd (false≢true is)

pub implies : (a b : Bool) → (a ≡ true → b ≡ true) → (not a || b) ≡ true
implies true b h = h refl
implies false b h = refl

pub agrees_gives : (w : Web) (v : Vertex) (x : ℕ) (link : List ℕ) → agrees w v x link ≡ true → (move : Move) (name : ℕ) → Among move v
    → has (names_of w x) name ≡ true → has (names_of w move.automaton) name ≡ true → has link name ≡ has move.fires name
unfolding agrees agrees_with
agrees_gives w v x link h move name at its theirs =
    let each = all_gives (agrees_with w x link) v move h at in
    let one = all_gives (λ name. not (has (names_of w move.automaton) name) || same (has link name) (has move.fires name)) (names_of w x) name each (has_among (names_of w x) name its) in
    same_gives (has link name) (has move.fires name) (implied (has (names_of w move.automaton) name) (same (has link name) (has move.fires name)) one theirs)

pub agrees_from : (w : Web) (v : Vertex) (x : ℕ) (link : List ℕ)
    → ((move : Move) (name : ℕ) → Among move v → has (names_of w x) name ≡ true → has (names_of w move.automaton) name ≡ true → has link name ≡ has move.fires name)
    → agrees w v x link ≡ true
unfolding agrees agrees_with
agrees_from w v x link h =
    all_from (agrees_with w x link) v (λ move at.
    all_from (λ name. not (has (names_of w move.automaton) name) || same (has link name) (has move.fires name)) (names_of w x) (λ name its.
    implies (has (names_of w move.automaton) name) (same (has link name) (has move.fires name)) (λ theirs.
    same_from (has link name) (has move.fires name) (h move name at (among_has (names_of w x) name its) theirs))))

not_both : (a b : Bool) → not (a && b) ≡ true → a ≡ true → b ≡ true → ⊥
not_both true true h is also = false≢true h
not_both false b h is also = false≢true is
not_both true false h is also = false≢true also

not_both_from : (a b : Bool) → (a ≡ true → b ≡ true → ⊥) → not (a && b) ≡ true
not_both_from true true h = absurd (h refl refl)
not_both_from true false h = refl
not_both_from false b h = refl

pub fits_gives : (w : Web) (v : Vertex) → fits w v ≡ true → (a b : ℕ) → Among (a, b) w.cells → fired v a ≡ true → fired v b ≡ true → ⊥
unfolding fits
fits_gives w v h a b at first second =
    not_both (fired v a) (fired v b) (all_gives (λ cell. not (fired v cell.0 && fired v cell.1)) w.cells (a, b) h at) first second

pub fits_from : (w : Web) (v : Vertex) → ((a b : ℕ) → Among (a, b) w.cells → fired v a ≡ true → fired v b ≡ true → ⊥) → fits w v ≡ true
unfolding fits
fits_from w v h = all_from (λ cell. not (fired v cell.0 && fired v cell.1)) w.cells (λ cell at. not_both_from (fired v cell.0) (fired v cell.1) (h cell.0 cell.1 at))

-- what a wider list is made of
pub record IsExtended (w : Web) (v : Vertex) (x : ℕ) (u : Vertex) : Type 0 where
  pub link : List ℕ
  pub its : Among link (links_of w x)
  pub agree : agrees w v x link ≡ true
  pub fit : fits w (with_link v x link) ≡ true
  pub is : with_link v x link ≡ u

pub extended_gives : (w : Web) (v : Vertex) (x : ℕ) (u : Vertex) → Among u (extended w v x) → IsExtended w v x u
unfolding extended
extended_gives w v x u h =
    let test : List ℕ → Bool = λ link. agrees w v x link && fits w (with_link v x link) in
    let m = map_gives (with_link v x) (filter test (links_of w x)) u h in
    let f = filter_gives test (links_of w x) m.0 m.1 in
    let parts = and_parts (agrees w v x m.0) (fits w (with_link v x m.0)) f.1 in
    record { link = m.0; its = f.0; agree = parts.0; fit = parts.1; is = m.2 }

pub extended_from : (w : Web) (v : Vertex) (x : ℕ) (link : List ℕ) → Among link (links_of w x) → agrees w v x link ≡ true → fits w (with_link v x link) ≡ true → Among (with_link v x link) (extended w v x)
unfolding extended
extended_from w v x link its agree fit =
    let test : List ℕ → Bool = λ link. agrees w v x link && fits w (with_link v x link) in
    among_map (with_link v x) (filter test (links_of w x)) link (among_filter test (links_of w x) link its (and_from (agrees w v x link) (fits w (with_link v x link)) agree fit))
