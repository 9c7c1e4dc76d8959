-- What the marks of a list tell of it.
use Rattle.std.proofs.Common.{◌≡◌, ℕ, ◌+◌, ◌<◌, ◌≤◌, ◌⊎◌, inl, inr, ⊎_elim, List, [], ◌∷◌, length, get_or, Bool, true, false, not, cond, ◌||◌, ◌&&◌, Option, Some, None, refl, sym, ◌∙◌, ap, subst, arith, zero-add}
use Rattle.std.specs.Prelude.{nat_eq, nat_lt, filter, position}
use Rattle.std.specs.List.{list_any, list_all, find, range_with_len, position_or_len}
use Rattle.std.proofs.lemmas.Bool.{false≢true, true≢false, cases_order, not-true, eq-eqb, ltb-false}
use Rattle.std.proofs.lemmas.List.FromFn.{get_or-map-range_with_len, length-map-range_with_len}
use Rattle.std.proofs.lemmas.List.Quantifiers.{position-Some}
use Rattle.std.proofs.lemmas.List.Sums.{prefix_len_passes}
use Rattle.reo_growth.specs.declared.marks.Mark.{Mark}
use Rattle.reo_growth.specs.declared.marks.Mark.TheVariants.{Absent, Open, Listed, Unknown, Silent, Fires}
use Rattle.reo_growth.specs.declared.web.Web.{Web}
use Rattle.reo_growth.specs.Lists.{has, Among}
use Rattle.reo_growth.specs.Web.{names_of, links_of, IsWeb}
use Rattle.reo_growth.specs.Ground.{ArePartners, joins}
use Rattle.reo_growth.specs.Growth.{Vertex, with_link, fired, known, same, is_listed, is_open, least_open, agrees_as_one, fits, places, firing_names}
use Rattle.reo_growth.specs.Marks.{allows, is_open_mark, is_fires, is_free, holders_at, automaton_mark, name_mark, automaton_marks, name_marks}
use Rattle.reo_growth.specs.Found.{fired_places}
use Rattle.reo_growth.proofs.ListLemmas.{same_tests, any_from, all_gives, all_from, has_among, among_has, range_gives, find_gives, find_fails, all_among}
use Rattle.reo_growth.proofs.TableLemmas.{joined_gives}

all_same : {A : Type 0} (p q : A → Bool) (xs : List A) → ((x : A) → Among x xs → p x ≡ q x) → list_all p xs ≡ list_all q xs
all_same p q [] h = refl
all_same p q (x ∷ xs) h = ap (λ b. b && list_all p xs) (h x (inl refl)) ∙ ap (λ b. q x && b) (all_same p q xs (λ y at. h y (inr at)))

filter_same : {A : Type 0} (p q : A → Bool) (xs : List A) → ((x : A) → Among x xs → p x ≡ q x) → filter p xs ≡ filter q xs
filter_same p q [] h = refl
filter_same p q (x ∷ xs) h = ap (λ b. cond b (x ∷ filter p xs) (filter p xs)) (h x (inl refl)) ∙ ap (λ ys. cond (q x) (x ∷ ys) ys) (filter_same p q xs (λ y at. h y (inr at)))

module _ (w : Web) (v : Vertex) where
  open_mark : (x : ℕ) → is_open_mark (automaton_mark w v x) ≡ is_open w v x
  unfolding automaton_mark is_open
  open_mark x = go (is_listed v x) (list_any (fired v) (names_of w x))
    where
      go : (l o : Bool) → is_open_mark (cond l Listed (cond o Open Absent)) ≡ (not l && o)
      go true o = refl
      go false true = refl
      go false false = refl

  mark_at : (x : ℕ) (d : Mark) → x < length w.automata → is_open_mark (get_or (automaton_marks w v) x d) ≡ is_open w v x
  mark_at x d below = ap is_open_mark (get_or-map-range_with_len (automaton_mark w v) 0 (length w.automata) x x d below (zero-add x)) ∙ open_mark x

  position_none : (xs : List Mark) → position is_open_mark xs ≡ None → (k : ℕ) (d : Mark) → k < length xs → is_open_mark (get_or xs k d) ≡ false
  position_none xs is k d within = go (nat_lt (position_or_len is_open_mark xs) (length xs)) refl is
    where
      go : (b : Bool) → nat_lt (position_or_len is_open_mark xs) (length xs) ≡ b → cond b (Some (position_or_len is_open_mark xs)) None ≡ None → is_open_mark (get_or xs k d) ≡ false
      go true less is = absurd (cc)
      go false more is =
          let all = ltb-false (position_or_len is_open_mark xs) (length xs) more in
          not-true (is_open_mark (get_or xs k d)) (prefix_len_passes (λ m. not (is_open_mark m)) xs k d (omega arith))

  -- the least open automaton is the first that is marked so
  pub first_open_is : (marks : List Mark) → marks ≡ automaton_marks w v → position is_open_mark marks ≡ least_open w v
  unfolding least_open
  first_open_is marks is = ap (position is_open_mark) is ∙ go (position is_open_mark (automaton_marks w v)) refl (find (is_open w v) (places w)) refl
    where
      size : length (automaton_marks w v) ≡ length w.automata
      size = length-map-range_with_len (automaton_mark w v) 0 (length w.automata)

      go : (a : Option ℕ) → position is_open_mark (automaton_marks w v) ≡ a → (b : Option ℕ) → find (is_open w v) (places w) ≡ b → a ≡ b
      go None first None second = refl
      go None first (Some y) second =
          let f = find_gives (is_open w v) 0 (length w.automata) y second in
          let below : y < length w.automata = omega (arith, f.1) in
          absurd (false≢true (sym (position_none (automaton_marks w v) first y Absent (omega (arith, size))) ∙ mark_at y Absent below ∙ f.2))
      go (Some x) first None second =
          let p = position-Some is_open_mark (automaton_marks w v) x Absent first in
          let below : x < length w.automata = omega (arith, p.0, size) in
          absurd (true≢false (sym p.1 ∙ mark_at x Absent below ∙ find_fails (is_open w v) 0 (length w.automata) second x (omega arith) (omega arith)))
      go (Some x) first (Some y) second =
          let p = position-Some is_open_mark (automaton_marks w v) x Absent first in
          let f = find_gives (is_open w v) 0 (length w.automata) y second in
          let below_x : x < length w.automata = omega (arith, p.0, size) in
          let below_y : y < length w.automata = omega (arith, f.1) in
          meet p f below_x below_y (cases_order x y)
        where
          meet : (x < length (automaton_marks w v)) × (is_open_mark (get_or (automaton_marks w v) x Absent) ≡ true) × ((k : ℕ) → k < x → is_open_mark (get_or (automaton_marks w v) k Absent) ≡ false)
              → (0 ≤ y) × (y < 0 + length w.automata) × (is_open w v y ≡ true) × ((z : ℕ) → 0 ≤ z → z < y → is_open w v z ≡ false)
              → x < length w.automata → y < length w.automata → (x ≡ y) ⊎ ((x < y) ⊎ (y < x)) → Some x ≡ Some y
          meet p f below_x below_y (inl equal) = ap Some equal
          meet p f below_x below_y (inr (inl less)) = absurd (true≢false (sym p.1 ∙ mark_at x Absent below_x ∙ f.3 x (omega arith) less))
          meet p f below_x below_y (inr (inr more)) = absurd (false≢true (sym (p.2 y more) ∙ mark_at y Absent below_y ∙ f.2))

  fires_mark : (name : ℕ) → is_fires (name_mark w v name) ≡ fired v name
  unfolding name_mark
  fires_mark name = go (fired v name) (known w v name)
    where
      go : (f k : Bool) → is_fires (cond f Fires (cond k Silent Unknown)) ≡ f
      go true k = refl
      go false true = refl
      go false false = refl

  name_at : (name : ℕ) (d : Mark) → name < w.names → get_or (name_marks w v) name d ≡ name_mark w v name
  name_at name d below = get_or-map-range_with_len (name_mark w v) 0 w.names name name d below (zero-add name)

  pub fired_places_are : (marks : List Mark) → marks ≡ name_marks w v → fired_places marks ≡ firing_names w v
  unfolding firing_names
  fired_places_are marks is =
      ap fired_places is
      ∙ ap (λ n. filter (λ name. is_fires (get_or (name_marks w v) name Unknown)) (range_with_len 0 n)) (length-map-range_with_len (name_mark w v) 0 w.names)
      ∙ filter_same (λ name. is_fires (get_or (name_marks w v) name Unknown)) (fired v) (range_with_len 0 w.names) (λ name at.
      let r = range_gives 0 w.names name at in
      ap is_fires (name_at name Unknown (omega (arith, r.1))) ∙ fires_mark name)

  -- whether a link agrees can be read off the marks
  pub agrees_read : (marks : List Mark) → marks ≡ name_marks w v → (x : ℕ) (link names : List ℕ) → names ≡ names_of w x → IsWeb w → ((name : ℕ) → fired v name ≡ true → known w v name ≡ true)
      → list_all (λ name. allows (get_or marks name Unknown) (has link name)) names ≡ agrees_as_one w v x link
  unfolding agrees_as_one name_mark
  agrees_read marks is x link names are is_web knows =
      ap (list_all (λ name. allows (get_or marks name Unknown) (has link name))) are
      ∙ all_same (λ name. allows (get_or marks name Unknown) (has link name)) (λ name. not (known w v name) || same (has link name) (fired v name)) (names_of w x) (λ name at.
      let below = is_web.below x name (among_has (names_of w x) name at) in
      ap (λ m. allows m (has link name)) (ap (λ ms. get_or ms name Unknown) is ∙ name_at name Unknown below)
      ∙ go (fired v name) (known w v name) (has link name) (knows name))
    where
      go : (f k b : Bool) → (f ≡ true → k ≡ true) → allows (cond f Fires (cond k Silent Unknown)) b ≡ (not k || same b f)
      go true true true know = refl
      go true true false know = refl
      go true false b know = absurd (false≢true (know refl))
      go false true true know = refl
      go false true false know = refl
      go false false b know = refl

  -- and whether the list fits with one move more, where it fits without
  module _ (marks : List Mark) (are : marks ≡ name_marks w v) (is_web : IsWeb w) (partners : List (List ℕ)) (joined : ArePartners w partners) (x : ℕ) (link : List ℕ) (its : Among link (links_of w x)) where
    below_of : (name : ℕ) → has link name ≡ true → name < w.names
    below_of name h = is_web.below x name (is_web.own x link its name h)

    free_is : (other : ℕ) → other < w.names → is_free marks link other ≡ not (fired v other || has link other)
    free_is other below = ap (λ b. not (b || has link other)) (ap is_fires (ap (λ ms. get_or ms other Unknown) are ∙ name_at other Unknown below) ∙ fires_mark other)

    clear : ℕ → Bool
    clear name = list_all (is_free marks link) (holders_at partners name)

    clear_gives : (name other : ℕ) → has link name ≡ true → clear name ≡ true → other < w.names → list_any (joins name other) w.cells ≡ true → (fired v other || has link other) ≡ false
    unfolding clear
    clear_gives name other h all below any =
        let there = has_among (holders_at partners name) other (joined.have name other (below_of name h) ∙ any) in
        not-true (fired v other || has link other) (sym (free_is other below) ∙ all_gives (is_free marks link) (holders_at partners name) other all there)

    both_ends : (la lb fa fb : Bool) → (la ≡ true → (fb || lb) ≡ false) → (lb ≡ true → (fa || la) ≡ false) → not (fa && fb) ≡ true → not ((la || fa) && (lb || fb)) ≡ true
    both_ends true true fa true one other old = absurd (true≢false (one refl))
    both_ends true true fa false one other old = absurd (true≢false (one refl))
    both_ends true false fa true one other old = absurd (true≢false (one refl))
    both_ends true false fa false one other old = refl
    both_ends false true true fb one other old = absurd (true≢false (other refl))
    both_ends false true false fb one other old = refl
    both_ends false false fa fb one other old = old

    no_end : (la lb fa fb : Bool) → la ≡ true → not ((la || fa) && (lb || fb)) ≡ true → not (fb || lb) ≡ true
    no_end true true fa fb is fit = absurd (false≢true fit)
    no_end true false fa true is fit = absurd (false≢true fit)
    no_end true false fa false is fit = refl
    no_end false lb fa fb is fit = absurd (false≢true is)

    no_first : (la lb fa fb : Bool) → lb ≡ true → not ((la || fa) && (lb || fb)) ≡ true → not (fa || la) ≡ true
    no_first true true fa fb is fit = absurd (false≢true fit)
    no_first false true true fb is fit = absurd (false≢true fit)
    no_first false true false fb is fit = refl
    no_first la false fa fb is fit = absurd (false≢true is)

    joins_here : (a b : ℕ) → joins a b (a, b) ≡ true
    joins_here a b = ap (λ p. (p && nat_eq b b) || (nat_eq b a && nat_eq a b)) (eq-eqb a a refl) ∙ ap (λ p. p || (nat_eq b a && nat_eq a b)) (eq-eqb b b refl)

    joins_there : (a b : ℕ) → joins b a (a, b) ≡ true
    joins_there a b =
        ap (λ p. (nat_eq a b && nat_eq b a) || (p && nat_eq a a)) (eq-eqb b b refl) ∙ ap (λ p. (nat_eq a b && nat_eq b a) || p) (eq-eqb a a refl)
        ∙ or_true (nat_eq a b && nat_eq b a)
      where
        or_true : (b : Bool) → (b || true) ≡ true
        or_true true = refl
        or_true false = refl

    pub fits_read : fits w v ≡ true → list_all (λ name. list_all (is_free marks link) (holders_at partners name)) link ≡ fits w (with_link v x link)
    unfolding clear fits fired with_link
    fits_read fit = same_tests (list_all clear link) (fits w (with_link v x link))
        (λ all. all_from (λ cell. not (fired (with_link v x link) cell.0 && fired (with_link v x link) cell.1)) w.cells (λ cell at.
        let ends = all_among (λ cell. (cell.0 < w.names) × (cell.1 < w.names)) w.cells is_web.ends cell at in
        both_ends (has link cell.0) (has link cell.1) (fired v cell.0) (fired v cell.1)
        (λ h. clear_gives cell.0 cell.1 h (all_gives clear link cell.0 all (has_among link cell.0 h)) ends.1 (any_from (joins cell.0 cell.1) w.cells cell at (joins_here cell.0 cell.1)))
        (λ h. clear_gives cell.1 cell.0 h (all_gives clear link cell.1 all (has_among link cell.1 h)) ends.0 (any_from (joins cell.1 cell.0) w.cells cell at (joins_there cell.0 cell.1)))
        (all_gives (λ cell. not (fired v cell.0 && fired v cell.1)) w.cells cell fit at)))
        (λ wide. all_from clear link (λ name at. all_from (is_free marks link) (holders_at partners name) (λ other there.
        let h = among_has link name at in
        let j = joined_gives w w.cells name other (sym (joined.have name other (below_of name h)) ∙ among_has (holders_at partners name) other there) in
        let cell : ℕ × ℕ = (j.0, j.1) in
        let ends = all_among (λ cell. (cell.0 < w.names) × (cell.1 < w.names)) w.cells is_web.ends cell j.2 in
        let fit = all_gives (λ cell. not (fired (with_link v x link) cell.0 && fired (with_link v x link) cell.1)) w.cells cell wide j.2 in
        ⊎_elim
        (λ same. free_is other (subst (λ n. n < w.names) same.1 ends.1)
        ∙ subst (λ n. not (fired v n || has link n) ≡ true) same.1 (no_end (has link j.0) (has link j.1) (fired v j.0) (fired v j.1) (ap (has link) same.0 ∙ h) fit))
        (λ same. free_is other (subst (λ n. n < w.names) same.1 ends.0)
        ∙ subst (λ n. not (fired v n || has link n) ≡ true) same.1 (no_first (has link j.0) (has link j.1) (fired v j.0) (fired v j.1) (ap (has link) same.0 ∙ h) fit))
        j.3)))
