-- The marks of a list that an automaton enters.
use Rattle.std.proofs.Common.{◌≡◌, ℕ, ◌+◌, ◌<◌, ◌⊎◌, inl, inr, List, [], ◌∷◌, length, take, get_or, All, ⊎_elim, subst, Bool, true, false, cond, not, ◌&&◌, ◌||◌, refl, sym, ◌∙◌, ap, arith, zero-add}
use Rattle.std.specs.Prelude.{nat_eq}
use Rattle.std.specs.List.{list_any}
use Rattle.std.proofs.lemmas.Bool.{cases_Bool, cases_lt, and_parts, and_from, false≢true}
use Rattle.std.specs.Option.{option_map_or}
use Rattle.std.proofs.lemmas.Option.{slice_get-get_or}
use Rattle.std.proofs.lemmas.List.{get_or_past, same_lists, take_more}
use Rattle.std.proofs.lemmas.List.Folds.{list_any-append}
use Rattle.reo_growth.specs.declared.web.Automaton.{Automaton}
use Rattle.std.proofs.lemmas.List.FromFn.{get_or-map-range_with_len, length-map-range_with_len}
use Rattle.reo_growth.specs.declared.marks.Mark.{Mark}
use Rattle.reo_growth.specs.declared.marks.Mark.TheVariants.{Absent, Open, Listed, Unknown, Silent, Fires}
use Rattle.reo_growth.specs.declared.web.Web.{Web}
use Rattle.reo_growth.specs.Lists.{has, Among}
use Rattle.reo_growth.specs.Web.{names_of, links_of, IsWeb}
use Rattle.reo_growth.specs.Growth.{Vertex, fired, known, is_listed, with_link}
use Rattle.reo_growth.specs.Marks.{Changes, AreBelow, is_fires, is_newly_held, met, opened, automaton_mark, name_mark, automaton_marks, name_marks, holders_at, AreHolders}
use Rattle.reo_growth.proofs.ListLemmas.{any_from, any_gives, has_among, among_has, among_at}

any_or : {A : Type 0} (p q : A → Bool) (xs : List A) → list_any (λ x. p x || q x) xs ≡ (list_any p xs || list_any q xs)
any_or p q [] = refl
any_or p q (x ∷ xs) = ap (λ rest. (p x || q x) || rest) (any_or p q xs) ∙ four (p x) (q x) (list_any p xs) (list_any q xs)
  where
    four : (a b c d : Bool) → ((a || b) || (c || d)) ≡ ((a || c) || (b || d))
    four true b c d = refl
    four false true true d = refl
    four false true false d = refl
    four false false c d = refl

-- how the mark of a name changes, by what the link fires, whether it fires, whether the automaton has it, whether it is known
name_step : (link f its k : Bool) → cond (link || f) Fires (cond (its || k) Silent Unknown)
    ≡ cond its (met (cond link Fires (cond f Fires (cond k Silent Unknown)))) (cond link Fires (cond f Fires (cond k Silent Unknown)))
name_step true f true k = refl
name_step true f false k = refl
name_step false true true k = refl
name_step false true false k = refl
name_step false false true true = refl
name_step false false true false = refl
name_step false false false k = refl

-- what the mark of a name says
fires_said : (f k : Bool) → is_fires (cond f Fires (cond k Silent Unknown)) ≡ f
fires_said true k = refl
fires_said false true = refl
fires_said false false = refl

-- two tests that differ at most where a third holds
same_beside : (a b c : Bool) → (a ≡ true → (b ≡ true) ⊎ (c ≡ true)) → (b ≡ true → a ≡ true) → (a || c) ≡ (b || c)
same_beside true true c there back = refl
same_beside true false true there back = refl
same_beside true false false there back = elim (there refl) [ inl e ↦ absurd (false≢true e) | inr e ↦ absurd (false≢true e) ]
same_beside false true c there back = absurd (false≢true (back refl))
same_beside false false c there back = refl

-- how the mark of another automaton changes
automaton_step : (l o h : Bool) → cond l Listed (cond (h || o) Open Absent) ≡ cond h (opened (cond l Listed (cond o Open Absent))) (cond l Listed (cond o Open Absent))
automaton_step true o true = refl
automaton_step true o false = refl
automaton_step false true true = refl
automaton_step false true false = refl
automaton_step false false true = refl
automaton_step false false false = refl

module _ (w : Web) (v : Vertex) (x : ℕ) (link : List ℕ) where
  wide : Vertex
  wide = with_link v x link

  name_mark_next : (k : ℕ) → name_mark w (with_link v x link) k ≡ cond (has (names_of w x) k) (met (cond (has link k) Fires (name_mark w v k))) (cond (has link k) Fires (name_mark w v k))
  unfolding name_mark fired known with_link
  name_mark_next k = name_step (has link k) (fired v k) (has (names_of w x) k) (known w v k)

  pub names_entered : (old middle new : List Mark) → old ≡ name_marks w v → Changes (has link) (λ _. Fires) old middle → Changes (has (names_of w x)) met middle new → new ≡ name_marks w (with_link v x link)
  names_entered old middle new is first second =
      same_lists new (name_marks w (with_link v x link)) (size ∙ sym (length-map-range_with_len (name_mark w (with_link v x link)) 0 w.names)) (λ k d below.
      let within : k < w.names = omega (arith, size) in
      second.1 k d (omega (arith, first.0, size_old))
      ∙ ap (λ m. cond (has (names_of w x) k) (met m) m) (first.1 k d (omega (arith, size_old)) ∙ ap (λ m. cond (has link k) Fires m) (old_at k d within))
      ∙ sym (name_mark_next k) ∙ sym (get_or-map-range_with_len (name_mark w (with_link v x link)) 0 w.names k k d within (zero-add k)))
    where
      size_old : length old ≡ w.names
      size_old = ap length is ∙ length-map-range_with_len (name_mark w v) 0 w.names

      size : length new ≡ w.names
      size = second.0 ∙ first.0 ∙ size_old

      old_at : (k : ℕ) (d : Mark) → k < w.names → get_or old k d ≡ name_mark w v k
      old_at k d within = ap (λ xs. get_or xs k d) is ∙ get_or-map-range_with_len (name_mark w v) 0 w.names k k d within (zero-add k)

  module _ (is_web : IsWeb w) (holders : List (List ℕ)) (right : AreHolders w holders) (its : Among link (links_of w x)) where
    said : (marks : List Mark) → marks ≡ name_marks w v → (name : ℕ) → name < w.names → is_fires (get_or marks name Unknown) ≡ fired v name
    unfolding name_mark
    said marks are name within =
        ap (λ xs. is_fires (get_or xs name Unknown)) are ∙ ap is_fires (get_or-map-range_with_len (name_mark w v) 0 w.names name name Unknown within (zero-add name))
        ∙ fires_said (fired v name) (known w v name)

    -- a name of this automaton fires then, where one fired before or some name of the link, that did not fire before, has it as a holder
    held : (marks : List Mark) → marks ≡ name_marks w v → (y : ℕ)
        → (list_any (has link) (names_of w y) || list_any (fired v) (names_of w y)) ≡ (is_newly_held marks holders link y || list_any (fired v) (names_of w y))
    held marks are y = same_beside (list_any (has link) (names_of w y)) (is_newly_held marks holders link y) (list_any (fired v) (names_of w y))
        (λ h. let f = any_gives (has link) (names_of w y) h in
        let of_y = among_has (names_of w y) f.0 f.1 in
        let within = is_web.below y f.0 of_y in
        by_fired f.0 f.1 f.2 of_y within (cases_Bool (fired v f.0)))
        (λ h. let f = any_gives newly link h in
        let in_link = among_has link f.0 f.1 in
        let within = is_web.below x f.0 (is_web.own x link its f.0 in_link) in
        let parts = and_parts (not (is_fires (get_or marks f.0 Unknown))) (has (holders_at holders f.0) y) f.2 in
        any_from (has link) (names_of w y) f.0 (has_among (names_of w y) f.0 (sym (right.have y f.0 within) ∙ parts.1)) in_link)
      where
        newly : ℕ → Bool
        newly name = not (is_fires (get_or marks name Unknown)) && has (holders_at holders name) y

        by_fired : (name : ℕ) → Among name (names_of w y) → has link name ≡ true → has (names_of w y) name ≡ true → name < w.names → (fired v name ≡ true) ⊎ (fired v name ≡ false)
            → (is_newly_held marks holders link y ≡ true) ⊎ (list_any (fired v) (names_of w y) ≡ true)
        by_fired name at in_link of_y within (inl before) = inr (any_from (fired v) (names_of w y) name at before)
        by_fired name at in_link of_y within (inr new) = inl
            (any_from newly link name (has_among link name in_link)
            (and_from (not (is_fires (get_or marks name Unknown))) (has (holders_at holders name) y) (ap not (said marks are name within ∙ new)) (right.have y name within ∙ of_y)))

    automaton_mark_next : (marks : List Mark) → marks ≡ name_marks w v → (y : ℕ) → nat_eq x y ≡ false
        → automaton_mark w (with_link v x link) y ≡ cond (is_newly_held marks holders link y) (opened (automaton_mark w v y)) (automaton_mark w v y)
    unfolding automaton_mark fired is_listed with_link
    automaton_mark_next marks are y other =
        ap (λ b. cond (b || is_listed v y) Listed (cond (list_any (λ name. has link name || fired v name) (names_of w y)) Open Absent)) other
        ∙ ap (λ b. cond (is_listed v y) Listed (cond b Open Absent)) (any_or (has link) (fired v) (names_of w y) ∙ held marks are y)
        ∙ automaton_step (is_listed v y) (list_any (fired v) (names_of w y)) (is_newly_held marks holders link y)

    automaton_mark_here : (y : ℕ) → nat_eq x y ≡ true → automaton_mark w (with_link v x link) y ≡ Listed
    unfolding automaton_mark is_listed with_link
    automaton_mark_here y here = ap (λ b. cond (b || is_listed v y) Listed (cond (list_any (fired (with_link v x link)) (names_of w y)) Open Absent)) here

    pub automata_entered : (names old middle new : List Mark) → names ≡ name_marks w v → old ≡ automaton_marks w v → Changes (is_newly_held names holders link) opened old middle
        → Changes (nat_eq x) (λ _. Listed) middle new → new ≡ automaton_marks w (with_link v x link)
    automata_entered names old middle new are is changes listed =
        same_lists new (automaton_marks w (with_link v x link)) (size ∙ sym (length-map-range_with_len (automaton_mark w (with_link v x link)) 0 (length w.automata))) (λ k d at.
        let within : k < length w.automata = omega (arith, size) in
        listed.1 k d (omega (arith, size_old, changes.0)) ∙ at_place k d within (cases_Bool (nat_eq x k))
        ∙ sym (get_or-map-range_with_len (automaton_mark w (with_link v x link)) 0 (length w.automata) k k d within (zero-add k)))
      where
        size_old : length old ≡ length w.automata
        size_old = ap length is ∙ length-map-range_with_len (automaton_mark w v) 0 (length w.automata)

        size : length new ≡ length w.automata
        size = listed.0 ∙ changes.0 ∙ size_old

        at_place : (k : ℕ) (d : Mark) → k < length w.automata → (nat_eq x k ≡ true) ⊎ (nat_eq x k ≡ false) → cond (nat_eq x k) Listed (get_or middle k d) ≡ automaton_mark w (with_link v x link) k
        at_place k d within (inl here) = ap (λ b. cond b Listed (get_or middle k d)) here ∙ sym (automaton_mark_here k here)
        at_place k d within (inr other) =
            ap (λ b. cond b Listed (get_or middle k d)) other ∙ changes.1 k d (omega (arith, size_old))
            ∙ ap (λ m. cond (is_newly_held names holders link k) (opened m) m) (ap (λ xs. get_or xs k d) is ∙ get_or-map-range_with_len (automaton_mark w v) 0 (length w.automata) k k d within (zero-add k))
            ∙ sym (automaton_mark_next names are k other)

-- one change after another
pub changes_twice : (change : Mark → Mark) → ((m : Mark) → change (change m) ≡ change m) → (p q r : ℕ → Bool) → ((k : ℕ) → r k ≡ (p k || q k)) → (old middle new : List Mark)
    → Changes p change old middle → Changes q change middle new → Changes r change old new
changes_twice change again p q r either old middle new first second = (
  second.0 ∙ first.0,
  λ k d below.
      second.1 k d (omega (arith, first.0)) ∙ ap (λ m. cond (q k) (change m) m) (first.1 k d below)
      ∙ twice (p k) (q k) (get_or old k d) ∙ ap (λ b. cond b (change (get_or old k d)) (get_or old k d)) (sym (either k)),
)
  where
    twice : (a b : Bool) (m : Mark) → cond b (change (cond a (change m) m)) (cond a (change m) m) ≡ cond (a || b) (change m) m
    twice true true m = again m
    twice true false m = refl
    twice false b m = refl

pub opened_again : (m : Mark) → opened (opened m) ≡ opened m
opened_again Absent = refl
opened_again Open = refl
opened_again Listed = refl
opened_again Unknown = refl
opened_again Silent = refl
opened_again Fires = refl

or_last : (a b : Bool) → (a || (b || false)) ≡ (a || b)
or_last true b = refl
or_last false true = refl
or_last false false = refl

-- so one name more of the link does
pub any_more : (p : ℕ → Bool) (link : List ℕ) (i : ℕ) → i < length link → list_any p (take (i + 1) link) ≡ (list_any p (take i link) || p (get_or link i 0))
any_more p link i within =
    ap (list_any p) (take_more link i 0 within) ∙ list_any-append p (take i link) (get_or link i 0 ∷ []) ∙ or_last (list_any p (take i link)) (p (get_or link i 0))

pub has_more : (xs : List ℕ) (i k : ℕ) → i < length xs → has (take (i + 1) xs) k ≡ (has (take i xs) k || nat_eq (get_or xs i 0) k)
has_more xs i k within =
    any_more (λ x. nat_eq x k) xs i within

pub met_again : (m : Mark) → met (met m) ≡ met m
met_again Absent = refl
met_again Open = refl
met_again Listed = refl
met_again Unknown = refl
met_again Silent = refl
met_again Fires = refl

-- what stands at a place of the web
pub names_at : (w : Web) (x : ℕ) (all : List Automaton) (d : Automaton) → x < length w.automata → all ≡ w.automata → names_of w x ≡ (get_or all x d).names
unfolding names_of
names_at w x all d below is = ap (λ o. option_map_or (λ automaton. automaton.names) o []) (slice_get-get_or w.automata x d below) ∙ ap (λ (xs : List Automaton). (get_or xs x d).names) (sym is)

pub links_at : (w : Web) (x : ℕ) (all : List Automaton) (d : Automaton) → x < length w.automata → all ≡ w.automata → links_of w x ≡ (get_or all x d).links
unfolding links_of
links_at w x all d below is = ap (λ o. option_map_or (λ automaton. automaton.links) o []) (slice_get-get_or w.automata x d below) ∙ ap (λ (xs : List Automaton). (get_or xs x d).links) (sym is)

pub below_from : (bound : ℕ) (xs : List ℕ) → ((x : ℕ) → has xs x ≡ true → x < bound) → AreBelow bound xs
below_from bound xs h k d within = h (get_or xs k d) (among_has xs (get_or xs k d) (among_at xs k d within))

-- also where the table has no such list
pub below_at : (bound : ℕ) (table : List (List ℕ)) (name : ℕ) → All (AreBelow bound) table → AreBelow bound (get_or table name [])
below_at bound table name all = ⊎_elim
    (λ within. all name [] within)
    (λ past. subst (AreBelow bound) (sym (get_or_past table name [] past)) (λ k d within. absurd (omega (arith, within))))
    (cases_lt name (length table))

pub own_below : (w : Web) → IsWeb w → (x : ℕ) → AreBelow w.names (names_of w x)
own_below w is_web x = below_from w.names (names_of w x) (λ name h. is_web.below x name h)

pub link_below : (w : Web) → IsWeb w → (x : ℕ) (link : List ℕ) → Among link (links_of w x) → AreBelow w.names link
link_below w is_web x link its = below_from w.names link (λ name h. is_web.below x name (is_web.own x link its name h))

pub length-automaton_marks : (w : Web) (v : Vertex) → length (automaton_marks w v) ≡ length w.automata
length-automaton_marks w v = length-map-range_with_len (automaton_mark w v) 0 (length w.automata)

pub length-name_marks : (w : Web) (v : Vertex) → length (name_marks w v) ≡ w.names
length-name_marks w v = length-map-range_with_len (name_mark w v) 0 w.names
