-- The holders of names, and the marks of the list with no automaton.
use Rattle.std.proofs.Common.{◌≡◌, ℕ, zero, suc, ◌+◌, ◌<◌, ◌⊎◌, inl, inr, ⊎_elim, List, [], ◌∷◌, length, map, take, get_or, Bool, true, false, cond, ◌||◌, ◌&&◌, refl, sym, ◌∙◌, ap, subst, arith, replicate}
use Rattle.std.specs.Prelude.{nat_eq, nat_lt}
use Rattle.std.specs.List.{list_any, range_with_len}
use Rattle.std.proofs.lemmas.Bool.{false≢true, eq-eqb, eqb-true, cases_Bool, cases_order, lt-ltb, le-ltb, ne_eqb, and_parts, or_cases}
use Rattle.std.proofs.lemmas.List.{get_or_default, take_more}
use Rattle.std.proofs.lemmas.List.Folds.{list_any-append}
use Rattle.reo_growth.specs.declared.marks.Mark.{Mark}
use Rattle.reo_growth.specs.declared.marks.Mark.TheVariants.{Absent, Open, Unknown}
use Rattle.reo_growth.specs.declared.web.Web.{Web}
use Rattle.reo_growth.specs.Lists.{has, Among}
use Rattle.reo_growth.specs.Web.{names_of, IsWeb}
use Rattle.reo_growth.specs.Growth.{fired, known, is_listed}
use Rattle.reo_growth.specs.Marks.{AreHolders, automaton_mark, name_mark, automaton_marks, name_marks, holders_at}
use Rattle.reo_growth.specs.Ground.{ArePartners, joins}
use Rattle.reo_growth.specs.Search.{AddsHolder}
use Rattle.reo_growth.proofs.ListLemmas.{same_tests, any_gives, all_among}
use Rattle.reo_growth.proofs.VertexLemmas.{name_within}
use Rattle.reo_growth.proofs.MarkLemmas.{below_from}

module _ (w : Web) where
  -- the automata before x are held, so those before x + 1 are when x is added
  pub holders_more : (x : ℕ) (names : List ℕ) (old new : List (List ℕ)) → names_of w x ≡ names → length old ≡ w.names → AddsHolder x names old new
      → ((y name : ℕ) → name < w.names → has (holders_at old name) y ≡ (nat_lt y x && has (names_of w y) name))
      → (y name : ℕ) → name < w.names → has (holders_at new name) y ≡ (nat_lt y (x + 1) && has (names_of w y) name)
  holders_more x names old new are long adds before y name below =
      adds.1 y name (omega arith) ∙ ap (λ b. b || (nat_eq x y && has names name)) (before y name below)
      ∙ ap (λ ns. (nat_lt y x && has (names_of w y) name) || (nat_eq x y && has ns name)) (sym are)
      ∙ go (cases_order x y)
    where
      go : (x ≡ y) ⊎ ((x < y) ⊎ (y < x)) → ((nat_lt y x && has (names_of w y) name) || (nat_eq x y && has (names_of w x) name)) ≡ (nat_lt y (x + 1) && has (names_of w y) name)
      go (inl e) =
          ap (λ b. (b && has (names_of w y) name) || (nat_eq x y && has (names_of w x) name)) (le-ltb y x (omega arith))
          ∙ ap (λ b. b && has (names_of w x) name) (eq-eqb x y e) ∙ ap (λ z. has (names_of w z) name) e
          ∙ sym (ap (λ b. b && has (names_of w y) name) (lt-ltb y (x + 1) (omega arith)))
      go (inr (inl less)) =
          ap (λ b. (b && has (names_of w y) name) || (nat_eq x y && has (names_of w x) name)) (le-ltb y x (omega arith))
          ∙ ap (λ b. b && has (names_of w x) name) (ne_eqb x y (λ e. omega arith))
          ∙ sym (ap (λ b. b && has (names_of w y) name) (le-ltb y (x + 1) (omega arith)))
      go (inr (inr more)) =
          ap (λ b. (b && has (names_of w y) name) || (nat_eq x y && has (names_of w x) name)) (lt-ltb y x more)
          ∙ ap (λ b. has (names_of w y) name || (b && has (names_of w x) name)) (ne_eqb x y (λ e. omega arith)) ∙ or_false (has (names_of w y) name)
          ∙ sym (ap (λ b. b && has (names_of w y) name) (lt-ltb y (x + 1) (omega arith)))
        where
          or_false : (b : Bool) → (b || false) ≡ b
          or_false true = refl
          or_false false = refl

  pub are_holders : (x : ℕ) (table : List (List ℕ)) → length w.automata ≡ x → length table ≡ w.names
      → ((y name : ℕ) → name < w.names → has (holders_at table name) y ≡ (nat_lt y x && has (names_of w y) name)) → AreHolders w table
  are_holders x table all long have = record {
    long = long;
    below = λ name d within. below_from (length w.automata) (get_or table name d) (λ y h.
        let at = sym (have y name (omega arith)) ∙ ap (λ holders. has holders y) (get_or_default table name [] d within) ∙ h in
        name_within w y name (and_parts (nat_lt y x) (has (names_of w y) name) at).1);
    have = λ y name below. have y name below ∙ whole y name (cases_Bool (has (names_of w y) name));
  }
    where
      whole : (y name : ℕ) → (has (names_of w y) name ≡ true) ⊎ (has (names_of w y) name ≡ false) → (nat_lt y x && has (names_of w y) name) ≡ has (names_of w y) name
      whole y name (inl its) = let b = name_within w y name its in ap (λ b. b && has (names_of w y) name) (lt-ltb y x (omega arith))
      whole y name (inr foreign) = same_tests (nat_lt y x && has (names_of w y) name) (has (names_of w y) name) (λ both. (and_parts (nat_lt y x) (has (names_of w y) name) both).1) (λ its. absurd (false≢true (sym foreign ∙ its)))

  -- the marks of no automaton
  map_all : (f : ℕ → Mark) (m : Mark) → ((k : ℕ) → f k ≡ m) → (a n : ℕ) → map f (range_with_len a n) ≡ replicate n m
  map_all f m h a zero = refl
  map_all f m h a (suc n) = ap (λ x. x ∷ map f (range_with_len (a + 1) n)) (h a) ∙ ap (λ xs. m ∷ xs) (map_all f m h (a + 1) n)

  none_fires : (names : List ℕ) → list_any (fired []) names ≡ false
  unfolding fired
  none_fires [] = refl
  none_fires (x ∷ xs) = none_fires xs

  pub automaton_marks_of_none : automaton_marks w [] ≡ replicate (length w.automata) Absent
  unfolding automaton_mark is_listed fired
  automaton_marks_of_none = map_all (automaton_mark w []) Absent (λ x. ap (λ b. cond b Open Absent) (none_fires (names_of w x))) 0 (length w.automata)

  pub name_marks_of_none : name_marks w [] ≡ replicate w.names Unknown
  unfolding name_mark fired known
  name_marks_of_none = map_all (name_mark w []) Unknown (λ name. refl) 0 w.names

  -- the ends of the first FIFO1s are joined, so those of one more are when it is added
  pub partners_more : (cells : List (ℕ × ℕ)) (i a b : ℕ) (old middle new : List (List ℕ)) → i < length cells → get_or cells i (0, 0) ≡ (a, b) → length old ≡ w.names
      → AddsHolder b (a ∷ []) old middle → AddsHolder a (b ∷ []) middle new
      → ((one other : ℕ) → one < w.names → has (holders_at old one) other ≡ list_any (joins one other) (take i cells))
      → (one other : ℕ) → one < w.names → has (holders_at new one) other ≡ list_any (joins one other) (take (i + 1) cells)
  partners_more cells i a b old middle new within is long first second before one other below =
      second.1 other one (omega (arith, first.0)) ∙ ap (λ h. h || (nat_eq a other && has (b ∷ []) one)) (first.1 other one (omega arith) ∙ ap (λ h. h || (nat_eq b other && has (a ∷ []) one)) (before one other below))
      ∙ either (list_any (joins one other) (take i cells)) (nat_eq a one) (nat_eq b other) (nat_eq b one) (nat_eq a other)
      ∙ ap (λ cell. list_any (joins one other) (take i cells) || (joins one other cell || false)) (sym is)
      ∙ sym (ap (list_any (joins one other)) (take_more cells i (0, 0) within) ∙ list_any-append (joins one other) (take i cells) (get_or cells i (0, 0) ∷ []))
    where
      either : (h p q r s : Bool) → ((h || (q && (p || false))) || (s && (r || false))) ≡ (h || (((p && q) || (r && s)) || false))
      either true p q r s = refl
      either false true true r s = refl
      either false true false true true = refl
      either false true false true false = refl
      either false true false false true = refl
      either false true false false false = refl
      either false false true true true = refl
      either false false true true false = refl
      either false false true false true = refl
      either false false true false false = refl
      either false false false true true = refl
      either false false false true false = refl
      either false false false false true = refl
      either false false false false false = refl

  pub joined_gives : (cells : List (ℕ × ℕ)) (one other : ℕ) → list_any (joins one other) cells ≡ true → (a : ℕ) × (b : ℕ) × Among (a, b) cells × (((a ≡ one) × (b ≡ other)) ⊎ ((b ≡ one) × (a ≡ other)))
  joined_gives cells one other h =
      let f = any_gives (joins one other) cells h in (
        f.0.0,
        f.0.1,
        f.1,
        ⊎_elim
            (λ both. let p = and_parts (nat_eq f.0.0 one) (nat_eq f.0.1 other) both in inl (eqb-true f.0.0 one p.0, eqb-true f.0.1 other p.1))
            (λ both. let p = and_parts (nat_eq f.0.1 one) (nat_eq f.0.0 other) both in inr (eqb-true f.0.1 one p.0, eqb-true f.0.0 other p.1))
            (or_cases (nat_eq f.0.0 one && nat_eq f.0.1 other) (nat_eq f.0.1 one && nat_eq f.0.0 other) f.2),
      )

  pub are_partners : IsWeb w → (table : List (List ℕ)) → length table ≡ w.names
      → ((one other : ℕ) → one < w.names → has (holders_at table one) other ≡ list_any (joins one other) w.cells) → ArePartners w table
  are_partners is_web table long have = record {
    below = λ name d within. below_from w.names (get_or table name d) (λ other h.
        let j = joined_gives w.cells name other (sym (have name other (omega arith)) ∙ ap (λ holders. has holders other) (get_or_default table name [] d within) ∙ h) in
        let ends = all_among (λ cell. (cell.0 < w.names) × (cell.1 < w.names)) w.cells is_web.ends (j.0, j.1) j.2 in
        ⊎_elim (λ same. subst (λ n. n < w.names) same.1 ends.1) (λ same. subst (λ n. n < w.names) same.1 ends.0) j.3);
    have = have;
  }
