-- Before which automaton none is open.
use Rattle.std.proofs.Common.{◌≡◌, ℕ, ◌+◌, ◌-◌, ◌<◌, ◌≤◌, ◌⊎◌, inl, inr, ⊎_elim, List, [], length, take, drop, get_or, Bool, true, false, not, cond, ◌||◌, Some, None, sym, ◌∙◌, ap, subst, arith}
use Rattle.std.specs.Prelude.{nat_eq, nat_lt, position}
use Rattle.std.specs.Option.{option_map}
use Rattle.std.specs.List.{list_all, position_or_len}
use Rattle.reo_growth.proofs.ListLemmas.{all_gives, among_at}
use Rattle.std.proofs.lemmas.Bool.{eq-eqb, ne_eqb, not-true, not-false, or_cases, cases_lt, cases_eq, lt-ltb, le-ltb, false_from_ne_true}
use Rattle.std.proofs.lemmas.List.{get_or_default, length-take, length-drop, get_or-take, get_or-drop, length-replicate, get_or-replicate}
use Rattle.std.proofs.lemmas.List.Sums.{prefix_len_passes, prefix_len_stops, prefix_len-le-length, position_or_len_is}
use Rattle.reo_growth.specs.declared.marks.Mark.{Mark}
use Rattle.reo_growth.specs.declared.marks.Mark.TheVariants.{Absent, Listed}
use Rattle.reo_growth.specs.declared.web.Web.{Web}
use Rattle.reo_growth.specs.Marks.{Changes, IsBefore, NoneOpenBefore, is_open_mark, opened, automaton_marks}
use Rattle.reo_growth.proofs.TableLemmas.{automaton_marks_of_none}

-- where none before a place passes, the first that passes is the first from there on
pub position_from : (p : Mark → Bool) (xs : List Mark) (from : ℕ) → from ≤ length xs → ((k : ℕ) (d : Mark) → k < from → k < length xs → p (get_or xs k d) ≡ false)
    → position p xs ≡ option_map (λ k. from + k) (position p (drop from xs))
position_from p xs from within before =
    ap (λ n. cond (nat_lt n (length xs)) (Some n) None) whole ∙ go (cases_lt q (length xs - from))
  where
    rest : List Mark
    rest = drop from xs

    q : ℕ
    q = position_or_len p (drop from xs)

    long : length (drop from xs) ≡ length xs - from
    long = length-drop from xs

    q_within : q ≤ length xs - from
    q_within = subst (λ n. position_or_len p (drop from xs) ≤ n) long (prefix_len-le-length (λ x. not (p x)) (drop from xs))

    read : (k : ℕ) (d : Mark) → get_or (drop from xs) k d ≡ get_or xs (from + k) d
    read k d = get_or-drop from xs k d

    earlier : (k : ℕ) → k < from + q → p (get_or xs k Absent) ≡ false
    earlier k less = ⊎_elim
        (λ front. before k Absent front (omega (arith, q_within)))
        (λ back. ap (λ n. p (get_or xs n Absent)) (let e : k ≡ from + (k - from) = omega arith in e) ∙ ap p (sym (read (k - from) Absent))
        ∙ not-true (p (get_or (drop from xs) (k - from) Absent)) (prefix_len_passes (λ x. not (p x)) (drop from xs) (k - from) Absent (omega arith)))
        (cases_lt k from)

    there : from + q < length xs → p (get_or xs (from + q) Absent) ≡ true
    there less = ap p (sym (read q Absent)) ∙ not-false (p (get_or (drop from xs) q Absent)) (prefix_len_stops (λ x. not (p x)) (drop from xs) Absent (omega (arith, long)))

    whole : position_or_len p xs ≡ from + q
    whole = position_or_len_is p xs (from + q) Absent (omega (arith, q_within)) earlier there

    go : (q < length xs - from) ⊎ (length xs - from ≤ q) → cond (nat_lt (from + q) (length xs)) (Some (from + q)) None ≡ option_map (λ k. from + k) (cond (nat_lt q (length (drop from xs))) (Some q) None)
    go (inl less) =
        ap (λ b. cond b (Some (from + q)) None) (lt-ltb (from + q) (length xs) (omega arith))
        ∙ sym (ap (λ b. option_map (λ k. from + k) (cond b (Some q) None)) (lt-ltb q (length (drop from xs)) (omega (arith, long))))
    go (inr more) =
        ap (λ b. cond b (Some (from + q)) None) (le-ltb (from + q) (length xs) (omega arith))
        ∙ sym (ap (λ b. option_map (λ k. from + k) (cond b (Some q) None)) (le-ltb q (length (drop from xs)) (omega (arith, long))))

pub before_more : (p q r : ℕ → Bool) → ((k : ℕ) → r k ≡ (p k || q k)) → (start middle least : ℕ) → IsBefore p start middle → IsBefore q middle least → IsBefore r start least
before_more p q r either start middle least first second = (
  omega (arith, first.0, second.0),
  λ k h. ⊎_elim
      (λ is. let m = first.1 k is in omega (arith, m, second.0))
      (λ is. second.1 k is)
      (or_cases (p k) (q k) (sym (either k) ∙ h)),
)

-- when an automaton that was the least to be open has entered
pub before_entered : (x least : ℕ) (old middle new : List Mark) (held : ℕ → Bool) → NoneOpenBefore x old → Changes held opened old middle → Changes (nat_eq x) (λ _. Listed) middle new
    → IsBefore held (x + 1) least → NoneOpenBefore least new
before_entered x least old middle new held before changes listed first k d less here =
    ap is_open_mark (listed.1 k d (omega (arith, listed.0))) ∙ go (cases_eq k x)
  where
    go : (k ≡ x) ⊎ (k ≡ x → ⊥) → is_open_mark (cond (nat_eq x k) Listed (get_or middle k d)) ≡ false
    go (inl same) = ap (λ b. is_open_mark (cond b Listed (get_or middle k d))) (eq-eqb x k (sym same))
    go (inr other) =
        let early : k < x = omega (arith, first.0) in
        let within : k < length old = omega (arith, listed.0, changes.0) in
        let free : held k ≡ false = false_from_ne_true (held k) (λ h. let m = first.1 k h in omega arith) in
        ap (λ b. is_open_mark (cond b Listed (get_or middle k d))) (ne_eqb x k (λ e. other (sym e)))
        ∙ ap is_open_mark (changes.1 k d within ∙ ap (λ b. cond b (opened (get_or old k d)) (get_or old k d)) free) ∙ before k d early within

pub none_open : (w : Web) (marks : List Mark) (x : ℕ) → marks ≡ automaton_marks w [] → NoneOpenBefore x marks
none_open w marks x is k d less here =
    let all = is ∙ automaton_marks_of_none w in
    ap (λ xs. is_open_mark (get_or xs k d)) all
    ∙ ap is_open_mark (get_or-replicate (length w.automata) k Absent d (omega (arith, ap length all, length-replicate (length w.automata) Absent)))

-- none before the first is open
pub first_before : (marks : List Mark) (x : ℕ) → ((k : ℕ) → k < x → is_open_mark (get_or marks k Absent) ≡ false) → NoneOpenBefore x marks
first_before marks x before k d less here = ap is_open_mark (get_or_default marks k d Absent here) ∙ before k less

-- none before a place is open, where none is before another, nor from there on
pub closed_further : (marks slice : List Mark) (from size n : ℕ) → slice ≡ take n (drop from marks) → n ≡ size → from + size ≤ length marks → list_all (λ mark. not (is_open_mark mark)) slice ≡ true
    → NoneOpenBefore from marks → NoneOpenBefore (from + size) marks
closed_further marks slice from size n is at within all before k d less here = ⊎_elim
    (λ early. before k d early here)
    (λ late.
    let read : get_or slice (k - from) d ≡ get_or marks k d =
    ap (λ xs. get_or xs (k - from) d) is ∙ get_or-take n (drop from marks) (k - from) d (omega arith) ∙ get_or-drop from marks (k - from) d ∙ ap (λ j. get_or marks j d) (let e : from + (k - from) ≡ k = omega arith in e) in
    let long : k - from < length slice = omega (arith, ap length is, length-take n (drop from marks), length-drop from marks) in
    sym (ap is_open_mark read) ∙ not-true (is_open_mark (get_or slice (k - from) d)) (all_gives (λ mark. not (is_open_mark mark)) slice (get_or slice (k - from) d) all (among_at slice (k - from) d long)))
    (cases_lt k from)
