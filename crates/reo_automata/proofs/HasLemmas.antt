-- lists of names as sets
use Rattle.std.proofs.Common.{◌≡◌, ℕ, zero, suc, ◌+◌, ◌-◌, ◌<◌, ◌⊎◌, ⊎_elim, inl, inr, Bool, true, false, ◌||◌, ◌&&◌, cond, List, [], ◌∷◌, ◌++◌, length, filter, slice_get, get_or, nat_eq, Some, refl, sym, ap, ◌∙◌, subst, arith, zero-add}
use Rattle.std.specs.List.{range_with_len}
use Rattle.std.specs.List.Sorted.{IsStrictlyIncreasing}
use Rattle.std.proofs.Math.Bool.{or-true, and-false}
use Rattle.std.proofs.lemmas.Bool.{eq-eqb, eqb-true, ne_eqb, cases_eq, cases_lt}
use Rattle.std.proofs.lemmas.Option.{slice_get_within, get_or_from_slice_get}
use Rattle.std.proofs.lemmas.List.{map-id}
use Rattle.std.proofs.lemmas.List.FromFn.{length-range_with_len, get_or-range_with_len, map-range_with_len_more}
use Rattle.std.proofs.lemmas.List.Folds.{list_any_at}
use Rattle.reo_automata.specs.Template.{has}

pub has_head : (x : ℕ) (xs : List ℕ) → has (x ∷ xs) x ≡ true
has_head x xs = ap (λ b. b || has xs x) (eq-eqb x x refl)

pub has_tail : (x name : ℕ) (xs : List ℕ) → has xs name ≡ true → has (x ∷ xs) name ≡ true
has_tail x name xs e = ap (λ b. nat_eq x name || b) e ∙ or-true (nat_eq x name)

pub has_cases : (x name : ℕ) (xs : List ℕ) → has (x ∷ xs) name ≡ true → (x ≡ name) ⊎ (has xs name ≡ true)
has_cases x name xs e = go (nat_eq x name) refl e
  where
    go : (b : Bool) → nat_eq x name ≡ b → (b || has xs name) ≡ true → (x ≡ name) ⊎ (has xs name ≡ true)
    go true is e = inl (eqb-true x name is)
    go false is e = inr e

pub has_other : (x name : ℕ) (xs : List ℕ) → (x ≡ name → ⊥) → has (x ∷ xs) name ≡ has xs name
has_other x name xs apart = ap (λ b. b || has xs name) (ne_eqb x name apart)

pub has_filter : (p : ℕ → Bool) (xs : List ℕ) (name : ℕ) → has (filter p xs) name ≡ (has xs name && p name)
has_filter p [] name = refl
has_filter p (x ∷ xs) name = go (p x) refl (cases_eq x name) (has_filter p xs name)
  where
    go : (b : Bool) → p x ≡ b → (x ≡ name) ⊎ (x ≡ name → ⊥) → has (filter p xs) name ≡ (has xs name && p name) → has (filter p (x ∷ xs)) name ≡ (has (x ∷ xs) name && p name)
    go true is (inl same) more =
        ap (λ l. has l name) (ap (λ b. cond b (x ∷ filter p xs) (filter p xs)) is) ∙ (ap (has (x ∷ filter p xs)) (sym same) ∙ (has_head x (filter p xs) ∙ (sym (ap p (sym same) ∙ is) ∙ sym (ap (λ b. b && p name) (ap (has (x ∷ xs)) (sym same) ∙ has_head x xs)))))
    go true is (inr apart) more =
        ap (λ l. has l name) (ap (λ b. cond b (x ∷ filter p xs) (filter p xs)) is) ∙ (has_other x name (filter p xs) apart ∙ (more ∙ ap (λ b. b && p name) (sym (has_other x name xs apart))))
    go false is (inl same) more =
        ap (λ l. has l name) (ap (λ b. cond b (x ∷ filter p xs) (filter p xs)) is) ∙ (more ∙ (ap (λ b. has xs name && b) (ap p (sym same) ∙ is) ∙ (and-false (has xs name) ∙ (sym (and-false (has (x ∷ xs) name)) ∙ ap (λ b. has (x ∷ xs) name && b) (sym (ap p (sym same) ∙ is))))))
    go false is (inr apart) more =
        ap (λ l. has l name) (ap (λ b. cond b (x ∷ filter p xs) (filter p xs)) is) ∙ (more ∙ ap (λ b. b && p name) (sym (has_other x name xs apart)))

-- a name of the list has a place, and what stands at a place is a name of it
pub has_place : (xs : List ℕ) (name : ℕ) → has xs name ≡ true → (i : ℕ) × (slice_get xs i ≡ Some name)
has_place [] name e = cc
has_place (x ∷ xs) name e = go (has_cases x name xs e) (has_place xs name)
  where
    go : (x ≡ name) ⊎ (has xs name ≡ true) → (has xs name ≡ true → (i : ℕ) × (slice_get xs i ≡ Some name)) → (i : ℕ) × (slice_get (x ∷ xs) i ≡ Some name)
    go (inl same) more = (0, ap Some same)
    go (inr later) more = let at = more later in (suc at.0, at.1)

pub place_has : (xs : List ℕ) (i name : ℕ) → slice_get xs i ≡ Some name → has xs name ≡ true
place_has [] i name e = cc
place_has (x ∷ xs) zero name e = let same : x ≡ name = cc in subst (λ n. has (x ∷ xs) n ≡ true) same (has_head x xs)
place_has (x ∷ xs) (suc i) name e = has_tail x name xs (place_has xs i name e)

pub has_range : (n name : ℕ) → name < n → has (range_with_len 0 n) name ≡ true
has_range n name below =
    let at : get_or (range_with_len 0 n) name 0 ≡ 0 + name = get_or-range_with_len 0 n name 0 below in
    list_any_at (λ x. nat_eq x name) (range_with_len 0 n) name 0 (omega (arith, length-range_with_len 0 n)) (eq-eqb (get_or (range_with_len 0 n) name 0) name (omega (arith, at)))

range_below : (n name : ℕ) → has (range_with_len 0 n) name ≡ true → name < n
range_below n name e =
    let at = has_place (range_with_len 0 n) name e in
    let within = slice_get_within (range_with_len 0 n) at.0 name at.1 in
    let read = get_or_from_slice_get (range_with_len 0 n) at.0 name 0 at.1 in
    let len = length-range_with_len 0 n in
    let is = get_or-range_with_len 0 n at.0 0 (omega (arith, within, len)) in
    omega (arith, read, is, within, len)

pub range_rises : (n : ℕ) → IsStrictlyIncreasing (range_with_len 0 n)
range_rises n k h =
    let len = length-range_with_len 0 n in
    let next = get_or-range_with_len 0 n (k + 1) 0 (omega (arith, h, len)) in
    let this = get_or-range_with_len 0 n k 0 (omega (arith, h, len)) in
    omega (arith, next, this)

-- in a rising list each stands at one place
rises_far : (xs : List ℕ) → IsStrictlyIncreasing xs → (i n : ℕ) → i + suc n < length xs → get_or xs i 0 < get_or xs (i + suc n) 0
rises_far xs rising i zero h = let step = rising i (omega (arith, h)) in step
rises_far xs rising i (suc n) h =
    let before = rises_far xs rising i n (omega (arith, h)) in
    let step = rising (i + suc n) (omega (arith, h)) in
    let same : i + suc n + 1 ≡ i + suc (suc n) = omega arith in
    omega (arith, before, subst (λ j. get_or xs (i + suc n) 0 < get_or xs j 0) same step)

far : (xs : List ℕ) → IsStrictlyIncreasing xs → (a b : ℕ) → a < b → b < length xs → get_or xs a 0 < get_or xs b 0
far xs rising a b less within =
    let gap : a + suc (b - suc a) ≡ b = omega arith in
    subst (λ j. get_or xs a 0 < get_or xs j 0) gap (rises_far xs rising a (b - suc a) (omega (arith, gap, within)))

pub one_place : (xs : List ℕ) → IsStrictlyIncreasing xs → (i j x : ℕ) → slice_get xs i ≡ Some x → slice_get xs j ≡ Some x → i ≡ j
one_place xs rising i j x at_i at_j =
    let in_i = slice_get_within xs i x at_i in
    let in_j = slice_get_within xs j x at_j in
    let is_i = get_or_from_slice_get xs i x 0 at_i in
    let is_j = get_or_from_slice_get xs j x 0 at_j in
    ⊎_elim
    (λ less. absurd (omega (arith, is_i, is_j, far xs rising i j less in_j)))
    (λ more. ⊎_elim
    (λ less. absurd (omega (arith, is_i, is_j, far xs rising j i less in_i)))
    (λ past. omega (arith, more, past))
    (cases_lt j i))
    (cases_lt i j)

pub range_more : (n : ℕ) → range_with_len 0 (n + 1) ≡ range_with_len 0 n ++ n ∷ []
range_more n =
    sym (map-id (range_with_len 0 (n + 1))) ∙ (map-range_with_len_more (λ x. x) 0 n n (zero-add n) ∙ ap (λ l. l ++ n ∷ []) (map-id (range_with_len 0 n)))
