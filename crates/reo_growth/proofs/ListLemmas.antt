-- Membership, tests, and lists of which at most one place has a property.
use Rattle.std.proofs.Common.{◌≡◌, ℕ, zero, suc, ◌+◌, ◌<◌, ◌≤◌, ◌⊎◌, inl, inr, ⊎_elim, List, [], ◌∷◌, ◌++◌, length, map, Bool, true, false, cond, Some, None, All, get_or, add-one, add-zero, zero-add, refl, sym, ◌∙◌, ap, subst, arith}
use Rattle.std.specs.Prelude.{nat_eq, filter, flat_map}
use Rattle.std.specs.List.{list_any, list_all, find, range_with_len}
use Rattle.std.proofs.lemmas.Bool.{false≢true, and_parts, and_from, or_cases, or_left, or_right, eqb-true, eq-eqb, cases_Bool}
use Rattle.std.proofs.lemmas.List.Elements.{filter-append}
use Rattle.reo_growth.specs.Lists.{has, Among, AtMostOne}

-- two tests that imply each other are one
pub same_tests : (a b : Bool) → (a ≡ true → b ≡ true) → (b ≡ true → a ≡ true) → a ≡ b
same_tests true b go back = sym (go refl)
same_tests false true go back = back refl
same_tests false false go back = refl

module _ {A : Type 0} (p : A → Bool) where
  pub any_from : (xs : List A) (x : A) → Among x xs → p x ≡ true → list_any p xs ≡ true
  any_from [] x at h = elim at [ ]
  any_from (y ∷ ys) x (inl is) h = or_left (p y) (list_any p ys) (ap p is ∙ h)
  any_from (y ∷ ys) x (inr later) h = or_right (p y) (list_any p ys) (any_from ys x later h)

  pub any_gives : (xs : List A) → list_any p xs ≡ true → (x : A) × Among x xs × (p x ≡ true)
  any_gives [] h = absurd (false≢true h)
  any_gives (y ∷ ys) h = go (or_cases (p y) (list_any p ys) h) (any_gives ys)
    where
      go : (p y ≡ true) ⊎ (list_any p ys ≡ true) → (list_any p ys ≡ true → (x : A) × Among x ys × (p x ≡ true)) → (x : A) × Among x (y ∷ ys) × (p x ≡ true)
      go (inl is) found = (y, inl refl, is)
      go (inr later) found = let f = found later in (f.0, inr f.1, f.2)

  pub all_gives : (xs : List A) (x : A) → list_all p xs ≡ true → Among x xs → p x ≡ true
  all_gives [] x h at = elim at [ ]
  all_gives (y ∷ ys) x h (inl is) = ap p (sym is) ∙ (and_parts (p y) (list_all p ys) h).0
  all_gives (y ∷ ys) x h (inr later) = all_gives ys x (and_parts (p y) (list_all p ys) h).1 later

  pub all_from : (xs : List A) → ((x : A) → Among x xs → p x ≡ true) → list_all p xs ≡ true
  all_from [] h = refl
  all_from (y ∷ ys) h = and_from (p y) (list_all p ys) (h y (inl refl)) (all_from ys (λ x later. h x (inr later)))

  pub among_filter : (xs : List A) (x : A) → Among x xs → p x ≡ true → Among x (filter p xs)
  among_filter [] x at h = elim at [ ]
  among_filter (y ∷ ys) x (inl is) h = subst (λ b. Among x (cond b (y ∷ filter p ys) (filter p ys))) (sym (ap p is ∙ h)) (inl is)
  among_filter (y ∷ ys) x (inr later) h = go (p y) (among_filter ys x later h)
    where
      go : (b : Bool) → Among x (filter p ys) → Among x (cond b (y ∷ filter p ys) (filter p ys))
      go true found = inr found
      go false found = found

  pub filter_gives : (xs : List A) (x : A) → Among x (filter p xs) → Among x xs × (p x ≡ true)
  filter_gives [] x h = elim h [ ]
  filter_gives (y ∷ ys) x h = go (p y) refl h (filter_gives ys x)
    where
      go : (b : Bool) → p y ≡ b → Among x (cond b (y ∷ filter p ys) (filter p ys)) → (Among x (filter p ys) → Among x ys × (p x ≡ true)) → Among x (y ∷ ys) × (p x ≡ true)
      go true is (inl found) rest = (inl found, ap p (sym found) ∙ is)
      go true is (inr later) rest = let r = rest later in (inr r.0, r.1)
      go false is later rest = let r = rest later in (inr r.0, r.1)

  -- a filter keeps what holds of at most one
  pub once_filter : (P : A → Type 0) (xs : List A) → AtMostOne P xs → AtMostOne P (filter p xs)
  once_filter P [] one = tt
  once_filter P (y ∷ ys) one = go (p y) (once_filter P ys one.1)
    where
      go : (b : Bool) → AtMostOne P (filter p ys) → AtMostOne P (cond b (y ∷ filter p ys) (filter p ys))
      go true rest = (λ holds z at other. one.0 holds z (filter_gives ys z at).0 other, rest)
      go false rest = rest

pub among_front : {A : Type 0} (x : A) (xs ys : List A) → Among x xs → Among x (xs ++ ys)
among_front x [] ys h = elim h [ ]
among_front x (z ∷ zs) ys (inl is) = inl is
among_front x (z ∷ zs) ys (inr later) = inr (among_front x zs ys later)

pub among_back : {A : Type 0} (x : A) (xs ys : List A) → Among x ys → Among x (xs ++ ys)
among_back x [] ys h = h
among_back x (z ∷ zs) ys h = inr (among_back x zs ys h)

pub append_gives : {A : Type 0} (x : A) (xs ys : List A) → Among x (xs ++ ys) → Among x xs ⊎ Among x ys
append_gives x [] ys h = inr h
append_gives x (z ∷ zs) ys (inl is) = inl (inl is)
append_gives x (z ∷ zs) ys (inr later) = ⊎_elim (λ h. inl (inr h)) (λ h. inr h) (append_gives x zs ys later)

module _ {A B : Type 0} where
  pub among_map : (f : A → B) (xs : List A) (x : A) → Among x xs → Among (f x) (map f xs)
  among_map f [] x h = elim h [ ]
  among_map f (y ∷ ys) x (inl is) = inl (ap f is)
  among_map f (y ∷ ys) x (inr later) = inr (among_map f ys x later)

  pub map_gives : (f : A → B) (xs : List A) (y : B) → Among y (map f xs) → (x : A) × Among x xs × (f x ≡ y)
  map_gives f [] y h = elim h [ ]
  map_gives f (x ∷ xs) y (inl is) = (x, inl refl, is)
  map_gives f (x ∷ xs) y (inr later) = let r = map_gives f xs y later in (r.0, inr r.1, r.2)

  pub among_flat_map : (f : A → List B) (xs : List A) (x : A) (y : B) → Among x xs → Among y (f x) → Among y (flat_map f xs)
  among_flat_map f [] x y at h = elim at [ ]
  among_flat_map f (z ∷ zs) x y (inl is) h = among_front y (f z) (flat_map f zs) (subst (λ a. Among y (f a)) (sym is) h)
  among_flat_map f (z ∷ zs) x y (inr later) h = among_back y (f z) (flat_map f zs) (among_flat_map f zs x y later h)

  pub flat_map_gives : (f : A → List B) (xs : List A) (y : B) → Among y (flat_map f xs) → (x : A) × Among x xs × Among y (f x)
  flat_map_gives f [] y h = elim h [ ]
  flat_map_gives f (x ∷ xs) y h = go (append_gives y (f x) (flat_map f xs) h) (flat_map_gives f xs y)
    where
      go : Among y (f x) ⊎ Among y (flat_map f xs) → (Among y (flat_map f xs) → (z : A) × Among z xs × Among y (f z)) → (z : A) × Among z (x ∷ xs) × Among y (f z)
      go (inl at) rest = (x, inl refl, at)
      go (inr later) rest = let r = rest later in (r.0, inr r.1, r.2)

-- membership of numbers, and the test for it
pub has_among : (xs : List ℕ) (n : ℕ) → has xs n ≡ true → Among n xs
has_among xs n h = let f = any_gives (λ x. nat_eq x n) xs h in subst (λ x. Among x xs) (eqb-true f.0 n f.2) f.1

pub among_has : (xs : List ℕ) (n : ℕ) → Among n xs → has xs n ≡ true
among_has xs n h = any_from (λ x. nat_eq x n) xs n h (eq-eqb n n refl)

-- ranges
pub among_range : (a n x : ℕ) → a ≤ x → x < a + n → Among x (range_with_len a n)
among_range a zero x low high = absurd (omega arith)
among_range a (suc n) x low high = go (cases_Bool (nat_eq a x)) (λ above below. among_range (a + 1) n x above below)
  where
    go : (nat_eq a x ≡ true) ⊎ (nat_eq a x ≡ false) → (a + 1 ≤ x → x < a + 1 + n → Among x (range_with_len (a + 1) n)) → (a ≡ x) ⊎ Among x (range_with_len (a + 1) n)
    go (inl is) rest = inl (eqb-true a x is)
    go (inr not_first) rest = inr (rest (let ne : a ≡ x → ⊥ = λ e. false≢true (sym not_first ∙ eq-eqb a x e) in omega arith) (omega arith))

pub range_gives : (a n x : ℕ) → Among x (range_with_len a n) → (a ≤ x) × (x < a + n)
range_gives a zero x h = elim h [ ]
range_gives a (suc n) x (inl is) = (omega arith, omega arith)
range_gives a (suc n) x (inr later) = let r = range_gives (a + 1) n x later in (omega arith, omega arith)

module _ (p : ℕ → Bool) where
  -- the least number of a range that passes a test
  pub find_gives : (a n x : ℕ) → find p (range_with_len a n) ≡ Some x → (a ≤ x) × (x < a + n) × (p x ≡ true) × ((y : ℕ) → a ≤ y → y < x → p y ≡ false)
  find_gives a zero x h = absurd (cc)
  find_gives a (suc n) x h = go (p a) refl h (find_gives (a + 1) n x)
    where
      go : (b : Bool) → p a ≡ b → cond b (Some a) (find p (range_with_len (a + 1) n)) ≡ Some x
          → (find p (range_with_len (a + 1) n) ≡ Some x → (a + 1 ≤ x) × (x < a + 1 + n) × (p x ≡ true) × ((y : ℕ) → a + 1 ≤ y → y < x → p y ≡ false))
          → (a ≤ x) × (x < a + suc n) × (p x ≡ true) × ((y : ℕ) → a ≤ y → y < x → p y ≡ false)
      go true is h rest =
          let e : a ≡ x = cc in
          (omega arith, omega arith, ap p (sym e) ∙ is, λ y low high. absurd (omega arith))
      go false is h rest = let r = rest h in (omega (arith, r.0), omega (arith, r.1), r.2, λ y low high. earlier r.3 y low high (cases_Bool (nat_eq a y)))
        where
          earlier : ((y : ℕ) → a + 1 ≤ y → y < x → p y ≡ false) → (y : ℕ) → a ≤ y → y < x → (nat_eq a y ≡ true) ⊎ (nat_eq a y ≡ false) → p y ≡ false
          earlier after y low high (inl at) = ap p (sym (eqb-true a y at)) ∙ is
          earlier after y low high (inr other) = after y (let ne : a ≡ y → ⊥ = λ e. false≢true (sym other ∙ eq-eqb a y e) in omega arith) high

  pub find_fails : (a n : ℕ) → find p (range_with_len a n) ≡ None → (x : ℕ) → a ≤ x → x < a + n → p x ≡ false
  find_fails a zero h x low high = absurd (omega arith)
  find_fails a (suc n) h x low high = go (p a) refl h (find_fails (a + 1) n) (cases_Bool (nat_eq a x))
    where
      go : (b : Bool) → p a ≡ b → cond b (Some a) (find p (range_with_len (a + 1) n)) ≡ None
          → (find p (range_with_len (a + 1) n) ≡ None → (x : ℕ) → a + 1 ≤ x → x < a + 1 + n → p x ≡ false)
          → (nat_eq a x ≡ true) ⊎ (nat_eq a x ≡ false) → p x ≡ false
      go true is h rest which = absurd (cc)
      go false is h rest (inl at) = ap p (sym (eqb-true a x at)) ∙ is
      go false is h rest (inr other) = rest h x (let ne : a ≡ x → ⊥ = λ e. false≢true (sym other ∙ eq-eqb a x e) in omega arith) (omega arith)

-- lists with at most one place of a property
module _ {A : Type 0} (P : A → Type 0) where
  pub once_append : (xs ys : List A) → AtMostOne P xs → AtMostOne P ys → ((x y : A) → Among x xs → Among y ys → P x → P y → ⊥) → AtMostOne P (xs ++ ys)
  once_append [] ys one two apart = two
  once_append (x ∷ xs) ys one two apart = (
    λ holds y among other. ⊎_elim (λ front. one.0 holds y front other) (λ back. apart x y (inl refl) back holds other) (append_gives y xs ys among),
    once_append xs ys one.1 two (λ a b at_a at_b. apart a b (inr at_a) at_b),
  )

  -- no two elements of xs lead to elements with the property
  unfoldable pub AreSeparate : {B : Type 0} → (B → List A) → List B → Type 0
  AreSeparate f [] = Unit {0}
  AreSeparate {B} f (x ∷ xs) = ((y : B) (a b : A) → Among y xs → Among a (f x) → Among b (f y) → P a → P b → ⊥) × AreSeparate f xs

  pub once_flat_map : {B : Type 0} (f : B → List A) (xs : List B) → ((x : B) → Among x xs → AtMostOne P (f x)) → AreSeparate f xs → AtMostOne P (flat_map f xs)
  unfolding AreSeparate
  once_flat_map f [] each apart = tt
  once_flat_map {B} f (x ∷ xs) each apart =
      once_append (f x) (flat_map f xs) (each x (inl refl)) (once_flat_map f xs (λ y later. each y (inr later)) apart.1)
      (λ a b at_a at_b holds_a holds_b. let r = flat_map_gives f xs b at_b in apart.0 r.0 a b r.1 at_a r.2 holds_a holds_b)

pub among_at : {A : Type 0} (xs : List A) (k : ℕ) (d : A) → k < length xs → Among (get_or xs k d) xs
among_at [] k d h = absurd (omega arith)
among_at (x ∷ xs) zero d h = inl refl
among_at (x ∷ xs) (suc k) d h = inr (among_at xs k d (omega arith))

pub range_more : (a n : ℕ) → range_with_len a (suc n) ≡ range_with_len a n ++ (a + n) ∷ []
range_more a zero = ap (λ x. x ∷ []) (sym (add-zero a))
range_more a (suc n) = ap (λ xs. a ∷ xs) (range_more (a + 1) n ∙ ap (λ x. range_with_len (a + 1) n ++ x ∷ []) (let e : a + 1 + n ≡ a + suc n = omega arith in e))

pub filter-range_more : (p : ℕ → Bool) (n : ℕ) → filter p (range_with_len 0 (n + 1)) ≡ filter p (range_with_len 0 n) ++ cond (p n) (n ∷ []) []
filter-range_more p n =
    ap (λ k. filter p (range_with_len 0 k)) (add-one n) ∙ ap (filter p) (range_more 0 n) ∙ filter-append p (range_with_len 0 n) ((0 + n) ∷ [])
    ∙ ap (λ k. filter p (range_with_len 0 n) ++ cond (p k) (k ∷ []) []) (zero-add n)

pub among_place : {A : Type 0} (xs : List A) (x : A) → Among x xs → (k : ℕ) × (k < length xs) × ((d : A) → get_or xs k d ≡ x)
among_place [] x h = elim h [ ]
among_place (y ∷ ys) x (inl is) = (0, omega arith, λ d. is)
among_place (y ∷ ys) x (inr later) = let r = among_place ys x later in (suc r.0, omega (arith, r.1), r.2)

pub all_among : {A : Type 0} (P : A → Type 0) (xs : List A) → All P xs → (x : A) → Among x xs → P x
all_among P xs all x at = let r = among_place xs x at in subst P (r.2 x) (all r.0 x r.1)

pub range_split : (a k m : ℕ) → range_with_len a (k + m) ≡ range_with_len a k ++ range_with_len (a + k) m
range_split a zero m = ap (λ n. range_with_len a n) (zero-add m) ∙ ap (λ b. range_with_len b m) (sym (add-zero a))
range_split a (suc k) m =
    ap (λ n. range_with_len a n) (let e : suc k + m ≡ suc (k + m) = omega arith in e)
    ∙ ap (λ xs. a ∷ xs) (range_split (a + 1) k m ∙ ap (λ b. range_with_len (a + 1) k ++ range_with_len b m) (let e : a + 1 + k ≡ a + suc k = omega arith in e))
