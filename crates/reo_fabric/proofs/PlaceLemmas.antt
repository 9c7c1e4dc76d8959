-- Lists of places that rise.
use Rattle.std.proofs.Common.{◌≡◌, ℕ, zero, suc, ◌+◌, ◌<◌, ◌≤◌, ⊎_elim, Bool, true, false, cond, List, [], ◌∷◌, length, map, slice_get, nat_eq, count_by, All, Some, None, refl, sym, ap, ◌∙◌, subst, arith}
use Rattle.std.proofs.lemmas.Bool.{cases_eq}
use Rattle.std.proofs.lemmas.List.Sums.{sum_by-cons}
use Rattle.std.proofs.lemmas.Bool.Decides.{eqb_tells}
use Rattle.std.proofs.lemmas.Option.{same_Some}
use Rattle.reo_fabric.specs.Entry.{at_place, RisesFrom}

-- where the places rise from above, they do from below
pub rises_from_below : {A : Type 0} (places : List (ℕ × A)) (low high : ℕ) → low ≤ high → RisesFrom high places → RisesFrom low places
rises_from_below [] low high le rise = tt
rises_from_below (p ∷ places) low high le rise = (omega (arith, rise.0), rise.1)

-- what holds of all elements holds of the first, and of all others
pub head_all : {A : Type 0} (P : A → Type 0) (x : A) (xs : List A) → All P (x ∷ xs) → P x
head_all P x xs all = all 0 x (omega arith)

pub tail_all : {A : Type 0} (P : A → Type 0) (x : A) (xs : List A) → All P (x ∷ xs) → All P xs
tail_all P x xs all = λ k d within. all (suc k) d (omega arith)

pub at_first : {A : Type 0} (p : ℕ × A) (places : List (ℕ × A)) (c : ℕ) → nat_eq c p.0 ≡ true → at_place (p ∷ places) c ≡ Some p.1
at_first p places c is = ap (λ b. cond b (Some p.1) (at_place places c)) is

pub at_later : {A : Type 0} (p : ℕ × A) (places : List (ℕ × A)) (c : ℕ) → nat_eq c p.0 ≡ false → at_place (p ∷ places) c ≡ at_place places c
at_later p places c is = ap (λ b. cond b (Some p.1) (at_place places c)) is

-- what is at a place stands in the list
pub at_place_holds : {A : Type 0} (P : ℕ × A → Type 0) (places : List (ℕ × A)) (c : ℕ) (v : A) → All P places → at_place places c ≡ Some v → P (c, v)
at_place_holds P [] c v all at = cc
at_place_holds P (p ∷ places) c v all at =
    ⊎_elim
    (λ is.
    let same : p.1 ≡ v = same_Some p.1 v (sym (at_first p places c is.0) ∙ at) in
    subst (λ d. P (d, v)) (sym is.1) (subst (λ w. P (p.0, w)) same (head_all P p places all)))
    (λ not. at_place_holds P places c v (tail_all P p places all) (sym (at_later p places c not.0) ∙ at))
    (eqb_tells c p.0)

-- nothing is at a place below all
pub none_below : {A : Type 0} (places : List (ℕ × A)) (low c : ℕ) → RisesFrom low places → c < low → at_place places c ≡ None
none_below [] low c rise below = refl
none_below (p ∷ places) low c rise below =
    ⊎_elim
    (λ is. absurd (omega (arith, is.1, rise.0)))
    (λ not. at_later p places c not.0 ∙ none_below places (p.0 + 1) c rise.1 (omega (arith, rise.0)))
    (eqb_tells c p.0)

-- the word for a place, where each has the word that a function gives
pub at_mapped : {A : Type 0} (f : ℕ → A) (xs : List ℕ) (c : ℕ) (w : A) → at_place (map (λ x. (x, f x)) xs) c ≡ Some w → w ≡ f c
at_mapped f [] c w at = cc
at_mapped f (x ∷ xs) c w at =
    ⊎_elim
    (λ is. sym (same_Some (f x) w (sym (at_first (x, f x) (map (λ x. (x, f x)) xs) c is.0) ∙ at)) ∙ ap f (sym is.1))
    (λ not. at_mapped f xs c w (sym (at_later (x, f x) (map (λ x. (x, f x)) xs) c not.0) ∙ at))
    (eqb_tells c x)

-- the place is that of an element that passes the test, where the first element has the place n
pub record Passes {A : Type 0} (test : A → Bool) (items : List A) (n place : ℕ) : Type 0 where
  pub within : ℕ
  pub item : A
  pub is_at : place ≡ n + within
  pub found : slice_get items within ≡ Some item
  pub passes : test item ≡ true

EachPasses : {A V : Type 0} → (A → Bool) → List A → ℕ → List (ℕ × V) → Type 0
EachPasses test items n [] = Unit {0}
EachPasses test items n (p ∷ places) = Passes test items n p.0 × EachPasses test items n places

each_passes : {A V : Type 0} (P : ℕ × V → Type 0) (test : A → Bool) (items : List A) (places : List (ℕ × V)) → ((p : ℕ × V) → P p → Passes test items 0 p.0) → All P places → EachPasses test items 0 places
unfolding EachPasses
each_passes P test items [] pass all = tt
each_passes P test items (p ∷ places) pass all = (pass p (head_all P p places all), each_passes P test items places pass (tail_all P p places all))

module _ {A : Type 0} (test : A → Bool) (item : A) (items : List A) where
  shift_at : (n place within : ℕ) (x : A) → place ≡ n + within → slice_get (item ∷ items) within ≡ Some x → test x ≡ true → n < place → Passes test items (n + 1) place
  shift_at n place zero x is found passes above = absurd (omega arith)
  shift_at n place (suc within) x is found passes above = record { within = within; item = x; is_at = omega arith; found = found; passes = passes }

  first_passes : (n within : ℕ) (x : A) → n ≡ n + within → slice_get (item ∷ items) within ≡ Some x → test x ≡ true → test item ≡ true
  first_passes n zero x is found passes = ap test (same_Some item x found) ∙ passes
  first_passes n (suc within) x is found passes = absurd (omega arith)

  shifted : {V : Type 0} (n : ℕ) (places : List (ℕ × V)) → RisesFrom (n + 1) places → EachPasses test (item ∷ items) n places → EachPasses test items (n + 1) places
  unfolding EachPasses
  shifted n [] rise each = tt
  shifted n (p ∷ places) rise each = (
    shift_at n p.0 each.0.within each.0.item each.0.is_at each.0.found each.0.passes (omega (arith, rise.0)),
    shifted n places (rises_from_below places (n + 1) (p.0 + 1) (omega (arith, rise.0)) rise.1) each.1,
  )

none_there : {A : Type 0} (i : ℕ) (x : A) → slice_get [] i ≡ Some x → ⊥
none_there zero x found = cc
none_there (suc i) x found = cc

count_passing : {A : Type 0} (test : A → Bool) (item : A) (items : List A) → test item ≡ true → count_by test (item ∷ items) ≡ 1 + count_by test items
count_passing test item items pass = sum_by-cons (λ x. cond (test x) 1 0) item items ∙ ap (λ b. cond b 1 0 + count_by test items) pass

count_more : {A : Type 0} (test : A → Bool) (item : A) (items : List A) → count_by test items ≤ count_by test (item ∷ items)
count_more test item items = omega (arith, sum_by-cons (λ x. cond (test x) 1 0) item items)

-- rising places of elements that pass are no more than these elements
few_pass : {A V : Type 0} (test : A → Bool) (items : List A) (n : ℕ) (places : List (ℕ × V)) → RisesFrom n places → EachPasses test items n places → length places ≤ count_by test items
unfolding EachPasses
few_pass test [] n [] rise each = omega arith
few_pass test [] n (p ∷ places) rise each = absurd (none_there each.0.within each.0.item each.0.found)
few_pass test (item ∷ items) n [] rise each = omega arith
few_pass test (item ∷ items) n (p ∷ places) rise each =
    ⊎_elim
    (λ is.
    let pass : test item ≡ true = first_passes test item items n each.0.within each.0.item (sym is ∙ each.0.is_at) each.0.found each.0.passes in
    let high : RisesFrom (n + 1) places = rises_from_below places (n + 1) (p.0 + 1) (omega arith) rise.1 in
    omega (arith, count_passing test item items pass, few_pass test items (n + 1) places high (shifted test item items n places high each.1)))
    (λ ne.
    let high : RisesFrom (n + 1) (p ∷ places) = (omega (arith, rise.0), rise.1) in
    omega (arith, count_more test item items, few_pass test items (n + 1) (p ∷ places) high (shifted test item items n (p ∷ places) high each)))
    (cases_eq p.0 n)

-- places of which each is of an element that passes are no more than these elements
pub few_places : {A V : Type 0} (P : ℕ × V → Type 0) (test : A → Bool) (items : List A) (places : List (ℕ × V)) → ((p : ℕ × V) → P p → Passes test items 0 p.0) → RisesFrom 0 places → All P places → length places ≤ count_by test items
few_places P test items places pass rise all = few_pass test items 0 places rise (each_passes P test items places pass all)
