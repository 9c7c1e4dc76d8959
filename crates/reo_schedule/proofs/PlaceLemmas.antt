-- Lists of places: what holds of each, and what a reading has at them.
use Rattle.std.proofs.Common.{◌≡◌, ℕ, zero, suc, ◌+◌, ◌<◌, inl, inr, ⊎_elim, List, [], ◌∷◌, length, map, slice_get, get_or, Bool, true, false, cond, Option, Some, None, All, refl, sym, ap, ◌∙◌, subst, arith}
use Rattle.std.specs.Prelude.{nat_eq}
use Rattle.std.specs.List.{AllPairs}
use Rattle.std.specs.List.Sorted.{IsStrictlyIncreasing}
use Rattle.std.specs.Map.{lookup}
use Rattle.std.proofs.lemmas.List.{length-map, get_or-map}
use Rattle.std.proofs.lemmas.List.Kept.{AllPairs-from_increasing}
use Rattle.std.proofs.lemmas.Bool.{eq-eqb}
use Rattle.std.proofs.lemmas.Bool.Decides.{eqb_tells}
use Rattle.std.proofs.lemmas.Option.{same_Some}
use Rattle.std.proofs.lemmas.List.Elements.{All-cons, All-nil}
use Rattle.reo_growth.specs.Lists.{Among}
use Rattle.reo_fabric.specs.Entry.{at_place}
use Rattle.reo_fabric.specs.Reading.{places_of}
use Rattle.reo_fabric.proofs.PlaceLemmas.{at_first, at_later, at_mapped}
use Rattle.reo_flow.specs.Places.{placed, places_with}

-- what holds of each place at which the function gives a value
with_from : {A V : Type 0} (P : ℕ × V → Type 0) (f : ℕ → A → Option V) (first : ℕ) (xs : List A)
    → ((place i : ℕ) (x : A) (v : V) → place ≡ first + i → slice_get xs i ≡ Some x → f place x ≡ Some v → P (place, v)) → All P (places_with f first xs)
with_from P f first [] each = All-nil P
with_from {A} {V} P f first (x ∷ xs) each = go (f first x) refl (with_from P f (first + 1) xs (λ place i y v is found gives. each place (suc i) y v (omega (arith, is)) found gives))
  where
    go : (o : Option V) → f first x ≡ o → All P (places_with f (first + 1) xs) → All P (placed first o (places_with f (first + 1) xs))
    go None is later = later
    go (Some v) is later = All-cons P (first, v) (places_with f (first + 1) xs) (each first 0 x v (omega arith) refl is) later

pub with_all : {A V : Type 0} (P : ℕ × V → Type 0) (f : ℕ → A → Option V) (xs : List A)
    → ((place : ℕ) (x : A) (v : V) → slice_get xs place ≡ Some x → f place x ≡ Some v → P (place, v)) → All P (places_with f 0 xs)
with_all P f xs each = with_from P f 0 xs (λ place i x v is found gives. each place x v (let e : place ≡ i = omega (arith, is) in ap (slice_get xs) e ∙ found) gives)

-- a place that passes is listed
listed_from : {A : Type 0} (test : A → Bool) (first : ℕ) (xs : List A) (place i : ℕ) (x : A) → place ≡ first + i → slice_get xs i ≡ Some x → test x ≡ true → Among place (places_of test first xs)
listed_from test first [] place i x is found passes = cc
listed_from test first (y ∷ ys) place zero x is found passes =
    let e : test y ≡ true = ap test (same_Some y x found) ∙ passes in
    subst (λ b. Among place (cond b (first ∷ places_of test (first + 1) ys) (places_of test (first + 1) ys))) (sym e) (inl (omega (arith, is)))
listed_from test first (y ∷ ys) place (suc i) x is found passes = go (test y) (listed_from test (first + 1) ys place i x (omega (arith, is)) found passes)
  where
    go : (b : Bool) → Among place (places_of test (first + 1) ys) → Among place (cond b (first ∷ places_of test (first + 1) ys) (places_of test (first + 1) ys))
    go true later = inr later
    go false later = later

pub listed : {A : Type 0} (test : A → Bool) (xs : List A) (place : ℕ) (x : A) → slice_get xs place ≡ Some x → test x ≡ true → Among place (places_of test 0 xs)
listed test xs place x found passes = listed_from test 0 xs place place x (omega arith) found passes

-- what stands at a place of the list
pub at_listed : {A : Type 0} (f : ℕ → A) (xs : List ℕ) (place : ℕ) → Among place xs → at_place (map (λ x. (x, f x)) xs) place ≡ Some (f place)
at_listed f [] place at = absurd at
at_listed f (x ∷ xs) place (inl is) = at_first (x, f x) (map (λ y. (y, f y)) xs) place (eq-eqb place x (sym is)) ∙ ap (λ y. Some (f y)) is
at_listed f (x ∷ xs) place (inr later) =
    ⊎_elim
    (λ same. at_first (x, f x) (map (λ y. (y, f y)) xs) place (eq-eqb place x same.1) ∙ ap (λ y. Some (f y)) (sym same.1))
    (λ apart. at_later (x, f x) (map (λ y. (y, f y)) xs) place apart.0 ∙ at_listed f xs place later)
    (eqb_tells place x)

both : (ℕ → ℕ) → (ℕ → ℕ) → ℕ → ℕ × ℕ
both f g x = (f x, g x)

triple : (ℕ → ℕ) → (ℕ → ℕ) → ℕ → ℕ × ℕ × ℕ
triple f g x = (x, f x, g x)

split : ℕ × ℕ × ℕ → ℕ × (ℕ × ℕ)
split p = (p.0, (p.1, p.2))

paired : (f g : ℕ → ℕ) (xs : List ℕ) → map split (map (triple f g) xs) ≡ map (λ x. (x, both f g x)) xs
unfolding both triple split
paired f g [] = refl
paired f g (x ∷ xs) = ap (λ ps. (x, both f g x) ∷ ps) (paired f g xs)

pub words_listed : (f g : ℕ → ℕ) (xs : List ℕ) (place : ℕ) → Among place xs → at_place {A = ℕ × ℕ} (map (λ (p : ℕ × ℕ × ℕ). (p.0, (p.1, p.2))) (map {B = ℕ × ℕ × ℕ} (λ x. (x, f x, g x)) xs)) place ≡ Some (f place, g place)
unfolding both triple split
words_listed f g xs place at = ap (λ (ps : List (ℕ × (ℕ × ℕ))). at_place {A = ℕ × ℕ} ps place) (paired f g xs) ∙ at_listed (both f g) xs place at

-- each pair of a list whose names rise is found by its name
module _ {V : Type 0} where
  pair_found : (pairs : List (ℕ × V)) → AllPairs (λ x y. x < y) (map (λ (p : ℕ × V). p.0) pairs) → (k : ℕ) (d : ℕ × V) → k < length pairs → lookup (nat_eq (get_or pairs k d).0) pairs ≡ Some (get_or pairs k d).1
  pair_found [] rising k d below = absurd (omega (arith, below))
  pair_found (p ∷ pairs) rising zero d below = at_first p pairs p.0 (eq-eqb p.0 p.0 refl)
  pair_found (p ∷ pairs) rising (suc k) d below =
      let inside : k < length pairs = omega (arith, below) in
      let names : List ℕ = map (λ (q : ℕ × V). q.0) pairs in
      let more : p.0 < get_or names k 0 = rising zero (suc k) 0 (omega arith) (let len = length-map pairs (λ (q : ℕ × V). q.0) in omega arith) in
      let name : get_or names k 0 ≡ (get_or pairs k d).0 = get_or-map (λ (q : ℕ × V). q.0) pairs k d 0 inside in
      ⊎_elim
      (λ same. absurd (omega (arith, more, name, same.1)))
      (λ apart. at_later p pairs (get_or pairs k d).0 apart.0)
      (eqb_tells (get_or pairs k d).0 p.0)
      ∙ pair_found pairs (λ i j e less within. rising (suc i) (suc j) e (omega (arith, less)) (omega (arith, within))) k d inside

  pub each_pair : (P : V → Type 0) (pairs : List (ℕ × V)) → IsStrictlyIncreasing (map (λ p. p.0) pairs) → ((name : ℕ) (v : V) → lookup (nat_eq name) pairs ≡ Some v → P v) → All (λ p. P p.1) pairs
  each_pair P pairs rising each k d below =
      each (get_or pairs k d).0 (get_or pairs k d).1 (pair_found pairs (AllPairs-from_increasing (map (λ (p : ℕ × V). p.0) pairs) rising) k d below)

-- and the other way round: the words that stand at a place
pub words_at : (f g : ℕ → ℕ) (xs : List ℕ) (place : ℕ) (words : ℕ × ℕ) → at_place {A = ℕ × ℕ} (map (λ (p : ℕ × ℕ × ℕ). (p.0, (p.1, p.2))) (map {B = ℕ × ℕ × ℕ} (λ x. (x, f x, g x)) xs)) place ≡ Some words → (words.0 ≡ f place) × (words.1 ≡ g place)
unfolding both triple split
words_at f g xs place words at =
    let e = at_mapped (both f g) xs place words (ap (λ (ps : List (ℕ × (ℕ × ℕ))). at_place {A = ℕ × ℕ} ps place) (sym (paired f g xs)) ∙ at) in
    (ap (λ (w : ℕ × ℕ). w.0) e, ap (λ (w : ℕ × ℕ). w.1) e)
