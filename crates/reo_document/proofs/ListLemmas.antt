-- What stands at an index of a list that grows or changes at one place.
use Prim.Native.Nat.{zero}
use Rattle.std.proofs.Common.{◌≡◌, ℕ, suc, ◌<◌, Bool, true, false, List, [], ◌∷◌, ◌++◌, length, set, take, Some, slice_get, refl, ap, ◌∙◌, arith, ◌⊎◌, inl, inr, ◌||◌}
use Rattle.std.specs.List.{list_any}
use Rattle.std.proofs.lemmas.Option.{none-some, same_Some}

pub slice_get-append : {X : Type 0} (xs ys : List X) (i : ℕ) (x : X) → slice_get xs i ≡ Some x → slice_get (xs ++ ys) i ≡ Some x
slice_get-append [] ys i x at = absurd (none-some x at)
slice_get-append (y ∷ xs) ys zero x at = at
slice_get-append (y ∷ xs) ys (suc i) x at = slice_get-append xs ys i x at

pub slice_get-push : {X : Type 0} (xs : List X) (last : X) (i : ℕ) (x : X) → slice_get (xs ++ last ∷ []) i ≡ Some x → (slice_get xs i ≡ Some x) ⊎ ((i ≡ length xs) × (last ≡ x))
slice_get-push [] last zero x at = inr (refl, same_Some _ _ at)
slice_get-push [] last (suc i) x at = absurd (none-some x at)
slice_get-push (y ∷ xs) last zero x at = inl at
slice_get-push (y ∷ xs) last (suc i) x at =
    elim (slice_get-push xs last i x at) [ inl before ↦ inl before | inr end ↦ inr (omega arith, end.1) ]

pub slice_get-set_same : {X : Type 0} (xs : List X) (i : ℕ) (a : X) → i < length xs → slice_get (set xs i a) i ≡ Some a
slice_get-set_same [] i a within = absurd (omega arith)
slice_get-set_same (x ∷ xs) zero a within = refl
slice_get-set_same (x ∷ xs) (suc i) a within = slice_get-set_same xs i a (omega arith)

pub slice_get-set_other : {X : Type 0} (xs : List X) (i j : ℕ) (a : X) → (j ≡ i → ⊥) → slice_get (set xs i a) j ≡ slice_get xs j
slice_get-set_other [] i j a other = refl
slice_get-set_other (x ∷ xs) zero zero a other = absurd (other refl)
slice_get-set_other (x ∷ xs) zero (suc j) a other = refl
slice_get-set_other (x ∷ xs) (suc i) zero a other = refl
slice_get-set_other (x ∷ xs) (suc i) (suc j) a other = slice_get-set_other xs i j a (λ same. other (ap suc same))

pub slice_get-take : {X : Type 0} (xs : List X) (n i : ℕ) (x : X) → i < n → slice_get xs i ≡ Some x → slice_get (take n xs) i ≡ Some x
slice_get-take [] n i x below at = absurd (none-some x at)
slice_get-take (y ∷ xs) zero i x below at = absurd (omega arith)
slice_get-take (y ∷ xs) (suc n) zero x below at = at
slice_get-take (y ∷ xs) (suc n) (suc i) x below at = slice_get-take xs n i x (omega arith) at

-- an element that passes a test
pub list_any-slice_get : {X : Type 0} (p : X → Bool) (xs : List X) (i : ℕ) (x : X) → slice_get xs i ≡ Some x → p x ≡ true → list_any p xs ≡ true
list_any-slice_get p [] i x at passes = absurd (none-some x at)
list_any-slice_get p (y ∷ xs) zero x at passes = ap (λ b. b || list_any p xs) (ap p (same_Some _ _ at) ∙ passes)
list_any-slice_get p (y ∷ xs) (suc i) x at passes = by (p y) (list_any-slice_get p xs i x at passes)
  where
    by : (b : Bool) → list_any p xs ≡ true → (b || list_any p xs) ≡ true
    by true later = refl
    by false later = later
