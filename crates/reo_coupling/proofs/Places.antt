-- Lists of seats: one changes, or one is added.
use Rattle.std.proofs.Common.{◌≡◌, ℕ, zero, suc, ◌<◌, ◌⊎◌, inl, inr, ⊎_elim, List, [], ◌∷◌, ◌++◌, length, set, slice_get, Option, Some, None, refl, ap, arith}
use Rattle.std.proofs.lemmas.Option.{same_Some}

module _ {A : Type 0} where
  no_some : (y : A) → ◌≡◌ {A = Option A} None (Some y) → ⊥
  no_some y is = cc

  pub get_set : (xs : List A) (i j : ℕ) (x y : A) → slice_get (set xs i x) j ≡ Some y → ((j ≡ i) × (x ≡ y)) ⊎ ((j ≡ i → ⊥) × (slice_get xs j ≡ Some y))
  get_set [] i j x y found = absurd (no_some y found)
  get_set (z ∷ xs) zero zero x y found = inl (refl, same_Some x y found)
  get_set (z ∷ xs) zero (suc j) x y found = inr ((λ is. omega arith), found)
  get_set (z ∷ xs) (suc i) zero x y found = inr ((λ is. omega arith), found)
  get_set (z ∷ xs) (suc i) (suc j) x y found = ⊎_elim (λ here. inl (ap suc here.0, here.1)) (λ other. let ne = other.0 in inr ((λ is. ne (omega arith)), other.1)) (get_set xs i j x y found)

  pub set_here : (xs : List A) (i : ℕ) (x : A) → i < length xs → slice_get (set xs i x) i ≡ Some x
  set_here [] i x within = absurd (omega arith)
  set_here (z ∷ xs) zero x within = refl
  set_here (z ∷ xs) (suc i) x within = set_here xs i x (omega arith)

  pub set_else : (xs : List A) (i j : ℕ) (x : A) → (j ≡ i → ⊥) → slice_get (set xs i x) j ≡ slice_get xs j
  set_else [] i j x ne = refl
  set_else (z ∷ xs) zero zero x ne = absurd (ne refl)
  set_else (z ∷ xs) zero (suc j) x ne = refl
  set_else (z ∷ xs) (suc i) zero x ne = refl
  set_else (z ∷ xs) (suc i) (suc j) x ne = set_else xs i j x (λ is. ne (ap suc is))

  pub get_longer : (xs ys : List A) (i : ℕ) (x : A) → slice_get xs i ≡ Some x → slice_get (xs ++ ys) i ≡ Some x
  get_longer [] ys i x found = absurd (no_some _ found)
  get_longer (z ∷ xs) ys zero x found = found
  get_longer (z ∷ xs) ys (suc i) x found = get_longer xs ys i x found

  pub get_last : (xs : List A) (x : A) → slice_get (xs ++ x ∷ []) (length xs) ≡ Some x
  get_last [] x = refl
  get_last (z ∷ xs) x = get_last xs x

  pub get_more : (xs : List A) (x y : A) (i : ℕ) → slice_get (xs ++ x ∷ []) i ≡ Some y → (slice_get xs i ≡ Some y) ⊎ ((i ≡ length xs) × (x ≡ y))
  get_more [] x y zero found = inr (refl, same_Some x y found)
  get_more [] x y (suc i) found = absurd (no_some _ found)
  get_more (z ∷ xs) x y zero found = inl found
  get_more (z ∷ xs) x y (suc i) found = ⊎_elim (λ there. inl there) (λ last. inr (ap suc last.0, last.1)) (get_more xs x y i found)
