-- Lists of names and of their places, as they grow.
use Rattle.std.proofs.Common.{◌≡◌, ℕ, zero, suc, ◌<◌, ◌≤◌, List, [], ◌∷◌, ◌++◌, length, get_or, slice_get, Some, inl, inr, Err, refl, ap, subst, arith}
use Rattle.std.specs.Ordering.{nat_cmp}
use Rattle.std.specs.List.Sorted.{IsStrictlyIncreasing, IsBinarySearchResult}
use Rattle.std.proofs.lemmas.Bool.{cases_order, cases_lt}
use Rattle.std.proofs.lemmas.List.Sorted.{searched}
use Rattle.std.proofs.lemmas.List.Kept.{AllPairs-from_increasing}
use Rattle.reo_product.specs.RegionWeb.{name_at}
use Rattle.reo_product.specs.Places.{ArePaired}

pub paired_push : {A B : Type 0} (R : A → B → Type 0) (xs : List A) (ys : List B) (x : A) (y : B) → ArePaired R xs ys → R x y → ArePaired R (xs ++ x ∷ []) (ys ++ y ∷ [])
paired_push R [] [] x y all one = (one, tt)
paired_push R [] (v ∷ vs) x y all one = absurd all
paired_push R (u ∷ us) [] x y all one = absurd all
paired_push R (u ∷ us) (v ∷ vs) x y all one = (all.0, paired_push R us vs x y all.1 one)

pub paired_at : {A B : Type 0} (R : A → B → Type 0) (xs : List A) (ys : List B) → ArePaired R xs ys → (i : ℕ) (x : A) (y : B) → slice_get xs i ≡ Some x → slice_get ys i ≡ Some y → R x y
paired_at R [] [] all i x y at_x at_y = absurd (cc)
paired_at R [] (v ∷ vs) all i x y at_x at_y = absurd all
paired_at R (u ∷ us) [] all i x y at_x at_y = absurd all
paired_at R (u ∷ us) (v ∷ vs) all zero x y at_x at_y = let e : u ≡ x = cc in let f : v ≡ y = cc in subst (λ z. R z y) e (subst (R u) f all.0)
paired_at R (u ∷ us) (v ∷ vs) all (suc i) x y at_x at_y = paired_at R us vs all.1 i x y at_x at_y

pub paired_length : {A B : Type 0} (R : A → B → Type 0) (xs : List A) (ys : List B) → ArePaired R xs ys → length ys ≡ length xs
paired_length R [] [] all = refl
paired_length R [] (v ∷ vs) all = absurd all
paired_length R (u ∷ us) [] all = absurd all
paired_length R (u ∷ us) (v ∷ vs) all = let h = paired_length R us vs all.1 in omega arith

pub not_down : (xs : List ℕ) → IsStrictlyIncreasing xs → (i j : ℕ) → i ≤ j → j < length xs → get_or xs i 0 ≤ get_or xs j 0
not_down xs rising i j before within = elim (cases_order i j) [
  | inl same ↦ (let e = ap (λ k. get_or xs k 0) same in omega arith)
  | inr other ↦ elim other [
    | inl less ↦ (let h = AllPairs-from_increasing xs rising i j 0 less within in omega arith)
    | inr more ↦ absurd (omega arith)
  ]
]

pub not_found : (xs : List ℕ) (x i : ℕ) → IsStrictlyIncreasing xs → IsBinarySearchResult (λ y. nat_cmp y x) xs (Err i) → (place : ℕ) → place < length xs → name_at xs place ≡ x → ⊥
not_found xs x i rising result place within is =
    let s = searched xs x (Err i) result (not_down xs rising) in
    elim (cases_lt place i) [
      | inl less ↦ (let h = s.1 place less in absurd (omega arith))
      | inr more ↦ (let h = s.2 place more within in absurd (omega arith))
    ]
