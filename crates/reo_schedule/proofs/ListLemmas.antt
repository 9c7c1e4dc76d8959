-- Two sorted lists with the same elements are one list.
use Rattle.std.proofs.Common.{◌≡◌, ℕ, inl, inr, ⊎_elim, List, [], ◌∷◌, refl, sym, ap, ◌∙◌, subst}
use Rattle.std.specs.Cmp.{IsTotalOrder}
use Rattle.std.specs.declared.cmp.Ordering.{Ordering}
use Rattle.std.specs.declared.cmp.Ordering.TheVariants.{Less, Greater}
use Rattle.std.specs.Ordering.{ordering_reverse, nat_cmp}
use Rattle.std.specs.List.{AllByRecursion}
use Rattle.std.specs.List.Sorted.{IsStrictlyIncreasing, IsStrictlySortedBy}
use Rattle.std.proofs.lemmas.Cmp.{nat_cmp_total}
use Rattle.std.proofs.lemmas.Map.Keys.{sorted_from_strictly_increasing}
use Rattle.reo_growth.specs.Lists.{has, Among}
use Rattle.reo_growth.proofs.ListLemmas.{has_among, among_has}

all_at : {A : Type 0} (P : A → Type 0) (xs : List A) → AllByRecursion P xs → (x : A) → Among x xs → P x
all_at P [] all x at = absurd at
all_at P (y ∷ ys) all x (inl is) = subst P is all.0
all_at P (y ∷ ys) all x (inr later) = all_at P ys all.1 x later

module _ {A : Type 0} (cmp : A → A → Ordering) (total : IsTotalOrder cmp) where
  never_both : (x y : A) → cmp x y ≡ Less → cmp y x ≡ Less → ⊥
  never_both x y less more = let clash : Less ≡ Greater = sym less ∙ total.antisymm x y ∙ ap ordering_reverse more in cc

  pub same_sorted : (xs ys : List A) → IsStrictlySortedBy cmp xs → IsStrictlySortedBy cmp ys → ((x : A) → Among x xs → Among x ys) → ((y : A) → Among y ys → Among y xs) → xs ≡ ys
  unfolding IsStrictlySortedBy
  same_sorted [] [] sorted_x sorted_y to from = refl
  same_sorted [] (y ∷ ys) sorted_x sorted_y to from = absurd (from y (inl refl))
  same_sorted (x ∷ xs) [] sorted_x sorted_y to from = absurd (to x (inl refl))
  same_sorted (x ∷ xs) (y ∷ ys) sorted_x sorted_y to from =
      ap (λ z. z ∷ xs) heads ∙ ap (λ zs. y ∷ zs) (same_sorted xs ys sorted_x.1 sorted_y.1
      (λ z at. later x z y ys heads (all_at (λ w. cmp x w ≡ Less) xs sorted_x.0 z at) (to z (inr at)))
      (λ z at. later y z x xs (sym heads) (all_at (λ w. cmp y w ≡ Less) ys sorted_y.0 z at) (from z (inr at))))
    where
      heads : x ≡ y
      heads =
          ⊎_elim
          (λ is. sym is)
          (λ x_later. ⊎_elim
          (λ is. is)
          (λ y_later. absurd (never_both x y (all_at (λ w. cmp x w ≡ Less) xs sorted_x.0 y y_later) (all_at (λ w. cmp y w ≡ Less) ys sorted_y.0 x x_later)))
          (from y (inl refl)))
          (to x (inl refl))

      later : (u z v : A) (vs : List A) → u ≡ v → cmp u z ≡ Less → Among z (v ∷ vs) → Among z vs
      later u z v vs same less (inl is) = let e : cmp z z ≡ Less = ap (λ w. cmp w z) (sym (same ∙ is)) ∙ less in absurd (never_both z z e e)
      later u z v vs same less (inr at) = at

-- rising lists that have the same numbers are one
pub same_rising : (xs ys : List ℕ) → IsStrictlyIncreasing xs → IsStrictlyIncreasing ys → ((n : ℕ) → has xs n ≡ has ys n) → xs ≡ ys
same_rising xs ys rises_x rises_y same =
    same_sorted nat_cmp nat_cmp_total xs ys (sorted_from_strictly_increasing xs rises_x) (sorted_from_strictly_increasing ys rises_y)
    (λ n at. has_among ys n (sym (same n) ∙ among_has xs n at))
    (λ n at. has_among xs n (same n ∙ among_has ys n at))
