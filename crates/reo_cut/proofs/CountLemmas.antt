-- how many numbers pass a test, and where one that does stands among them
use Rattle.std.proofs.Common.{◌≡◌, ℕ, zero, suc, ◌+◌, ◌<◌, ◌≤◌, ⊎_elim, Bool, true, false, cond, List, [], ◌∷◌, ◌++◌, length, map, filter, slice_get, Some, refl, sym, ap, ◌∙◌, subst, arith, add-one, zero-add, length-append}
use Rattle.std.specs.List.{range_with_len}
use Rattle.std.proofs.lemmas.Bool.{cases_eq}
use Rattle.std.proofs.lemmas.List.{append-nil}
use Rattle.std.proofs.lemmas.List.Elements.{filter-append}
use Rattle.std.proofs.lemmas.List.FromFn.{map-range_with_len_more}
use Rattle.reo_graph.specs.Closure.{count_below}
use Rattle.reo_cut.proofs.LabelLemmas.{range_more}

pub count_none : (p : ℕ → Bool) → count_below p 0 ≡ 0
unfolding count_below
count_none p = refl

pub count_more : (p : ℕ → Bool) (n : ℕ) → count_below p (n + 1) ≡ cond (p n) 1 0 + count_below p n
unfolding count_below
count_more p n = ap (count_below p) (add-one n)

pub count_hit : (p : ℕ → Bool) (n : ℕ) → p n ≡ true → count_below p (n + 1) ≡ count_below p n + 1
count_hit p n e = let at : count_below p (n + 1) ≡ cond true 1 0 + count_below p n = count_more p n ∙ ap (λ b. cond b 1 0 + count_below p n) e in omega (arith, at)

pub count_miss : (p : ℕ → Bool) (n : ℕ) → p n ≡ false → count_below p (n + 1) ≡ count_below p n
count_miss p n e = let at : count_below p (n + 1) ≡ cond false 1 0 + count_below p n = count_more p n ∙ ap (λ b. cond b 1 0 + count_below p n) e in omega (arith, at)

pub count_within : (p : ℕ → Bool) (n : ℕ) → count_below p n ≤ n
count_within p zero = omega (arith, count_none p)
count_within p (suc n) = go (p n) refl (count_within p n)
  where
    go : (b : Bool) → p n ≡ b → count_below p n ≤ n → count_below p (suc n) ≤ suc n
    go true e more = let at = sym (ap (count_below p) (add-one n)) ∙ count_hit p n e in omega (arith, at, more)
    go false e more = let at = sym (ap (count_below p) (add-one n)) ∙ count_miss p n e in omega (arith, at, more)

pub map_range_more : {X : Type 0} (f : ℕ → X) (n : ℕ) → map f (range_with_len 0 (n + 1)) ≡ map f (range_with_len 0 n) ++ f n ∷ []
map_range_more f n = map-range_with_len_more f 0 n n (zero-add n)

module _ (p : ℕ → Bool) where
  pub one_more : (n : ℕ) → filter p (range_with_len 0 (n + 1)) ≡ filter p (range_with_len 0 n) ++ cond (p n) (n ∷ []) []
  one_more n = ap (filter p) (range_more n) ∙ filter-append p (range_with_len 0 n) (n ∷ [])

  pub length_passing : (n : ℕ) → length (filter p (range_with_len 0 n)) ≡ count_below p n
  length_passing zero = sym (count_none p)
  length_passing (suc n) = go (p n) refl (length_passing n)
    where
      go : (b : Bool) → p n ≡ b → length (filter p (range_with_len 0 n)) ≡ count_below p n → length (filter p (range_with_len 0 (suc n))) ≡ count_below p (suc n)
      go true e more =
          subst (λ m. length (filter p (range_with_len 0 m)) ≡ count_below p m) (add-one n)
          (ap length (one_more n ∙ ap (λ b. filter p (range_with_len 0 n) ++ cond b (n ∷ []) []) e) ∙ (length-append (filter p (range_with_len 0 n)) (n ∷ []) ∙ (ap (λ k. k + 1) more ∙ sym (count_hit p n e))))
      go false e more =
          subst (λ m. length (filter p (range_with_len 0 m)) ≡ count_below p m) (add-one n)
          (ap length (one_more n ∙ (ap (λ b. filter p (range_with_len 0 n) ++ cond b (n ∷ []) []) e ∙ append-nil (filter p (range_with_len 0 n)))) ∙ (more ∙ sym (count_miss p n e)))

  keep_place : (xs ys : List ℕ) (i x : ℕ) → slice_get xs i ≡ Some x → slice_get (xs ++ ys) i ≡ Some x
  keep_place [] ys i x e = cc
  keep_place (y ∷ xs) ys zero x e = e
  keep_place (y ∷ xs) ys (suc i) x e = keep_place xs ys i x e

  at_end : (xs : List ℕ) (x : ℕ) → slice_get (xs ++ x ∷ []) (length xs) ≡ Some x
  at_end [] x = refl
  at_end (y ∷ xs) x = at_end xs x

  -- one that passes stands behind those below it that pass
  pub place_of : (n x : ℕ) → x < n → p x ≡ true → slice_get (filter p (range_with_len 0 n)) (count_below p x) ≡ Some x
  place_of zero x h is = absurd (omega (arith, h))
  place_of (suc n) x h is =
      subst (λ m. slice_get (filter p (range_with_len 0 m)) (count_below p x) ≡ Some x) (add-one n)
      (subst (λ l. slice_get l (count_below p x) ≡ Some x) (sym (one_more n))
      (⊎_elim
      (λ (same : x ≡ n).
      subst (λ b. slice_get (filter p (range_with_len 0 n) ++ cond b (n ∷ []) []) (count_below p x) ≡ Some x) (sym (ap p (sym same) ∙ is))
      (subst (λ i. slice_get (filter p (range_with_len 0 n) ++ n ∷ []) i ≡ Some x) (length_passing n ∙ ap (count_below p) (sym same)) (at_end (filter p (range_with_len 0 n)) n ∙ ap Some (sym same))))
      (λ (apart : x ≡ n → ⊥). keep_place (filter p (range_with_len 0 n)) (cond (p n) (n ∷ []) []) (count_below p x) x (place_of n x (omega (arith, h, apart)) is))
      (cases_eq x n)))
