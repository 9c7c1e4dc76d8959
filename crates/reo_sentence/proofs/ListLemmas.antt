-- Lists without their first element.
use Rattle.std.proofs.Common.{◌≡◌, ◌≢◌, ◌-◌, List, [], ◌∷◌, length, All, slice_get, Some, take, drop, refl, sym, ap, subst, ◌∙◌, arith}
use Rattle.std.proofs.Math.Seq.{take-length}
use Rattle.std.proofs.lemmas.List.Elements.{All-head, All-tail}
use Rattle.std.proofs.lemmas.Option.{none-some, same_Some}

-- a list that is not empty has a first element, and others
pub cons_of : {A : Type 0} (xs : List A) → xs ≢ [] → (x : A) × (xs ≡ x ∷ take (length xs - 1) (drop 1 xs))
cons_of [] some = absurd (some refl)
cons_of (x ∷ xs) some =
    let less : length (x ∷ xs) - 1 ≡ length xs = omega arith in
    (x, ap (λ ys. x ∷ ys) (sym (ap (λ n. take n xs) less ∙ take-length xs)))

pub All-others : {A : Type 0} (P : A → Type 0) (xs : List A) → xs ≢ [] → All P xs → All P (take (length xs - 1) (drop 1 xs))
All-others P xs some all =
    let cons = cons_of xs some in
    All-tail P cons.0 (take (length xs - 1) (drop 1 xs)) (subst (All P) cons.1 all)

pub All-first : {A : Type 0} (P : A → Type 0) (xs : List A) (x : A) → All P xs → Some x ≡ slice_get xs 0 → P x
All-first P [] x all is = absurd (none-some x (sym is))
All-first P (y ∷ xs) x all is = subst P (same_Some y x (sym is)) (All-head P y xs all)
