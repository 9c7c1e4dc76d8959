-- Words on lists.
use Rattle.std.specs.Prelude.{◌≡◌, ℕ, nat_eq, ◌⊎◌, List, [], ◌∷◌, Bool}
use Rattle.std.specs.List.{list_any}

-- whether the number is in the list
abbrev pub has : List ℕ → ℕ → Bool
has xs n = list_any (λ x. nat_eq x n) xs

-- the element is in the list
abbrev pub Among : {A : Type 0} → A → List A → Type 0
Among x [] = ⊥
Among x (y ∷ ys) = (y ≡ x) ⊎ Among x ys

-- at most one place of the list has the property
abbrev pub AtMostOne : {A : Type 0} → (A → Type 0) → List A → Type 0
AtMostOne P [] = Unit {0}
AtMostOne {A} P (x ∷ xs) = (P x → (y : A) → Among y xs → P y → ⊥) × AtMostOne P xs
