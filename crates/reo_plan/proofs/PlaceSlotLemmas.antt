-- Places with slots, one after the other, and the values at them.
use Rattle.std.proofs.Common.{◌≡◌, ℕ, zero, suc, ◌+◌, List, [], ◌∷◌, ◌++◌, take, slice_get, Option, Some, None, refl, ap, ◌∙◌, arith}
use Rattle.std.specs.List.{cons_option}
use Rattle.std.specs.Option.{option_map, option_and_then}
use Rattle.std.proofs.lemmas.Option.{same_Some}
use Rattle.reo_value.specs.declared.value.Value.{Value}
use Rattle.reo_flow.specs.Places.{placed, places_with}
use Rattle.reo_plan.specs.inside.Rows.{slot_in, values_at, named_slots, named_data}

pub take_more : {A : Type 0} (xs : List A) (i : ℕ) (x : A) → slice_get xs i ≡ Some x → take (i + 1) xs ≡ take i xs ++ x ∷ []
take_more [] i x found = cc
take_more (y ∷ ys) zero x found = ap (λ z. z ∷ []) (same_Some y x found)
take_more (y ∷ ys) (suc i) x found = let e : suc i + 1 ≡ suc (i + 1) = omega arith in ap (λ n. take n (y ∷ ys)) e ∙ ap (λ l. y ∷ l) (take_more ys i x found)

-- the values at places with slots are those that the slots have
pub values_with : {A : Type 0} (value : ℕ → Option Value) (f : ℕ → A → Option ℕ) (g : ℕ → A → Option Value) → ((i : ℕ) (x : A) → option_and_then value (f i x) ≡ g i x) → (first : ℕ) (xs : List A)
    → values_at value (places_with f first xs) ≡ places_with g first xs
values_with value f g same first [] = refl
values_with value f g same first (x ∷ xs) = go (f first x) (same first x) (values_with value f g same (first + 1) xs)
  where
    go : (o : Option ℕ) → option_and_then value o ≡ g first x → values_at value (places_with f (first + 1) xs) ≡ places_with g (first + 1) xs
        → values_at value (placed first o (places_with f (first + 1) xs)) ≡ placed first (g first x) (places_with g (first + 1) xs)
    go None is later = later ∙ ap (λ o. placed first o (places_with g (first + 1) xs)) is
    go (Some slot) is later =
        ap (λ o. cons_option (option_map (λ v. (first, v)) o) (values_at value (places_with f (first + 1) xs))) is ∙ put (g first x) ∙ ap (placed first (g first x)) later
      where
        put : (o : Option Value) → cons_option (option_map (λ v. (first, v)) o) (values_at value (places_with f (first + 1) xs)) ≡ placed first o (values_at value (places_with f (first + 1) xs))
        put None = refl
        put (Some v) = refl

-- the values of names with slots are those that the slots have
pub named_with : (value : ℕ → Option Value) (table : List (Option ℕ)) (data_at : ℕ → Option Value) → ((name : ℕ) → option_and_then value (slot_in table name) ≡ data_at name) → (names : List ℕ)
    → values_at value (named_slots table names) ≡ named_data data_at names
named_with value table data_at same [] = refl
named_with value table data_at same (name ∷ names) = go (slot_in table name) (same name) (named_with value table data_at same names)
  where
    go : (o : Option ℕ) → option_and_then value o ≡ data_at name → values_at value (named_slots table names) ≡ named_data data_at names
        → values_at value (cons_option (option_map (λ slot. (name, slot)) o) (named_slots table names)) ≡ cons_option (option_map (λ v. (name, v)) (data_at name)) (named_data data_at names)
    go None is later = later ∙ ap (λ o. cons_option (option_map (λ v. (name, v)) o) (named_data data_at names)) is
    go (Some slot) is later =
        ap (λ o. cons_option (option_map (λ v. (name, v)) o) (values_at value (named_slots table names))) is ∙ ap (cons_option (option_map (λ v. (name, v)) (data_at name))) later
