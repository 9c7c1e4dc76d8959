-- What a function yields, by its cases.
use Rattle.std.proofs.Common.{◌≡◌, ℕ, ℤ, ◌↔◌, List, Option, Some, sym, ap, ◌∙◌, subst}
use Rattle.std.proofs.lemmas.Option.{same_Some}
use Rattle.reo_value.specs.declared.value.Value.{Value}
use Rattle.reo_guard.specs.declared.fun.Fun.{Fun}
use Rattle.reo_guard.specs.Yields.{Yields, IsIntegerInRange}

-- the function and the datum are these
pub at_case : (texts : List (List ℕ)) (fun case : Fun) (datum given value : Value) (answer : Option Value) → fun ≡ case → datum ≡ given
    → (answer ≡ Some value) ↔ Yields texts case given value → (answer ≡ Some value) ↔ Yields texts fun datum value
at_case texts fun case datum given value answer is_fun is_datum by =
    subst (λ f. (answer ≡ Some value) ↔ Yields texts f datum value) (sym is_fun) (subst (λ d. (answer ≡ Some value) ↔ Yields texts case d value) (sym is_datum) by)

-- the integer is this
pub at_integer : (calculated integer : ℤ) (value : Value) (answer : Option Value) → calculated ≡ integer
    → (answer ≡ Some value) ↔ IsIntegerInRange calculated value → (answer ≡ Some value) ↔ IsIntegerInRange integer value
at_integer calculated integer value answer same by = subst (λ z. (answer ≡ Some value) ↔ IsIntegerInRange z value) same by

-- the value is this
pub at_value : (given value known : Value) (answer : Option Value) → answer ≡ Some given → given ≡ known → (answer ≡ Some value) ↔ (value ≡ known)
at_value given value known answer is same = (λ e. sym (same_Some given value (sym is ∙ e)) ∙ same, λ e. is ∙ ap Some (same ∙ sym e))
