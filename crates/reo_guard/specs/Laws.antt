-- What the guards made of guards mean.
use Rattle.std.specs.Prelude.{ℕ, ◌↔◌, ◌⊎◌, List}
use Rattle.reo_value.specs.declared.value.Value.{Value}
use Rattle.reo_guard.specs.declared.guard.Guard.{Guard}
use Rattle.reo_guard.specs.declared.guard.Guard.TheVariants.{And, Or, Not}
use Rattle.reo_guard.specs.Holds.{Holds}

abbrev pub AndIsBoth : Type 0
AndIsBoth =
    (texts : List (List ℕ)) (left right : Guard) (datum : Value) → Holds texts (And left right) datum ↔ (Holds texts left datum × Holds texts right datum)

abbrev pub OrIsEither : Type 0
OrIsEither =
    (texts : List (List ℕ)) (left right : Guard) (datum : Value) → Holds texts (Or left right) datum ↔ (Holds texts left datum ⊎ Holds texts right datum)

abbrev pub NotIsNone : Type 0
NotIsNone = (texts : List (List ℕ)) (inner : Guard) (datum : Value) → Holds texts (Not inner) datum ↔ (Holds texts inner datum → ⊥)
