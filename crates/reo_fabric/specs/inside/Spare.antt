-- Places, and how many there is room for.
use Rattle.std.specs.Prelude.{ℕ, List}
use Rattle.reo_value.specs.declared.value.Value.{Value}

pub record SpareState : Type 0 where
  pub places : List (ℕ × Value)
  pub most : ℕ
