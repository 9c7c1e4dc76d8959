-- Writes at the places of a list, one after the other, as the code makes them.
use Rattle.std.specs.Prelude.{ℕ, ◌<◌, List, [], ◌∷◌, slice_set, All}
use Rattle.reo_value.specs.declared.value.Value.{Value}
use Rattle.reo_fabric.specs.declared.entry.Entry.{Entry}
use Rattle.reo_fabric.specs.Entry.{RisesFrom}

-- the list with what a function makes of each place's value at that place
abbrev pub written : {X : Type 0} → (Value → X) → List (ℕ × Value) → List X → List X
written make [] xs = xs
written make (p ∷ places) xs = written make places (slice_set xs p.0 (make p.1))

-- the entry's places rise, and there are such cells and ports
pub record IsWithin (cells ports : ℕ) (entry : Entry) : Type 0 where
  pub takes : All (λ p. p.0 < cells) entry.takes
  pub fills : All (λ p. p.0 < cells) entry.fills
  pub puts : All (λ p. p.0 < ports) entry.puts
  pub gets : All (λ p. p.0 < ports) entry.gets
  pub takes_rise : RisesFrom 0 entry.takes
  pub fills_rise : RisesFrom 0 entry.fills
  pub puts_rise : RisesFrom 0 entry.puts
  pub gets_rise : RisesFrom 0 entry.gets
