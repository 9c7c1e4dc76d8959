-- Which regions of an engine fire.
use Rattle.std.specs.Prelude.{◌≡◌, ℕ, ◌<◌, ◌≤◌, List, [], ◌∷◌, ◌++◌, Option, None}
use Rattle.reo_net.specs.declared.circuit.Step.{Step}
use Rattle.reo_fabric.specs.declared.entry.Entry.{Entry}
use Rattle.reo_fabric.specs.declared.reading.Reading.{Reading}
use Rattle.reo_fabric.specs.Engine.{EngineState, engine_reading, Fires}

-- no region from one number up to another has a choice
abbrev pub AreQuiet : {D : Type 0} → (ℕ → Reading → Option ℕ) → EngineState D → ℕ → ℕ → Type 0
AreQuiet first_choice engine from to = (region : ℕ) → from ≤ region → region < to
    → first_choice region (engine_reading engine region) ≡ None

-- the region fires, and none from one number up to it has a choice
pub record FiresFirst {D : Type 0} (Allows : ℕ → Reading → Entry → Type 0) (first_choice : ℕ → Reading → Option ℕ)
    (old new : EngineState D) (from region : ℕ) : Type 0 where
  pub after : from ≤ region
  pub number : ℕ
  pub fires : Fires Allows first_choice region old new number
  pub earlier : AreQuiet first_choice old from region

-- one more step is kept, whatever was kept from a start on, and it is such a step
pub record KeepsOne {R : Type 0} (has_kept has_kept_after : R → List Step → Type 0) (IsSuch : Step → Type 0) : Type 0 where
  pub step : Step
  pub is_such : IsSuch step
  pub keeps : (start : R) (steps : List Step) → has_kept start steps → has_kept_after start (steps ++ step ∷ [])
