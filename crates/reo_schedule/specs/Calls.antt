-- Which operations the steps of a run answer.
use Rattle.std.specs.Prelude.{◌≡◌, ℕ, ◌+◌, List, [], ◌∷◌, ◌++◌, length, map, slice_get, Option, Some, None}
use Rattle.std.specs.Option.{option_map, option_to_list}
use Rattle.reo_value.specs.declared.op.Op.{Op}
use Rattle.reo_value.specs.Op.{port_of}
use Rattle.reo_net.specs.declared.circuit.Step.{Step}
use Rattle.reo_net.specs.Steps.{datum}
use Rattle.reo_trace.specs.declared.report.Called.{Called}

-- the operation is the first of component k that was not answered
pub record IsNextOf (scripts : List (List Op)) (calls : List (List Called)) (k : ℕ) (op : Op) : Type 0 where
  pub script : List Op
  pub own : List Called
  pub of_script : slice_get scripts k ≡ Some script
  pub of_calls : slice_get calls k ≡ Some own
  pub next : slice_get script (length own) ≡ Some op

-- an operation is answered in a step of this number where its port fires, with the datum there
abbrev pub answer_to : Step → ℕ → Op → Option Called
answer_to step number op = option_map (λ value. record { op = op; value = value; number = number }) (datum step (port_of op))

-- a component's next operation is answered, where it has one and its port fires
abbrev pub answer_next : Step → ℕ → Option Op → List Called
answer_next step number None = []
answer_next step number (Some op) = option_to_list (answer_to step number op)

-- the calls of all components after a step of this number
abbrev pub calls_with : List (List Op) → Step → ℕ → List (List Called) → List (List Called)
calls_with [] step number calls = []
calls_with (script ∷ scripts) step number [] = []
calls_with (script ∷ scripts) step number (own ∷ calls) = (own ++ answer_next step number (slice_get script (length own))) ∷ calls_with scripts step number calls

-- the calls after steps, of which the first has this number
abbrev pub calls_from : List (List Op) → ℕ → List (List Called) → List Step → List (List Called)
calls_from scripts number calls [] = calls
calls_from scripts number calls (step ∷ steps) = calls_from scripts (number + 1) (calls_with scripts step number calls) steps

-- the calls after a run's steps, where before the first each component had none
abbrev pub calls_of : List (List Op) → List Step → List (List Called)
calls_of scripts steps = calls_from scripts 0 (map (λ script. []) scripts) steps
