-- The report of the plain schedule.
use Rattle.std.specs.Prelude.{◌≡◌, ℕ, ◌≤◌, List, [], ◌∷◌, ◌++◌, length}
use Rattle.reo_value.specs.declared.op.Op.{Op}
use Rattle.reo_net.specs.declared.circuit.RawCircuit.{RawCircuit}
use Rattle.reo_fabric.specs.declared.fabric.Fabric.{Fabric}
use Rattle.reo_flow.specs.Allows.{Table}
use Rattle.reo_trace.specs.declared.report.Report.{Report}
use Rattle.reo_trace.specs.Lawful.{IsLawfulReport}
use Rattle.reo_schedule.specs.Board.{IsBoard}
use Rattle.reo_schedule.specs.Calls.{calls_of}
use Rattle.reo_schedule.specs.Turn.{Turn, steps_of, IsNext}

-- each is the next after those before it, and after all of them there is no next
abbrev pub Follows : {A : Type 0} → (List A → A → Type 0) → List A → List A → Type 0
Follows {A} Next before [] = (next : A) → Next before next → ⊥
Follows Next before (x ∷ xs) = Next before x × Follows Next (before ++ x ∷ []) xs

-- A lawful report with no step past the limit, whose steps are those of the plain schedule's turns.
pub record IsPlainReport (c : RawCircuit) (texts : List (List ℕ)) (scripts : List (List Op)) (limit : ℕ) (report : Report) : Type 0 where
  pub lawful : IsLawfulReport c texts scripts limit report
  pub within : length report.steps ≤ limit
  pub fabric : Fabric
  pub tables : List Table
  pub board : IsBoard c fabric tables
  pub turns : List Turn
  pub follow : Follows (IsNext c texts scripts fabric tables limit) [] turns
  pub steps : report.steps ≡ steps_of turns
  pub calls : report.calls ≡ calls_of scripts report.steps
