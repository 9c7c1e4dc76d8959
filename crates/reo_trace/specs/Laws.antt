-- A law about reports.
use Rattle.std.specs.Prelude.{◌≡◌, ℕ, List}
use Rattle.reo_value.specs.declared.op.Op.{Op}
use Rattle.reo_net.specs.declared.circuit.RawCircuit.{RawCircuit}
use Rattle.reo_net.specs.Steps.{State}
use Rattle.reo_trace.specs.declared.report.Called.{Called}
use Rattle.reo_trace.specs.declared.report.Ending.{Ending}
use Rattle.reo_trace.specs.Lawful.{IsEndingOf}

-- no two endings fit one run
abbrev pub EndsInOneWay : Type 0
EndsInOneWay = (c : RawCircuit) (texts : List (List ℕ)) (scripts : List (List Op)) (calls : List (List Called)) (limit steps : ℕ) (final : State) (one other : Ending)
    → IsEndingOf c texts scripts calls limit steps final one → IsEndingOf c texts scripts calls limit steps final other → one ≡ other
