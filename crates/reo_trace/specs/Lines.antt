-- The lines of a run's steps so far.
use Rattle.std.specs.Prelude.{ℕ, ◌+◌, List, [], ◌++◌, length}
use Rattle.reo_net.specs.declared.circuit.RawCircuit.{RawCircuit}
use Rattle.reo_net.specs.declared.circuit.Step.{Step}
use Rattle.reo_trace.specs.ReportText.{step_lines}

-- the circuit, the names of its nodes, the texts; the lines, and of how many steps they are
pub record LinesState : Type 0 where
  pub circuit : RawCircuit
  pub nodes : List (List ℕ)
  pub texts : List (List ℕ)
  pub text : List ℕ
  pub count : ℕ

abbrev pub no_lines : RawCircuit → List (List ℕ) → List (List ℕ) → LinesState
no_lines c nodes texts = record { circuit = c; nodes = nodes; texts = texts; text = []; count = 0 }

-- the lines of these steps behind those of the steps before
abbrev pub after_steps : LinesState → List Step → LinesState
after_steps start steps = record {
  circuit = start.circuit;
  nodes = start.nodes;
  texts = start.texts;
  text = start.text ++ step_lines start.circuit start.nodes start.texts start.count steps;
  count = start.count + length steps;
}
