-- What stands before the values in the lines of calls.
use Rattle.std.specs.Prelude.{◌≡◌, ℕ, List, ◌++◌, slice_get, if◌then◌else◌, Bool, codes}
use Rattle.reo_net.specs.declared.circuit.RawCircuit.{RawCircuit}
use Rattle.reo_trace.specs.declared.calls.CallFront.{CallFront}
use Rattle.reo_trace.specs.ReportText.{node_text}

-- a component puts or gets at a port
abbrev pub call_front : RawCircuit → List (List ℕ) → List ℕ → Bool → ℕ → List ℕ
call_front c nodes person puts port =
    codes "call " ++ person ++ ((if puts then codes " put " else codes " get ") ++ node_text nodes (slice_get c.ports port)) ++ codes " "

abbrev pub IsFront : RawCircuit → List (List ℕ) → List ℕ → CallFront → Type 0
IsFront c nodes person front = front.bytes.items ≡ call_front c nodes person front.puts front.port
