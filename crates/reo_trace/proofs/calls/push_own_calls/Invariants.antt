use Rattle.std.proofs.Common.{take}
use Rattle.std.specs.List.{flat_map}
use Rattle.reo_trace.specs.Buffer.{HasTaken}
use Rattle.reo_trace.specs.Calls.{IsFront}
use Rattle.reo_trace.specs.ReportText.{call_line}
use Rattle.reo_trace.proofs.calls.push_own_calls.Given as goal

abbrev pub invariant-loop-call : goal.invariant-loop-call
invariant-loop-call l =
    HasTaken l.initial.buffer l.buffer (flat_map (call_line l.net l.nodes l.texts l.person) (take l.call-index l.own))
    × IsFront l.net l.nodes l.person l.front
