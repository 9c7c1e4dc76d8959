use Rattle.std.proofs.Common.{take}
use Rattle.std.specs.List.{flat_map}
use Rattle.reo_value.specs.Lexicon.{text_at}
use Rattle.reo_trace.specs.Buffer.{HasTaken}
use Rattle.reo_trace.specs.Passes.{numbered}
use Rattle.reo_trace.specs.ReportText.{call_line}
use Rattle.reo_trace.proofs.calls.push_calls.Given as goal

abbrev pub invariant-loop-number : goal.invariant-loop-number
invariant-loop-number l =
    HasTaken l.initial.buffer l.buffer (numbered (λ k. flat_map (call_line l.net l.nodes l.texts (text_at l.people k))) 0 (take l.number l.calls))
