use Rattle.std.proofs.Common.{take}
use Rattle.std.specs.List.{flat_map}
use Rattle.reo_trace.specs.Buffer.{HasTaken}
use Rattle.reo_print.specs.Canonical.{circuit_line}
use Rattle.reo_print.proofs.document.push_lines.Given as goal

abbrev pub invariant-loop-line : goal.invariant-loop-line
invariant-loop-line l = HasTaken l.initial.buffer l.buffer (flat_map (circuit_line l.nodes l.texts) (take l.line-index l.lines))
