use Rattle.std.proofs.Common.{take}
use Rattle.reo_trace.specs.Buffer.{HasTaken}
use Rattle.reo_trace.specs.Passes.{numbered}
use Rattle.reo_print.specs.Canonical.{script_lines}
use Rattle.reo_print.proofs.document.push_scripts.Given as goal

abbrev pub invariant-loop-number : goal.invariant-loop-number
invariant-loop-number l = HasTaken l.initial.buffer l.buffer (numbered (script_lines l.document) 0 (take l.number l.scripts))
