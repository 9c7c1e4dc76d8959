use Rattle.std.proofs.Common.{take}
use Rattle.reo_trace.specs.Passes.{numbered}
use Rattle.reo_trace.specs.Buffer.{HasTaken}
use Rattle.reo_outline.specs.Outline.{port_line}
use Rattle.reo_outline.proofs.outline.push_ports.Given as goal

abbrev pub invariant-loop-number : goal.invariant-loop-number
invariant-loop-number l = HasTaken l.initial.buffer l.buffer (numbered (port_line l.net l.nodes) 0 (take l.number l.regions))
