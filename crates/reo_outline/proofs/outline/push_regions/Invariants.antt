use Rattle.std.proofs.Common.{take}
use Rattle.reo_trace.specs.Passes.{numbered}
use Rattle.reo_trace.specs.Buffer.{HasTaken}
use Rattle.reo_outline.specs.Outline.{region_lines}
use Rattle.reo_outline.proofs.outline.push_regions.Given as goal

abbrev pub invariant-loop-number : goal.invariant-loop-number
invariant-loop-number l = HasTaken l.initial.buffer l.buffer (numbered (region_lines l.net l.nodes l.cut) 0 (take l.number l.tables))
