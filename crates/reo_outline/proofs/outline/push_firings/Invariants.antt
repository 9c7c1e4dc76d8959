use Rattle.std.proofs.Common.{take}
use Rattle.std.specs.List.{flat_map}
use Rattle.reo_trace.specs.Buffer.{HasTaken}
use Rattle.reo_outline.specs.Outline.{firing_line}
use Rattle.reo_outline.proofs.outline.push_firings.Given as goal

abbrev pub invariant-loop-firing : goal.invariant-loop-firing
invariant-loop-firing l = HasTaken l.initial.buffer l.buffer (flat_map (firing_line l.net l.nodes) (take l.firing-index l.firings))
