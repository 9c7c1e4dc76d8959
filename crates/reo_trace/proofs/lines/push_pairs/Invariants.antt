use Rattle.std.proofs.Common.{take}
use Rattle.std.specs.List.{flat_map}
use Rattle.reo_trace.specs.Buffer.{HasTaken}
use Rattle.reo_trace.specs.ReportText.{pair_text}
use Rattle.reo_trace.proofs.lines.push_pairs.Given as goal

abbrev pub invariant-loop-pair : goal.invariant-loop-pair
invariant-loop-pair l = HasTaken l.initial.buffer l.buffer (flat_map (pair_text l.net l.nodes l.texts) (take l.pair-index l.pairs))
