use Rattle.std.proofs.Common.{take}
use Rattle.std.specs.List.{flat_map}
use Rattle.reo_trace.specs.Buffer.{HasTaken}
use Rattle.reo_print.specs.Canonical.{next_text}
use Rattle.reo_print.proofs.function.push_further.Given as goal

abbrev pub invariant-loop-pair : goal.invariant-loop-pair
invariant-loop-pair l = HasTaken l.initial.buffer l.buffer (flat_map (next_text l.texts) (take l.pair-index l.pairs))
