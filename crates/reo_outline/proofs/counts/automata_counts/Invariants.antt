use Rattle.std.proofs.Common.{take}
use Rattle.reo_outline.specs.Counts.{AreCounts}
use Rattle.reo_outline.proofs.counts.automata_counts.Given as goal

abbrev pub invariant-loop-entry : goal.invariant-loop-entry
invariant-loop-entry l = AreCounts l.fn.regions (take l.entry-index l.region_of) l.counts.items
