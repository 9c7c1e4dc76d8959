use Rattle.std.proofs.Common.{◌≡◌, map, take}
use Rattle.reo_cut.specs.Labels.{label_at}
use Rattle.reo_cut.proofs.regions.numbers.Given as goal

abbrev pub invariant-loop-label : goal.invariant-loop-label
invariant-loop-label l = l.numbers.items ≡ map (label_at l.counts) (take l.label-index l.labels)
