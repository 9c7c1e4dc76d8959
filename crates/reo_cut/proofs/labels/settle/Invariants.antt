use Rattle.reo_cut.specs.Parents.{IsSettledUpTo}
use Rattle.reo_cut.proofs.labels.settle.Given as goal

abbrev pub invariant-loop-number : goal.invariant-loop-number
invariant-loop-number l = IsSettledUpTo l.number l.initial.parents l.parents
