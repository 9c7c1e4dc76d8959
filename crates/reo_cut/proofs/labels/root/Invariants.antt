use Rattle.reo_cut.specs.Parents.{IsOnTheWay}
use Rattle.reo_cut.proofs.labels.root.Given as goal

abbrev pub invariant-loop-parents : goal.invariant-loop-parents
invariant-loop-parents l = IsOnTheWay l.number l.initial.parents l.parents l.place

abbrev pub decreases-loop-parents : goal.decreases-loop-parents
decreases-loop-parents l = l.place
