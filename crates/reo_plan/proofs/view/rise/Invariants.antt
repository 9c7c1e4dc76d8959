use Rattle.std.proofs.Common.{drop}
use Rattle.reo_fabric.specs.Entry.{RisesFrom}
use Rattle.reo_plan.proofs.view.rise.Given as goal

abbrev pub invariant-loop-place : goal.invariant-loop-place
invariant-loop-place l = RisesFrom l.low (drop l.place-index l.places) → RisesFrom 0 l.places
