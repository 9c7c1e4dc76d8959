use Rattle.std.proofs.Common.{◌≡◌, length}
use Rattle.reo_growth.specs.declared.trail.Trail.{Trail}
use Rattle.reo_growth.specs.Trail.{Undoes}
use Rattle.reo_growth.proofs.trail.Trail.undo.Given as goal

abbrev pub invariant-loop-self : goal.invariant-loop-self
invariant-loop-self l = (before : Trail) → length before.log.items ≡ l.changes → Undoes before l.initial.self → Undoes before l.self

abbrev pub decreases-loop-self : goal.decreases-loop-self
decreases-loop-self l = length l.self.log.items
