use Rattle.reo_plan.specs.inside.Slots.{AreOrdered}
use Rattle.reo_plan.proofs.asks.presence_of_all.Given as goal

abbrev pub invariant-loop-row : goal.invariant-loop-row
invariant-loop-row l = AreOrdered l.slots
