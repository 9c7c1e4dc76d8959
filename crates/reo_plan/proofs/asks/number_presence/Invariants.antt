use Rattle.reo_plan.specs.inside.Slots.{AreOrdered}
use Rattle.reo_plan.proofs.asks.number_presence.Given as goal

abbrev pub invariant-loop-fact : goal.invariant-loop-fact
invariant-loop-fact l = AreOrdered l.slots
