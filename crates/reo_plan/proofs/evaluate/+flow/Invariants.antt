use Rattle.reo_plan.proofs.evaluate.+flow.Given as goal

abbrev pub decreases-flow : goal.decreases-flow
decreases-flow g l = l.fuel
