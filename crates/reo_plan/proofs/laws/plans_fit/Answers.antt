use Rattle.reo_plan.proofs.FitLaw.{plans_fit}
use Rattle.reo_plan.proofs.laws.plans_fit.Goals as goal

pub returns : goal.returns
returns c = plans_fit
