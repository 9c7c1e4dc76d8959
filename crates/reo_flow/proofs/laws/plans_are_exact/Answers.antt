use Rattle.reo_flow.proofs.PlanLaw.{planned_are_allowed, planned_is_first}
use Rattle.reo_flow.proofs.laws.plans_are_exact.Goals as goal

pub returns-clause-entries : goal.returns-clause-entries
returns-clause-entries c = planned_are_allowed

pub returns-clause-choice : goal.returns-clause-choice
returns-clause-choice c = planned_is_first
