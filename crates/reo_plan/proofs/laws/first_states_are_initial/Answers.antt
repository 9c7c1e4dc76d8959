use Rattle.reo_plan.proofs.FirstLaw.{first_states_are_initial}
use Rattle.reo_plan.proofs.laws.first_states_are_initial.Goals as goal

pub returns : goal.returns
returns c = first_states_are_initial
