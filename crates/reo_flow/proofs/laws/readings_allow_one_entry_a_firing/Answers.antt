use Rattle.reo_flow.proofs.OnceLaw.{one_entry_at_most, one_step_at_most}
use Rattle.reo_flow.proofs.laws.readings_allow_one_entry_a_firing.Goals as goal

pub returns-clause-entry : goal.returns-clause-entry
returns-clause-entry c = one_entry_at_most

pub returns-clause-step : goal.returns-clause-step
returns-clause-step c = one_step_at_most
