use Rattle.reo_flow.proofs.StepLaw.{entries_are_steps}
use Rattle.reo_flow.proofs.laws.entries_are_steps.Goals as goal

pub returns : goal.returns
returns c = entries_are_steps
