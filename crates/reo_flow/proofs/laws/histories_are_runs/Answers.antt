use Rattle.reo_flow.proofs.StepLaw.{histories_are_runs}
use Rattle.reo_flow.proofs.laws.histories_are_runs.Goals as goal

pub returns : goal.returns
returns c = histories_are_runs
