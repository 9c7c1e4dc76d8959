use Rattle.reo_net.proofs.RunLemmas.{runs_end_once}
use Rattle.reo_net.proofs.laws.run_determines_its_final_state.Goals as goal

pub returns : goal.returns
returns c = runs_end_once
