use Rattle.reo_graph.proofs.ClosureLemmas.{closure_decides}
use Rattle.reo_graph.proofs.laws.closure_decides_paths.Goals as goal

pub returns : goal.returns
returns c = closure_decides
