use Rattle.reo_graph.proofs.ClosureLemmas.{ranks_rise}
use Rattle.reo_graph.proofs.laws.ranks_rise_along_edges.Goals as goal

pub returns : goal.returns
returns c = ranks_rise
