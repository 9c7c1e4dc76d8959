use Rattle.reo_fabric.proofs.HistoryLemmas.{histories_grow}
use Rattle.reo_fabric.proofs.laws.lawful_histories_grow.Goals as goal

pub returns : goal.returns
returns c = histories_grow
