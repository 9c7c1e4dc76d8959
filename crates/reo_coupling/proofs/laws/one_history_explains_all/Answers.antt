use Rattle.reo_coupling.proofs.Home.{one_history_explains_all}
use Rattle.reo_coupling.proofs.laws.one_history_explains_all.Goals as goal

pub returns : goal.returns
returns c = one_history_explains_all
