use Rattle.reo_net.proofs.LoopLemmas.{ranks_rise_along}
use Rattle.reo_net.proofs.laws.ranks_rise_along_channels.Goals as goal

pub returns : goal.returns
returns c = ranks_rise_along
