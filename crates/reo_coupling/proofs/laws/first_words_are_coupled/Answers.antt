use Rattle.reo_coupling.proofs.Opening.{opens_coupled}
use Rattle.reo_coupling.proofs.laws.first_words_are_coupled.Goals as goal

pub returns : goal.returns
returns c = opens_coupled
