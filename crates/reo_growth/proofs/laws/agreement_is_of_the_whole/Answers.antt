use Rattle.reo_growth.proofs.AgreeLemmas.{agrees_as_one_is}
use Rattle.reo_growth.proofs.laws.agreement_is_of_the_whole.Goals as goal

pub returns : goal.returns
returns c = agrees_as_one_is
