use Rattle.reo_fabric.proofs.FittingLemmas.{fitting_agree}
use Rattle.reo_fabric.proofs.laws.fitting_entries_agree.Goals as goal

pub returns : goal.returns
returns c = fitting_agree
