use Rattle.reo_coupling.proofs.Numbers.{numbers_stand_once}
use Rattle.reo_coupling.proofs.laws.numbers_stand_once.Goals as goal

pub returns : goal.returns
returns c = numbers_stand_once
