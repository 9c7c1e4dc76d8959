use Rattle.reo_net.proofs.RegionListLemmas.{regions_are_one_list}
use Rattle.reo_net.proofs.laws.regions_are_one_list.Goals as goal

pub returns : goal.returns
returns c = regions_are_one_list
