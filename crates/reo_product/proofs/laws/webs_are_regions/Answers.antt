use Rattle.reo_product.proofs.BridgeLemmas.{webs_are_regions}
use Rattle.reo_product.proofs.ExistLemmas.{regions_have_webs}
use Rattle.reo_product.proofs.laws.webs_are_regions.Goals as goal

pub returns-clause-some : goal.returns-clause-some
returns-clause-some c = regions_have_webs

pub returns-clause-connected : goal.returns-clause-connected
returns-clause-connected c = webs_are_regions
