use Rattle.reo_product.proofs.CountLemmas.{regions_have_growth, growth_is_one, webs_have_growth, firings_are_so_many}
use Rattle.reo_product.proofs.laws.regions_have_one_growth.Goals as goal

pub returns-clause-some : goal.returns-clause-some
returns-clause-some c = regions_have_growth

pub returns-clause-one : goal.returns-clause-one
returns-clause-one c = growth_is_one

pub returns-clause-webs : goal.returns-clause-webs
returns-clause-webs c = webs_have_growth

pub returns-clause-firings : goal.returns-clause-firings
returns-clause-firings c = firings_are_so_many
