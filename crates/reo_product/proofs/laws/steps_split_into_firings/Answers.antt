use Rattle.reo_product.proofs.SplitLemmas.{steps_split, share_nothing, regions_share_nothing}
use Rattle.reo_product.proofs.laws.steps_split_into_firings.Goals as goal

pub returns-clause-parts : goal.returns-clause-parts
returns-clause-parts c = steps_split

pub returns-clause-apart : goal.returns-clause-apart
returns-clause-apart c = share_nothing

pub returns-clause-regions_apart : goal.returns-clause-regions_apart
returns-clause-regions_apart c = regions_share_nothing
