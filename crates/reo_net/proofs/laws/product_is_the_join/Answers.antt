use Rattle.reo_net.proofs.ProductLemmas.{joined_steps, joined_is_step}
use Rattle.reo_net.proofs.laws.product_is_the_join.Goals as goal

pub returns : goal.returns
returns c = record {
  steps = joined_steps;
  only = joined_is_step;
}
