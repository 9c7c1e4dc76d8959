use Rattle.reo_net.proofs.RegionLemmas.{nodes_are_regions, regions_are_single, firings_are_nodes}
use Rattle.reo_net.proofs.laws.fifo_regions_are_nodes.Goals as goal

pub returns : goal.returns
returns c = record {
  regions = nodes_are_regions;
  single = regions_are_single;
  firings = firings_are_nodes;
}
