use Rattle.reo_net.proofs.NameLemmas.{one_node, not_both_ways, node_of_name_below, name_below}
use Rattle.reo_net.proofs.StandLemmas.{incoming_stands, outgoing_stands}
use Rattle.reo_net.proofs.laws.names_have_one_node.Goals as goal

pub returns : goal.returns
returns c = record {
  one = one_node;
  one_way = not_both_ways;
  told = λ circuit node name. (incoming_stands circuit node name, outgoing_stands circuit node name);
  all = λ circuit is_circuit name. (node_of_name_below circuit is_circuit name, λ at. name_below circuit at.0 name at.2);
}
