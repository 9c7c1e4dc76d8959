use Rattle.std.proofs.Common.{filter}
use Rattle.std.specs.List.{range_with_len}
use Rattle.reo_automata.specs.Links.{is_at}
use Rattle.reo_automata.specs.NodeNames.{AreListsOf}
use Rattle.reo_automata.proofs.names.port_lists.Given as goal

abbrev pub invariant-loop-number : goal.invariant-loop-number
invariant-loop-number l = AreListsOf l.net.nodes (λ node. filter (is_at l.net node) (range_with_len 0 l.number)) l.lists.items
