use Rattle.std.proofs.Common.{filter}
use Rattle.std.specs.List.{range_with_len}
use Rattle.reo_net.specs.Names.{end_a}
use Rattle.reo_automata.specs.Links.{is_at}
use Rattle.reo_automata.specs.NodeNames.{AreListsOf}
use Rattle.reo_automata.proofs.names.name_lists.Given as goal

abbrev pub invariant-loop-number : goal.invariant-loop-number
invariant-loop-number l = AreListsOf l.net.nodes (λ node. filter (is_at l.net node) (range_with_len 0 (end_a l.net l.number))) l.lists.items
