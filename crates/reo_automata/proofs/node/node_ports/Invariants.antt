use Rattle.std.proofs.Common.{◌≡◌, filter}
use Rattle.std.specs.List.{range_with_len}
use Rattle.reo_automata.specs.Links.{is_at}
use Rattle.reo_automata.proofs.node.node_ports.Given as goal

abbrev pub invariant-loop-number : goal.invariant-loop-number
invariant-loop-number l = l.names.items ≡ filter (is_at l.net l.node) (range_with_len 0 l.number)
