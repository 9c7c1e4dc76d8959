use Rattle.std.proofs.Common.{◌≡◌, take, filter_map}
use Rattle.reo_automata.specs.Links.{input_link}
use Rattle.reo_automata.proofs.node.node_links.Given as goal

abbrev pub invariant-loop-name : goal.invariant-loop-name
invariant-loop-name l = l.links ≡ filter_map (input_link l.net l.names) (take l.name-index l.names)
