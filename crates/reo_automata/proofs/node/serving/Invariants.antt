use Rattle.std.proofs.Common.{◌≡◌, take}
use Rattle.reo_automata.specs.Links.{serving}
use Rattle.reo_automata.proofs.node.serving.Given as goal

abbrev pub invariant-loop-name : goal.invariant-loop-name
invariant-loop-name l = l.fires.items ≡ serving l.net (take l.name-index l.names) l.input
