use Rattle.std.proofs.Common.{take}
use Rattle.reo_product.specs.Places.{AreTemplates}
use Rattle.reo_product.proofs.web.templates_of.Given as goal

abbrev pub invariant-loop-number : goal.invariant-loop-number
invariant-loop-number l = AreTemplates l.net (take l.number-index l.automata) l.templates.items
