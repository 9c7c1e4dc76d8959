use Rattle.std.proofs.Common.{◌≡◌, ◌++◌, length}
use Rattle.std.specs.Vec.Iter.{into_iter_items, into_iter_len}
use Rattle.reo_product.specs.Places.{ArePaired, IsPlacedTemplate}
use Rattle.reo_product.proofs.web.place_templates.Given as goal

abbrev pub invariant-loop-template : goal.invariant-loop-template
invariant-loop-template l = (l.yielded ++ into_iter_items l.template-iterator ≡ into_iter_items l.initial.template-iterator)
    × (into_iter_len l.template-iterator ≡ length (into_iter_items l.template-iterator))
    × ArePaired (IsPlacedTemplate l.names) l.yielded l.automata.items
