use Rattle.std.proofs.Common.{◌≡◌, take}
use Rattle.std.specs.Prelude.{flat_map}
use Rattle.reo_product.proofs.web.names_of.Given as goal

abbrev pub invariant-loop-template : goal.invariant-loop-template
invariant-loop-template l = l.names.items ≡ flat_map (λ template. template.names) (take l.template-index l.templates)
