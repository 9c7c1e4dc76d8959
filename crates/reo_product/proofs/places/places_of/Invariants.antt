use Rattle.reo_product.proofs.TurnLemmas.{AreTurned, IsPlaceOf}
use Rattle.reo_product.proofs.places.places_of.Given as goal

abbrev pub invariant-loop-index : goal.invariant-loop-index
invariant-loop-index l = AreTurned (IsPlaceOf l.names) l.fn.list l.list l.index
